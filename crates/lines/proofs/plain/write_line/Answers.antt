use Rattle.std.proofs.Common.{◌≡◌, ◌<◌, length, take, arith}
use Rattle.std.proofs.lemmas.List.{length-take-le, take_more_set, take_all}
use Rattle.lines.proofs.Written.{next_starts, next_in, next_some, next_up, next_aside, next_over}
use Rattle.lines.proofs.plain.write_line.Goals as goal
use Rattle.lines.proofs.plain.write_line.Goals.{then-sibling-eq0, else-sibling-eq0}

pub loop-cell-init : goal.loop-cell-init
loop-cell-init c = next_starts _ _ c.requires.tree.tree _ _ c.requires.tree.chains.top c.foremost-job.ensures.begins

pub loop-cell-preserved : goal.loop-cell-preserved
loop-cell-preserved c =
    let t = c.loop-cell.cell-index in
    let here : t < length c.loop-cell.row = omega arith in
    let w = c.loop-cell.invariant in
    let tree = c.requires.tree.tree in
    let job = next_in _ _ tree _ _ w (next_some _ _ tree _ _ w (omega (arith, length-take-le t c.loop-cell.row))) in
    let next = c.requires.tree.chains.chained.nexts _ job in
    rw take_more_set (elim c.if-sibling-eq0.branch [
      | then-sibling-eq0 v ↦ rw v.job-is (next_up _ _ tree _ _ w job (rw v.if-sibling-eq0.true at next))
      | else-sibling-eq0 v ↦ rw v.job-is (next_aside _ _ tree _ _ w job next v.if-sibling-eq0.false v.foremost-job-else-sibling-eq0.ensures.begins)
    ])

pub returns : goal.returns
returns c =
    let t = c.loop-cell.cell-index in
    let all : take t c.loop-cell.row ≡ c.loop-cell.row = take_all t c.loop-cell.row (omega arith) in
    rw all at (next_over _ _ c.requires.tree.tree _ _ c.loop-cell.invariant (omega (arith, length-take-le t c.loop-cell.row, c.requires.long)))
