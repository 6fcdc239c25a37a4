use Rattle.std.proofs.Common.{◌≡◌, length, arith}
use Rattle.trees.specs.Found.{jobs_in}
use Rattle.trees.proofs.Cells.{front}
use Rattle.trees.proofs.Firsts.{tree_none}
use Rattle.lines.proofs.Refused.{room_first, room_none}
use Rattle.lines.proofs.plain.plain_in.Goals as goal

pub returns-then-row-needed-clause-judged : goal.returns-then-row-needed-clause-judged
returns-then-row-needed-clause-judged c =
    let tree = c.row-parents.ensures.tree in
    rw c.jobs-needed.ensures.count (room_first _ _ _ (tree_none _ _ tree.some tree.few tree.tree) (omega arith))

pub returns-clause-judged : goal.returns-clause-judged
returns-clause-judged c =
    let tree = c.row-parents.ensures.tree in
    let plain = rw c.row-parents.ensures.row at c.write_line.ensures in
    let size : length c.write_line.new.row ≡ jobs_in c.args.tree.now = plain.postorder.line.size in
    (room_none _ _ _ (tree_none _ _ tree.some tree.few tree.tree) (omega arith), rw front plain)
