use Rattle.std.proofs.Common.{◌<◌, length, arith}
use Rattle.trees.specs.Found.{jobs_in, par_in}
use Rattle.trees.proofs.Walks.{walk_begins, marked_less, walk_on, walk_met}
use Rattle.trees.proofs.reach.climb.Goals as goal
use Rattle.trees.proofs.reach.climb.Goals.{then-loop-at-test+else-marks-at-eq0, else-loop-at-test}

pub loop-at-init : goal.loop-at-init
loop-at-init c = walk_begins (jobs_in c.args.parents.now) (par_in c.args.parents.now) c.args.marks.now c.args.job (omega arith) c.requires.marked

pub loop-at-smaller : goal.loop-at-smaller
loop-at-smaller c =
    let room : c.loop-at.at < length c.loop-at.marks = omega arith in
    marked_less (jobs_in c.args.parents.now) (par_in c.args.parents.now) c.args.marks.now c.loop-at.marks c.args.job c.loop-at.at c.loop-at.invariant room (omega arith) (λ e. omega arith) (omega arith)

pub loop-at-preserved : goal.loop-at-preserved
loop-at-preserved c =
    walk_on (jobs_in c.args.parents.now) (par_in c.args.parents.now) c.args.marks.now c.loop-at.marks c.args.job c.loop-at.at c.loop-at.invariant (omega arith) (omega arith) (λ e. omega arith) (omega arith) (c.requires.inside c.loop-at.at (omega arith))

pub returns-else-at-eq0 : goal.returns-else-at-eq0
returns-else-at-eq0 c =
    walk_met (jobs_in c.args.parents.now) (par_in c.args.parents.now) c.args.marks.now c.loop-at.marks c.args.job c.loop-at.at c.loop-at.invariant (omega arith) c.requires.marked c.if-at-eq0.false
    (λ e. elim c.loop-at-test.branch [
      | then-loop-at-test+else-marks-at-eq0 w ↦ w.if-marks-at-eq0.false e
      | else-loop-at-test w ↦ c.if-at-eq0.false (omega (arith, w.loop-at-test))
    ])
