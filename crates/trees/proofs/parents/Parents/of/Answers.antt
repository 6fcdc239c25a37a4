use Rattle.trees.proofs.Cells.{copied}
use Rattle.trees.proofs.parents.Parents.of.Goals as goal

pub invariant_of-result : goal.invariant_of-result
invariant_of-result c =
    let good = c.in_ok-jobs.ensures.1 in
    copied c.in_ok-jobs.jobs c.args.row.now c.copy_from_slice.new.self c.copy_from_slice.ensures.after good.0 good.1 good.2 good.3
