use Rattle.std.proofs.Common.{eqb, count_by}
use Rattle.trees.specs.Found.{jobs_in, par_in}
use Rattle.trees.proofs.Walks.{Walk}
use Rattle.trees.proofs.reach.climb.Given as goal

abbrev pub invariant-loop-at : goal.invariant-loop-at
invariant-loop-at l = Walk (jobs_in l.parents) (par_in l.parents) l.initial.marks l.job l.at l.marks

abbrev pub decreases-loop-at : goal.decreases-loop-at
decreases-loop-at l = count_by (λ v. eqb v 0) l.marks
