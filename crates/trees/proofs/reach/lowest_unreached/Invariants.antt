use Rattle.std.proofs.Common.{◌≡◌, ℕ, ◌<◌, length}
use Rattle.trees.specs.Sums.{In}
use Rattle.trees.specs.Trees.{Reaches}
use Rattle.trees.specs.Marks.{Marked}
use Rattle.trees.specs.Found.{jobs_in, par_in}
use Rattle.trees.proofs.reach.lowest_unreached.Given as goal

abbrev pub invariant-loop-job : goal.invariant-loop-job
invariant-loop-job l =
    (length l.marks ≡ 4096)
    × Marked (par_in l.parents) l.marks l.job
    × ((k : ℕ) → In (jobs_in l.parents) k → k < l.job → Reaches (par_in l.parents) k)
