use Rattle.std.proofs.Common.{ℕ}
use Rattle.trees.specs.Sums.{In}
use Rattle.trees.specs.Found.{jobs_in, par_in}
use Rattle.lines.specs.Walk.{Foremost}
use Rattle.lines.proofs.Written.{under}
use Rattle.lines.proofs.plain.foremost.Given as goal

abbrev pub invariant-loop-job : goal.invariant-loop-job
invariant-loop-job l =
    In (jobs_in l.parents) l.job
    × ((r : ℕ) → Foremost (jobs_in l.parents) (par_in l.parents) l.job r → Foremost (jobs_in l.parents) (par_in l.parents) l.fn.job r)

abbrev pub decreases-loop-job : goal.decreases-loop-job
decreases-loop-job l = under (jobs_in l.parents) (par_in l.parents) l.job
