use Rattle.std.proofs.Common.{ℕ, ◌<◌}
use Rattle.trees.specs.Sums.{In}
use Rattle.intake.specs.Faults.{Above}
use Rattle.intake.proofs.bounds.lowest_offender.Given as goal

abbrev pub invariant-loop-i : goal.invariant-loop-i
invariant-loop-i g l =
    (k : ℕ) → In l.n k → k < l.i → Above g.K.Amount.width g.K.Amount.reading l.jobs k → ⊥
