use Rattle.std.proofs.Common.{◌≡◌, ℕ, ◌-◌}
use Rattle.trees.specs.Sums.{greatest}
use Rattle.peaks.specs.Stood.{stand}
use Rattle.peaks.specs.Walk.{On}
use Rattle.peaks.proofs.run.peak.Given as goal

abbrev pub invariant-loop-stands : goal.invariant-loop-stands
invariant-loop-stands g l =
    let s = l.stands-iterator in
    (goal.iterator-loop-stands g).can_next s
    × (goal.iterator-loop-stands g).is_finite s
    × On l.jobs l.n l.line s
    × ((a : ℕ) → g.K.Amount.reading l.most a ≡ greatest (stand g.K.Amount.reading l.jobs l.n l.line a) (s.position - 1))
