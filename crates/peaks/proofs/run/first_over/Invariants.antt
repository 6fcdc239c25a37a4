use Rattle.std.proofs.Common.{ℕ, ◌<◌}
use Rattle.trees.specs.Sums.{In}
use Rattle.peaks.specs.Stood.{Over}
use Rattle.peaks.specs.Walk.{On}
use Rattle.peaks.proofs.run.first_over.Given as goal

abbrev pub invariant-loop-p : goal.invariant-loop-p
invariant-loop-p g l =
    let s = l.p-iterator in
    (goal.iterator-loop-p g).can_next s
    × (goal.iterator-loop-p g).is_finite s
    × On l.jobs l.n l.line s
    × ((q : ℕ) → In l.n q → q < s.position → Over g.K.Amount.reading l.jobs l.n l.line l.floor q → ⊥)
