use Rattle.std.proofs.Common.{inl, inr}
use Rattle.peaks.proofs.Halls.{first_benches, first_floor}
use Rattle.peaks.proofs.hall.check_hall.Goals as goal
use Rattle.peaks.proofs.hall.check_hall.Goals.{then-benches-eq0-via-then-benches-eq0, then-benches-eq0-via-else-benches-eq0+then-benches}

pub returns-then-benches-eq0 : goal.returns-then-benches-eq0
returns-then-benches-eq0 g c =
    first_benches g.K.Amount.width c.args.benches (g.K.Amount.reading c.args.floor.now) (elim c.then-benches-eq0.branch [
      | then-benches-eq0-via-then-benches-eq0 v ↦ inl v.if-benches-eq0.true
      | then-benches-eq0-via-else-benches-eq0+then-benches v ↦ inr v.if-benches.true
    ])

pub returns-then-exceeds : goal.returns-then-exceeds
returns-then-exceeds g c =
    first_floor g.K.Amount.width c.args.benches (g.K.Amount.reading c.args.floor.now) c.if-benches-eq0.false c.if-benches.false c.if-exceeds.ensures
