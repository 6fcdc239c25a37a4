use Rattle.rules.proofs.Walking.{Walks, DoneTo}
use Rattle.rules.proofs.kin.startable.Given as goal

abbrev pub invariant-loop-child : goal.invariant-loop-child
invariant-loop-child g l =
    Walks g.K.Amount.width g.K.Amount.reading l.jobs l.job l.child-iterator
    × DoneTo g.K.Amount.width g.K.Amount.reading l.jobs l.job l.child-iterator.last
