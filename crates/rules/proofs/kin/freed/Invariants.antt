use Rattle.rules.proofs.Walking.{Walks, Gathered}
use Rattle.rules.proofs.kin.freed.Given as goal

abbrev pub invariant-loop-child : goal.invariant-loop-child
invariant-loop-child g l =
    Walks g.K.Amount.width g.K.Amount.reading l.jobs l.job l.child-iterator
    × Gathered g.K.Amount.width g.K.Amount.reading l.jobs l.job l.given l.child-iterator.next
