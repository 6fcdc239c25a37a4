use Rattle.std.proofs.Common.{◌-◌, ◌≤◌, get_or}
use Rattle.intake.specs.Taken.{Rechained}
use Rattle.intake.proofs.chain.set_chains.Given as goal

abbrev pub invariant-loop-i : goal.invariant-loop-i
invariant-loop-i g l =
    (1 ≤ l.i) × Rechained (l.i - 1) (λ k. get_or l.chains.first k 0) (λ k. get_or l.chains.next k 0) l.initial.jobs l.jobs
