use Rattle.std.proofs.Common.{◌-◌, ◌≤◌, get_or}
use Rattle.boards.proofs.Laying.{Readied}
use Rattle.boards.proofs.lay.lay.Given as goal

abbrev pub invariant-loop-i : goal.invariant-loop-i
invariant-loop-i g l =
    (1 ≤ l.i)
    × Readied (l.i - 1) (λ k. get_or l.survey.chains.first k 0) (λ k. get_or l.survey.chains.next k 0) (λ k. get_or l.survey.places k 0) l.initial.jobs l.jobs
