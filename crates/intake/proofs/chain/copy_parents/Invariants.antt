use Rattle.std.proofs.Common.{◌≡◌, map, take}
use Rattle.intake.proofs.chain.copy_parents.Given as goal

abbrev pub invariant-loop-i : goal.invariant-loop-i
invariant-loop-i g l = take l.i l.row ≡ take l.i (map (λ j. j.parent) l.jobs)
