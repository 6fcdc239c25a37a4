use Rattle.std.proofs.Common.{◌≡◌, ℕ, ◌≤◌, get_or}
use Rattle.lines.specs.Checks.{Fit, stood}
use Rattle.lines.proofs.check.first_misfit.Given as goal

abbrev pub invariant-loop-i : goal.invariant-loop-i
invariant-loop-i l = (l.i ≤ l.jobs) × Fit l.jobs l.row l.i × ((k : ℕ) → get_or l.places k 0 ≡ stood l.row l.i k)
