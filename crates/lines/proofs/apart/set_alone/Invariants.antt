use Rattle.std.proofs.Common.{◌≡◌, ℕ, ◌<◌, get_or}
use Rattle.lines.specs.Spans.{size_of, low_of}
use Rattle.lines.proofs.apart.set_alone.Given as goal

abbrev pub invariant-loop-job : goal.invariant-loop-job
invariant-loop-job l = (k : ℕ) → k < l.job → (size_of l.spans k ≡ 1) × (low_of l.spans k ≡ get_or l.places k 0)
