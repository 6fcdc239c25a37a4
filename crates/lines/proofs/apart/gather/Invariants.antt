use Rattle.std.proofs.Common.{◌≡◌, ℕ, ◌≤◌}
use Rattle.trees.specs.Found.{jobs_in, par_in}
use Rattle.lines.specs.Spans.{size_of, low_of}
use Rattle.lines.proofs.Gathered.{gathered, Lows}
use Rattle.lines.proofs.apart.gather.Given as goal

abbrev pub invariant-loop-entry : goal.invariant-loop-entry
invariant-loop-entry l =
    ((k : ℕ) → k ≤ jobs_in l.parents → size_of l.spans k ≡ gathered (jobs_in l.parents) (par_in l.parents) l.row l.entry-index k)
    × Lows (jobs_in l.parents) (par_in l.parents) l.row (low_of l.spans) l.entry-index
