-- The marks that walks up a tree leave: each job with the number of the walk that came to it first, 0 for none.
use Rattle.std.specs.Prelude.{ℕ, ◌<◌, List, ◌≢◌, slice_index}
use Rattle.trees.specs.Trees.{Reaches}

-- the walks from the jobs below `next` are marked, and each marked job's way up ends
pub record Marked (par : ℕ → ℕ) (marks : List ℕ) (next : ℕ) : Type 0 where
  pub earlier : (k : ℕ) → slice_index marks k < next
  pub ends : (k : ℕ) → (slice_index marks k ≢ 0) → Reaches par k
