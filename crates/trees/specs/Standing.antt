-- What stands in the hall while a line is run job by job, on one axis: w is the work of each job and f its output.
use Rattle.std.specs.Prelude.{ℕ, ◌+◌, not, ◌&&◌, List, nat_lt}
use Rattle.trees.specs.Sums.{sum, only, greatest}
use Rattle.trees.specs.Lines.{entry, place}

module _ (n : ℕ) (par : ℕ → ℕ) (row : List ℕ) (w f : ℕ → ℕ) where
  -- the outputs of the jobs before position p whose parents are not before p
  abbrev pub left_at : ℕ → ℕ
  left_at p = sum (λ k. only (nat_lt (place k row) p && not (nat_lt (place (par k) row) p)) (f k)) n

  -- what stands at position p: those, and the work and output of the job there
  abbrev pub standing : ℕ → ℕ
  standing p = left_at p + w (entry row p) + f (entry row p)

  -- the greatest of what stands over all positions
  abbrev pub peak : ℕ
  peak = greatest standing n
