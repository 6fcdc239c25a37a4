-- What the line rule books: the jobs at the first positions of the line, and a total that covers them.
use Rattle.std.specs.Prelude.{◌≡◌, ℕ, ◌+◌, ◌<◌, not, ◌&&◌, ◌⊎◌, List, nat_le}
use Rattle.trees.specs.Sums.{sum, only}
use Rattle.trees.specs.Lines.{entry, place}
use Rattle.jobs.specs.declared.State.{State}
use Rattle.logs.specs.Stands.{Opened, is_done, taken}

-- The jobs at positions 1 to m of the row are booked; t tells how each job stands.
module _ (o : Opened) (row : List ℕ) (t : ℕ → State) (m : ℕ) where
  -- What job k takes of the total, on axis a: its work and its output from when it is booked until it is done; then its output,
  -- until its parent is done.
  abbrev pub takes : ℕ → ℕ → ℕ
  takes a k =
      only (nat_le (place k row) m && not (is_done (t k))) (o.work a k + o.output a k)
      + only (is_done (t k) && not (taken o t k)) (o.output a k)

  -- the booked total, on axis a: what would be held if every booked job that waits ran too
  abbrev pub total : ℕ → ℕ
  total a = sum (takes a) o.jobs

  -- all jobs are booked, or the next one does not fit the floor on top of the total
  abbrev pub Full : Type 0
  Full =
      (m ≡ o.jobs)
      ⊎ ((a : ℕ) × (o.floor a < total a + o.work a (entry row (m + 1)) + o.output a (entry row (m + 1))))
