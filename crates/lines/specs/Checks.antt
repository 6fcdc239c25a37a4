-- What the checks of a row find.
use Rattle.std.specs.Prelude.{◌≡◌, ℕ, ◌+◌, ◌<◌, ◌≤◌, cond, ◌⊎◌, List, length, ◌≢◌, nat_le, slice_index}
use Rattle.trees.specs.Sums.{In}
use Rattle.trees.specs.Trees.{Tree}
use Rattle.trees.specs.Lines.{entry, place, Line}
use Rattle.trees.specs.Faults.{Unfit}

-- the first m positions have jobs only, none of them earlier too
abbrev pub Fit : ℕ → List ℕ → ℕ → Type 0
Fit n row m = (p : ℕ) → In m p → In n (entry row p) × (place (entry row p) row ≡ p)

-- the place of k if it is one of the first m, else 0
abbrev pub stood : List ℕ → ℕ → ℕ → ℕ
stood row m k = cond (nat_le (place k row) m) (place k row) 0

-- position p is unfit, or is the first past the last job and the row goes on
abbrev pub Misfit : ℕ → List ℕ → ℕ → Type 0
Misfit n row p = (In n p × Unfit n row p) ⊎ ((p ≡ n + 1) × (n < length row))

-- the row has each job once, and `places` has the place of each
pub record Entered (n : ℕ) (row places : List ℕ) : Type 0 where
  pub size : length row ≡ n
  pub fit : Fit n row n
  pub entered : (k : ℕ) → slice_index places k ≡ stood row n k

-- a parent is at place p, and a child of it no earlier
abbrev pub Early : ℕ → (ℕ → ℕ) → (ℕ → ℕ) → ℕ → Type 0
Early n par at p = (c : ℕ) × In n c × (par c ≢ 0) × (at (par c) ≡ p) × (p ≤ at c)

-- the row is a line of the tree, and `places` has the place of each job and 0 elsewhere
pub record Placed (n : ℕ) (par : ℕ → ℕ) (row places : List ℕ) : Type 0 where
  pub tree : Tree n par
  pub line : Line n par row
  pub placed : (k : ℕ) → In n k → slice_index places k ≡ place k row
  pub rest : (k : ℕ) → (In n k → ⊥) → slice_index places k ≡ 0
