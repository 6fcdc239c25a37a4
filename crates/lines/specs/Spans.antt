-- Subtrees in a line: how many jobs they have, where they begin, and which do not stand together.
use Rattle.std.specs.Prelude.{◌≡◌, ℕ, ◌<◌, ◌≤◌, Bool, true, ◌||◌, List, slice_index_or, Option, MatchOption, ◌==◌}
use Rattle.trees.specs.Sums.{In, sum, only}
use Rattle.trees.specs.Trees.{below}
use Rattle.trees.specs.Lines.{place, Together, Postorder}
use Rattle.lines.specs.declared.apart.Span.{Span}

-- k is i or below i
abbrev pub within : ℕ → (ℕ → ℕ) → ℕ → ℕ → Bool
within n par i k = k == i || below n par k i

-- how many those are
abbrev pub members : ℕ → (ℕ → ℕ) → ℕ → ℕ
members n par i = sum (λ k. only (within n par i k) 1) n

-- low is the first place of those
pub record Begins (n : ℕ) (par : ℕ → ℕ) (row : List ℕ) (i low : ℕ) : Type 0 where
  pub least : (k : ℕ) → In n k → within n par i k ≡ true → low ≤ place k row
  pub held : (k : ℕ) × In n k × (within n par i k ≡ true) × (low ≡ place k row)

-- the lowest job whose subtree does not stand together; none if each does
abbrev pub Apart : ℕ → (ℕ → ℕ) → List ℕ → Option ℕ → Type 0
Apart n par row r =
    MatchOption r (Postorder n par row)
    (λ i. In n i × (Together n par row i → ⊥) × ((k : ℕ) → In n k → k < i → Together n par row k))

-- the span at k; zeros past the end
abbrev pub span_of : List Span → ℕ → Span
span_of spans k = slice_index_or spans k (record { size = 0; low = 0 })

abbrev pub size_of : List Span → ℕ → ℕ
size_of spans k = (span_of spans k).size

abbrev pub low_of : List Span → ℕ → ℕ
low_of spans k = (span_of spans k).low
