-- Lines: rows of all the jobs of a tree. Positions are counted from 1.
use Rattle.std.specs.Prelude.{◌≡◌, ℕ, suc, ◌-◌, ◌<◌, ◌≤◌, true, cond, List, [], ◌∷◌, length, ◌==◌, slice_index}
use Rattle.trees.specs.Sums.{In}
use Rattle.trees.specs.Trees.{below}

-- the job at position p
abbrev pub entry : List ℕ → ℕ → ℕ
entry row p = slice_index row (p - 1)

-- the first position at which k stands; past the end if it stands nowhere
abbrev pub place : ℕ → List ℕ → ℕ
place k [] = 1
place k (x ∷ row) = cond (x == k) 1 (suc (place k row))

-- The row is a line: it has each of the jobs 1 to n once and nothing else, each before its parent. The parent of the root, 0,
-- stands nowhere, so its place is past the end.
pub record Line (n : ℕ) (par : ℕ → ℕ) (row : List ℕ) : Type 0 where
  pub size : length row ≡ n
  pub jobs : (p : ℕ) → In n p → In n (entry row p)
  pub once : (p q : ℕ) → In n p → In n q → entry row p ≡ entry row q → p ≡ q
  pub all : (k : ℕ) → In n k → In n (place k row)
  pub later : (k : ℕ) → In n k → place k row < place (par k) row

-- the jobs below i and i stand together: whoever stands between i and one below i is below i
abbrev pub Together : ℕ → (ℕ → ℕ) → List ℕ → ℕ → Type 0
Together n par row i =
    (k m : ℕ) → In n k → In n m → below n par k i ≡ true → place k row ≤ place m row → place m row < place i row
    → below n par m i ≡ true

-- a line in which each subtree stands together
pub record Postorder (n : ℕ) (par : ℕ → ℕ) (row : List ℕ) : Type 0 where
  pub line : Line n par row
  pub together : (i : ℕ) → In n i → Together n par row i

-- the postorder that takes children in rising numbers
pub record Plain (n : ℕ) (par : ℕ → ℕ) (row : List ℕ) : Type 0 where
  pub postorder : Postorder n par row
  pub rising : (i k : ℕ) → In n i → In n k → par i ≡ par k → i < k → place i row < place k row
