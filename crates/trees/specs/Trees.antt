-- Trees of the jobs 1 to n by a function `par` from each job to its parent, 0 for the root.
use Rattle.std.specs.Prelude.{◌≡◌, ℕ, zero, suc, ◌<◌, ◌≤◌, Bool, false, not, ◌&&◌, ◌||◌, ◌==◌, ◌≢◌}
use Rattle.trees.specs.Sums.{In, sum, only}

-- the way up from i ends: i has no parent, or the way up from its parent ends
pub data Reaches (par : ℕ → ℕ) : ℕ → Type 0 where
  root : {i : ℕ} → par i ≡ 0 → Reaches par i
  above : {i : ℕ} → Reaches par (par i) → Reaches par i

-- the jobs 1 to n are a tree: each parent is one of them, just one has none, and from each the way up ends there
pub record Tree (n : ℕ) (par : ℕ → ℕ) : Type 0 where
  pub parents : (k : ℕ) → In n k → par k ≤ n
  pub top : ℕ
  pub top_in : In n top
  pub top_free : par top ≡ 0
  pub one_top : (k : ℕ) → In n k → par k ≡ 0 → k ≡ top
  pub reaches : (k : ℕ) → In n k → Reaches par k

-- the way up from j meets k within d steps; it ends at the root
abbrev pub met : (ℕ → ℕ) → ℕ → ℕ → ℕ → Bool
met par zero j k = false
met par (suc d) j k = not (par j == 0) && (par j == k || met par d (par j) k)

-- j is below k: k is met on the way up from j
abbrev pub below : ℕ → (ℕ → ℕ) → ℕ → ℕ → Bool
below n par j k = met par n j k

-- the sum of g over the children of i
abbrev pub kids : ℕ → (ℕ → ℕ) → (ℕ → ℕ) → ℕ → ℕ
kids n par g i = sum (λ c. only (par c == i) (g c)) n

-- m is the lowest job above `low` whose parent is v; 0 if there is none
pub record NextChild (n : ℕ) (par : ℕ → ℕ) (v low m : ℕ) : Type 0 where
  pub none : m ≡ 0 → (k : ℕ) → low < k → k ≤ n → par k ≢ v
  pub some : (m ≢ 0) → (low < m) × (m ≤ n) × (par m ≡ v) × ((k : ℕ) → low < k → k < m → par k ≢ v)

-- `first` and `next` are the chains of children in rising numbers: the first child of each job, and the next child of its parent
pub record Chained (n : ℕ) (par first next : ℕ → ℕ) : Type 0 where
  pub firsts : (k : ℕ) → In n k → NextChild n par k 0 (first k)
  pub nexts : (k : ℕ) → In n k → NextChild n par (par k) k (next k)

-- the same with the root as the child of 0, and nothing past the last job
pub record ChainedWhole (n : ℕ) (par first next : ℕ → ℕ) : Type 0 where
  pub chained : Chained n par first next
  pub top : NextChild n par 0 0 (first 0)
  pub top_next : next 0 ≡ 0
  pub past : (k : ℕ) → n < k → (first k ≡ 0) × (next k ≡ 0)

-- the parents make a tree of at most 4,095 jobs, with these chains
pub record ChainedTree (n : ℕ) (par first next : ℕ → ℕ) : Type 0 where
  pub few : n ≤ 4095
  pub tree : Tree n par
  pub chains : ChainedWhole n par first next
