-- What a search over the jobs 1 to n finds.
use Rattle.std.specs.Prelude.{◌≡◌, ℕ, ◌-◌, ◌<◌, ◌≤◌, ◌⊎◌, List, ◌++◌, length, replicate, Option, MatchOption, Ok, Err, Result, ◌≢◌, slice_index}
use Rattle.refusals.specs.declared.Refusal.{Refusal}
use Rattle.refusals.specs.declared.Refusal.TheVariants.{NoRoot, SecondRoot}
use Rattle.trees.specs.Sums.{In}
use Rattle.trees.specs.Trees.{Reaches, Tree}

-- A row of parents: that of job k stands at k, and the first cell is spare.
abbrev pub jobs_in : List ℕ → ℕ
jobs_in parents = length parents - 1

abbrev pub par_in : List ℕ → ℕ → ℕ
par_in parents k = slice_index parents k

-- the row at the front of 4,096 cells, the others blank
abbrev pub laid : List ℕ → List ℕ
laid row = row ++ replicate (4096 - length row) 0

-- the row has the parents of a tree of at most 4,095 jobs
pub record TreeRow (parents : List ℕ) : Type 0 where
  pub some : 1 ≤ jobs_in parents
  pub few : jobs_in parents ≤ 4095
  pub tree : Tree (jobs_in parents) (par_in parents)

-- r is the lowest job at which P holds; none if it holds at no job
abbrev pub Lowest : ℕ → (ℕ → Type 0) → Option ℕ → Type 0
Lowest n P r =
    MatchOption r ((k : ℕ) → In n k → P k → ⊥) (λ i. In n i × P i × ((k : ℕ) → In n k → k < i → P k → ⊥))

-- the same from job a on
abbrev pub LowestFrom : ℕ → ℕ → (ℕ → Type 0) → Option ℕ → Type 0
LowestFrom a n P r =
    MatchOption r ((k : ℕ) → a ≤ k → k ≤ n → P k → ⊥) (λ i. (a ≤ i) × (i ≤ n) × P i × ((k : ℕ) → a ≤ k → k < i → P k → ⊥))

-- r is the lowest job from which the way up never ends; none if each ends
abbrev pub Lost : ℕ → (ℕ → ℕ) → Option ℕ → Type 0
Lost n par r =
    MatchOption r ((k : ℕ) → In n k → Reaches par k)
    (λ i. In n i × (Reaches par i → ⊥) × ((k : ℕ) → In n k → k < i → Reaches par k))

-- there is just one root
pub record OneRoot (n : ℕ) (par : ℕ → ℕ) : Type 0 where
  pub top : ℕ
  pub top_in : In n top
  pub top_free : par top ≡ 0
  pub one_top : (k : ℕ) → In n k → par k ≡ 0 → k ≡ top

-- j is the second root: i alone is one before it
pub record TwoRoots (n : ℕ) (par : ℕ → ℕ) (i j : ℕ) : Type 0 where
  pub early : In n i
  pub late : In n j
  pub order : i < j
  pub early_free : par i ≡ 0
  pub late_free : par j ≡ 0
  pub only_early : (k : ℕ) → In n k → k < j → par k ≡ 0 → k ≡ i

-- granted if there is just one root; else the second is refused, or that there is none
abbrev pub Roots : ℕ → (ℕ → ℕ) → Result (Unit {0}) Refusal → Type 0
Roots n par (Ok _) = OneRoot n par
Roots n par (Err e) =
    ((e ≡ NoRoot) × ((k : ℕ) → In n k → par k ≢ 0)) ⊎ ((i : ℕ) × (j : ℕ) × (e ≡ SecondRoot j) × TwoRoots n par i j)
