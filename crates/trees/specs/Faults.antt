-- What a row of parents, and a row handed in as a line, can be refused for.
use Rattle.std.specs.Prelude.{◌≡◌, ℕ, ◌+◌, ◌<◌, ◌≤◌, ◌⊎◌, List, length, ◌≢◌}
use Rattle.refusals.specs.declared.Refusal.{Refusal}
use Rattle.refusals.specs.declared.Refusal.TheVariants.{JobCount, ParentMissing, NoRoot, SecondRoot, RootUnreached, LineEntry, LineOrder}
use Rattle.trees.specs.Sums.{In}
use Rattle.trees.specs.Trees.{Reaches}
use Rattle.trees.specs.Lines.{entry, place}

-- the parents of the jobs 1 to n make no tree
pub data ParentFault (n : ℕ) (par : ℕ → ℕ) : Refusal → Type 0 where
  count : (n ≡ 0) ⊎ (4095 < n) → ParentFault n par (JobCount n)
  missing : (i : ℕ) → In n i → n < par i → ParentFault n par (ParentMissing i)
  rootless : ((i : ℕ) → In n i → par i ≢ 0) → ParentFault n par NoRoot
  second : (i j : ℕ) → In n i → In n j → i < j → par i ≡ 0 → par j ≡ 0 → ParentFault n par (SecondRoot j)
  unreached : (i : ℕ) → In n i → (Reaches par i → ⊥) → ParentFault n par (RootUnreached i)

-- the row lacks position p, or has no job there, or one that stands earlier too
abbrev pub Unfit : ℕ → List ℕ → ℕ → Type 0
Unfit n row p = (length row < p) ⊎ ((In n (entry row p) → ⊥) ⊎ (place (entry row p) row < p))

-- the row is no line of the tree
pub data RowFault (n : ℕ) (par : ℕ → ℕ) (row : List ℕ) : Refusal → Type 0 where
  unfit : (p : ℕ) → In n p → Unfit n row p → RowFault n par row (LineEntry p)
  longer : n < length row → RowFault n par row (LineEntry (n + 1))
  early : (p c : ℕ) → In n p → In n c → par c ≡ entry row p → p ≤ place c row → RowFault n par row (LineOrder p)
