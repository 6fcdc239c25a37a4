-- What the records of a tree can be refused for.
use Rattle.std.specs.Prelude.{ℕ, ◌+◌, ◌<◌, ◌≤◌, ◌⊎◌, List, map, length, take}
use Rattle.amounts.specs.Axes.{Exceeds}
use Rattle.refusals.specs.declared.Refusal.{Refusal}
use Rattle.refusals.specs.declared.Refusal.TheVariants.{JobCount, TooManyAxes, JobBound}
use Rattle.trees.specs.Sums.{In}
use Rattle.trees.specs.Found.{par_in}
use Rattle.trees.specs.Faults.{ParentFault}
use Rattle.jobs.specs.declared.Job.{Job}
use Rattle.jobs.specs.Fields.{work_of, output_of, minutes_of}

-- some axis of a row is above a million, in a kind that is w wide
abbrev pub Over : ℕ → (ℕ → ℕ) → Type 0
Over w row = Exceeds w row 1000000

module _ {S : Type 0} where
  -- an axis of the work or the output, or the minutes, are above their bound
  abbrev pub Offends : ℕ → (S → ℕ → ℕ) → Job S → Type 0
  Offends w read j = Over w (read j.work) ⊎ (Over w (read j.output) ⊎ (10000 < j.minutes))

  -- the same of the record of job i
  abbrev pub Above : ℕ → (S → ℕ → ℕ) → List (Job S) → ℕ → Type 0
  Above w read xs i =
      Over w (λ k. work_of read xs k i) ⊎ (Over w (λ k. output_of read xs k i) ⊎ (10000 < minutes_of xs i))

  -- the parents of the jobs 1 to n, after one cell to spare
  abbrev pub parent_row : List (Job S) → ℕ → List ℕ
  parent_row xs n = take (n + 1) (map (λ j. j.parent) xs)

  -- the parent of each of the jobs 1 to n
  abbrev pub par_of : List (Job S) → ℕ → ℕ → ℕ
  par_of xs n = par_in (parent_row xs n)

  -- the records are not those of a tree of the jobs 1 to n, in a kind that is w wide
  pub data TreeFault (w : ℕ) (read : S → ℕ → ℕ) (xs : List (Job S)) (n : ℕ) : Refusal → Type 0 where
    records : length xs ≤ n → TreeFault w read xs n (JobCount n)
    axes : 64 < w → TreeFault w read xs n TooManyAxes
    bound : (i : ℕ) → In n i → Above w read xs i → TreeFault w read xs n (JobBound i)
    parents : {e : Refusal} → ParentFault n (par_of xs n) e → TreeFault w read xs n e
