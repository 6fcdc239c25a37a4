-- The fields of a row of job records, as functions from the job's number.
use Rattle.std.specs.Prelude.{ℕ, List, map, slice_index}
use Rattle.jobs.specs.declared.Job.{Job}

-- what f reads at place i; 0 past the end
abbrev pub at : {X : Type 0} → (X → ℕ) → List X → ℕ → ℕ
at f xs i = slice_index (map f xs) i

module _ {S : Type 0} where
  abbrev pub minutes_of : List (Job S) → ℕ → ℕ
  minutes_of = at (λ j. j.minutes)

  abbrev pub first_of : List (Job S) → ℕ → ℕ
  first_of = at (λ j. j.first_child)

  abbrev pub next_of : List (Job S) → ℕ → ℕ
  next_of = at (λ j. j.next_sibling)

  -- what axis k of each job's work holds, where `read` gives an amount's axes
  abbrev pub work_of : (S → ℕ → ℕ) → List (Job S) → ℕ → ℕ → ℕ
  work_of read xs k = at (λ j. read j.work k) xs

  abbrev pub output_of : (S → ℕ → ℕ) → List (Job S) → ℕ → ℕ → ℕ
  output_of read xs k = at (λ j. read j.output k) xs
