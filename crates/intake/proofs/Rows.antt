-- The parents of a tree's records, as a row of their own.
use Rattle.std.proofs.Common.{◌≡◌, ℕ, ◌+◌, ◌<◌, List, map, length, subst, arith, length-take}
use Rattle.std.proofs.lemmas.List.{length-map}
use Rattle.trees.specs.Found.{jobs_in, par_in}
use Rattle.jobs.specs.declared.Job.{Job}
use Rattle.intake.specs.Faults.{parent_row, par_of}

module _ {S : Type 0} (xs : List (Job S)) (n : ℕ) (room : n < length xs) where
  pub jobs_in_row : jobs_in (parent_row xs n) ≡ n
  jobs_in_row = omega (arith, length-take (n + 1) (map (λ j. j.parent) xs), length-map xs (λ j. j.parent))

  -- what holds of a row that is theirs holds of the records
  pub by_row : (P : ℕ → (ℕ → ℕ) → Type 0) (row : List ℕ) → row ≡ parent_row xs n → P (jobs_in row) (par_in row) → P n (par_of xs n)
  by_row P row e h =
      subst (λ m. P m (par_of xs n)) jobs_in_row (subst (λ r. P (jobs_in r) (par_in r)) e h)
