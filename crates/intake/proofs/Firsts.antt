-- The first refusal of a tree of records, check by check.
use Rattle.std.proofs.Common.{◌≡◌, ℕ, ◌<◌, ◌≤◌, ◌⊎◌, List, length, refl, inl, inr, arith, lit<}
use Rattle.std.proofs.lemmas.Bool.{cases_lt}
use Rattle.refusals.specs.Told.{told}
use Rattle.refusals.specs.Judged.{First, NotAfter}
use Rattle.refusals.specs.declared.Refusal.{Refusal}
use Rattle.refusals.specs.declared.Refusal.TheVariants.{JobCount, TooManyAxes, JobBound}
use Rattle.trees.specs.Sums.{In}
use Rattle.trees.specs.Faults.{ParentFault}
use Rattle.trees.specs.Faults.ParentFault.{count, missing, rootless, second, unreached}
use Rattle.jobs.specs.declared.Job.{Job}
use Rattle.intake.specs.Faults.{TreeFault, Above, par_of}
use Rattle.intake.specs.Faults.TreeFault.{records, axes, bound, parents}

module _ {S : Type 0} (w : ℕ) (read : S → ℕ → ℕ) (xs : List (Job S)) (n : ℕ) where
  after_count : {d : Refusal} → TreeFault w read xs n d → NotAfter (told (JobCount n)) (told d)
  after_count (records h) = inr (refl, omega arith)
  after_count (axes h) = inl (lit< tt)
  after_count (bound i a b) = inl (lit< tt)
  after_count (parents (count h)) = inr (refl, omega arith)
  after_count (parents (missing i a b)) = inl (lit< tt)
  after_count (parents (rootless h)) = inl (lit< tt)
  after_count (parents (second i j a b c e f)) = inl (lit< tt)
  after_count (parents (unreached i a b)) = inl (lit< tt)

  pub first_count : (n ≡ 0) ⊎ ((4095 < n) ⊎ (length xs ≤ n)) → First (TreeFault w read xs n) (JobCount n)
  first_count (inl h) = record { deserved = parents (count (inl h)); first = λ d f. after_count f }
  first_count (inr (inl h)) = record { deserved = parents (count (inr h)); first = λ d f. after_count f }
  first_count (inr (inr h)) = record { deserved = records h; first = λ d f. after_count f }

  module _ (some : 1 ≤ n) (few : n ≤ 4095) (room : n < length xs) where
    miscounted : (n ≡ 0) ⊎ (4095 < n) → ⊥
    miscounted (inl h) = omega arith
    miscounted (inr h) = omega arith

    -- the refusals of the parents come after those of the bounds
    after_bounds : (place : ℕ) {d : Refusal} → ParentFault n (par_of xs n) d → NotAfter (record { number = 5; layer = 2; place = place; column = 0 }) (told d)
    after_bounds place (count h) = absurd (miscounted h)
    after_bounds place (missing i a b) = inl (lit< tt)
    after_bounds place (rootless h) = inl (lit< tt)
    after_bounds place (second i j a b c e f) = inl (lit< tt)
    after_bounds place (unreached i a b) = inl (lit< tt)

    after_axes : {d : Refusal} → TreeFault w read xs n d → NotAfter (told TooManyAxes) (told d)
    after_axes (records h) = absurd (omega arith)
    after_axes (axes h) = inr (refl, omega arith)
    after_axes (bound i a b) = inr (refl, omega arith)
    after_axes (parents p) = after_bounds 0 p

    pub first_axes : 64 < w → First (TreeFault w read xs n) TooManyAxes
    first_axes h = record { deserved = axes h; first = λ d f. after_axes f }

    module _ (narrow : w ≤ 64) where
      module _ (x : ℕ) (low : (k : ℕ) → In n k → k < x → Above w read xs k → ⊥) where
        after_bound : {d : Refusal} → TreeFault w read xs n d → NotAfter (told (JobBound x)) (told d)
        after_bound (records h) = absurd (omega arith)
        after_bound (axes h) = absurd (omega arith)
        after_bound (bound i a b) = inr (refl, elim (cases_lt i x) [ inl h ↦ absurd (low i a h b) | inr h ↦ h ])
        after_bound (parents p) = after_bounds x p

        pub first_bound : In n x → Above w read xs x → First (TreeFault w read xs n) (JobBound x)
        first_bound i h = record { deserved = bound x i h; first = λ d f. after_bound f }

      module _ (held : (k : ℕ) → In n k → Above w read xs k → ⊥) where
        pub first_parents : (e : Refusal) → First (ParentFault n (par_of xs n)) e → First (TreeFault w read xs n) e
        first_parents e f = record { deserved = parents f.deserved; first = λ d g. after g }
          where
            after : {d : Refusal} → TreeFault w read xs n d → NotAfter (told e) (told d)
            after (records h) = absurd (omega arith)
            after (axes h) = absurd (omega arith)
            after (bound i a b) = absurd (held i a b)
            after {d} (parents p) = f.first d p

        pub no_fault : ((d : Refusal) → ParentFault n (par_of xs n) d → ⊥) → (d : Refusal) → TreeFault w read xs n d → ⊥
        no_fault none _ (records h) = omega arith
        no_fault none _ (axes h) = omega arith
        no_fault none _ (bound i a b) = held i a b
        no_fault none d (parents p) = none d p
