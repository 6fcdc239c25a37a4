-- No axis of a sound tree's amounts is above its bound, so no sum of them passes the limit.
use Rattle.std.proofs.Common.{◌≡◌, ℕ, zero, suc, ◌<◌, ◌≤◌, List, [], ◌∷◌, ap, ◌∙◌, inl, inr, arith}
use Rattle.std.proofs.lemmas.List.{get_or_past}
use Rattle.std.proofs.lemmas.Bool.{cases_lt}
use Rattle.amounts.specs.Axes.{Seen}
use Rattle.trees.specs.Sums.{In, sum}
use Rattle.trees.proofs.Sums.{sum_most}
use Rattle.jobs.specs.declared.Job.{Job}
use Rattle.jobs.specs.Fields.{at, work_of, output_of}
use Rattle.intake.specs.Taken.{Sound}

-- a kind reads 0 at 0 and past its width
pub record Reads {S : Type 0} (w : ℕ) (read : S → ℕ → ℕ) : Type 0 where
  pub nothing : (x : S) → read x 0 ≡ 0
  pub beyond : (x : S) (k : ℕ) → w < k → read x k ≡ 0

at_zero : {X : Type 0} (f : X → ℕ) (xs : List X) (i : ℕ) → ((x : X) → f x ≡ 0) → at f xs i ≡ 0
at_zero f [] i z = get_or_past [] i 0 (omega arith)
at_zero f (x ∷ xs) zero z = z x
at_zero f (x ∷ xs) (suc i) z = at_zero f xs i z

module _ {S : Type 0} (w : ℕ) (read : S → ℕ → ℕ) (kind : Reads w read) (xs : List (Job S)) (n : ℕ) (sound : Sound w read xs n) where
  module _ (field : Job S → S) (low : (i a : ℕ) → In n i → Seen w a → 1000000 < at (λ j. read (field j) a) xs i → ⊥) where
    pub field_most : (a i : ℕ) → In n i → at (λ j. read (field j) a) xs i ≤ 1000000
    field_most a i h =
        elim (cases_lt a 1) [
          | inl z ↦ let e : a ≡ 0 = omega arith in omega (arith, at_zero (λ j. read (field j) a) xs i (λ j. ap (read (field j)) e ∙ kind.nothing (field j)))
          | inr z ↦ elim (cases_lt w a) [
            | inl b ↦ omega (arith, at_zero (λ j. read (field j) a) xs i (λ j. kind.beyond (field j) a b))
            | inr b ↦ elim (cases_lt 1000000 (at (λ j. read (field j) a) xs i)) [ inl over ↦ absurd (low i a h (z, omega (arith, sound.axes), b) over) | inr fits ↦ fits ]
          ]
        ]

  pub work_most : (a i : ℕ) → In n i → work_of read xs a i ≤ 1000000
  work_most = field_most (λ j. j.work) (λ i a h k over. sound.bounds i h (inl (a, k, over)))

  pub output_most : (a i : ℕ) → In n i → output_of read xs a i ≤ 1000000
  output_most = field_most (λ j. j.output) (λ i a h k over. sound.bounds i h (inr (inl (a, k, over))))

  pub outputs_most : (a : ℕ) → sum (output_of read xs a) n ≤ 4095000000
  outputs_most a = omega (arith, sum_most (output_of read xs a) 1000000 n (output_most a), sound.few)
