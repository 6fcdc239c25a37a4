-- A record that is above a bound, found by its place.
use Rattle.std.proofs.Common.{◌≡◌, ℕ, ◌<◌, List, length, get_or, sym, inl, inr, arith}
use Rattle.jobs.specs.declared.Job.{Job}
use Rattle.jobs.specs.Fields.{work_of, output_of}
use Rattle.intake.specs.Faults.{Over, Offends, Above}
use Rattle.jobs.proofs.Fields.{at_read}

over_same : (w : ℕ) (x y : ℕ → ℕ) → ((k : ℕ) → x k ≡ y k) → Over w x → Over w y
over_same w x y same (k, i, h) = (k, i, omega (arith, same k))

module _ {S : Type 0} (w : ℕ) (read : S → ℕ → ℕ) (xs : List (Job S)) (i : ℕ) (job : Job S) (inside : i < length xs) (is : job ≡ get_or xs i job) where
  works : (k : ℕ) → work_of read xs k i ≡ read job.work k
  works k = at_read (λ j. read j.work k) xs i job inside is

  outputs : (k : ℕ) → output_of read xs k i ≡ read job.output k
  outputs k = at_read (λ j. read j.output k) xs i job inside is

  pub above_here : Offends w read job → Above w read xs i
  above_here (inl h) = inl (over_same w (read job.work) (λ k. work_of read xs k i) (λ k. sym (works k)) h)
  above_here (inr (inl h)) = inr (inl (over_same w (read job.output) (λ k. output_of read xs k i) (λ k. sym (outputs k)) h))
  above_here (inr (inr h)) = inr (inr (omega (arith, at_read (λ j. j.minutes) xs i job inside is)))

  pub offends_here : Above w read xs i → Offends w read job
  offends_here (inl h) = inl (over_same w (λ k. work_of read xs k i) (read job.work) works h)
  offends_here (inr (inl h)) = inr (inl (over_same w (λ k. output_of read xs k i) (read job.output) outputs h))
  offends_here (inr (inr h)) = inr (inr (omega (arith, at_read (λ j. j.minutes) xs i job inside is)))
