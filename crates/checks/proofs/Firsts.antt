-- The first refusal of a run in a hall, check by check.
use Rattle.std.proofs.Common.{ℕ, ◌<◌, List, [], Ok, Err, Result, refl, subst, inl, inr, arith}
use Rattle.std.proofs.lemmas.Bool.{cases_lt}
use Rattle.refusals.specs.Told.{told}
use Rattle.refusals.specs.Judged.{First, NotAfter, Judged}
use Rattle.refusals.specs.declared.Refusal.{Refusal}
use Rattle.refusals.specs.declared.Refusal.TheVariants.{FloorExceeded}
use Rattle.trees.specs.Sums.{In}
use Rattle.trees.specs.Lines.{Plain}
use Rattle.lines.proofs.Unique.{one_plain}
use Rattle.jobs.specs.declared.Job.{Job}
use Rattle.intake.specs.Faults.{TreeFault, par_of}
use Rattle.intake.specs.Taken.{Sound}
use Rattle.peaks.specs.Faults.{RunFault}
use Rattle.peaks.specs.Halls.{BoundFault}
use Rattle.peaks.specs.Stood.{Peak, Over}
use Rattle.peaks.proofs.Firsts.{number}
use Rattle.peaks.proofs.Halls.{bound_low, bound_high}
use Rattle.checks.specs.Carried.{HallFault, Carried}
use Rattle.checks.specs.Carried.HallFault.{untreed, unbounded, exceeded}
use Rattle.checks.proofs.Faultless.{sound_faultless, run_faultless}

module _ {S : Type 0} (w : ℕ) (read : S → ℕ → ℕ) (xs : List (Job S)) (n benches : ℕ) (floor : S) where
  abbrev Fault : Refusal → Type 0
  Fault = HallFault w read xs n benches floor

  after_tree : (e : Refusal) → First (TreeFault w read xs n) e → {d : Refusal} → Fault d → NotAfter (told e) (told d)
  after_tree e f (untreed h) = f.first _ h
  after_tree e f (unbounded h) = let a = number w read xs n [] f.deserved in let b = bound_low w benches (read floor) h in inl (omega arith)
  after_tree e f (exceeded row p l i h) = let a = number w read xs n [] f.deserved in inl (omega arith)

  pub first_tree : (e : Refusal) → First (TreeFault w read xs n) e → First Fault e
  first_tree e f = record { deserved = untreed f.deserved; first = λ d h. after_tree e f h }

  module _ (s : Sound w read xs n) where
    after_hall : (e : Refusal) → First (BoundFault w benches (read floor)) e → {d : Refusal} → Fault d → NotAfter (told e) (told d)
    after_hall e f (untreed h) = absurd (sound_faultless s h)
    after_hall e f (unbounded h) = f.first _ h
    after_hall e f (exceeded row p l i h) = let a = bound_high w benches (read floor) f.deserved in inl (omega arith)

    pub first_hall : (e : Refusal) → First (BoundFault w benches (read floor)) e → First Fault e
    first_hall e f = record { deserved = unbounded f.deserved; first = λ d h. after_hall e f h }

    module _ (halled : (e : Refusal) → BoundFault w benches (read floor) e → ⊥) (row : List ℕ) (plain : Plain n (par_of xs n) row) where
      -- what is over the floor on any plain line is so on this one
      over_here : (other : List ℕ) (p : ℕ) → Plain n (par_of xs n) other → Over read xs n other floor p → Over read xs n row floor p
      over_here other p l h = subst (λ r. Over read xs n r floor p) (one_plain n (par_of xs n) other row s.tree l plain) h

      module _ (x : ℕ) (low : (k : ℕ) → In n k → k < x → Over read xs n row floor k → ⊥) where
        after_exceeded : {d : Refusal} → Fault d → NotAfter (told (FloorExceeded x)) (told d)
        after_exceeded (untreed h) = absurd (sound_faultless s h)
        after_exceeded (unbounded h) = absurd (halled _ h)
        after_exceeded (exceeded other p l i h) =
            inr (refl, elim (cases_lt p x) [ inl b ↦ absurd (low p i b (over_here other p l h)) | inr b ↦ b ])

        pub first_exceeded : In n x → Over read xs n row floor x → First Fault (FloorExceeded x)
        first_exceeded i h = record { deserved = exceeded row x plain i h; first = λ d f. after_exceeded f }

      module _ (fits : (k : ℕ) → In n k → Over read xs n row floor k → ⊥) where
        none : {d : Refusal} → Fault d → ⊥
        none (untreed h) = sound_faultless s h
        none (unbounded h) = halled _ h
        none (exceeded other p l i h) = fits p i (over_here other p l h)

        -- the peak of a line that is checked is always told
        pub peak_told : (r : Result S Refusal) → Judged (RunFault w read xs n row) (Peak read xs n row) r → Carried w read xs n benches floor r
        peak_told (Ok x) j =
            ((λ d h. none h), λ other l. subst (λ r. Peak read xs n r x) (one_plain n (par_of xs n) row other s.tree plain l) j.1)
        peak_told (Err e) j = absurd (run_faultless s plain.postorder.line j.deserved)
