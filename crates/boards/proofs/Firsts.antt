-- The first refusal of an opening, check by check.
use Rattle.std.proofs.Common.{ℕ, ◌<◌, List, refl, inl, inr, arith, lit<}
use Rattle.std.proofs.lemmas.Bool.{cases_lt}
use Rattle.refusals.specs.Told.{told}
use Rattle.refusals.specs.Judged.{First, NotAfter}
use Rattle.refusals.specs.declared.Refusal.{Refusal}
use Rattle.refusals.specs.declared.Refusal.TheVariants.{FloorExceeded}
use Rattle.trees.specs.Sums.{In}
use Rattle.trees.specs.Faults.{RowFault}
use Rattle.trees.specs.Faults.RowFault.{unfit, longer, early}
use Rattle.jobs.specs.declared.Job.{Job}
use Rattle.peaks.specs.Faults.{RunFault}
use Rattle.peaks.specs.Faults.RunFault.{untreed, unlined}
use Rattle.peaks.specs.Halls.{BoundFault}
use Rattle.peaks.specs.Stood.{Over}
use Rattle.peaks.proofs.Firsts.{number}
use Rattle.peaks.proofs.Halls.{bound_low, bound_high}
use Rattle.rules.specs.Acts.{Acts}
use Rattle.rules.specs.Duties.{Listed}
use Rattle.boards.specs.declared.opening.Setup.{Setup}
use Rattle.boards.specs.Faults.{OpenFault}
use Rattle.boards.specs.Faults.OpenFault.{unrun, unbounded, unruled, exceeded}

row_low : {n : ℕ} {par : ℕ → ℕ} {row : List ℕ} {e : Refusal} → RowFault n par row e → (told e).number < 11
row_low (unfit p i h) = lit< tt
row_low (longer h) = lit< tt
row_low (early p c i j a b) = lit< tt

module _ {R S : Type 0} (w : ℕ) (read : S → ℕ → ℕ) (acts : Acts R S) (listed : Listed acts) (r : R) (xs : List (Job S)) (setup : Setup S) where
  abbrev n : ℕ
  n = setup.jobs

  abbrev row : List ℕ
  row = setup.line.now

  abbrev Fault : Refusal → Type 0
  Fault = OpenFault w read acts r xs setup

  run_low : {e : Refusal} → RunFault w read xs n row e → (told e).number < 11
  run_low (untreed h) = omega (arith, number w read xs n row h)
  run_low (unlined h) = row_low h

  after_run : (e : Refusal) → First (RunFault w read xs n row) e → {d : Refusal} → Fault d → NotAfter (told e) (told d)
  after_run e f (unrun h) = f.first _ h
  after_run e f (unbounded h) = let a = run_low f.deserved in let b = bound_low w setup.benches (read setup.floor) h in inl (omega arith)
  after_run e f (unruled h) = let a = run_low f.deserved in let b = listed r xs n row _ h in inl (omega arith)
  after_run e f (exceeded p i h) = let a = run_low f.deserved in inl (omega arith)

  pub first_run : (e : Refusal) → First (RunFault w read xs n row) e → First Fault e
  first_run e f = record { deserved = unrun f.deserved; first = λ d h. after_run e f h }

  module _ (run : (e : Refusal) → RunFault w read xs n row e → ⊥) where
    after_bound : (e : Refusal) → First (BoundFault w setup.benches (read setup.floor)) e → {d : Refusal} → Fault d → NotAfter (told e) (told d)
    after_bound e f (unrun h) = absurd (run _ h)
    after_bound e f (unbounded h) = f.first _ h
    after_bound e f (unruled h) = let a = bound_high w setup.benches (read setup.floor) f.deserved in let b = listed r xs n row _ h in inl (omega arith)
    after_bound e f (exceeded p i h) = let a = bound_high w setup.benches (read setup.floor) f.deserved in inl (omega arith)

    pub first_bound : (e : Refusal) → First (BoundFault w setup.benches (read setup.floor)) e → First Fault e
    first_bound e f = record { deserved = unbounded f.deserved; first = λ d h. after_bound e f h }

    module _ (bounded : (e : Refusal) → BoundFault w setup.benches (read setup.floor) e → ⊥) where
      after_rule : (e : Refusal) → First (acts.refuses r xs n row) e → {d : Refusal} → Fault d → NotAfter (told e) (told d)
      after_rule e f (unrun h) = absurd (run _ h)
      after_rule e f (unbounded h) = absurd (bounded _ h)
      after_rule e f (unruled h) = f.first _ h
      after_rule e f (exceeded p i h) = let b = listed r xs n row e f.deserved in inl (omega arith)

      pub first_rule : (e : Refusal) → First (acts.refuses r xs n row) e → First Fault e
      first_rule e f = record { deserved = unruled f.deserved; first = λ d h. after_rule e f h }

      module _ (ruled : (e : Refusal) → acts.refuses r xs n row e → ⊥) where
        after_exceeded : (x : ℕ) → ((k : ℕ) → In n k → k < x → Over read xs n row setup.floor k → ⊥) → {d : Refusal} → Fault d → NotAfter (told (FloorExceeded x)) (told d)
        after_exceeded x low (unrun h) = absurd (run _ h)
        after_exceeded x low (unbounded h) = absurd (bounded _ h)
        after_exceeded x low (unruled h) = absurd (ruled _ h)
        after_exceeded x low (exceeded p i h) = inr (refl, elim (cases_lt p x) [ inl b ↦ absurd (low p i b h) | inr b ↦ b ])

        pub first_exceeded : (x : ℕ) → In n x → Over read xs n row setup.floor x → ((k : ℕ) → In n k → k < x → Over read xs n row setup.floor k → ⊥) → First Fault (FloorExceeded x)
        first_exceeded x i h low = record { deserved = exceeded x i h; first = λ d f. after_exceeded x low f }

        pub no_fault : ((k : ℕ) → In n k → Over read xs n row setup.floor k → ⊥) → (d : Refusal) → Fault d → ⊥
        no_fault fits d (unrun h) = run d h
        no_fault fits d (unbounded h) = bounded d h
        no_fault fits d (unruled h) = ruled d h
        no_fault fits d (exceeded p i h) = fits p i h
