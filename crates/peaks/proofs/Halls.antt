-- The first refusal of a hall's benches and floor, and its number.
use Rattle.std.proofs.Common.{◌≡◌, ℕ, ◌<◌, ◌≤◌, ◌⊎◌, refl, inl, inr, arith, lit<}
use Rattle.amounts.specs.Axes.{Row, Exceeds}
use Rattle.refusals.specs.Told.{told}
use Rattle.refusals.specs.Judged.{First, NotAfter}
use Rattle.refusals.specs.declared.Refusal.{Refusal}
use Rattle.refusals.specs.declared.Refusal.TheVariants.{Benches, Floor}
use Rattle.peaks.specs.Halls.{BoundFault}
use Rattle.peaks.specs.Halls.BoundFault.{unbenched, unfloored}

module _ (w benches : ℕ) (floor : Row) where
  pub bound_low : {e : Refusal} → BoundFault w benches floor e → 10 < (told e).number
  bound_low (unbenched h) = lit< tt
  bound_low (unfloored h) = lit< tt

  pub bound_high : {e : Refusal} → BoundFault w benches floor e → (told e).number < 13
  bound_high (unbenched h) = lit< tt
  bound_high (unfloored h) = lit< tt

  after_benches : {d : Refusal} → BoundFault w benches floor d → NotAfter (told Benches) (told d)
  after_benches (unbenched h) = inr (refl, omega arith)
  after_benches (unfloored h) = inl (lit< tt)

  pub first_benches : (benches ≡ 0) ⊎ (64 < benches) → First (BoundFault w benches floor) Benches
  first_benches h = record { deserved = unbenched h; first = λ d f. after_benches f }

  module _ (some : benches ≡ 0 → ⊥) (few : benches ≤ 64) where
    benched : (benches ≡ 0) ⊎ (64 < benches) → ⊥
    benched (inl h) = some h
    benched (inr h) = omega arith

    after_floor : {d : Refusal} → BoundFault w benches floor d → NotAfter (told Floor) (told d)
    after_floor (unbenched h) = absurd (benched h)
    after_floor (unfloored h) = inr (refl, omega arith)

    pub first_floor : Exceeds w floor 1000000000 → First (BoundFault w benches floor) Floor
    first_floor h = record { deserved = unfloored h; first = λ d f. after_floor f }

    pub bound_none : (Exceeds w floor 1000000000 → ⊥) → (d : Refusal) → BoundFault w benches floor d → ⊥
    bound_none floored d (unbenched h) = benched h
    bound_none floored d (unfloored h) = floored h
