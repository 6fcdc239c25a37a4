-- Which refusal a call answers: of all that what was handed in deserves, the one with the lowest number, and of those with the
-- same number the one at the lowest place.
use Rattle.std.specs.Prelude.{◌≡◌, ◌<◌, ◌≤◌, ◌⊎◌, Ok, Err, Result}
use Rattle.refusals.specs.declared.Refusal.{Refusal}
use Rattle.refusals.specs.Told.{Told, told}

-- a is told before b, or is told alike in number and place
abbrev pub NotAfter : Told → Told → Type 0
NotAfter a b = (a.number < b.number) ⊎ ((a.number ≡ b.number) × (a.place ≤ b.place))

-- `Fault e` says that what was handed in deserves the refusal e
pub record First (Fault : Refusal → Type 0) (e : Refusal) : Type 0 where
  pub deserved : Fault e
  pub first : (d : Refusal) → Fault d → NotAfter (told e) (told d)

-- granted with P where no refusal is deserved; refused with the first one that is
abbrev pub Judged : {T : Type 0} → (Refusal → Type 0) → (T → Type 0) → Result T Refusal → Type 0
Judged Fault P (Ok x) = ((e : Refusal) → Fault e → ⊥) × P x
Judged Fault P (Err e) = First Fault e

-- Two refusals of which neither is told after the other are told alike in number and place. So whatever is deserved, all that are
-- first are told alike.
abbrev pub OrderDecides : Type 0
OrderDecides = (a b : Told) → NotAfter a b → NotAfter b a → (a.number ≡ b.number) × (a.place ≡ b.place)
