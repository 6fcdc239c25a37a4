-- What the benches and the floor of a hall can be refused for.
use Rattle.std.specs.Prelude.{◌≡◌, ℕ, ◌<◌, ◌⊎◌}
use Rattle.amounts.specs.Axes.{Row, Exceeds}
use Rattle.refusals.specs.declared.Refusal.{Refusal}
use Rattle.refusals.specs.declared.Refusal.TheVariants.{Benches, Floor}

-- not 1 to 64 benches, or an axis of the floor above its bound, in a kind that is w wide
pub data BoundFault (w benches : ℕ) (floor : Row) : Refusal → Type 0 where
  unbenched : (benches ≡ 0) ⊎ (64 < benches) → BoundFault w benches floor Benches
  unfloored : Exceeds w floor 1000000000 → BoundFault w benches floor Floor
