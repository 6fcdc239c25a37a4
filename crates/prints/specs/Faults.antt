-- What a refusal of the bytes says of them.
use Rattle.std.specs.Prelude.{◌≡◌, ℕ, ◌+◌, ◌-◌, ◌<◌, ◌≤◌, true, false, List, length, take, slice_index}
use Rattle.refusals.specs.declared.Refusal.{Refusal}
use Rattle.refusals.specs.declared.Refusal.TheVariants.{TextByte, TextNumber}
use Rattle.prints.specs.Decimal.{digit}
use Rattle.prints.specs.Places.{line_at, column_at}
use Rattle.prints.specs.Runs.{Text, Begins}

-- The bytes before p begin a text in bounds; with the byte at p they begin none, not even one with
-- larger numbers, or the bytes end at p and are no text.
pub record UnfitAt (ax : ℕ) (bs : List ℕ) (line column p : ℕ) : Type 0 where
  pub within : p ≤ length bs
  pub line_is : line ≡ line_at bs p
  pub column_is : column ≡ column_at bs p
  pub before : Begins ax true (take p bs)
  pub byte : p < length bs → Begins ax false (take (p + 1) bs) → ⊥
  pub end : p ≡ length bs → Text ax false bs → ⊥

-- A number begins at p, and its first n digits are above its bound: the bytes before p begin a text
-- in bounds; with the n digits they still begin a text, and none in bounds.
pub record AboveAt (ax : ℕ) (bs : List ℕ) (line column p n : ℕ) : Type 0 where
  pub within : p + n ≤ length bs
  pub line_is : line ≡ line_at bs p
  pub column_is : column ≡ column_at bs p
  pub fresh : digit (slice_index bs (p - 1)) ≡ false
  pub digits : (i : ℕ) → i < n → digit (slice_index bs (p + i)) ≡ true
  pub before : Begins ax true (take p bs)
  pub goes : Begins ax false (take (p + n) bs)
  pub above : Begins ax true (take (p + n) bs) → ⊥

-- the refusal that the bytes deserve
pub data Refused (ax : ℕ) (bs : List ℕ) (e : Refusal) : Type 0 where
  unfit : (line column p : ℕ) → e ≡ TextByte line column → UnfitAt ax bs line column p → Refused ax bs e
  above : (line column p n : ℕ) → e ≡ TextNumber line column → AboveAt ax bs line column p n → Refused ax bs e
