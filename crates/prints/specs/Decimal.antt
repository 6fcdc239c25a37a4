-- A number in decimal digits, with no leading zero.
use Rattle.std.specs.Prelude.{◌≡◌, ℕ, ◌+◌, ◌<◌, Bool, false, cond, ◌&&◌, List, [], ◌∷◌, map, ◌==◌, nat_le, Some, None, Option}
use Rattle.std.specs.Int.Digits.{digits_of}

-- the byte is one of 0 to 9
abbrev pub digit : ℕ → Bool
digit c = nat_le 48 c && nat_le c 57

-- the digit that the byte is, if it is one
abbrev pub DigitOf : ℕ → Option ℕ → Type 0
DigitOf c (Some d) = (d < 10) × (c ≡ 48 + d)
DigitOf c None = digit c ≡ false

unfoldable pub decimal : ℕ → List ℕ
decimal n = cond (n == 0) (48 ∷ []) (map (λ d. 48 + d) (digits_of 10 n))
