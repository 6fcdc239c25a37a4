-- The lines that are calls: a word, one space and a number without a leading zero.
use Rattle.std.specs.Prelude.{◌≡◌, ℕ, ◌-◌, ◌^◌, min, List, ◌++◌, codes}
use Rattle.logs.specs.declared.call.Call.{Call}
use Rattle.logs.specs.declared.call.Call.TheVariants.{Start, Report, Ask}
use Rattle.prints.specs.Decimal.{decimal}

-- a number as the machine holds it: what is too large for it is cut to the largest
abbrev pub held_number : ℕ → ℕ
held_number n = min n (2 ^ 64 - 1)

-- the line is that of a call
pub data LineOf (line : List ℕ) : Call → Type 0 where
  start : (n : ℕ) → line ≡ codes "start " ++ decimal n → LineOf line (Start (held_number n))
  report : (n : ℕ) → line ≡ codes "report " ++ decimal n → LineOf line (Report (held_number n))
  ask : (n : ℕ) → line ≡ codes "ask " ++ decimal n → LineOf line (Ask (held_number n))
