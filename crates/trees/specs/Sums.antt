-- Sums, tests and greatest values over the numbers 1 to n.
use Rattle.std.specs.Prelude.{ℕ, zero, suc, ◌+◌, ◌≤◌, max, Bool, true, false, ◌||◌}

-- k is one of 1 to n
abbrev pub In : ℕ → ℕ → Type 0
In n k = (1 ≤ k) × (k ≤ n)

-- g 1 + .. + g n
abbrev pub sum : (ℕ → ℕ) → ℕ → ℕ
sum g zero = 0
sum g (suc n) = sum g n + g (suc n)

-- x where the test passes, else nothing
abbrev pub only : Bool → ℕ → ℕ
only true x = x
only false x = 0

-- some number of 1 to n passes the test
abbrev pub any : (ℕ → Bool) → ℕ → Bool
any p zero = false
any p (suc n) = p (suc n) || any p n

-- the greatest of g 1 to g n; 0 if n is 0
abbrev pub greatest : (ℕ → ℕ) → ℕ → ℕ
greatest g zero = 0
greatest g (suc n) = max (greatest g n) (g (suc n))
