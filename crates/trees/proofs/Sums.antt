-- Laws of sums over 1 to n.
use Rattle.std.proofs.Common.{◌≡◌, ℕ, zero, suc, ◌+◌, ◌-◌, ◌*◌, ◌≤◌, max, eqb, ◌⊎◌, refl, ap, ◌∙◌, inl, inr, suc-mul, arith}
use Rattle.std.proofs.lemmas.Bool.{cases_eq}
use Rattle.std.proofs.lemmas.Bool.Decides.{nat_tests}
use Rattle.trees.specs.Sums.{In, sum, only, greatest}

pub sum_le : (g h : ℕ → ℕ) (n : ℕ) → ((k : ℕ) → In n k → g k ≤ h k) → sum g n ≤ sum h n
sum_le g h zero p = omega arith
sum_le g h (suc n) p = omega (arith, sum_le g h n (λ k i. p k (omega arith)), p (suc n) (omega arith))

pub sum_eq : (g h : ℕ → ℕ) (n : ℕ) → ((k : ℕ) → In n k → g k ≡ h k) → sum g n ≡ sum h n
sum_eq g h zero p = refl
sum_eq g h (suc n) p = omega (arith, sum_eq g h n (λ k i. p k (omega arith)), p (suc n) (omega arith))

pub sum_zero : (g : ℕ → ℕ) (n : ℕ) → ((k : ℕ) → In n k → g k ≡ 0) → sum g n ≡ 0
sum_zero g zero p = refl
sum_zero g (suc n) p = omega (arith, sum_zero g n (λ k i. p k (omega arith)), p (suc n) (omega arith))

pub sum_ones : (n : ℕ) → sum (λ k. 1) n ≡ n
sum_ones zero = refl
sum_ones (suc n) = omega (arith, sum_ones n)

pub sum_add : (g h : ℕ → ℕ) (n : ℕ) → sum (λ k. g k + h k) n ≡ sum g n + sum h n
sum_add g h zero = refl
sum_add g h (suc n) = omega (arith, sum_add g h n)

-- one number alone
pub sum_one : (g : ℕ → ℕ) (u n : ℕ) → In n u → sum (λ k. only (eqb k u) (g k)) n ≡ g u
sum_one g u zero i = absurd (omega arith)
sum_one g u (suc n) i = go (λ j. sum_one g u n j) (cases_eq (suc n) u)
  where
    none : suc n ≡ u → sum (λ k. only (eqb k u) (g k)) n ≡ 0
    none e = sum_zero (λ k. only (eqb k u) (g k)) n (λ k j. grind (arith, nat_tests))

    go : (In n u → sum (λ k. only (eqb k u) (g k)) n ≡ g u) → (suc n ≡ u) ⊎ (suc n ≡ u → ⊥) → sum (λ k. only (eqb k u) (g k)) (suc n) ≡ g u
    go r (inl e) = let z = none e in grind (arith, nat_tests)
    go r (inr e) = let z = r (omega arith) in grind (arith, nat_tests)

-- no term is above m
pub sum_most : (g : ℕ → ℕ) (m n : ℕ) → ((k : ℕ) → In n k → g k ≤ m) → sum g n ≤ n * m
sum_most g m zero p = omega arith
sum_most g m (suc n) p = omega (arith, sum_most g m n (λ k i. p k (omega arith)), p (suc n) (omega arith), suc-mul n m)

-- one more, counted from the next number
pub greatest_next : (g : ℕ → ℕ) (p : ℕ) → 1 ≤ p → greatest g (p + 1 - 1) ≡ max (greatest g (p - 1)) (g p)
greatest_next g p h =
    let e : p + 1 - 1 ≡ suc (p - 1) = omega arith in
    let f : suc (p - 1) ≡ p = omega arith in
    ap (greatest g) e ∙ ap (λ x. max (greatest g (p - 1)) (g x)) f
