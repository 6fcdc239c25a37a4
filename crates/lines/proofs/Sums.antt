-- Laws of sums over the numbers 1 to n.
use Rattle.std.proofs.Common.{◌≡◌, ℕ, zero, suc, ◌<◌, ◌≤◌, ◌⊎◌, refl, inl, inr, arith}
use Rattle.std.proofs.lemmas.Bool.{cases_eq}
use Rattle.trees.specs.Sums.{sum, In}
use Rattle.trees.proofs.Sums.{sum_le, sum_zero, sum_add}

pub sum_swap : (g : ℕ → ℕ → ℕ) (n m : ℕ) → sum (λ k. sum (λ c. g k c) m) n ≡ sum (λ c. sum (λ k. g k c) n) m
sum_swap g n zero = sum_zero (λ k. 0) n (λ k i. refl)
sum_swap g n (suc m) = omega (arith, sum_add (λ k. sum (λ c. g k c) m) (λ k. g k (suc m)) n, sum_swap g n m)

-- where each term is at most the other, and the sums are not less, the terms are equal
pub sum_tight : (g h : ℕ → ℕ) (n : ℕ) → ((k : ℕ) → In n k → g k ≤ h k) → sum h n ≤ sum g n → (k : ℕ) → In n k → g k ≡ h k
sum_tight g h zero p q k i = absurd (omega arith)
sum_tight g h (suc n) p q k i = go (λ a j. sum_tight g h n (λ k i. p k (omega arith)) a k j) (cases_eq k (suc n))
  where
    below : sum g n ≤ sum h n
    below = sum_le g h n (λ k i. p k (omega arith))

    here : g (suc n) ≤ h (suc n)
    here = p (suc n) (omega arith)

    go : (sum h n ≤ sum g n → In n k → g k ≡ h k) → (k ≡ suc n) ⊎ (k ≡ suc n → ⊥) → g k ≡ h k
    go r (inl e) = rw e (omega (arith, below, here))
    go r (inr e) = r (omega (arith, below, here)) (omega arith)

-- where moreover one term is less, the sum is less
pub sum_lt : (g h : ℕ → ℕ) (n u : ℕ) → ((k : ℕ) → In n k → g k ≤ h k) → In n u → g u < h u → sum g n < sum h n
sum_lt g h zero u p i l = absurd (omega arith)
sum_lt g h (suc n) u p i l = go (λ j. sum_lt g h n u (λ k i. p k (omega arith)) j l) (cases_eq u (suc n))
  where
    below : sum g n ≤ sum h n
    below = sum_le g h n (λ k i. p k (omega arith))

    here : g (suc n) ≤ h (suc n)
    here = p (suc n) (omega arith)

    go : (In n u → sum g n < sum h n) → (u ≡ suc n) ⊎ (u ≡ suc n → ⊥) → sum g (suc n) < sum h (suc n)
    go r (inl e) = let z = rw e at l in omega (arith, below, z)
    go r (inr e) = omega (arith, here, r (omega arith))
