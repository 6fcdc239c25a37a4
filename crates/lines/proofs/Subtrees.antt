-- A subtree is its job and the subtrees of its children.
use Rattle.std.proofs.Common.{◌≡◌, ℕ, zero, suc, ◌+◌, ◌<◌, true, false, eqb, ◌⊎◌, sym, refl, ◌∙◌, inl, inr, arith}
use Rattle.std.proofs.lemmas.Bool.{eqb-true, eq-eqb, ne_eqb, cases_Bool, cases_eq, or_cases, or_left, or_right}
use Rattle.std.proofs.lemmas.Bool.Decides.{nat_tests}
use Rattle.trees.specs.Sums.{sum, only, In}
use Rattle.trees.specs.Trees.{met, below}
use Rattle.lines.specs.Spans.{within, members}
use Rattle.trees.proofs.Sums.{sum_eq, sum_zero, sum_one, sum_add}
use Rattle.lines.proofs.Sums.{sum_swap}
use Rattle.lines.proofs.Upward.{Ranks, met_cases, no_way, par_job, first_step, one_up, rises_up, below_trans, no_kin}

module _ (n : ℕ) (par : ℕ → ℕ) (t : Ranks n par) where
  -- the child of i on the way from k up to i
  child : (d k i : ℕ) → In n k → met par d k i ≡ true → (c : ℕ) × In n c × (par c ≡ i) × (within n par c k ≡ true)
  child zero k i ik m = absurd (no_way par k i m)
  child (suc d) k i ik m = go (λ j x. child d (par k) i j x) (met_cases par d k i m)
    where
      Child : ℕ → Type 0
      Child k = (c : ℕ) × In n c × (par c ≡ i) × (within n par c k ≡ true)

      go : (In n (par k) → met par d (par k) i ≡ true → Child (par k)) → (par k ≡ 0 → ⊥) × ((par k ≡ i) ⊎ (met par d (par k) i ≡ true)) → Child k
      go r c = by c.1
        where
          step : (x : ℕ) → (eqb (par k) x ≡ true) ⊎ (below n par (par k) x ≡ true) → (par k ≡ x) ⊎ (below n par (par k) x ≡ true)
          step x (inl h) = inl (eqb-true _ _ h)
          step x (inr h) = inr h

          up : Child (par k) → Child k
          up w = (w.0, w.1, w.2, or_right _ _ (one_up n par t k w.0 ik c.0 (step w.0 (or_cases _ _ w.3))))

          by : (par k ≡ i) ⊎ (met par d (par k) i ≡ true) → Child k
          by (inl x) = (k, ik, x, or_left _ _ (eq-eqb k k refl))
          by (inr x) = up (r (par_job n par t k ik c.0) x)

  pub toward : (k i : ℕ) → In n k → below n par k i ≡ true → (c : ℕ) × In n c × (par c ≡ i) × (within n par c k ≡ true)
  toward k i ik h = child n k i ik h

  abbrev Kin : ℕ → ℕ → Type 0
  Kin c e = (c ≡ e) ⊎ ((below n par c e ≡ true) ⊎ (below n par e c ≡ true))

  -- of two on the way up from k one is on the way up from the other
  chain : (d k c e : ℕ) → In n k → n < t.rank k + d → below n par k c ≡ true → below n par k e ≡ true → Kin c e
  chain zero k c e ik f m h = absurd (omega (arith, t.rank_in k ik))
  chain (suc d) k c e ik f m h = go (λ j x y z. chain d (par k) c e j x y z) (first_step n par t k c ik m) (first_step n par t k e ik h)
    where
      go : (In n (par k) → n < t.rank (par k) + d → below n par (par k) c ≡ true → below n par (par k) e ≡ true → Kin c e) → (par k ≡ 0 → ⊥) × ((par k ≡ c) ⊎ (below n par (par k) c ≡ true)) → (par k ≡ 0 → ⊥) × ((par k ≡ e) ⊎ (below n par (par k) e ≡ true)) → Kin c e
      go r v w = by v.1 w.1
        where
          by : (par k ≡ c) ⊎ (below n par (par k) c ≡ true) → (par k ≡ e) ⊎ (below n par (par k) e ≡ true) → Kin c e
          by (inl x) (inl y) = inl (sym x ∙ y)
          by (inl x) (inr y) = inr (inl (rw x at y))
          by (inr x) (inl y) = inr (inr (rw y at x))
          by (inr x) (inr y) = r (par_job n par t k ik v.0) (omega (arith, t.rises k ik v.0)) x y

  unique : (k c e : ℕ) → In n k → In n c → In n e → par c ≡ par e → within n par c k ≡ true → within n par e k ≡ true → c ≡ e
  unique k c e ik ic ie p x y = go (or_cases _ _ x) (or_cases _ _ y)
    where
      kin : Kin c e → c ≡ e
      kin (inl z) = z
      kin (inr (inl z)) = absurd (no_kin n par t c e ic ie p z)
      kin (inr (inr z)) = absurd (no_kin n par t e c ie ic (sym p) z)

      go : (eqb k c ≡ true) ⊎ (below n par k c ≡ true) → (eqb k e ≡ true) ⊎ (below n par k e ≡ true) → c ≡ e
      go (inl a) (inl b) = sym (eqb-true k c a) ∙ eqb-true k e b
      go (inl a) (inr b) = kin (inr (inl (rw (eqb-true k c a) at b)))
      go (inr a) (inl b) = kin (inr (inr (rw (eqb-true k e b) at a)))
      go (inr a) (inr b) = kin (chain n k c e ik (omega (arith, t.rank_in k ik)) a b)

  -- who is within a child of i is below i
  pub lifted : (i k c : ℕ) → In n i → In n k → In n c → par c ≡ i → within n par c k ≡ true → below n par k i ≡ true
  lifted i k c ii ik ic p x = go (or_cases _ _ x)
    where
      up : below n par c i ≡ true
      up = one_up n par t c i ic (λ h. omega arith) (inl p)

      go : (eqb k c ≡ true) ⊎ (below n par k c ≡ true) → below n par k i ≡ true
      go (inl a) = rw (eqb-true k c a) up
      go (inr a) = below_trans n par t n k c i ik a up

  -- who is below i is within just one child of i
  kid_count : (i k : ℕ) → In n i → In n k → sum (λ c. only (eqb (par c) i) (only (within n par c k) 1)) n ≡ only (below n par k i) 1
  kid_count i k ii ik = go (cases_Bool (below n par k i))
    where
      go : (below n par k i ≡ true) ⊎ (below n par k i ≡ false) → sum (λ c. only (eqb (par c) i) (only (within n par c k) 1)) n ≡ only (below n par k i) 1
      go (inr h) = sum_zero (λ c. only (eqb (par c) i) (only (within n par c k) 1)) n (λ c j. let z = lifted i k c ii ik j in grind (arith, nat_tests)) ∙ sym (rw h)
      go (inl h) = sum_eq (λ c. only (eqb (par c) i) (only (within n par c k) 1)) (λ c. only (eqb c w.0) 1) n (λ c j. by c j (cases_eq c w.0)) ∙ sum_one (λ c. 1) w.0 n w.1 ∙ sym (rw h)
        where
          w : (c : ℕ) × In n c × (par c ≡ i) × (within n par c k ≡ true)
          w = toward k i ik h

          by : (c : ℕ) → In n c → (c ≡ w.0) ⊎ (c ≡ w.0 → ⊥) → only (eqb (par c) i) (only (within n par c k) 1) ≡ only (eqb c w.0) 1
          by c j (inl e) = rw (e, eq-eqb (par w.0) i w.2, w.3, eq-eqb w.0 w.0 refl)
          by c j (inr e) = rw (ne_eqb c w.0 e) (out (cases_eq (par c) i) (cases_Bool (within n par c k)))
            where
              out : (par c ≡ i) ⊎ (par c ≡ i → ⊥) → (within n par c k ≡ true) ⊎ (within n par c k ≡ false) → only (eqb (par c) i) (only (within n par c k) 1) ≡ 0
              out (inl a) (inl b) = absurd (e (unique k c w.0 ik j w.1 (a ∙ sym w.2) b w.3))
              out (inl a) (inr b) = rw (eq-eqb _ _ a, b)
              out (inr a) b = rw (ne_eqb _ _ a)

  pub members_step : (i : ℕ) → In n i → members n par i ≡ suc (sum (λ c. only (eqb (par c) i) (members n par c)) n)
  members_step i ii =
      omega (
        arith,
        sum_eq (λ k. only (within n par i k) 1) (λ k. only (eqb k i) 1 + only (below n par k i) 1) n (λ k j. let z = rises_up n par t k i j in apart k j),
        sum_add (λ k. only (eqb k i) 1) (λ k. only (below n par k i) 1) n,
        sum_one (λ k. 1) i n ii,
        sum_eq (λ k. only (below n par k i) 1) (λ k. sum (λ c. only (eqb (par c) i) (only (within n par c k) 1)) n) n (λ k j. sym (kid_count i k ii j)),
        sum_swap (λ k c. only (eqb (par c) i) (only (within n par c k) 1)) n n,
        sum_eq (λ c. sum (λ k. only (eqb (par c) i) (only (within n par c k) 1)) n) (λ c. only (eqb (par c) i) (members n par c)) n (λ c j. each c (cases_eq (par c) i)),
      )
    where
      apart : (k : ℕ) → In n k → only (within n par i k) 1 ≡ only (eqb k i) 1 + only (below n par k i) 1
      apart k j = go (cases_eq k i)
        where
          self : below n par k k ≡ true → ⊥
          self h = omega (arith, (rises_up n par t k k j h).0)

          go : (k ≡ i) ⊎ (k ≡ i → ⊥) → only (within n par i k) 1 ≡ only (eqb k i) 1 + only (below n par k i) 1
          go (inl e) = let z : below n par k i ≡ true → ⊥ = λ h. self (rw (sym e) at h) in let y = eq-eqb k i e in rw y (grind arith)
          go (inr e) = rw (ne_eqb k i e) (omega arith)

      each : (c : ℕ) → (par c ≡ i) ⊎ (par c ≡ i → ⊥) → sum (λ k. only (eqb (par c) i) (only (within n par c k) 1)) n ≡ only (eqb (par c) i) (members n par c)
      each c (inl e) = rw (eq-eqb _ _ e)
      each c (inr e) = rw (ne_eqb _ _ e) (sum_zero (λ k. 0) n (λ k i. refl))
