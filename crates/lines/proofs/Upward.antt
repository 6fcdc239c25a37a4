-- The way up in a tree: n steps are enough for it, and it never comes back.
use Rattle.std.proofs.Common.{◌≡◌, ℕ, zero, suc, ◌+◌, ◌-◌, ◌<◌, ◌≤◌, true, cond, not, eqb, ltb, ◌⊎◌, refl, ap, ◌∙◌, inl, inr, arith}
use Rattle.std.proofs.lemmas.Bool.{eqb-true, eq-eqb, ne_eqb, and_parts, or_cases, cases_lt}
use Rattle.std.proofs.lemmas.Bool.Decides.{nat_tests}
use Rattle.trees.specs.Sums.{sum, only, In}
use Rattle.trees.specs.Trees.{Reaches, root, above, Tree, met, below}
use Rattle.trees.proofs.Sums.{sum_ones}
use Rattle.lines.proofs.Sums.{sum_lt}

-- how many steps the way up has
height : {par : ℕ → ℕ} {i : ℕ} → Reaches par i → ℕ
height (root e) = 0
height {par} {i} (above r) = cond (eqb (par i) 0) 0 (suc (height r))

height_same : {par : ℕ → ℕ} {i : ℕ} (a b : Reaches par i) → height a ≡ height b
unfolding height
height_same (root e) (root f) = refl
height_same {par} {i} (root e) (above b) = let z = eq-eqb (par i) 0 e in grind arith
height_same {par} {i} (above a) (root f) = let z = eq-eqb (par i) 0 f in grind arith
height_same {par} {i} (above a) (above b) = ap (λ h. cond (eqb (par i) 0) 0 (suc h)) (height_same a b)

height_up : {par : ℕ → ℕ} {i : ℕ} (a : Reaches par i) (b : Reaches par (par i)) → (par i ≡ 0 → ⊥) → height b < height a
unfolding height
height_up (root e) b h = absurd (h e)
height_up {par} {i} (above a) b h = let z = ne_eqb (par i) 0 h in let y = height_same a b in grind arith

pub cases_in : (n k : ℕ) → In n k ⊎ (In n k → ⊥)
cases_in n k = go (cases_lt k 1) (cases_lt n k)
  where
    go : (k < 1) ⊎ (1 ≤ k) → (n < k) ⊎ (k ≤ n) → In n k ⊎ (In n k → ⊥)
    go (inl h) r = inr (λ i. omega arith)
    go (inr h) (inl r) = inr (λ i. omega arith)
    go (inr h) (inr r) = inl (h, r)

-- a number for each job, from 1 to n, that rises on the way up
pub record Ranks (n : ℕ) (par : ℕ → ℕ) : Type 0 where
  pub parents : (k : ℕ) → In n k → par k ≤ n
  pub rank : ℕ → ℕ
  pub rank_in : (k : ℕ) → In n k → In n (rank k)
  pub rises : (k : ℕ) → In n k → (par k ≡ 0 → ⊥) → rank k < rank (par k)

module _ (n : ℕ) (par : ℕ → ℕ) (t : Tree n par) where
  high : (k : ℕ) → In n k ⊎ (In n k → ⊥) → ℕ
  high k (inl i) = height (t.reaches k i)
  high k (inr h) = 0

  high_up : (k : ℕ) → In n k → (par k ≡ 0 → ⊥) → (a : In n k ⊎ (In n k → ⊥)) (b : In n (par k) ⊎ (In n (par k) → ⊥)) → high (par k) b < high k a
  unfolding high
  high_up k i h (inl a) (inl b) = height_up (t.reaches k a) (t.reaches (par k) b) h
  high_up k i h (inl a) (inr b) = absurd (b (omega (arith, t.parents k i)))
  high_up k i h (inr a) b = absurd (a i)

  level : ℕ → ℕ
  level k = high k (cases_in n k)

  level_up : (k : ℕ) → In n k → (par k ≡ 0 → ⊥) → level (par k) < level k
  unfolding level
  level_up k i h = high_up k i h (cases_in n k) (cases_in n (par k))

  -- how many have fewer steps
  fewer : ℕ → ℕ
  fewer k = sum (λ x. only (ltb (level x) (level k)) 1) n

  fewer_up : (k : ℕ) → In n k → (par k ≡ 0 → ⊥) → fewer (par k) < fewer k
  unfolding fewer
  fewer_up k i h =
      let z = level_up k i h in
      sum_lt (λ x. only (ltb (level x) (level (par k))) 1) (λ x. only (ltb (level x) (level k)) 1) n (par k) (λ x j. grind (arith, nat_tests)) (omega (arith, t.parents k i)) (grind (arith, nat_tests))

  fewer_most : (k : ℕ) → In n k → fewer k < n
  unfolding fewer
  fewer_most k i =
      let z = sum_lt (λ x. only (ltb (level x) (level k)) 1) (λ x. 1) n k (λ x j. grind (arith, nat_tests)) i (grind (arith, nat_tests)) in
      omega (arith, sum_ones n)

  pub ranks : Ranks n par
  ranks = record {
    parents = t.parents;
    rank = λ k. n - fewer k;
    rank_in = λ k i. omega (arith, fewer_most k i);
    rises = λ k i h. omega (arith, fewer_up k i h, fewer_most k i);
  }

-- one step of the way
pub met_cases : (par : ℕ → ℕ) (d j k : ℕ) → met par (suc d) j k ≡ true → (par j ≡ 0 → ⊥) × ((par j ≡ k) ⊎ (met par d (par j) k ≡ true))
met_cases par d j k e = (
  (λ h. let z = (and_parts (not (eqb (par j) 0)) _ e).0 in grind (arith, nat_tests)),
  or_step (or_cases (eqb (par j) k) (met par d (par j) k) (and_parts (not (eqb (par j) 0)) _ e).1),
)
  where
    or_step : (eqb (par j) k ≡ true) ⊎ (met par d (par j) k ≡ true) → (par j ≡ k) ⊎ (met par d (par j) k ≡ true)
    or_step (inl h) = inl (eqb-true _ _ h)
    or_step (inr h) = inr h

met_make : (par : ℕ → ℕ) (d j k : ℕ) → (par j ≡ 0 → ⊥) → (par j ≡ k) ⊎ (met par d (par j) k ≡ true) → met par (suc d) j k ≡ true
met_make par d j k h (inl e) = let z = eq-eqb (par j) k e in let y = ne_eqb (par j) 0 h in grind arith
met_make par d j k h (inr e) = let y = ne_eqb (par j) 0 h in grind arith

pub no_way : (par : ℕ → ℕ) (j k : ℕ) → met par zero j k ≡ true → ⊥
no_way par j k m = let z : ◌≡◌ {A = ℕ} 0 1 = grind arith in omega arith

module _ (n : ℕ) (par : ℕ → ℕ) (t : Ranks n par) where
  -- a parent that is not 0 is a job
  pub par_job : (k : ℕ) → In n k → (par k ≡ 0 → ⊥) → In n (par k)
  par_job k i h = omega (arith, t.parents k i)

  met_enough : (d e j k : ℕ) → In n j → met par d j k ≡ true → n < t.rank j + e → met par e j k ≡ true
  met_enough zero e j k i m h = absurd (no_way par j k m)
  met_enough (suc d) zero j k i m h = absurd (omega (arith, t.rank_in j i))
  met_enough (suc d) (suc e) j k i m h = go (λ i x y. met_enough d e (par j) k i x y) (met_cases par d j k m)
    where
      go : (In n (par j) → met par d (par j) k ≡ true → n < t.rank (par j) + e → met par e (par j) k ≡ true) → (par j ≡ 0 → ⊥) × ((par j ≡ k) ⊎ (met par d (par j) k ≡ true)) → met par (suc e) j k ≡ true
      go r c = met_make par e j k c.0 (by c.1)
        where
          by : (par j ≡ k) ⊎ (met par d (par j) k ≡ true) → (par j ≡ k) ⊎ (met par e (par j) k ≡ true)
          by (inl x) = inl x
          by (inr x) = inr (r (par_job j i c.0) x (omega (arith, t.rises j i c.0)))

  -- whatever is met, by however many steps, is above
  pub enough : (d j k : ℕ) → In n j → met par d j k ≡ true → below n par j k ≡ true
  enough d j k i m = met_enough d n j k i m (omega (arith, t.rank_in j i))

  -- the first step of the way up
  pub first_step : (j k : ℕ) → In n j → below n par j k ≡ true → (par j ≡ 0 → ⊥) × ((par j ≡ k) ⊎ (below n par (par j) k ≡ true))
  first_step j k i e = met_cases par n j k (met_enough n (suc n) j k i e (omega arith))

  pub one_up : (j k : ℕ) → In n j → (par j ≡ 0 → ⊥) → (par j ≡ k) ⊎ (below n par (par j) k ≡ true) → below n par j k ≡ true
  one_up j k i h c = enough (suc n) j k i (met_make par n j k h c)

  -- who is met ranks higher, and is a job
  met_rises : (d j k : ℕ) → In n j → met par d j k ≡ true → (t.rank j < t.rank k) × In n k
  met_rises zero j k i m = absurd (no_way par j k m)
  met_rises (suc d) j k i m = go (λ i x. met_rises d (par j) k i x) (met_cases par d j k m)
    where
      go : (In n (par j) → met par d (par j) k ≡ true → (t.rank (par j) < t.rank k) × In n k) → (par j ≡ 0 → ⊥) × ((par j ≡ k) ⊎ (met par d (par j) k ≡ true)) → (t.rank j < t.rank k) × In n k
      go r c = by c.1
        where
          by : (par j ≡ k) ⊎ (met par d (par j) k ≡ true) → (t.rank j < t.rank k) × In n k
          by (inl x) = let y = t.rises j i c.0 in let z = par_job j i c.0 in (rw x at y, rw x at z)
          by (inr x) = let z = r (par_job j i c.0) x in (omega (arith, t.rises j i c.0, z.0), z.1)

  pub rises_up : (j k : ℕ) → In n j → below n par j k ≡ true → (t.rank j < t.rank k) × In n k
  rises_up j k i m = met_rises n j k i m

  pub below_trans : (d j k m : ℕ) → In n j → met par d j k ≡ true → below n par k m ≡ true → below n par j m ≡ true
  below_trans zero j k m i a b = absurd (no_way par j k a)
  below_trans (suc d) j k m i a b = go (λ i x. below_trans d (par j) k m i x b) (met_cases par d j k a)
    where
      go : (In n (par j) → met par d (par j) k ≡ true → below n par (par j) m ≡ true) → (par j ≡ 0 → ⊥) × ((par j ≡ k) ⊎ (met par d (par j) k ≡ true)) → below n par j m ≡ true
      go r c = one_up j m i c.0 (inr (by c.1))
        where
          by : (par j ≡ k) ⊎ (met par d (par j) k ≡ true) → below n par (par j) m ≡ true
          by (inl x) = rw x b
          by (inr x) = r (par_job j i c.0) x

  -- siblings are not above each other
  pub no_kin : (c e : ℕ) → In n c → In n e → par c ≡ par e → below n par c e ≡ true → ⊥
  no_kin c e ic ie p h = go (first_step c e ic h)
    where
      go : (par c ≡ 0 → ⊥) × ((par c ≡ e) ⊎ (below n par (par c) e ≡ true)) → ⊥
      go v = by v.1
        where
          up : t.rank e < t.rank (par e)
          up = t.rises e ie (λ z. v.0 (p ∙ z))

          same : t.rank (par c) ≡ t.rank (par e)
          same = ap t.rank p

          by : (par c ≡ e) ⊎ (below n par (par c) e ≡ true) → ⊥
          by (inl x) = let y = ap t.rank x in omega (arith, up, same)
          by (inr x) = omega (arith, up, same, (rises_up (par c) e (par_job c ic v.0) x).0)
