-- Tests over the numbers 1 to n: whether one passes, how many do, and what a test on jobs tells.
use Rattle.std.proofs.Common.{◌≡◌, ℕ, zero, suc, ◌+◌, ◌≤◌, Bool, true, false, not, ◌&&◌, ◌||◌, eqb, ◌⊎◌, sym, refl, ap, ◌∙◌, inl, inr, arith}
use Rattle.std.proofs.lemmas.Bool.{cases_Bool, cases_eq, true≢false, or_cases, eq-eqb}
use Rattle.std.proofs.lemmas.Bool.Decides.{nat_tests}
use Rattle.trees.specs.Sums.{In, only, any}
use Rattle.trees.proofs.Sums.{sum_eq, sum_zero, sum_add, sum_one, sum_ones}
use Rattle.lines.proofs.Sums.{sum_tight}
use Rattle.jobs.specs.declared.State.{State}
use Rattle.jobs.specs.declared.State.TheVariants.{Waiting, Done}
use Rattle.logs.specs.Stands.{is_done, tally, startable}

module _ (p : ℕ → Bool) where
  pub any_from : (n k : ℕ) → In n k → p k ≡ true → any p n ≡ true
  any_from zero k i e = absurd (omega arith)
  any_from (suc n) k i e = go (λ j. any_from n k j e) (cases_eq k (suc n))
    where
      go : (In n k → any p n ≡ true) → (k ≡ suc n) ⊎ (k ≡ suc n → ⊥) → (p (suc n) || any p n) ≡ true
      go r (inl q) = let h : p (suc n) ≡ true = ap p (sym q) ∙ e in grind arith
      go r (inr q) = let h = r (omega arith) in grind arith

  pub any_some : (n : ℕ) → any p n ≡ true → (k : ℕ) × In n k × (p k ≡ true)
  any_some zero e = absurd (true≢false (sym e))
  any_some (suc n) e = go (λ a. any_some n a) (or_cases (p (suc n)) (any p n) e)
    where
      go : (any p n ≡ true → (k : ℕ) × In n k × (p k ≡ true)) → (p (suc n) ≡ true) ⊎ (any p n ≡ true) → (k : ℕ) × In (suc n) k × (p k ≡ true)
      go r (inl h) = (suc n, (omega arith, omega arith), h)
      go r (inr h) = let f = r h in (f.0, (f.1.0, omega (arith, f.1.1)), f.2)

  pub any_false : (n : ℕ) → any p n ≡ false → (k : ℕ) → In n k → p k ≡ false
  any_false n e k i = go (cases_Bool (p k))
    where
      go : (p k ≡ true) ⊎ (p k ≡ false) → p k ≡ false
      go (inl h) = absurd (true≢false (sym (any_from n k i h) ∙ e))
      go (inr h) = h

  pub any_none : (n : ℕ) → ((k : ℕ) → In n k → p k ≡ false) → any p n ≡ false
  any_none n f = go (cases_Bool (any p n))
    where
      go : (any p n ≡ true) ⊎ (any p n ≡ false) → any p n ≡ false
      go (inl h) = let s = any_some n h in absurd (true≢false (sym s.2 ∙ f s.0 s.1))
      go (inr h) = h

-- where at most one passes, it is as many as whether one does
pub tally_any : (p : ℕ → Bool) (n : ℕ) → ((j k : ℕ) → In n j → In n k → p j ≡ true → p k ≡ true → j ≡ k) → tally p n ≡ only (any p n) 1
tally_any p n one = go (cases_Bool (any p n))
  where
    go : (any p n ≡ true) ⊎ (any p n ≡ false) → tally p n ≡ only (any p n) 1
    go (inr h) = sum_zero (λ k. only (p k) 1) n (λ k i. ap (λ b. only b 1) (any_false p n h k i)) ∙ sym (ap (λ b. only b 1) h)
    go (inl h) =
        let s = any_some p n h in
        let same : (k : ℕ) → In n k → only (p k) 1 ≡ only (eqb k s.0) 1 = λ k i. each k i (cases_eq k s.0) (cases_Bool (p k)) in
        sum_eq (λ k. only (p k) 1) (λ k. only (eqb k s.0) 1) n same ∙ sum_one (λ k. 1) s.0 n s.1 ∙ sym (ap (λ b. only b 1) h)
      where
        each : (k : ℕ) → In n k → (k ≡ (any_some p n h).0) ⊎ (k ≡ (any_some p n h).0 → ⊥) → (p k ≡ true) ⊎ (p k ≡ false) → only (p k) 1 ≡ only (eqb k (any_some p n h).0) 1
        each k i (inl q) b = let z : p k ≡ true = ap p q ∙ (any_some p n h).2 in rw (z, eq-eqb _ _ q)
        each k i (inr q) (inl z) = absurd (q (one k (any_some p n h).0 i (any_some p n h).1 z (any_some p n h).2))
        each k i (inr q) (inr z) = rw z (grind (arith, nat_tests))

-- one number more passes
pub tally_more : (p q : ℕ → Bool) (n j : ℕ) → In n j → p j ≡ false → q j ≡ true → ((k : ℕ) → (k ≡ j → ⊥) → q k ≡ p k) → tally q n ≡ tally p n + 1
tally_more p q n j i low high same =
    omega (
      arith,
      sum_eq (λ k. only (q k) 1) (λ k. only (p k) 1 + only (eqb k j) 1) n (λ k h. each k (cases_eq k j)),
      sum_add (λ k. only (p k) 1) (λ k. only (eqb k j) 1) n,
      sum_one (λ k. 1) j n i,
    )
  where
    each : (k : ℕ) → (k ≡ j) ⊎ (k ≡ j → ⊥) → only (q k) 1 ≡ only (p k) 1 + only (eqb k j) 1
    each k (inl e) = let a : p k ≡ false = ap p e ∙ low in let b : q k ≡ true = ap q e ∙ high in rw (a, b, eq-eqb k j e)
    each k (inr e) = rw (same k e) (grind (arith, nat_tests))

pub tally_same : (p q : ℕ → Bool) (n : ℕ) → ((k : ℕ) → In n k → q k ≡ p k) → tally q n ≡ tally p n
tally_same p q n same = sum_eq (λ k. only (q k) 1) (λ k. only (p k) 1) n (λ k i. ap (λ b. only b 1) (same k i))

pub tally_none : (p : ℕ → Bool) (n : ℕ) → ((k : ℕ) → In n k → p k ≡ false) → tally p n ≡ 0
tally_none p n none = sum_zero (λ k. only (p k) 1) n (λ k i. ap (λ b. only b 1) (none k i))

only_one : (b : Bool) → only b 1 ≤ 1
only_one true = omega arith
only_one false = omega arith

-- all pass
pub tally_all : (p : ℕ → Bool) (n : ℕ) → tally p n ≡ n → (k : ℕ) → In n k → p k ≡ true
tally_all p n e k i =
    let z = sum_tight (λ k. only (p k) 1) (λ k. 1) n (λ k i. only_one (p k)) (omega (arith, sum_ones n)) k i in
    go (cases_Bool (p k)) z
  where
    go : (p k ≡ true) ⊎ (p k ≡ false) → only (p k) 1 ≡ 1 → p k ≡ true
    go (inl h) z = h
    go (inr h) z = let y = rw h at z in absurd (omega arith)

-- those that pass and those that do not are all
pub tally_not : (p : ℕ → Bool) (n : ℕ) → tally p n + tally (λ k. not (p k)) n ≡ n
tally_not p n =
    omega (
      arith,
      sum_add (λ k. only (p k) 1) (λ k. only (not (p k)) 1) n,
      sum_eq (λ k. only (p k) 1 + only (not (p k)) 1) (λ k. 1) n (λ k i. each (p k)),
      sum_ones n,
    )
  where
    each : (b : Bool) → only b 1 + only (not b) 1 ≡ 1
    each true = refl
    each false = refl

-- what `startable` tells, both ways
module _ (n : ℕ) (par : ℕ → ℕ) (t : ℕ → State) (j : ℕ) where
  abbrev open_child : ℕ → Bool
  open_child k = eqb (par k) j && not (is_done (t k))

  pub startable_true : startable n par t j ≡ true → (t j ≡ Waiting) × ((k : ℕ) → In n k → par k ≡ j → t k ≡ Done)
  startable_true e = let z = any_false open_child n in (grind (arith, nat_tests), λ k i h. grind (arith, nat_tests))

  pub startable_from : t j ≡ Waiting → ((k : ℕ) → In n k → par k ≡ j → t k ≡ Done) → startable n par t j ≡ true
  startable_from w d = let z = any_none open_child n (λ k i. let e = d k i in grind (arith, nat_tests)) in grind (arith, nat_tests)
