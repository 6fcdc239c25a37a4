-- A sum along a chain of children, on one axis: f is the output of each job.
use Rattle.std.proofs.Common.{◌≡◌, ℕ, ◌+◌, ◌-◌, ◌<◌, ◌≤◌, cond, ◌&&◌, ◌||◌, eqb, ltb, ◌⊎◌, ap, ◌∙◌, inl, inr, arith}
use Rattle.std.proofs.lemmas.Bool.{cases_eq, eq-eqb, ne_eqb}
use Rattle.std.proofs.lemmas.Bool.Decides.{nat_tests}
use Rattle.trees.specs.Sums.{In, sum, only}
use Rattle.trees.specs.Trees.{NextChild, kids}
use Rattle.trees.proofs.Sums.{sum_le, sum_eq, sum_zero, sum_add, sum_one}

-- c is a child of i, or 0
abbrev pub Child : ℕ → (ℕ → ℕ) → ℕ → ℕ → Type 0
Child n par i c = (c ≡ 0 → ⊥) → In n c × (par c ≡ i)

pub next_is_child : (n : ℕ) (par : ℕ → ℕ) (i low c : ℕ) → NextChild n par i low c → Child n par i c
next_is_child n par i low c s z = let t = s.some z in ((omega (arith, t.0), t.1), t.2)

module _ (n : ℕ) (par f : ℕ → ℕ) (i : ℕ) where
  -- the outputs of the children of i before the child c; of all if c is 0
  abbrev pub before : ℕ → ℕ
  before c = sum (λ k. only (eqb (par k) i && (eqb c 0 || ltb k c)) (f k)) n

  pub before_none : (c : ℕ) → NextChild n par i 0 c → before c ≡ 0
  before_none c s = sum_zero (λ k. only (eqb (par k) i && (eqb c 0 || ltb k c)) (f k)) n (λ k j. go k j (cases_eq c 0))
    where
      go : (k : ℕ) → In n k → (c ≡ 0) ⊎ (c ≡ 0 → ⊥) → only (eqb (par k) i && (eqb c 0 || ltb k c)) (f k) ≡ 0
      go k j (inl e) = let z = s.none e k (omega arith) j.1 in grind (arith, nat_tests)
      go k j (inr e) = let z = (s.some e).3 k (omega arith) in grind (arith, nat_tests)

  pub before_all : before 0 ≡ kids n par f i
  before_all = sum_eq (λ k. only (eqb (par k) i && (eqb 0 0 || ltb k 0)) (f k)) (λ k. only (eqb (par k) i) (f k)) n (λ k j. grind (arith, nat_tests))

  pub before_most : (c : ℕ) → before c ≤ sum f n
  before_most c = sum_le (λ k. only (eqb (par k) i && (eqb c 0 || ltb k c)) (f k)) f n (λ k j. grind (arith, nat_tests))

  module _ (c d : ℕ) (there : c ≡ 0 → ⊥) (inside : In n c) (own : par c ≡ i) (s : NextChild n par i c d) where
    step : (k : ℕ) → In n k → (d ≡ 0) ⊎ (d ≡ 0 → ⊥) → only (eqb (par k) i && (eqb d 0 || ltb k d)) (f k) ≡ only (eqb (par k) i && (eqb c 0 || ltb k c)) (f k) + only (eqb k c) (f k)
    step k j (inl e) = let z : c < k → par k ≡ i → ⊥ = λ h. s.none e k h j.1 in let y : k ≡ c → par k ≡ i = λ h. ap par h ∙ own in grind (arith, nat_tests)
    step k j (inr e) = let t = s.some e in let z = t.3 k in let x = t.0 in let y : k ≡ c → par k ≡ i = λ h. ap par h ∙ own in grind (arith, nat_tests)

    pub before_next : before d ≡ before c + f c
    before_next =
        omega (
          arith,
          sum_eq (λ k. only (eqb (par k) i && (eqb d 0 || ltb k d)) (f k)) (λ k. only (eqb (par k) i && (eqb c 0 || ltb k c)) (f k) + only (eqb k c) (f k)) n (λ k j. step k j (cases_eq d 0)),
          sum_add (λ k. only (eqb (par k) i && (eqb c 0 || ltb k c)) (f k)) (λ k. only (eqb k c) (f k)) n,
          sum_one f c n inside,
        )

    -- the rest of the chain is shorter
    pub chain_less : cond (eqb d 0) 0 (n + 1 - d) < cond (eqb c 0) 0 (n + 1 - c)
    chain_less = go (cases_eq d 0)
      where
        go : (d ≡ 0) ⊎ (d ≡ 0 → ⊥) → cond (eqb d 0) 0 (n + 1 - d) < cond (eqb c 0) 0 (n + 1 - c)
        go (inl e) = rw (eq-eqb d 0 e, ne_eqb c 0 there) (omega arith)
        go (inr e) = let t = s.some e in rw (ne_eqb d 0 e, ne_eqb c 0 there) (omega (arith, t.0, t.1))
