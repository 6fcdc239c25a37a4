-- The least that a function gives for some of the numbers from one on, and what it finds for places of parents.
use Rattle.std.proofs.Common.{rules, ◌≡◌, List, ℕ, zero, suc, ◌+◌, ◌<◌, ◌≤◌, min, not, eqb, leb, ◌&&◌, cond, ◌⊎◌, Option, None, Some, MatchOption, sym, refl, ap, ◌∙◌, inl, inr, arith}
use Rattle.std.proofs.lemmas.Bool.{cases_eq, cases_lt, ne_eqb, le-leb, lt-leb}
use Rattle.std.specs.List.{filter_map, cons_option, range_with_len, fold, reduce}
use Rattle.trees.specs.Sums.{In}
use Rattle.trees.specs.Found.{Lowest}
use Rattle.lines.specs.Checks.{Early}

none_some : {v : ℕ} → None ≡ Some v → ⊥
none_some e = search rules

some_same : {v w : ℕ} → Some v ≡ Some w → v ≡ w
some_same e = search rules

module _ (h : ℕ → Option ℕ) where
  -- it gives m for one of n numbers, the first of which is a; m is at most what it gives for any of them
  abbrev Given : ℕ → ℕ → ℕ → Type 0
  Given n a m = (k : ℕ) × (a ≤ k) × (k < a + n) × (h k ≡ Some m)

  abbrev Most : ℕ → ℕ → ℕ → Type 0
  Most n a m = (k v : ℕ) → a ≤ k → k < a + n → h k ≡ Some v → m ≤ v

  abbrev Folded : ℕ → ℕ → ℕ → ℕ → Type 0
  Folded n a m r = (r ≤ m) × Most n a r × ((r ≡ m) ⊎ Given n a r)

  -- what is so of the numbers after the first, and of the first, is so of all
  more : (n a r : ℕ) → Given n (a + 1) r → Given (suc n) a r
  more n a r (k, p, q, e) = (k, omega arith, omega arith, e)

  most_more : (n a r : ℕ) → ((v : ℕ) → h a ≡ Some v → r ≤ v) → Most n (a + 1) r → Most (suc n) a r
  most_more n a r one rest k v p q e = elim (cases_eq k a) [
    | inl x ↦ one v (sym (ap h x) ∙ e)
    | inr x ↦ rest k v (omega (arith, x)) (omega arith) e
  ]

  folded : (n a m : ℕ) → Folded n a m (fold min m (filter_map h (range_with_len a n)))
  folded zero a m = (omega arith, λ k v p q. absurd (omega arith), inl refl)
  folded (suc n) a m = go (h a) refl (folded n (a + 1))
    where
      go : (o : Option ℕ) → h a ≡ o → ((b : ℕ) → Folded n (a + 1) b (fold min b (filter_map h (range_with_len (a + 1) n)))) → Folded (suc n) a m (fold min m (cons_option o (filter_map h (range_with_len (a + 1) n))))
      go None e rest =
          let f = rest m in
          (f.0, most_more n a _ (λ v x. absurd (none_some (sym e ∙ x))) f.1, elim f.2 [ inl x ↦ inl x | inr x ↦ inr (more n a _ x) ])
      go (Some v) e rest =
          let f = rest (min m v) in (
            omega (arith, f.0),
            most_more n a _ (λ w x. let y : v ≡ w = some_same (sym e ∙ x) in omega (arith, f.0)) f.1,
            elim f.2 [
              | inl x ↦ elim (cases_lt v m) [
                | inl y ↦ let z : fold min (min m v) (filter_map h (range_with_len (a + 1) n)) ≡ v = omega arith in inr (a, omega arith, omega arith, rw z e)
                | inr y ↦ inl (omega (arith, x))
              ]
              | inr x ↦ inr (more n a _ x)
            ],
          )

  pub least : (n a : ℕ) → MatchOption (reduce min (filter_map h (range_with_len a n))) ((k : ℕ) → a ≤ k → k < a + n → h k ≡ None) (λ r. Given n a r × Most n a r)
  least zero a = λ k p q. absurd (omega arith)
  least (suc n) a = go (h a) refl (least n (a + 1))
    where
      rest : List ℕ
      rest = filter_map h (range_with_len (a + 1) n)

      skip : h a ≡ None → (r : Option ℕ) → MatchOption r ((k : ℕ) → a + 1 ≤ k → k < a + 1 + n → h k ≡ None) (λ m. Given n (a + 1) m × Most n (a + 1) m) → MatchOption r ((k : ℕ) → a ≤ k → k < a + suc n → h k ≡ None) (λ m. Given (suc n) a m × Most (suc n) a m)
      skip e None f = λ k p q. elim (cases_eq k a) [ inl x ↦ ap h x ∙ e | inr x ↦ f k (omega (arith, x)) (omega arith) ]
      skip e (Some m) f = (more n a m f.0, most_more n a m (λ v x. absurd (none_some (sym e ∙ x))) f.1)

      go : (o : Option ℕ) → h a ≡ o → MatchOption (reduce min rest) ((k : ℕ) → a + 1 ≤ k → k < a + 1 + n → h k ≡ None) (λ m. Given n (a + 1) m × Most n (a + 1) m) → MatchOption (reduce min (cons_option o rest)) ((k : ℕ) → a ≤ k → k < a + suc n → h k ≡ None) (λ r. Given (suc n) a r × Most (suc n) a r)
      go None e f = skip e (reduce min rest) f
      go (Some v) e f =
          let g = folded n (a + 1) v in (
            elim g.2 [ inl x ↦ (a, omega arith, omega arith, rw x e) | inr x ↦ more n a _ x ],
            most_more n a _ (λ w x. let y : v ≡ w = some_same (sym e ∙ x) in omega (arith, g.0)) g.1,
          )

-- the lowest place of a parent that stands no later than one of its children
module _ (n : ℕ) (par at : ℕ → ℕ) where
  -- the place of the parent of c, if it stands no later than c
  abbrev pub early : ℕ → Option ℕ
  early c = cond (not (eqb (par c) 0) && leb (at (par c)) (at c)) (Some (at (par c))) None

  early_takes : (c : ℕ) → (par c ≡ 0 → ⊥) → at (par c) ≤ at c → early c ≡ Some (at (par c))
  early_takes c some late = rw (ne_eqb (par c) 0 some, le-leb (at (par c)) (at c) late) refl

  early_is : (c m : ℕ) → early c ≡ Some m → (par c ≡ 0 → ⊥) × (at (par c) ≡ m) × (m ≤ at c)
  early_is c m e = elim (cases_eq (par c) 0) [
    | inl x ↦ absurd (none_some (rw x at e))
    | inr some ↦ elim (cases_lt (at c) (at (par c))) [
      | inl x ↦ absurd (none_some (rw (ne_eqb (par c) 0 some, lt-leb (at (par c)) (at c) x) at e))
      | inr x ↦ let y : at (par c) ≡ m = some_same (rw (ne_eqb (par c) 0 some, le-leb (at (par c)) (at c) x) at e) in (some, y, omega arith)
    ]
  ]

  pub earliest : ((k : ℕ) → In n k → par k ≤ n) → ((k : ℕ) → In n k → In n (at k)) → (r : Option ℕ)
      → MatchOption r ((k : ℕ) → 1 ≤ k → k < 1 + n → early k ≡ None) (λ m. Given early n 1 m × Most early n 1 m)
      → Lowest n (Early n par at) r
  earliest inside placed None none =
      λ p i (c, ic, some, e, late). none_some (sym (none c ic.0 (omega (arith, ic))) ∙ early_takes c some (omega (arith, e, late)))
  earliest inside placed (Some m) (given, most) =
      let c = given.0 in
      let is = early_is c m given.3 in
      let ic : In n c = (given.1, omega (arith, given.2)) in
      let at_parent = placed (par c) (omega (arith, is.0), inside c ic) in (
        rw is.1 at at_parent,
        (c, ic, is.0, is.1, is.2),
        λ k ik below (d, id, some, e, late). omega (arith, below, e, most d (at (par d)) id.0 (omega (arith, id)) (early_takes d some (omega (arith, e, late)))),
      )
