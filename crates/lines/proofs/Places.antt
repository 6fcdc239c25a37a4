-- Places in a row of numbers, and rows that have jobs only, each once.
use Rattle.std.proofs.Common.{◌≡◌, ℕ, zero, suc, ◌+◌, ◌-◌, ◌<◌, ◌≤◌, eqb, leb, ◌⊎◌, List, [], ◌∷◌, ◌++◌, length, get_or, set, sym, refl, ap, ◌∙◌, inl, inr, arith}
use Rattle.std.proofs.lemmas.List.{get_or_append_left, get_or_push, get_or-set_same, get_or-set_other}
use Rattle.std.proofs.lemmas.Bool.{eq-eqb, ne_eqb, cases_eq, cases_lt}
use Rattle.std.proofs.lemmas.Bool.Decides.{nat_tests}
use Rattle.trees.specs.Sums.{sum, only, In}
use Rattle.trees.specs.Lines.{entry, place, Line}
use Rattle.trees.proofs.Places.{place_low, place_most, place_entry}
use Rattle.lines.specs.Checks.{Fit, stood}
use Rattle.trees.proofs.Sums.{sum_le, sum_eq, sum_zero, sum_ones, sum_add, sum_one}
use Rattle.lines.proofs.Sums.{sum_tight}

-- what one more at the end changes: those that stood keep their places, the new one has its own, all others are past the end
abbrev pub Moved : (ℕ → ℕ) → (ℕ → ℕ) → ℕ → ℕ → ℕ → Type 0
Moved s s' t j k =
    ((s k ≤ t) × (s' k ≡ s k))
    ⊎ (((k ≡ j) × (s k ≡ suc t) × (s' k ≡ suc t)) ⊎ ((k ≡ j → ⊥) × (s k ≡ suc t) × (s' k ≡ suc (suc t))))

pub place_push : (k x : ℕ) (l : List ℕ) → Moved (λ k. place k l) (λ k. place k (l ++ x ∷ [])) (length l) x k
place_push k x [] = go (cases_eq x k)
  where
    go : (x ≡ k) ⊎ (x ≡ k → ⊥) → Moved (λ k. place k []) (λ k. place k (x ∷ [])) 0 x k
    go (inl e) = inr (inl (sym e, refl, rw (eq-eqb x k e)))
    go (inr e) = inr (inr ((λ h. e (sym h)), refl, rw (ne_eqb x k e)))
place_push k x (y ∷ l) = go (place_push k x l) (cases_eq y k)
  where
    go : Moved (λ k. place k l) (λ k. place k (l ++ x ∷ [])) (length l) x k → (y ≡ k) ⊎ (y ≡ k → ⊥) → Moved (λ k. place k (y ∷ l)) (λ k. place k (y ∷ (l ++ x ∷ []))) (suc (length l)) x k
    go r (inl e) = inl (rw (eq-eqb y k e) (omega arith), rw (eq-eqb y k e))
    go (inl r) (inr e) = inl (rw (ne_eqb y k e) (omega arith), rw (ne_eqb y k e) (ap suc r.1))
    go (inr (inl r)) (inr e) = inr (inl (r.0, rw (ne_eqb y k e) (ap suc r.1), rw (ne_eqb y k e) (ap suc r.2)))
    go (inr (inr r)) (inr e) = inr (inr (r.0, rw (ne_eqb y k e) (ap suc r.1), rw (ne_eqb y k e) (ap suc r.2)))

-- those positions have m jobs
pub fit_count : (n : ℕ) (l : List ℕ) (m : ℕ) → m ≤ length l → Fit n l m → sum (λ k. only (leb (place k l) m) 1) n ≡ m
fit_count n l zero h f = sum_zero (λ k. only (leb (place k l) zero) 1) n (λ k i. let z = place_low k l in grind (arith, nat_tests))
fit_count n l (suc m) h f =
    let e = f (suc m) (omega arith) in
    omega (
      arith,
      fit_count n l m (omega arith) (λ p i. f p (omega arith)),
      sum_one (λ k. 1) (entry l (suc m)) n e.0,
      sum_add (λ k. only (leb (place k l) m) 1) (λ k. only (eqb k (entry l (suc m))) 1) n,
      sum_eq (λ k. only (leb (place k l) (suc m)) 1) (λ k. only (leb (place k l) m) 1 + only (eqb k (entry l (suc m))) 1) n (λ k i. each k (cases_eq k (entry l (suc m)))),
    )
  where
    there : (k : ℕ) → place k l ≡ suc m → k ≡ entry l (suc m)
    there k e = sym (place_entry k l (omega arith)) ∙ ap (entry l) e

    each : (k : ℕ) → (k ≡ entry l (suc m)) ⊎ (k ≡ entry l (suc m) → ⊥) → only (leb (place k l) (suc m)) 1 ≡ only (leb (place k l) m) 1 + only (eqb k (entry l (suc m))) 1
    each k (inl e) = let z : place k l ≡ suc m = ap (λ x. place x l) e ∙ (f (suc m) (omega arith)).1 in let y = eq-eqb k (entry l (suc m)) e in rw (y, z) (grind (arith, nat_tests))
    each k (inr e) = let z : place k l ≡ suc m → ⊥ = λ h. e (there k h) in let y = ne_eqb k (entry l (suc m)) e in rw y (grind (arith, nat_tests))

module _ (n : ℕ) (l : List ℕ) (m : ℕ) (h : m ≤ length l) (f : Fit n l m) where
  most : (k : ℕ) → In n k → only (leb (place k l) m) 1 ≤ 1
  most k i = grind (arith, nat_tests)

  pub fit_most : m ≤ n
  fit_most = omega (arith, fit_count n l m h f, sum_le (λ k. only (leb (place k l) m) 1) (λ k. 1) n most, sum_ones n)

  -- who stands there is a job
  pub fit_job : (k : ℕ) → place k l ≤ m → In n k
  fit_job k e = rw (place_entry k l (omega arith)) at (f (place k l) (place_low k l, e)).0

  -- as many positions as jobs: every job stands at one
  pub fit_all : n ≤ m → (k : ℕ) → In n k → place k l ≤ m
  fit_all e k i =
      let z = sum_tight (λ k. only (leb (place k l) m) 1) (λ k. 1) n most (omega (arith, fit_count n l m h f, sum_ones n)) k i in
      grind (arith, nat_tests)

  -- where every job has a place, there are as many
  pub fit_full : ((k : ℕ) → In n k → place k l ≤ m) → m ≡ n
  fit_full a = omega (arith, fit_count n l m h f, sum_eq (λ k. only (leb (place k l) m) 1) (λ k. 1) n (λ k i. let z = a k i in grind (arith, nat_tests)), sum_ones n)

-- one more job that does not yet stand
pub fit_push : (n : ℕ) (l : List ℕ) (x : ℕ) → Fit n l (length l) → In n x → length l < place x l → Fit n (l ++ x ∷ []) (suc (length l))
fit_push n l x f i h p j = go (cases_lt (length l) p)
  where
    go : (length l < p) ⊎ (p ≤ length l) → In n (entry (l ++ x ∷ []) p) × (place (entry (l ++ x ∷ []) p) (l ++ x ∷ []) ≡ p)
    go (inl a) =
        let e : entry (l ++ x ∷ []) p ≡ x = get_or_push l x 0 (p - 1) (omega arith) in
        rw e (i, grind (arith, place_push x x l))
    go (inr a) =
        let e : entry (l ++ x ∷ []) p ≡ entry l p = get_or_append_left l (x ∷ []) 0 (p - 1) (omega arith) in
        let r = f p (omega arith) in
        rw e (r.0, grind (arith, place_push (entry l p) x l))

-- one more position whose job does not stand earlier
module _ (n : ℕ) (l places : List ℕ) (m : ℕ) (inside : m < length l) (job : In n (get_or l m 0)) (f : Fit n l m) (filled : (k : ℕ) → get_or places k 0 ≡ stood l m k) (new : get_or places (get_or l m 0) 0 ≡ 0) where
  here : entry l (m + 1) ≡ get_or l m 0
  here = let e : m + 1 - 1 ≡ m = omega arith in ap (λ q. get_or l q 0) e

  last : place (get_or l m 0) l ≡ m + 1
  last = let z = filled (get_or l m 0) in let y : place (get_or l m 0) l ≤ m + 1 = rw here at (place_most l (m + 1) (omega arith)) in let x = place_low (get_or l m 0) l in grind (arith, nat_tests)

  pub fit_more : Fit n l (m + 1)
  fit_more p i = go (cases_eq p (m + 1))
    where
      go : (p ≡ m + 1) ⊎ (p ≡ m + 1 → ⊥) → In n (entry l p) × (place (entry l p) l ≡ p)
      go (inl e) = rw (e, here) (job, last)
      go (inr e) = f p (omega arith)

  pub filled_more : (v : ℕ) → v ≡ m + 1 → get_or l m 0 < length places → (k : ℕ) → get_or (set places (get_or l m 0) v) k 0 ≡ stood l (m + 1) k
  filled_more v e room k = go (cases_eq k (get_or l m 0))
    where
      go : (k ≡ get_or l m 0) ⊎ (k ≡ get_or l m 0 → ⊥) → get_or (set places (get_or l m 0) v) k 0 ≡ stood l (m + 1) k
      go (inl h) = rw (h, get_or-set_same places (get_or l m 0) v 0 room, last) (grind (arith, nat_tests))
      go (inr h) =
          let other : place k l ≡ m + 1 → ⊥ = λ z. h (sym (place_entry k l (omega arith)) ∙ ap (entry l) z ∙ here) in
          let z = filled k in
          get_or-set_other places (get_or l m 0) k v 0 h ∙ grind (arith, nat_tests)

-- a row of all jobs, each before its parent, is a line
pub fit_line : (n : ℕ) (par : ℕ → ℕ) (l : List ℕ) → length l ≡ n → Fit n l n → ((k : ℕ) → In n k → (par k ≡ 0 → ⊥) → place k l < place (par k) l) → Line n par l
fit_line n par l size f later = record {
  size = size;
  jobs = λ p i. (f p i).0;
  once = λ p q i j e. sym (f p i).1 ∙ ap (λ x. place x l) e ∙ (f q j).1;
  all = λ k i. (place_low k l, has k i);
  later = λ k i. before k i (cases_eq (par k) 0);
}
  where
    has : (k : ℕ) → In n k → place k l ≤ n
    has = fit_all n l n (omega arith) f (omega arith)

    nowhere : (n < place 0 l) ⊎ (place 0 l ≤ n) → n < place 0 l
    nowhere (inl h) = h
    nowhere (inr h) = absurd (omega (arith, (fit_job n l n (omega arith) f 0 h).0))

    before : (k : ℕ) → In n k → (par k ≡ 0) ⊎ (par k ≡ 0 → ⊥) → place k l < place (par k) l
    before k i (inl e) = let z = ap (λ x. place x l) e in omega (arith, has k i, nowhere (cases_lt n (place 0 l)))
    before k i (inr e) = later k i e
