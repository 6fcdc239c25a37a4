-- What the pass over a line has gathered after its first m positions: sizes and first places of subtrees.
use Rattle.std.proofs.Common.{◌≡◌, ℕ, ◌+◌, ◌-◌, ◌*◌, ◌<◌, ◌≤◌, min, true, cond, ◌&&◌, eqb, leb, ◌⊎◌, List, length, get_or, set, sym, refl, ap, ◌∙◌, inl, inr, arith}
use Rattle.std.proofs.lemmas.List.{get_or-set_same, get_or-set_other}
use Rattle.std.proofs.lemmas.Bool.{eqb-true, eq-eqb, ne_eqb, cases_eq, cases_lt, or_cases, or_left, or_right}
use Rattle.std.proofs.lemmas.Bool.Decides.{nat_tests}
use Rattle.trees.specs.Sums.{sum, only, In}
use Rattle.trees.specs.Trees.{Tree, below}
use Rattle.trees.specs.Lines.{entry, place, Line}
use Rattle.lines.specs.declared.apart.Span.{Span}
use Rattle.lines.specs.Spans.{within, members, Begins, span_of}
use Rattle.trees.proofs.Sums.{sum_most, sum_le, sum_eq, sum_zero, sum_one, sum_add, sum_ones}
use Rattle.lines.proofs.Upward.{Ranks, ranks}
use Rattle.trees.proofs.Places.{place_low, place_entry}
use Rattle.lines.proofs.Subtrees.{toward, lifted, members_step}
use Rattle.lines.proofs.Spans.{fit}

-- the size in the span of x: 1, and the sizes of its children that were passed
abbrev pub gathered : ℕ → (ℕ → ℕ) → List ℕ → ℕ → ℕ → ℕ
gathered n par row m x = 1 + sum (λ c. only (eqb (par c) x && leb (place c row) m) (members n par c)) n

-- the first places in the spans
pub record Lows (n : ℕ) (par : ℕ → ℕ) (row : List ℕ) (low : ℕ → ℕ) (m : ℕ) : Type 0 where
  pub own : (x : ℕ) → In n x → low x ≤ place x row
  pub passed : (c k : ℕ) → In n c → In n k → (par c ≡ 0 → ⊥) → place c row ≤ m → within n par c k ≡ true → low (par c) ≤ place k row
  pub held : (x : ℕ) → In n x → (k : ℕ) × In n k × (within n par x k ≡ true) × (low x ≡ place k row)

-- a field of the span at k, after y was put at i
pub field_put : (f : Span → ℕ) (spans : List Span) (i : ℕ) (y : Span) (k : ℕ) → i < length spans → f (span_of (set spans i y) k) ≡ cond (eqb k i) (f y) (f (span_of spans k))
field_put f spans i y k h = go (cases_eq k i)
  where
    go : (k ≡ i) ⊎ (k ≡ i → ⊥) → f (span_of (set spans i y) k) ≡ cond (eqb k i) (f y) (f (span_of spans k))
    go (inl e) = rw (e, eq-eqb i i refl) (ap f (get_or-set_same spans i y (record { size = 0; low = 0 }) h))
    go (inr e) = rw (ne_eqb k i e) (ap f (get_or-set_other spans i k y (record { size = 0; low = 0 }) e))

pub members_most : (n : ℕ) (par : ℕ → ℕ) (i : ℕ) → members n par i ≤ n
members_most n par i = omega (arith, sum_le (λ k. only (within n par i k) 1) (λ k. 1) n (λ k j. grind (arith, nat_tests)), sum_ones n)

pub gathered_most : (n : ℕ) (par : ℕ → ℕ) (row : List ℕ) (m x : ℕ) → n ≤ 4095 → gathered n par row m x ≤ 1 + n * 4095
gathered_most n par row m x h =
    let z = sum_most (λ c. only (eqb (par c) x && leb (place c row) m) (members n par c)) 4095 n (λ c i. let y = members_most n par c in grind (arith, nat_tests)) in
    grind (arith, nat_tests)

module _ (n : ℕ) (par : ℕ → ℕ) (row : List ℕ) (tree : Tree n par) (line : Line n par row) where
  rank : Ranks n par
  rank = ranks n par tree

  pub gathered_none : (x : ℕ) → gathered n par row 0 x ≡ 1
  gathered_none x =
      let z = sum_zero (λ c. only (eqb (par c) x && leb (place c row) 0) (members n par c)) n (λ c i. let b = place_low c row in grind (arith, nat_tests)) in
      grind (arith, nat_tests)

  pub gathered_all : (x : ℕ) → In n x → gathered n par row n x ≡ members n par x
  gathered_all x i =
      let z = sum_eq (λ c. only (eqb (par c) x && leb (place c row) n) (members n par c)) (λ c. only (eqb (par c) x) (members n par c)) n (λ c j. let b = line.all c j in grind (arith, nat_tests)) in
      let y = members_step n par rank x i in
      grind (arith, nat_tests)

  -- where all children of i were passed, its span has the first place
  lows_least : (low : ℕ → ℕ) (m : ℕ) → Lows n par row low m → (i : ℕ) → In n i → ((c : ℕ) → In n c → par c ≡ i → place c row ≤ m) → (k : ℕ) → In n k → within n par i k ≡ true → low i ≤ place k row
  lows_least low m l i ii all k ik h = go (or_cases _ _ h)
    where
      go : (eqb k i ≡ true) ⊎ (below n par k i ≡ true) → low i ≤ place k row
      go (inl e) = omega (arith, l.own i ii, ap (λ x. place x row) (eqb-true k i e))
      go (inr e) =
          let w = toward n par rank k i ik e in
          omega (arith, ap low w.2, l.passed w.0 k w.1 ik (λ z. omega (arith, w.2)) (all w.0 w.1 w.2) w.3)

  module _ (m : ℕ) (inside : m < length row) where
    pub job_in : In n (get_or row m 0)
    job_in = let e : m + 1 - 1 ≡ m = omega arith in rw e at (line.jobs (m + 1) (omega (arith, line.size)))

    job_place : place (get_or row m 0) row ≡ m + 1
    job_place = let e : m + 1 - 1 ≡ m = omega arith in rw e at (fit n par row tree line (m + 1) (omega (arith, line.size)) (m + 1) (omega arith)).1

    -- when the job is passed, its span has all its subtree
    pub gathered_own : gathered n par row m (get_or row m 0) ≡ members n par (get_or row m 0)
    gathered_own =
        let z = sum_eq (λ c. only (eqb (par c) (get_or row m 0) && leb (place c row) m) (members n par c)) (λ c. only (eqb (par c) (get_or row m 0)) (members n par c)) n (λ c j. each c j (cases_eq (par c) (get_or row m 0))) in
        let y = members_step n par rank (get_or row m 0) job_in in
        omega arith
      where
        each : (c : ℕ) → In n c → (par c ≡ get_or row m 0) ⊎ (par c ≡ get_or row m 0 → ⊥) → only (eqb (par c) (get_or row m 0) && leb (place c row) m) (members n par c) ≡ only (eqb (par c) (get_or row m 0)) (members n par c)
        each c j (inl e) = let b = line.later c j in let a = ap (λ x. place x row) e in let p = job_place in let q : place c row ≤ m = omega arith in rw (eq-eqb _ _ e) (grind (arith, nat_tests))
        each c j (inr e) = rw (ne_eqb _ _ e)

    there : (x : ℕ) → place x row ≡ m + 1 → x ≡ get_or row m 0
    there x e = sym (place_entry x row (omega arith)) ∙ ap (entry row) e ∙ (let z : m + 1 - 1 ≡ m = omega arith in ap (λ q. get_or row q 0) z)

    pub gathered_more : (x : ℕ) → gathered n par row (m + 1) x ≡ gathered n par row m x + only (eqb (par (get_or row m 0)) x) (members n par (get_or row m 0))
    gathered_more x =
        omega (
          arith,
          sum_eq (λ c. only (eqb (par c) x && leb (place c row) (m + 1)) (members n par c)) (λ c. only (eqb (par c) x && leb (place c row) m) (members n par c) + only (eqb c (get_or row m 0)) (only (eqb (par c) x) (members n par c))) n (λ c j. each c (cases_eq c (get_or row m 0))),
          sum_add (λ c. only (eqb (par c) x && leb (place c row) m) (members n par c)) (λ c. only (eqb c (get_or row m 0)) (only (eqb (par c) x) (members n par c))) n,
          sum_one (λ c. only (eqb (par c) x) (members n par c)) (get_or row m 0) n job_in,
        )
      where
        each : (c : ℕ) → (c ≡ get_or row m 0) ⊎ (c ≡ get_or row m 0 → ⊥) → only (eqb (par c) x && leb (place c row) (m + 1)) (members n par c) ≡ only (eqb (par c) x && leb (place c row) m) (members n par c) + only (eqb c (get_or row m 0)) (only (eqb (par c) x) (members n par c))
        each c (inl e) = let z : place c row ≡ m + 1 = ap (λ y. place y row) e ∙ job_place in rw (z, eq-eqb _ _ e) (grind (arith, nat_tests))
        each c (inr e) = let z : place c row ≡ m + 1 → ⊥ = λ h. e (there c h) in rw (ne_eqb _ _ e) (grind (arith, nat_tests))

    pub sizes_more : (s s' : ℕ → ℕ) → ((k : ℕ) → k ≤ n → s k ≡ gathered n par row m k)
        → ((k : ℕ) → s' k ≡ cond (eqb k (par (get_or row m 0))) (s (par (get_or row m 0)) + s (get_or row m 0)) (s k))
        → (k : ℕ) → k ≤ n → s' k ≡ gathered n par row (m + 1) k
    sizes_more s s' old new k h = new k ∙ go (cases_eq (par (get_or row m 0)) k)
      where
        go : (par (get_or row m 0) ≡ k) ⊎ (par (get_or row m 0) ≡ k → ⊥)
            → cond (eqb k (par (get_or row m 0))) (s (par (get_or row m 0)) + s (get_or row m 0)) (s k) ≡ gathered n par row (m + 1) k
        go (inl y) =
            let f = rw (eq-eqb (par (get_or row m 0)) k y) at (gathered_more k) in
            rw (eq-eqb k (par (get_or row m 0)) (sym y)) (omega (arith, f, old k h, ap s y, old (get_or row m 0) job_in.1, gathered_own))
        go (inr y) =
            let f = rw (ne_eqb (par (get_or row m 0)) k y) at (gathered_more k) in
            rw (ne_eqb k (par (get_or row m 0)) (λ z. y (sym z))) (omega (arith, f, old k h))

    pub lows_more : (low low' : ℕ → ℕ) → Lows n par row low m
        → ((k : ℕ) → low' k ≡ cond (eqb k (par (get_or row m 0))) (min (low (par (get_or row m 0))) (low (get_or row m 0))) (low k))
        → Lows n par row low' (m + 1)
    lows_more low low' l new = record { own = λ x i. omega (arith, falls x, l.own x i); passed = λ c k ic ik h a b. by c k ic ik h b (cases_lt m (place c row)) a; held = λ x i. kept x i (cases_eq x (par (get_or row m 0))) }
      where
        falls : (x : ℕ) → low' x ≤ low x
        falls x = go (cases_eq x (par (get_or row m 0)))
          where
            go : (x ≡ par (get_or row m 0)) ⊎ (x ≡ par (get_or row m 0) → ⊥) → low' x ≤ low x
            go (inl e) = let z = rw (eq-eqb _ _ e) at (new x) in omega (arith, z, ap low e)
            go (inr e) = let z = rw (ne_eqb _ _ e) at (new x) in omega arith

        at_parent : low' (par (get_or row m 0)) ≡ min (low (par (get_or row m 0))) (low (get_or row m 0))
        at_parent = rw (eq-eqb (par (get_or row m 0)) (par (get_or row m 0)) refl) at (new (par (get_or row m 0)))

        own_children : (c : ℕ) → In n c → par c ≡ get_or row m 0 → place c row ≤ m
        own_children c i e = omega (arith, line.later c i, ap (λ x. place x row) e, job_place)

        by : (c k : ℕ) → In n c → In n k → (par c ≡ 0 → ⊥) → within n par c k ≡ true → (m < place c row) ⊎ (place c row ≤ m) → place c row ≤ m + 1 → low' (par c) ≤ place k row
        by c k ic ik h b (inr d) a = omega (arith, falls (par c), l.passed c k ic ik h d b)
        by c k ic ik h b (inl d) a =
            let e = there c (omega arith) in
            let z = lows_least low m l (get_or row m 0) job_in own_children k ik (rw e at b) in
            let y = ap (λ x. low' (par x)) e in
            omega (arith, at_parent)

        kept : (x : ℕ) → In n x → (x ≡ par (get_or row m 0)) ⊎ (x ≡ par (get_or row m 0) → ⊥) → (k : ℕ) × In n k × (within n par x k ≡ true) × (low' x ≡ place k row)
        kept x i (inr e) = let w = l.held x i in (w.0, w.1, w.2, rw (ne_eqb _ _ e) at (new x) ∙ w.3)
        kept x i (inl e) = go (cases_lt (low (get_or row m 0)) (low (par (get_or row m 0))))
          where
            go : (low (get_or row m 0) < low (par (get_or row m 0))) ⊎ (low (par (get_or row m 0)) ≤ low (get_or row m 0)) → (k : ℕ) × In n k × (within n par x k ≡ true) × (low' x ≡ place k row)
            go (inl h) =
                let w = l.held (get_or row m 0) job_in in
                (w.0, w.1, or_right _ _ (lifted n par rank x w.0 (get_or row m 0) i w.1 job_in (sym e) w.2), omega (arith, ap low' e, at_parent, w.3))
            go (inr h) = let w = l.held x i in (w.0, w.1, w.2, omega (arith, ap low' e, ap low e, at_parent, w.3))

  pub lows_begin : (low : ℕ → ℕ) → ((k : ℕ) → In n k → low k ≡ place k row) → Lows n par row low 0
  lows_begin low h = record {
    own = λ x i. omega (arith, h x i);
    passed = λ c k ic ik _ a _. absurd (omega (arith, place_low c row));
    held = λ x i. (x, i, or_left _ _ (eq-eqb x x refl), h x i);
  }

  pub lows_end : (low : ℕ → ℕ) → Lows n par row low n → (k : ℕ) → In n k → Begins n par row k (low k)
  lows_end low l i ii = record { least = lows_least low n l i ii (λ c ic _. (line.all c ic).1); held = l.held i ii }
