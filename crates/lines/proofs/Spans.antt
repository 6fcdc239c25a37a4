-- A subtree stands together exactly if it has as many jobs as there are places from its first to its last.
use Rattle.std.proofs.Common.{◌≡◌, ℕ, zero, suc, ◌+◌, ◌-◌, ◌<◌, ◌≤◌, Bool, true, false, ◌&&◌, eqb, leb, ◌⊎◌, List, Some, None, Option, sym, refl, ap, ◌∙◌, inl, inr, arith}
use Rattle.std.proofs.lemmas.Bool.{eqb-true, eq-eqb, cases_Bool, cases_eq, cases_lt, or_cases, or_left, or_right}
use Rattle.std.proofs.lemmas.Bool.Decides.{nat_tests}
use Rattle.trees.specs.Found.{Lowest}
use Rattle.trees.specs.Sums.{sum, only, In}
use Rattle.trees.specs.Trees.{Tree, met, below}
use Rattle.trees.specs.Lines.{entry, place, Line, Together}
use Rattle.lines.specs.Checks.{Fit}
use Rattle.lines.specs.Spans.{within, members, Begins, Apart}
use Rattle.trees.proofs.Sums.{sum_eq, sum_add}
use Rattle.lines.proofs.Sums.{sum_tight}
use Rattle.lines.proofs.Upward.{met_cases, no_way}
use Rattle.trees.proofs.Places.{place_low, place_entry, line_place}
use Rattle.lines.proofs.Places.{fit_count}

module _ (n : ℕ) (par : ℕ → ℕ) (row : List ℕ) (tree : Tree n par) (line : Line n par row) where
  pub fit : (m : ℕ) → m ≤ n → Fit n row m
  fit m h p i = (line.jobs p (omega arith), line_place n par row line p (omega arith))

  -- no two jobs share a place
  pub alone : (i k : ℕ) → In n i → In n k → place i row ≡ place k row → i ≡ k
  alone i k ii ik e = sym (place_entry i row (omega (arith, line.all i ii, line.size))) ∙ ap (entry row) e ∙ place_entry k row (omega (arith, line.all k ik, line.size))

  -- who is met on the way up stands later
  met_later : (d k i : ℕ) → In n k → met par d k i ≡ true → place k row < place i row
  met_later zero k i ik m = absurd (no_way par k i m)
  met_later (suc d) k i ik m = go (λ j x. met_later d (par k) i j x) (met_cases par d k i m)
    where
      go : (In n (par k) → met par d (par k) i ≡ true → place (par k) row < place i row) → (par k ≡ 0 → ⊥) × ((par k ≡ i) ⊎ (met par d (par k) i ≡ true)) → place k row < place i row
      go r c = by c.1
        where
          by : (par k ≡ i) ⊎ (met par d (par k) i ≡ true) → place k row < place i row
          by (inl x) = rw x at (line.later k ik)
          by (inr x) = let z = r (omega (arith, tree.parents k ik, c.0)) x in omega (arith, line.later k ik)

  -- the test for place `low` up to the place of i
  abbrev between : ℕ → ℕ → ℕ → Bool
  between low i k = leb low (place k row) && leb (place k row) (place i row)

  between_count : (low i : ℕ) → In n i → 1 ≤ low → low ≤ place i row → sum (λ k. only (between low i k) 1) n + low ≡ place i row + 1
  between_count low i ii a b =
      let z = line.all i ii in
      omega (
        arith,
        fit_count n row (place i row) (omega (arith, line.size)) (fit (place i row) z.1),
        fit_count n row (low - 1) (omega (arith, line.size)) (fit (low - 1) (omega arith)),
        sum_add (λ k. only (between low i k) 1) (λ k. only (leb (place k row) (low - 1)) 1) n,
        sum_eq (λ k. only (leb (place k row) (place i row)) 1) (λ k. only (between low i k) 1 + only (leb (place k row) (low - 1)) 1) n (λ k j. grind (arith, nat_tests)),
      )

  module _ (i low : ℕ) (ii : In n i) (begins : Begins n par row i low) where
    last : (k : ℕ) → In n k → within n par i k ≡ true → place k row ≤ place i row
    last k ik h = go (or_cases _ _ h)
      where
        go : (eqb k i ≡ true) ⊎ (below n par k i ≡ true) → place k row ≤ place i row
        go (inl e) = let z = ap (λ x. place x row) (eqb-true k i e) in omega arith
        go (inr e) = let z = met_later n k i ik e in omega arith

    starts : (1 ≤ low) × (low ≤ place i row)
    starts =
        let w = begins.held in
        (omega (arith, w.3, place_low w.0 row), begins.least i ii (or_left _ _ (eq-eqb i i refl)))

    inside : (k : ℕ) → In n k → only (within n par i k) 1 ≤ only (between low i k) 1
    inside k ik = let a = begins.least k ik in let b = last k ik in grind (arith, nat_tests)

    counted : sum (λ k. only (between low i k) 1) n + low ≡ place i row + 1
    counted = between_count low i ii starts.0 starts.1

    pub together_from : low + members n par i ≡ place i row + 1 → Together n par row i
    together_from e k m ik im h a b = go (or_cases _ _ held)
      where
        tight : only (within n par i m) 1 ≡ only (between low i m) 1
        tight = sum_tight (λ k. only (within n par i k) 1) (λ k. only (between low i k) 1) n inside (omega (arith, counted)) m im

        held : within n par i m ≡ true
        held = let z = tight in let y = begins.least k ik (or_right _ _ h) in grind (arith, nat_tests)

        go : (eqb m i ≡ true) ⊎ (below n par m i ≡ true) → below n par m i ≡ true
        go (inl x) = absurd (let z = ap (λ y. place y row) (eqb-true m i x) in omega arith)
        go (inr x) = x

    pub together_count : Together n par row i → low + members n par i ≡ place i row + 1
    together_count t = omega (arith, counted, sum_eq (λ k. only (within n par i k) 1) (λ k. only (between low i k) 1) n (λ k ik. same k ik (cases_Bool (between low i k))))
      where
        found : (k : ℕ) → In n k → low ≤ place k row → place k row ≤ place i row → (place k row < place i row) ⊎ (place i row ≤ place k row) → (eqb begins.held.0 i ≡ true) ⊎ (below n par begins.held.0 i ≡ true) → within n par i k ≡ true
        found k ik a b (inr c) w = or_left _ _ (eq-eqb k i (alone k i ik ii (omega arith)))
        found k ik a b (inl c) (inl w) = absurd (let z = ap (λ y. place y row) (eqb-true _ _ w) in omega (arith, begins.held.3))
        found k ik a b (inl c) (inr w) = or_right _ _ (t begins.held.0 k begins.held.1 ik w (omega (arith, begins.held.3)) c)

        same : (k : ℕ) → In n k → (between low i k ≡ true) ⊎ (between low i k ≡ false) → only (within n par i k) 1 ≡ only (between low i k) 1
        same k ik (inl x) =
            let a : low ≤ place k row = grind (arith, nat_tests) in
            let b : place k row ≤ place i row = grind (arith, nat_tests) in
            let z = found k ik a b (cases_lt (place k row) (place i row)) (or_cases _ _ begins.held.2) in
            rw (z, x)
        same k ik (inr x) = let z = inside k ik in let y = rw x at z in rw x (omega arith)

  pub begins_most : (i low : ℕ) → Begins n par row i low → low ≤ n
  begins_most i low b = omega (arith, b.held.3, line.all b.held.0 b.held.1)

  -- a search by sizes and first places finds the lowest job whose subtree does not stand together
  module _ (size low at : ℕ → ℕ) (sizes : (k : ℕ) → In n k → size k ≡ members n par k) (lows : (k : ℕ) → In n k → Begins n par row k (low k)) (placed : (k : ℕ) → In n k → at k ≡ place k row) where
    abbrev Off : ℕ → Type 0
    Off k = low k + size k ≡ at k + 1 → ⊥

    joins : (k : ℕ) → In n k → (Off k → ⊥) → Together n par row k
    joins k i h = go (cases_eq (low k + size k) (at k + 1))
      where
        go : (low k + size k ≡ at k + 1) ⊎ (low k + size k ≡ at k + 1 → ⊥) → Together n par row k
        go (inl e) = together_from k (low k) i (lows k i) (omega (arith, sizes k i, placed k i))
        go (inr e) = absurd (h e)

    pub found_apart : (r : Option ℕ) → Lowest n (λ k. low k + size k ≡ at k + 1 → ⊥) r → Apart n par row r
    found_apart None f = record { line = line; together = λ i ii. joins i ii (f i ii) }
    found_apart (Some i) f = (
      f.0,
      (λ t. f.1 (omega (arith, sizes i f.0, placed i f.0, together_count i (low i) f.0 (lows i f.0) t))),
      (λ k ik h. joins k ik (f.2 k ik h)),
    )
