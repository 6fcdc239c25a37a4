-- Which of two jobs stands first is the same in every plain line, so there is only one such line.
use Rattle.std.proofs.Common.{◌≡◌, ℕ, zero, suc, ◌+◌, ◌-◌, ◌<◌, ◌≤◌, true, eqb, leb, ◌⊎◌, List, sym, ap, ◌∙◌, inl, inr, arith}
use Rattle.std.proofs.lemmas.List.{ext_get_or}
use Rattle.std.proofs.lemmas.Bool.{eqb-true, eq-eqb, cases_eq, cases_lt, cases_order, or_cases, or_left, or_right}
use Rattle.std.proofs.lemmas.Bool.Decides.{nat_tests}
use Rattle.trees.specs.Sums.{sum, only, In}
use Rattle.trees.specs.Trees.{Tree, below}
use Rattle.trees.specs.Lines.{entry, place, Line, Plain}
use Rattle.lines.specs.Spans.{within}
use Rattle.lines.specs.Unique.{OnePlain}
use Rattle.trees.proofs.Sums.{sum_eq}
use Rattle.trees.proofs.Places.{place_entry, line_place}
use Rattle.lines.proofs.Upward.{Ranks, ranks, par_job, one_up, rises_up, no_kin}
use Rattle.lines.proofs.Subtrees.{toward}
use Rattle.lines.proofs.Places.{fit_count}
use Rattle.lines.proofs.Spans.{fit}

module _ (n : ℕ) (par : ℕ → ℕ) (tree : Tree n par) where
  -- i stands before k in every plain line
  abbrev Before : ℕ → ℕ → Type 0
  Before i k = (row : List ℕ) → Plain n par row → place i row < place k row

  -- they stand in the same order in every one
  abbrev Ordered : ℕ → ℕ → Type 0
  Ordered i k = (i ≡ k) ⊎ (Before i k ⊎ Before k i)

  rank : Ranks n par
  rank = ranks n par tree

  -- who is below c stands before c: the places of a line are ranks
  under : (i c : ℕ) → In n i → below n par i c ≡ true → Before i c
  under i c ii h row p =
      let l = p.postorder.line in
      (rises_up n par record { parents = tree.parents; rank = λ k. place k row; rank_in = l.all; rises = λ k j _. l.later k j } i c ii h).0

  -- a job and all below it stand before a later sibling and all below that
  module _ (row : List ℕ) (p : Plain n par row) where
    no_later : (x i : ℕ) → In n i → (eqb i x ≡ true) ⊎ (below n par i x ≡ true) → place i row ≤ place x row
    no_later x i ii (inl e) = let z = ap (λ v. place v row) (eqb-true i x e) in omega arith
    no_later x i ii (inr e) = let z = under i x ii e row p in omega arith

    past : (x y k : ℕ) → In n x → In n y → In n k → par x ≡ par y → place x row < place y row → (eqb k y ≡ true) ⊎ (below n par k y ≡ true) → (place x row < place k row) ⊎ (place k row ≤ place x row) → place x row < place k row
    past x y k ix iy ik e h w (inl c) = c
    past x y k ix iy ik e h (inl w) (inr c) = let z = ap (λ v. place v row) (eqb-true k y w) in absurd (omega arith)
    past x y k ix iy ik e h (inr w) (inr c) = absurd (no_kin n par rank x y ix iy e (p.postorder.together y iy k x ik ix w c h))

    apart : (x y i k : ℕ) → In n x → In n y → In n i → In n k → par x ≡ par y → x < y → within n par x i ≡ true → within n par y k ≡ true → place i row < place k row
    apart x y i k ix iy ii ik e h v w =
        let a = no_later x i ii (or_cases _ _ v) in
        let b = past x y k ix iy ik e (p.rising x y ix iy e h) (or_cases _ _ w) (cases_lt (place x row) (place k row)) in
        omega arith

  -- two jobs of the subtree of c are ordered by the children of the job at which their ways down part
  order : (d c i k : ℕ) → In n c → In n i → In n k → rank.rank c ≤ d → within n par c i ≡ true → within n par c k ≡ true → Ordered i k
  order zero c i k ic ii ik f v w = absurd (omega (arith, rank.rank_in c ic))
  order (suc d) c i k ic ii ik f v w = go (λ x ix g a b. order d x i k ix ii ik g a b) (or_cases _ _ v) (or_cases _ _ w)
    where
      Child : ℕ → Type 0
      Child k = (x : ℕ) × In n x × (par x ≡ c) × (within n par x k ≡ true)

      lower : (x : ℕ) → In n x → par x ≡ c → rank.rank x ≤ d
      lower x ix e = let z = rank.rises x ix (λ h. omega (arith, ic.0)) in let y = ap rank.rank e in omega arith

      go : ((x : ℕ) → In n x → rank.rank x ≤ d → within n par x i ≡ true → within n par x k ≡ true → Ordered i k) → (eqb i c ≡ true) ⊎ (below n par i c ≡ true) → (eqb k c ≡ true) ⊎ (below n par k c ≡ true) → Ordered i k
      go r (inl a) (inl b) = inl (eqb-true i c a ∙ sym (eqb-true k c b))
      go r (inl a) (inr b) = inr (inr (rw (eqb-true i c a) (under k c ik b)))
      go r (inr a) (inl b) = inr (inl (rw (eqb-true k c b) (under i c ii a)))
      go r (inr a) (inr b) = parts (toward n par rank i c ii a) (toward n par rank k c ik b)
        where
          parts : Child i → Child k → Ordered i k
          parts s t = by (cases_order s.0 t.0)
            where
              kin : par s.0 ≡ par t.0
              kin = s.2 ∙ sym t.2

              by : (s.0 ≡ t.0) ⊎ ((s.0 < t.0) ⊎ (t.0 < s.0)) → Ordered i k
              by (inl e) = r s.0 s.1 (lower s.0 s.1 s.2) s.3 (rw e t.3)
              by (inr (inl e)) = inr (inl (λ row p. apart row p s.0 t.0 i k s.1 t.1 ii ik kin e s.3 t.3))
              by (inr (inr e)) = inr (inr (λ row p. apart row p t.0 s.0 k i t.1 s.1 ik ii (sym kin) e t.3 s.3))

  -- every job is within the root
  rooted : (d k : ℕ) → In n k → n < rank.rank k + d → within n par tree.top k ≡ true
  rooted zero k ik f = absurd (omega (arith, rank.rank_in k ik))
  rooted (suc d) k ik f = go (λ i g. rooted d (par k) i g) (cases_eq (par k) 0)
    where
      go : (In n (par k) → n < rank.rank (par k) + d → within n par tree.top (par k) ≡ true) → (par k ≡ 0) ⊎ (par k ≡ 0 → ⊥) → within n par tree.top k ≡ true
      go r (inl e) = or_left _ _ (eq-eqb k tree.top (tree.one_top k ik e))
      go r (inr e) = or_right _ _ (one_up n par rank k tree.top ik e (step (or_cases _ _ (r (par_job n par rank k ik e) (omega (arith, rank.rises k ik e))))))
        where
          step : (eqb (par k) tree.top ≡ true) ⊎ (below n par (par k) tree.top ≡ true) → (par k ≡ tree.top) ⊎ (below n par (par k) tree.top ≡ true)
          step (inl h) = inl (eqb-true _ _ h)
          step (inr h) = inr h

  ordered : (i k : ℕ) → In n i → In n k → Ordered i k
  ordered i k ii ik = order (rank.rank tree.top) tree.top i k tree.top_in ii ik (omega arith) (root i ii) (root k ik)
    where
      root : (k : ℕ) → In n k → within n par tree.top k ≡ true
      root k ik = rooted n k ik (omega (arith, rank.rank_in k ik))

  module _ (a b : List ℕ) (p : Plain n par a) (q : Plain n par b) where
    abbrev la : Line n par a
    la = p.postorder.line

    abbrev lb : Line n par b
    lb = q.postorder.line

    not_after : (i k : ℕ) → Ordered i k → only (leb (place i a) (place k a)) 1 ≡ only (leb (place i b) (place k b)) 1
    not_after i k (inl e) = rw e (grind (arith, nat_tests))
    not_after i k (inr (inl h)) = let y = h a p in let z = h b q in grind (arith, nat_tests)
    not_after i k (inr (inr h)) = let y = h a p in let z = h b q in grind (arith, nat_tests)

    count : (row : List ℕ) → Line n par row → (k : ℕ) → In n k → sum (λ i. only (leb (place i row) (place k row)) 1) n ≡ place k row
    count row l k ik = let z = l.all k ik in fit_count n row (place k row) (omega (arith, l.size)) (fit n par row tree l (place k row) z.1)

    -- as many stand up to k in both
    same_place : (k : ℕ) → In n k → place k a ≡ place k b
    same_place k ik =
        sym (count a la k ik)
        ∙ sum_eq (λ i. only (leb (place i a) (place k a)) 1) (λ i. only (leb (place i b) (place k b)) 1) n (λ i ii. not_after i k (ordered i k ii ik))
        ∙ count b lb k ik

    same_entry : (m : ℕ) → In n m → entry a m ≡ entry b m
    same_entry m i =
        let j = la.jobs m i in
        let e : place (entry a m) b ≡ m = sym (same_place (entry a m) j) ∙ line_place n par a la m i in
        sym (place_entry (entry a m) b (omega (arith, lb.size))) ∙ ap (entry b) e

    same : a ≡ b
    same = ext_get_or 0 a b (la.size ∙ sym lb.size) (λ i h. let e : suc i - 1 ≡ i = omega arith in rw e at (same_entry (suc i) (omega (arith, la.size))))

pub one_plain : OnePlain
one_plain n par a b tree p q = same n par tree a b p q
