-- A row as the walk writes it, and the measure of its way down.
use Rattle.std.proofs.Common.{◌≡◌, ℕ, suc, ◌<◌, ◌≤◌, Bool, true, false, ◌⊎◌, List, [], ◌∷◌, ◌++◌, length, refl, inl, inr, arith}
use Rattle.std.proofs.lemmas.List.{length_push}
use Rattle.std.proofs.lemmas.Bool.{cases_eq, cases_Bool, both_ways}
use Rattle.trees.specs.Sums.{In, sum, only}
use Rattle.trees.specs.Trees.{Tree, NextChild, below}
use Rattle.trees.specs.Lines.{place, Line, Plain}
use Rattle.lines.specs.Checks.{Fit}
use Rattle.lines.specs.Walk.{Foremost}
use Rattle.lines.specs.Walk.Foremost.{alone, deeper}
use Rattle.lines.proofs.Sums.{sum_lt}
use Rattle.lines.proofs.Upward.{Ranks, ranks, one_up, rises_up, below_trans}
use Rattle.trees.proofs.Places.{place_low, place_high}
use Rattle.lines.proofs.Places.{fit_push, fit_most, fit_full, fit_line, place_push}
use Rattle.lines.proofs.Walk.{Walked, walk_starts, walk_down, walk_up, walk_aside, walk_over}

-- how many are below j
abbrev pub under : ℕ → (ℕ → ℕ) → ℕ → ℕ
under n par j = sum (λ k. only (below n par k j) 1) n

-- fewer are below a child
pub under_child : (n : ℕ) (par : ℕ → ℕ) (j c : ℕ) → Tree n par → In n j → NextChild n par j 0 c → (c ≡ 0 → ⊥) → under n par c < under n par j
under_child n par j c tree ij next some =
    sum_lt (λ k. only (below n par k c) 1) (λ k. only (below n par k j) 1) n c (λ k i. let z : below n par k c ≡ true → below n par k j ≡ true = λ h. below_trans n par rank n k c j i h up in grind arith) ic (let z = up in let y = self in grind arith)
  where
    of : (0 < c) × (c ≤ n) × (par c ≡ j) × ((k : ℕ) → 0 < k → k < c → par k ≡ j → ⊥)
    of = next.some some

    rank : Ranks n par
    rank = ranks n par tree

    ic : In n c
    ic = (of.0, of.1)

    up : below n par c j ≡ true
    up = one_up n par rank c j ic (λ z. omega (arith, of.2)) (inl of.2)

    self : below n par c c ≡ true → ⊥
    self h = omega (arith, (rises_up n par rank c c ic h).0)

-- the row l is written and the walk stands at j
pub record Written (n : ℕ) (par : ℕ → ℕ) (l : List ℕ) (j : ℕ) (fresh : Bool) : Type 0 where
  pub fit : Fit n l (length l)
  pub walked : Walked n par (λ k. place k l) (length l) j fresh

module _ (n : ℕ) (par : ℕ → ℕ) (tree : Tree n par) where
  pub starts : (j : ℕ) → In n j → par j ≡ 0 → Written n par [] j true
  starts j i e = record {
    fit = λ p h. absurd (omega arith);
    walked = walk_starts n par (λ k. place k []) 0 tree (λ k. place_high k []) j i e refl (λ k. place_low k []);
  }

  module _ (l : List ℕ) (j : ℕ) (fresh : Bool) (w : Written n par l j fresh) where
    pub down : (c : ℕ) → fresh ≡ true → NextChild n par j 0 c → (c ≡ 0 → ⊥) → Written n par l c true
    down c f next some = record {
      fit = w.fit;
      walked = walk_down n par (λ k. place k l) (length l) tree (λ k. place_high k l) j fresh w.walked c f next some;
    }

    pub room : In n j → length l < n
    room i =
        let f = fit_push n l j w.fit i (w.walked.waits i) in
        let e = length_push l j in
        omega (arith, fit_most n (l ++ j ∷ []) (suc (length l)) (omega arith) f)

    full : (fresh ≡ true → NextChild n par j 0 0) → (c : ℕ) → In n c → par c ≡ j → place c l ≤ length l
    full leaf c ic p = go (cases_Bool fresh)
      where
        go : (fresh ≡ true) ⊎ (fresh ≡ false) → place c l ≤ length l
        go (inl f) = absurd ((leaf f).none refl c ic.0 ic.1 p)
        go (inr f) = w.walked.done f c ic p

    pushed : (b : ℕ) (f : Bool) → In n j → Walked n par (λ k. place k (l ++ j ∷ [])) (suc (length l)) b f → Written n par (l ++ j ∷ []) b f
    pushed b f i h =
        let e : suc (length l) ≡ length (l ++ j ∷ []) = omega (arith, length_push l j) in
        record { fit = rw e at (fit_push n l j w.fit i (w.walked.waits i)); walked = rw e at h }

    pub up : In n j → (fresh ≡ true → NextChild n par j 0 0) → NextChild n par (par j) j 0 → Written n par (l ++ j ∷ []) (par j) false
    up i leaf next =
        pushed (par j) false i (walk_up n par (λ k. place k l) (length l) tree (λ k. place_high k l) j fresh w.walked (λ k. place k (l ++ j ∷ [])) (λ k. place_push k j l) i (full leaf) next)

    pub aside : (b : ℕ) → In n j → (fresh ≡ true → NextChild n par j 0 0) → NextChild n par (par j) j b → (b ≡ 0 → ⊥) → Written n par (l ++ j ∷ []) b true
    aside b i leaf next some =
        pushed b true i (walk_aside n par (λ k. place k l) (length l) tree (λ k. place_high k l) j fresh w.walked (λ k. place k (l ++ j ∷ [])) (λ k. place_push k j l) i (full leaf) b next some)

  module _ (l : List ℕ) (fit : Fit n l (length l)) (w : Walked n par (λ k. place k l) (length l) 0 false) where
    all : (k : ℕ) → In n k → place k l ≤ length l
    all = walk_over n par (λ k. place k l) (length l) tree (λ k. place_high k l) w

    size : length l ≡ n
    size = fit_full n l (length l) (omega arith) fit all

    line : Line n par l
    line = fit_line n par l size (rw size at fit) (λ k i e. w.later k i (all (par k) (omega (arith, tree.parents k i))))

    plain : Plain n par l
    plain = record {
      postorder = record { line = line; together = λ i ii k m ik im h a b. w.joined i k m ii ik im h a b };
      rising = λ i k ii ik e h. w.rising k i ik ii e h (inl (all k ik));
    }

  -- when the walk is over the row is the plain line
  pub over : (l : List ℕ) (fresh : Bool) → Written n par l 0 fresh → Plain n par l
  over l fresh w = go (cases_Bool fresh)
    where
      go : (fresh ≡ true) ⊎ (fresh ≡ false) → Plain n par l
      go (inl f) = absurd (omega (arith, w.walked.awake f))
      go (inr f) = plain l w.fit (rw f at w.walked)

-- The walk stands at the next job to write, or is over if j is 0: what is below j is written.
pub record Next (n : ℕ) (par : ℕ → ℕ) (l : List ℕ) (j : ℕ) : Type 0 where
  pub fresh : Bool
  pub written : Written n par l j fresh
  pub leaf : fresh ≡ true → NextChild n par j 0 0

module _ (n : ℕ) (par : ℕ → ℕ) (tree : Tree n par) where
  -- from a fresh job the walk goes down to where its subtree begins
  pub next_from : (l : List ℕ) {j r : ℕ} → Foremost n par j r → Written n par l j true → Next n par l r
  next_from l (alone none) w = record { fresh = true; written = w; leaf = λ _. none }
  next_from l (deeper next some more) w = next_from l more (down n par tree l _ true w _ refl next some)

  -- the walk starts below the child of 0, which is the root
  pub next_starts : (j r : ℕ) → NextChild n par 0 0 j → Foremost n par j r → Next n par [] r
  next_starts j r top f = elim (cases_eq j 0) [
    | inl e ↦ absurd (top.none e tree.top tree.top_in.0 tree.top_in.1 tree.top_free)
    | inr some ↦
        let is = top.some some in
        next_from [] f (starts n par tree j (is.0, is.1) is.2)
  ]

  module _ (l : List ℕ) (j : ℕ) (w : Next n par l j) where
    pub next_in : (j ≡ 0 → ⊥) → In n j
    next_in some = omega (arith, w.written.walked.here)

    -- while cells are left the walk is not over
    pub next_some : length l < n → j ≡ 0 → ⊥
    next_some h e = omega (arith, (over n par tree l w.fresh (rw e at w.written)).postorder.line.size)

    pub next_up : In n j → NextChild n par (par j) j 0 → Next n par (l ++ j ∷ []) (par j)
    next_up i next = record {
      fresh = false;
      written = up n par tree l j w.fresh w.written i w.leaf next;
      leaf = λ f. absurd (both_ways false refl f);
    }

    pub next_aside : {b r : ℕ} → In n j → NextChild n par (par j) j b → (b ≡ 0 → ⊥) → Foremost n par b r → Next n par (l ++ j ∷ []) r
    next_aside i next some f = next_from (l ++ j ∷ []) f (aside n par tree l j w.fresh w.written _ i w.leaf next some)

    -- when all cells are written the row is the plain line
    pub next_over : length l ≡ n → Plain n par l
    next_over e = elim (cases_eq j 0) [
      | inl z ↦ over n par tree l w.fresh (rw z at w.written)
      | inr some ↦ absurd (omega (arith, e, room n par tree l j w.fresh w.written (next_in some)))
    ]
