-- The walk that writes the plain line: what holds of the jobs written so far, step by step. `s` is the place of each job among
-- those written, t their number; the place of any other job is suc t.
use Rattle.std.proofs.Common.{◌≡◌, ℕ, zero, suc, ◌<◌, ◌≤◌, Bool, true, false, ◌⊎◌, sym, refl, ap, ◌∙◌, inl, inr, arith}
use Rattle.std.proofs.lemmas.Bool.{cases_eq, cases_lt, cases_order, both_ways}
use Rattle.trees.specs.Sums.{In}
use Rattle.trees.specs.Trees.{Tree, Reaches, root, above, NextChild, met, below}
use Rattle.lines.proofs.Upward.{Ranks, ranks, met_cases, no_way, par_job, enough, first_step, one_up, below_trans, no_kin}
use Rattle.lines.proofs.Places.{Moved}

-- x is written, or is the job j where the walk stands, or is above it
abbrev pub Begun : ℕ → (ℕ → ℕ) → (ℕ → ℕ) → ℕ → ℕ → ℕ → Type 0
Begun n par s t j x = (s x ≤ t) ⊎ ((x ≡ j) ⊎ (In n j × (below n par j x ≡ true)))

-- The walk stands at job j, or is over if j is 0. It is fresh if nothing below j is written.
pub record Walked (n : ℕ) (par s : ℕ → ℕ) (t j : ℕ) (fresh : Bool) : Type 0 where
  pub here : j ≤ n
  pub waits : In n j → t < s j
  pub awake : fresh ≡ true → In n j
  pub bare : fresh ≡ true → (y : ℕ) → In n y → below n par y j ≡ true → t < s y
  pub done : fresh ≡ false → (c : ℕ) → In n c → par c ≡ j → s c ≤ t
  pub later : (c : ℕ) → In n c → s (par c) ≤ t → s c < s (par c)
  pub rising : (x y : ℕ) → In n x → In n y → par y ≡ par x → y < x → Begun n par s t j x → s y < s x
  pub upward : (x : ℕ) → In n x → s x ≤ t → Begun n par s t j (par x)
  pub joined : (i k m : ℕ) → In n i → In n k → In n m → below n par k i ≡ true → s k ≤ s m → s m < s i → below n par m i ≡ true

module _ (n : ℕ) (par s : ℕ → ℕ) (t : ℕ) (tree : Tree n par) (ends : (k : ℕ) → s k ≤ suc t) where
  rank : Ranks n par
  rank = ranks n par tree

  -- at the start nothing is written
  pub walk_starts : (j : ℕ) → In n j → par j ≡ 0 → t ≡ 0 → ((k : ℕ) → 1 ≤ s k) → Walked n par s t j true
  walk_starts j i e z low = record {
    here = omega arith;
    waits = λ _. omega (arith, low j);
    awake = λ _. i;
    bare = λ _ y _ _. omega (arith, low y);
    done = λ f. absurd (both_ways true f refl);
    later = λ c _ h. absurd (omega (arith, low (par c)));
    rising = λ x y ix iy p l b. absurd (only_top x y ix iy p l b);
    upward = λ x _ h. absurd (omega (arith, low x));
    joined = λ i k m _ _ _ _ _ h. absurd (omega (arith, low m, ends i));
  }
    where
      only_top : (x y : ℕ) → In n x → In n y → par y ≡ par x → y < x → Begun n par s t j x → ⊥
      only_top x y ix iy p l (inl h) = omega (arith, low x)
      only_top x y ix iy p l (inr (inl h)) =
          let a = tree.one_top y iy (p ∙ ap par h ∙ e) in
          let b = tree.one_top j i e in
          omega arith
      only_top x y ix iy p l (inr (inr h)) = (first_step n par rank j x i h.1).0 e

  module _ (j : ℕ) (fresh : Bool) (w : Walked n par s t j fresh) where
    -- from a fresh job the walk goes down to its first child
    pub walk_down : (c : ℕ) → fresh ≡ true → NextChild n par j 0 c → (c ≡ 0 → ⊥) → Walked n par s t c true
    walk_down c f next some = record {
      here = ic.1;
      waits = λ _. w.bare f c ic up;
      awake = λ _. ic;
      bare = λ _ y iy b. w.bare f y iy (below_trans n par rank n y c j iy b up);
      done = λ g. absurd (both_ways true g refl);
      later = w.later;
      rising = λ x y ix iy p l b. first x y ix iy p l b;
      upward = λ x ix h. lifted (par x) (w.upward x ix h);
      joined = w.joined;
    }
      where
        of : (0 < c) × (c ≤ n) × (par c ≡ j) × ((k : ℕ) → 0 < k → k < c → par k ≡ j → ⊥)
        of = next.some some

        ic : In n c
        ic = (of.0, of.1)

        ij : In n j
        ij = w.awake f

        has : par c ≡ 0 → ⊥
        has z = omega (arith, of.2)

        up : below n par c j ≡ true
        up = one_up n par rank c j ic has (inl of.2)

        lifted : (x : ℕ) → Begun n par s t j x → Begun n par s t c x
        lifted x (inl h) = inl h
        lifted x (inr (inl h)) = inr (inr (ic, one_up n par rank c x ic has (inl (of.2 ∙ sym h))))
        lifted x (inr (inr h)) = inr (inr (ic, below_trans n par rank n c j x ic up h.1))

        first : (x y : ℕ) → In n x → In n y → par y ≡ par x → y < x → Begun n par s t c x → s y < s x
        first x y ix iy p l (inl h) = w.rising x y ix iy p l (inl h)
        first x y ix iy p l (inr (inl h)) = absurd (of.3 y (omega arith) (omega arith) (p ∙ ap par h ∙ of.2))
        first x y ix iy p l (inr (inr h)) = by (first_step n par rank c x ic h.1).1
          where
            by : (par c ≡ x) ⊎ (below n par (par c) x ≡ true) → s y < s x
            by (inl e) = w.rising x y ix iy p l (inr (inl (sym e ∙ of.2)))
            by (inr e) = w.rising x y ix iy p l (inr (inr (ij, rw of.2 at e)))

    -- who is above a written job and not written is where the walk stands, or above that
    climb : (d y x : ℕ) → In n j → In n y → s y ≤ t → met par d y x ≡ true → t < s x → (x ≡ j) ⊎ (below n par j x ≡ true)
    climb zero y x ij iy h m g = absurd (no_way par y x m)
    climb (suc d) y x ij iy h m g = go (λ i a b. climb d (par y) x ij i a b g) (met_cases par d y x m)
      where
        go : (In n (par y) → s (par y) ≤ t → met par d (par y) x ≡ true → (x ≡ j) ⊎ (below n par j x ≡ true)) → (par y ≡ 0 → ⊥) × ((par y ≡ x) ⊎ (met par d (par y) x ≡ true)) → (x ≡ j) ⊎ (below n par j x ≡ true)
        go r c = by (w.upward y iy h) c.1
          where
            ip : In n (par y)
            ip = par_job n par rank y iy c.0

            by : Begun n par s t j (par y) → (par y ≡ x) ⊎ (met par d (par y) x ≡ true) → (x ≡ j) ⊎ (below n par j x ≡ true)
            by (inl a) (inl e) = absurd (let z = ap s e in omega arith)
            by (inl a) (inr e) = r ip a e
            by (inr (inl a)) (inl e) = inl (sym e ∙ a)
            by (inr (inl a)) (inr e) = inr (rw a at (enough n par rank d (par y) x ip e))
            by (inr (inr a)) (inl e) = inr (rw e at a.1)
            by (inr (inr a)) (inr e) = inr (below_trans n par rank n j (par y) x ij a.1 (enough n par rank d (par y) x ip e))

    -- the job where the walk stands is written, once all its children are
    module _ (s' : ℕ → ℕ) (moved : (k : ℕ) → Moved s s' t j k) (ij : In n j) (full : (c : ℕ) → In n c → par c ≡ j → s c ≤ t) where
      later_on : (c : ℕ) → In n c → s' (par c) ≤ suc t → s' c < s' (par c)
      later_on c ic h = let a = w.later c ic in let b = full c ic in grind (arith, moved (par c), moved c)

      joined_on : (i k m : ℕ) → In n i → In n k → In n m → below n par k i ≡ true → s' k ≤ s' m → s' m < s' i → below n par m i ≡ true
      joined_on i k m ii ik im b l h = go (moved m) (moved k)
        where
          end : s' m ≡ suc t → (i ≡ j → ⊥) × (t < s i)
          end e = ((λ x. grind (arith, moved i)), grind (arith, moved i))

          by : s' m ≡ suc t → (i ≡ j) ⊎ (below n par j i ≡ true) → below n par j i ≡ true
          by e (inl x) = absurd ((end e).0 x)
          by e (inr x) = x

          go : Moved s s' t j m → Moved s s' t j k → below n par m i ≡ true
          go (inl c) d = w.joined i k m ii ik im b (grind arith) (grind (arith, moved i))
          go (inr (inl c)) (inl d) = rw c.0 (by c.2 (climb n k i ij ik d.0 b (end c.2).1))
          go (inr (inl c)) (inr (inl d)) = rw (d.0 ∙ sym c.0) at b
          go (inr (inl c)) (inr (inr d)) = absurd (omega (arith, c.2, d.2))
          go (inr (inr c)) d = absurd (grind (arith, moved i))

      rising_on : (x y : ℕ) → In n x → In n y → par y ≡ par x → y < x → Begun n par s t j x → s' y < s' x
      rising_on x y ix iy p l b = let z = w.rising x y ix iy p l b in let e = ends x in grind (arith, moved x, moved y)

      written_on : (x : ℕ) → (s x ≤ t) ⊎ (x ≡ j) → s' x ≤ suc t
      written_on x h = grind (arith, moved x)

      -- who is written now was written or is the one
      was : (x : ℕ) → s' x ≤ suc t → (s x ≤ t) ⊎ (x ≡ j)
      was x h = go (moved x)
        where
          go : Moved s s' t j x → (s x ≤ t) ⊎ (x ≡ j)
          go (inl c) = inl c.0
          go (inr (inl c)) = inr c.0
          go (inr (inr c)) = absurd (omega (arith, c.2))

      was_begun : (x : ℕ) → s' x ≤ suc t → Begun n par s t j x
      was_begun x h = go (was x h)
        where
          go : (s x ≤ t) ⊎ (x ≡ j) → Begun n par s t j x
          go (inl c) = inl c
          go (inr c) = inr (inl c)

      -- its parent is the parent of the one, or written now, or above the one
      up_now : (x : ℕ) → In n x → s' x ≤ suc t → (x ≡ j) ⊎ ((s' (par x) ≤ suc t) ⊎ (below n par j (par x) ≡ true))
      up_now x ix h = go (was x h)
        where
          by : Begun n par s t j (par x) → (s' (par x) ≤ suc t) ⊎ (below n par j (par x) ≡ true)
          by (inl c) = inl (written_on (par x) (inl c))
          by (inr (inl c)) = inl (written_on (par x) (inr c))
          by (inr (inr c)) = inr c.1

          go : (s x ≤ t) ⊎ (x ≡ j) → (x ≡ j) ⊎ ((s' (par x) ≤ suc t) ⊎ (below n par j (par x) ≡ true))
          go (inl c) = inr (by (w.upward x ix c))
          go (inr c) = inl c

      -- a lower sibling of the one is written
      lower : (y : ℕ) → In n y → par y ≡ par j → y < j → s y ≤ t
      lower y iy p l = omega (arith, w.rising j y ij iy p l (inr (inl refl)), ends j)

      -- without a next sibling the walk goes up
      pub walk_up : NextChild n par (par j) j 0 → Walked n par s' (suc t) (par j) false
      walk_up next = record {
        here = tree.parents j ij;
        waits = λ ip. out ip (moved (par j));
        awake = λ f. absurd (both_ways false refl f);
        bare = λ f. absurd (both_ways false refl f);
        done = λ _ c ic p. all c ic p (cases_order c j);
        later = later_on;
        rising = λ x y ix iy p l b. rising_on x y ix iy p l (old x ix b);
        upward = λ x ix h. next_up x (up_now x ix h);
        joined = joined_on;
      }
        where
          out : In n (par j) → Moved s s' t j (par j) → suc t < s' (par j)
          out ip (inl c) = absurd (omega (arith, w.later j ij c.0, w.waits ij))
          out ip (inr (inl c)) = absurd (let z = rank.rises j ij (λ z. omega arith) in let y = ap rank.rank c.0 in omega arith)
          out ip (inr (inr c)) = omega (arith, c.2)

          all : (c : ℕ) → In n c → par c ≡ par j → (c ≡ j) ⊎ ((c < j) ⊎ (j < c)) → s' c ≤ suc t
          all c ic p (inl e) = written_on c (inr e)
          all c ic p (inr (inl l)) = written_on c (inl (lower c ic p l))
          all c ic p (inr (inr l)) = absurd (next.none refl c l ic.1 p)

          old : (x : ℕ) → In n x → Begun n par s' (suc t) (par j) x → Begun n par s t j x
          old x ix (inl h) = was_begun x h
          old x ix (inr (inl h)) = inr (inr (ij, one_up n par rank j x ij (λ z. omega arith) (inl (sym h))))
          old x ix (inr (inr h)) = inr (inr (ij, one_up n par rank j x ij (λ z. omega (arith, h.0)) (inr h.1)))

          by : (x : ℕ) → (par j ≡ 0 → ⊥) → (par j ≡ x) ⊎ (below n par (par j) x ≡ true) → Begun n par s' (suc t) (par j) x
          by x a (inl e) = inr (inl (sym e))
          by x a (inr e) = inr (inr (par_job n par rank j ij a, e))

          next_up : (x : ℕ) → (x ≡ j) ⊎ ((s' (par x) ≤ suc t) ⊎ (below n par j (par x) ≡ true)) → Begun n par s' (suc t) (par j) (par x)
          next_up x (inl e) = inr (inl (ap par e))
          next_up x (inr (inl h)) = inl h
          next_up x (inr (inr h)) = let z = first_step n par rank j (par x) ij h in by (par x) z.0 z.1

      -- with one the walk goes there
      pub walk_aside : (b : ℕ) → NextChild n par (par j) j b → (b ≡ 0 → ⊥) → Walked n par s' (suc t) b true
      walk_aside b next some = record {
        here = ib.1;
        waits = λ _. out (moved b);
        awake = λ _. ib;
        bare = λ _ y iy h. under y iy h (was y);
        done = λ f. absurd (both_ways true f refl);
        later = later_on;
        rising = λ x y ix iy p l c. first x y ix iy p l c;
        upward = λ x ix h. inr_up x (up_now x ix h);
        joined = joined_on;
      }
        where
          of : (j < b) × (b ≤ n) × (par b ≡ par j) × ((k : ℕ) → j < k → k < b → par k ≡ par j → ⊥)
          of = next.some some

          ib : In n b
          ib = (omega (arith, of.0), of.1)

          has : par j ≡ 0 → ⊥
          has z = let a = tree.one_top j ij z in let c = tree.one_top b ib (of.2 ∙ z) in omega (arith, of.0)

          has_b : par b ≡ 0 → ⊥
          has_b z = has (sym of.2 ∙ z)

          new : t < s b
          new = go (cases_lt t (s b))
            where
              go : (t < s b) ⊎ (s b ≤ t) → t < s b
              go (inl h) = h
              go (inr h) = absurd (let z = w.rising b j ib ij (sym of.2) of.0 (inl h) in omega (arith, w.waits ij))

          out : Moved s s' t j b → suc t < s' b
          out (inl c) = absurd (omega (arith, new, c))
          out (inr (inl c)) = absurd (omega (arith, of.0, c.0))
          out (inr (inr c)) = omega (arith, c.2)

          under : (y : ℕ) → In n y → below n par y b ≡ true → (s' y ≤ suc t → (s y ≤ t) ⊎ (y ≡ j)) → suc t < s' y
          under y iy h r = go (cases_lt (suc t) (s' y))
            where
              found : (b ≡ j) ⊎ (below n par j b ≡ true) → ⊥
              found (inl e) = omega (arith, of.0)
              found (inr e) = no_kin n par rank j b ij ib (sym of.2) e

              by : (s y ≤ t) ⊎ (y ≡ j) → ⊥
              by (inl c) = found (climb n y b ij iy c h new)
              by (inr c) = no_kin n par rank j b ij ib (sym of.2) (rw c at h)

              go : (suc t < s' y) ⊎ (s' y ≤ suc t) → suc t < s' y
              go (inl c) = c
              go (inr c) = absurd (by (r c))

          first : (x y : ℕ) → In n x → In n y → par y ≡ par x → y < x → Begun n par s' (suc t) b x → s' y < s' x
          first x y ix iy p l (inl h) = rising_on x y ix iy p l (was_begun x h)
          first x y ix iy p l (inr (inl h)) = let a = ap s' h in omega (arith, out (moved b), within (cases_order y j))
            where
              q : par y ≡ par j
              q = p ∙ ap par h ∙ of.2

              within : (y ≡ j) ⊎ ((y < j) ⊎ (j < y)) → s' y ≤ suc t
              within (inl e) = written_on y (inr e)
              within (inr (inl e)) = written_on y (inl (lower y iy q e))
              within (inr (inr e)) = absurd (of.3 y e (omega arith) q)
          first x y ix iy p l (inr (inr h)) = rising_on x y ix iy p l (inr (inr (ij, one_up n par rank j x ij has (by (first_step n par rank b x ib h.1).1))))
            where
              by : (par b ≡ x) ⊎ (below n par (par b) x ≡ true) → (par j ≡ x) ⊎ (below n par (par j) x ≡ true)
              by (inl e) = inl (sym of.2 ∙ e)
              by (inr e) = inr (rw of.2 at e)

          inr_up : (x : ℕ) → (x ≡ j) ⊎ ((s' (par x) ≤ suc t) ⊎ (below n par j (par x) ≡ true)) → Begun n par s' (suc t) b (par x)
          inr_up x (inl e) = inr (inr (ib, one_up n par rank b (par x) ib has_b (inl (of.2 ∙ sym (ap par e)))))
          inr_up x (inr (inl h)) = inl h
          inr_up x (inr (inr h)) = inr (inr (ib, one_up n par rank b (par x) ib has_b (by (first_step n par rank j (par x) ij h).1)))
            where
              by : (par j ≡ par x) ⊎ (below n par (par j) (par x) ≡ true) → (par b ≡ par x) ⊎ (below n par (par b) (par x) ≡ true)
              by (inl e) = inl (of.2 ∙ e)
              by (inr e) = inr (rw of.2 e)

  -- when the walk is over all jobs are written
  pub walk_over : Walked n par s t 0 false → (k : ℕ) → In n k → s k ≤ t
  walk_over w k i = go k i (tree.reaches k i)
    where
      by : (k : ℕ) → In n k → ((par k ≡ 0 → ⊥) → s (par k) ≤ t) → (par k ≡ 0) ⊎ (par k ≡ 0 → ⊥) → s k ≤ t
      by k i r (inl e) = w.done refl k i e
      by k i r (inr e) = let z = w.later k i (r e) in let y = r e in omega arith

      go : (k : ℕ) → In n k → Reaches par k → s k ≤ t
      go k i (root e) = w.done refl k i e
      go k i (above r) = by k i (λ h. go (par k) (omega (arith, tree.parents k i)) r) (cases_eq (par k) 0)
