-- Walks up a tree, and the marks that they leave.
use Rattle.std.proofs.Common.{◌≡◌, ℕ, ◌+◌, ◌<◌, ◌≤◌, cond, not, eqb, ◌⊎◌, List, length, get_or, set, replicate, MatchBool, count_by, sym, refl, ap, ◌∙◌, subst, inl, inr, arith}
use Rattle.std.proofs.lemmas.List.{get_or-set_same, get_or-set_other, length-set, get_or-replicate, length-replicate, get_or_past}
use Rattle.std.proofs.lemmas.List.Sums.{sum_by-set}
use Rattle.std.proofs.lemmas.Bool.{cases_eq, cases_lt, eq-eqb, ne_eqb}
use Rattle.trees.specs.Trees.{Reaches}
use Rattle.trees.specs.Trees.Reaches.{root, above}
use Rattle.trees.specs.Marks.{Marked}

module _ (par : ℕ → ℕ) where
  -- y is met on the way up from x
  pub data Climbs : ℕ → ℕ → Type 0 where
    here : {x y : ℕ} → par x ≡ y → (y ≡ 0 → ⊥) → Climbs x y
    on : {x y : ℕ} → (par x ≡ 0 → ⊥) → Climbs (par x) y → Climbs x y

  pub one_more : {x y : ℕ} → Climbs x y → (par y ≡ 0 → ⊥) → Climbs x (par y)
  one_more {x} {y} (here e z) h =
      let first : par x ≡ 0 → ⊥ = λ f. z (sym e ∙ f) in on first (here (ap par e) h)
  one_more (on z c) h = on z (one_more c h)

  -- a ring seen from one job further up
  turned : (x : ℕ) → Climbs x x → Climbs (par x) (par x)
  turned x (here e z) = here (ap par e) (λ f. z (sym e ∙ f))
  turned x (on z c) = one_more c z

  begins : (x : ℕ) → Climbs x x → par x ≡ 0 → ⊥
  begins x (here e z) f = z (sym e ∙ f)
  begins x (on z c) f = z f

  -- no way up from a ring ends
  pub ring : (x : ℕ) → Reaches par x → Climbs x x → ⊥
  ring x (root e) c = begins x c e
  ring x (above r) c = ring (par x) r (turned x c)

  pub further : (x : ℕ) → Reaches par x → (par x ≡ 0) ⊎ Reaches par (par x)
  further x (root e) = inl e
  further x (above r) = inr r

  pub back : (x : ℕ) → (par x ≡ 0) ⊎ Reaches par (par x) → Reaches par x
  back x (inl e) = root e
  back x (inr r) = above r

-- the walk from `job` stands at `at`: what was marked before is, and what it marked leads to `at`
pub record Walk (n : ℕ) (par : ℕ → ℕ) (old : List ℕ) (job at : ℕ) (marks : List ℕ) : Type 0 where
  pub size : length marks ≡ length old
  pub within : at ≤ n
  pub kept : (k : ℕ) → (get_or marks k 0 ≡ job → ⊥) → get_or marks k 0 ≡ get_or old k 0
  pub begun : (at ≡ job) ⊎ (get_or marks job 0 ≡ job)
  pub leads : (at ≡ 0 → ⊥) → (k : ℕ) → get_or marks k 0 ≡ job → Climbs par k at
  pub carries : (at ≡ 0) ⊎ Reaches par at → (k : ℕ) → get_or marks k 0 ≡ job → Reaches par k
  pub follows : Reaches par job → (at ≡ 0) ⊎ Reaches par at

pub walk_begins : (n : ℕ) (par : ℕ → ℕ) (old : List ℕ) (job : ℕ) → job ≤ n → Marked par old job → Walk n par old job job old
walk_begins n par old job h m =
    record {
      size = refl;
      within = h;
      kept = λ k _. refl;
      begun = inl refl;
      leads = λ _ k e. absurd (omega (arith, m.earlier k));
      carries = λ _ k e. absurd (omega (arith, m.earlier k));
      follows = inr;
    }

-- at first nothing is marked
pub blank : (size k : ℕ) → ◌≡◌ {A = ℕ} (get_or (replicate size 0) k 0) 0
blank size k =
    elim (cases_lt k size) [
      | inl h ↦ get_or-replicate size k 0 0 h
      | inr h ↦ get_or_past (replicate size 0) k 0 (simp length-replicate h)
    ]

pub unmarked : (par : ℕ → ℕ) (size next : ℕ) → 1 ≤ next → Marked par (replicate size 0) next
unmarked par size next h =
    record { earlier = λ k. omega (arith, blank size k); ends = λ k e. absurd (e (blank size k)) }

-- the walk goes on over a job that has no mark
module _ (n : ℕ) (par : ℕ → ℕ) (old marks : List ℕ) (job at : ℕ) (w : Walk n par old job at marks) (room : at < length marks) (some : 1 ≤ job) (there : at ≡ 0 → ⊥) (fresh : get_or marks at 0 ≡ 0) where
  pub marked_less : count_by (λ v. eqb v 0) (set marks at job) < count_by (λ v. eqb v 0) marks
  marked_less =
      let step = sum_by-set (λ v. cond (eqb v 0) 1 0) marks at job 0 room in
      let a : ◌≡◌ {A = ℕ} (cond (eqb job 0) 1 0) 0 = rw (ne_eqb job 0 (λ e. omega arith)) in
      let b : ◌≡◌ {A = ℕ} (cond (eqb (get_or marks at 0) 0) 1 0) 1 = rw (eq-eqb _ _ fresh) in
      omega (arith, step, a, b)

  own : (k : ℕ) → get_or (set marks at job) k 0 ≡ job → (k ≡ at) ⊎ (get_or marks k 0 ≡ job)
  own k e = elim (cases_eq k at) [ inl h ↦ inl h | inr h ↦ inr (sym (get_or-set_other marks at k job 0 h) ∙ e) ]

  pub walk_on : par at ≤ n → Walk n par old job (par at) (set marks at job)
  walk_on inside =
      record {
        size = length-set marks at job ∙ w.size;
        within = inside;
        kept = λ k h. elim (cases_eq k at) [
          | inl e ↦ absurd (h (ap (λ x. get_or (set marks at job) x 0) e ∙ get_or-set_same marks at job 0 room))
          | inr e ↦ get_or-set_other marks at k job 0 e ∙ w.kept k (λ f. h (get_or-set_other marks at k job 0 e ∙ f))
        ];
        begun = inr (elim (cases_eq job at) [
          | inl e ↦ ap (λ x. get_or (set marks at job) x 0) e ∙ get_or-set_same marks at job 0 room
          | inr e ↦ elim w.begun [
            | inl f ↦ absurd (e (sym f))
            | inr f ↦ get_or-set_other marks at job job 0 e ∙ f
          ]
        ]);
        leads = λ z k e. elim (own k e) [
          | inl h ↦ here (ap par h) z
          | inr h ↦ one_more par (w.leads there k h) z
        ];
        carries = λ r k e. elim (own k e) [
          | inl h ↦ subst (Reaches par) (sym h) (back par at r)
          | inr h ↦ w.carries (inr (back par at r)) k h
        ];
        follows = λ r. elim (w.follows r) [ inl e ↦ absurd (there e) | inr q ↦ further par at q ];
      }

-- the walk is over
module _ (n : ℕ) (par : ℕ → ℕ) (old marks : List ℕ) (job at : ℕ) (w : Walk n par old job at marks) (some : 1 ≤ job) (m : Marked par old job) where
  pub walk_out : (at ≡ 0) ⊎ Reaches par at → Marked par marks (job + 1) × Reaches par job
  walk_out out = (
    record {
      earlier = λ k. elim (cases_eq (get_or marks k 0) job) [ inl e ↦ omega arith | inr e ↦ omega (arith, w.kept k e, m.earlier k) ];
      ends = λ k h. elim (cases_eq (get_or marks k 0) job) [
        | inl e ↦ w.carries out k e
        | inr e ↦ m.ends k (λ f. h (w.kept k e ∙ f))
      ];
    },
    elim w.begun [
      | inl e ↦ elim out [ inl f ↦ absurd (omega arith) | inr r ↦ subst (Reaches par) e r ]
      | inr e ↦ w.carries out job e
    ],
  )

  -- it came to another walk's mark, or back to one of its own
  pub walk_met : (at ≡ 0 → ⊥) → (get_or marks at 0 ≡ 0 → ⊥) → MatchBool (not (eqb (get_or marks at 0) job)) (Marked par marks (job + 1) × Reaches par job) (Reaches par job → ⊥)
  walk_met there seen =
      elim (cases_eq (get_or marks at 0) job) [
        | inl e ↦ rw (eq-eqb _ _ e) (λ r. elim (w.follows r) [ inl f ↦ there f | inr q ↦ ring par at q (w.leads there at e) ])
        | inr e ↦ rw (ne_eqb _ _ e) (walk_out (inr (m.ends at (λ f. seen (w.kept at e ∙ f)))))
      ]
