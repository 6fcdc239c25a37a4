-- Chains of children, linked from the last job down.
use Rattle.std.proofs.Common.{◌≡◌, ℕ, ◌+◌, ◌-◌, ◌<◌, ◌≤◌, List, length, get_or, set, sym, ap, ◌∙◌, subst, inl, inr, arith}
use Rattle.std.proofs.lemmas.List.{get_or-set_same, get_or-set_other}
use Rattle.std.proofs.lemmas.Bool.{cases_eq}
use Rattle.trees.specs.Sums.{In}
use Rattle.trees.specs.Trees.{NextChild, ChainedWhole}

-- the chains of the jobs from i on
pub record Linked (n : ℕ) (par : ℕ → ℕ) (first next : List ℕ) (i : ℕ) : Type 0 where
  pub counts : 1 ≤ i
  pub firsts : (v : ℕ) → v ≤ n → NextChild n par v (i - 1) (get_or first v 0)
  pub nexts : (k : ℕ) → i ≤ k → k ≤ n → NextChild n par (par k) k (get_or next k 0)
  pub spare : get_or next 0 0 ≡ 0
  pub past : (k : ℕ) → n < k → (get_or first k 0 ≡ 0) × (get_or next k 0 ≡ 0)

module _ (n : ℕ) (par : ℕ → ℕ) where
  pub unlinked : (first next : List ℕ) → ((k : ℕ) → (get_or first k 0 ≡ 0) × (get_or next k 0 ≡ 0)) → (i : ℕ) → i ≡ n + 1 → Linked n par first next i
  unlinked first next clear i e =
      record {
        counts = omega arith;
        firsts = λ v h. record { none = λ _ k a b c. omega arith; some = λ z. absurd (z (clear v).0) };
        nexts = λ k a b. absurd (omega arith);
        spare = (clear 0).1;
        past = λ k _. clear k;
      }

  -- the lowest job above j - 1 whose parent is v: j itself, or one above it
  lowest_here : (v j : ℕ) → In n j → par j ≡ v → NextChild n par v (j - 1) j
  lowest_here v j i e = record { none = λ z. absurd (omega arith); some = λ _. (omega arith, i.1, e, λ k a b. absurd (omega arith)) }

  lowest_later : (v j m : ℕ) → (par j ≡ v → ⊥) → 1 ≤ j → NextChild n par v j m → NextChild n par v (j - 1) m
  lowest_later v j m other low c =
      record {
        none = λ z k a b. elim (cases_eq k j) [ inl e ↦ λ f. other (sym (ap par e) ∙ f) | inr e ↦ c.none z k (omega arith) b ];
        some = λ z. let s = c.some z in (
          omega (arith, s.0),
          s.1,
          s.2,
          λ k a b. elim (cases_eq k j) [ inl e ↦ λ f. other (sym (ap par e) ∙ f) | inr e ↦ s.3 k (omega arith) b ],
        );
      }

  module _ (first next : List ℕ) (j : ℕ) (here : In n j) (inside : par j ≤ n) (room : par j < length first) (space : j < length next) (l : Linked n par first next (j + 1)) where
    above : (v : ℕ) → v ≤ n → NextChild n par v j (get_or first v 0)
    above v h = let e : j + 1 - 1 ≡ j = omega arith in subst (λ x. NextChild n par v x (get_or first v 0)) e (l.firsts v h)

    pub linked_more : Linked n par (set first (par j) j) (set next j (get_or first (par j) 0)) j
    linked_more =
        record {
          counts = here.0;
          firsts = λ v h. elim (cases_eq v (par j)) [
            | inl e ↦ subst (NextChild n par v (j - 1)) (sym (ap (λ x. get_or (set first (par j) j) x 0) e ∙ get_or-set_same first (par j) j 0 room)) (lowest_here v j here (sym e))
            | inr e ↦ subst (NextChild n par v (j - 1)) (sym (get_or-set_other first (par j) v j 0 e)) (lowest_later v j (get_or first v 0) (λ f. e (sym f)) here.0 (above v h))
          ];
          nexts = λ k a b. elim (cases_eq k j) [
            | inl e ↦ subst (λ x. NextChild n par (par x) x (get_or (set next j (get_or first (par j) 0)) x 0)) (sym e) (subst (NextChild n par (par j) j) (sym (get_or-set_same next j (get_or first (par j) 0) 0 space)) (above (par j) inside))
            | inr e ↦ subst (NextChild n par (par k) k) (sym (get_or-set_other next j k (get_or first (par j) 0) 0 e)) (l.nexts k (omega arith) b)
          ];
          spare = let e : 0 ≡ j → ⊥ = λ f. omega arith in get_or-set_other next j 0 (get_or first (par j) 0) 0 e ∙ l.spare;
          past = λ k h.
              let e : k ≡ par j → ⊥ = λ f. omega arith in
              let f : k ≡ j → ⊥ = λ f. omega arith in (
                get_or-set_other first (par j) k j 0 e ∙ (l.past k h).0,
                get_or-set_other next j k (get_or first (par j) 0) 0 f ∙ (l.past k h).1,
              );
        }

  pub linked_all : (first next : List ℕ) (i : ℕ) → i ≤ 1 → Linked n par first next i → ChainedWhole n par (λ k. get_or first k 0) (λ k. get_or next k 0)
  linked_all first next i low l =
      let e : i - 1 ≡ 0 = omega arith in
      let firsts : (v : ℕ) → v ≤ n → NextChild n par v 0 (get_or first v 0) =
      λ v h. subst (λ x. NextChild n par v x (get_or first v 0)) e (l.firsts v h) in
      record {
        chained = record { firsts = λ k h. firsts k h.1; nexts = λ k h. l.nexts k (omega arith) h.1 };
        top = firsts 0 (omega arith);
        top_next = l.spare;
        past = l.past;
      }
