-- The loop that writes the links, one job more.
use Rattle.std.proofs.Common.{◌≡◌, ℕ, ◌-◌, ◌<◌, ◌≤◌, List, map, length, get_or, set, sym, refl, ap, ◌∙◌, subst, inl, inr, arith}
use Rattle.std.proofs.lemmas.List.{get_or-set_other}
use Rattle.std.proofs.lemmas.Bool.{cases_eq}
use Rattle.trees.specs.Sums.{In}
use Rattle.jobs.specs.declared.Job.{Job}
use Rattle.trees.specs.Trees.{NextChild, Chained}
use Rattle.intake.specs.Faults.{par_of}
use Rattle.intake.specs.Taken.{linked, bare, Rechained, Taken}
use Rattle.jobs.proofs.Fields.{map_kept, at_same, at_other}

module _ {S : Type 0} (first next : ℕ → ℕ) (xs : List (Job S)) where
  pub none_rechained : Rechained 0 first next xs xs
  none_rechained =
      record {
        rest = refl;
        firsts = λ k h. absurd (omega arith);
        nexts = λ k h. absurd (omega arith);
        others = λ k d h. refl;
      }

  module _ (ys : List (Job S)) (i : ℕ) (job : Job S) (some : 1 ≤ i) (inside : i < length ys) (read : job ≡ get_or ys i job) (r : Rechained (i - 1) first next xs ys) where
    abbrev more : List (Job S)
    more = set ys i (linked job (first i) (next i))

    link : (f : Job S → ℕ) (g : ℕ → ℕ) → f (linked job (first i) (next i)) ≡ g i → ((k : ℕ) → In (i - 1) k → get_or (map f ys) k 0 ≡ g k) → (k : ℕ) → In i k → get_or (map f more) k 0 ≡ g k
    link f g e below k h =
        elim (cases_eq k i) [
          | inl q ↦ ap (λ x. get_or (map f more) x 0) q ∙ at_same f ys i _ inside ∙ e ∙ ap g (sym q)
          | inr q ↦ at_other f ys i _ k q ∙ below k (h.0, omega arith)
        ]

    pub rechained_more : Rechained i first next xs more
    rechained_more =
        record {
          rest = map_kept bare ys i job _ inside read refl ∙ r.rest;
          firsts = link (λ j. j.first_child) first refl r.firsts;
          nexts = link (λ j. j.next_sibling) next refl r.nexts;
          others = λ k d h.
              let e : k ≡ i → ⊥ = λ f. h (omega arith, omega arith) in
              get_or-set_other ys i k _ d e ∙ r.others k d (λ p. h (p.0, omega arith));
        }

-- the links written are the chains of the tree
pub taken : {S : Type 0} (first next : ℕ → ℕ) (xs ys : List (Job S)) (n : ℕ) → Chained n (par_of xs n) first next → Rechained n first next xs ys → Taken n xs ys
taken first next xs ys n c r =
    record {
      rest = r.rest;
      chains = record {
        firsts = λ k h. subst (NextChild n (par_of xs n) k 0) (sym (r.firsts k h)) (c.firsts k h);
        nexts = λ k h. subst (NextChild n (par_of xs n) (par_of xs n k) k) (sym (r.nexts k h)) (c.nexts k h);
      };
      others = r.others;
    }
