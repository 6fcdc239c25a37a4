-- The loop that makes the records ready, one job more.
use Rattle.std.proofs.Common.{◌≡◌, ℕ, ◌-◌, ◌<◌, ◌≤◌, List, map, length, get_or, set, sym, refl, ap, ◌∙◌, subst, inl, inr, arith}
use Rattle.std.proofs.lemmas.List.{map-set, get_or-set_same, get_or-set_other, length-map}
use Rattle.std.proofs.lemmas.Bool.{cases_eq}
use Rattle.std.proofs.lemmas.Bool.Decides.{nat_tests}
use Rattle.trees.specs.Sums.{In}
use Rattle.trees.specs.Trees.{NextChild, Chained}
use Rattle.trees.specs.Lines.{place}
use Rattle.jobs.specs.declared.Job.{Job}
use Rattle.jobs.specs.declared.State.TheVariants.{Waiting}
use Rattle.jobs.specs.Fields.{at, first_of, next_of}
use Rattle.jobs.proofs.Fields.{map_kept}
use Rattle.intake.specs.Faults.{par_of}
use Rattle.rules.specs.Records.{typed, Laid}

module _ {S : Type 0} where
  -- the job with its links and its position, waiting
  abbrev pub ready : Job S → ℕ → ℕ → ℕ → Job S
  ready j first next position =
      record {
        parent = j.parent;
        work = j.work;
        output = j.output;
        minutes = j.minutes;
        first_child = first;
        next_sibling = next;
        state = Waiting;
        position = position;
        share = j.share;
        booked = j.booked;
      }

  -- ys is xs with the jobs 1 to n ready, as `first`, `next` and `position` tell
  pub record Readied (n : ℕ) (first next position : ℕ → ℕ) (xs ys : List (Job S)) : Type 0 where
    pub typed_same : map typed ys ≡ map typed xs
    pub shares : map (λ j. j.share) ys ≡ map (λ j. j.share) xs
    pub booked : map (λ j. j.booked) ys ≡ map (λ j. j.booked) xs
    pub firsts : (k : ℕ) → In n k → first_of ys k ≡ first k
    pub nexts : (k : ℕ) → In n k → next_of ys k ≡ next k
    pub positions : (k : ℕ) → In n k → at (λ j. j.position) ys k ≡ position k
    pub waiting : (k : ℕ) → In n k → get_or (map (λ j. j.state) ys) k Waiting ≡ Waiting
    pub others : (k : ℕ) (d : Job S) → (In n k → ⊥) → get_or ys k d ≡ get_or xs k d

module _ {S : Type 0} (first next position : ℕ → ℕ) (xs : List (Job S)) where
  module _ (ys : List (Job S)) (i : ℕ) (job : Job S) (some : 1 ≤ i) (inside : i < length ys) (read : job ≡ get_or ys i job) (r : Readied (i - 1) first next position xs ys) where
    abbrev new : Job S
    new = ready job (first i) (next i) (position i)

    -- a field that was written, of the jobs before and of this one
    written : {Y : Type 0} (f : Job S → Y) (d : Y) (g : ℕ → Y) → f new ≡ g i → ((k : ℕ) → In (i - 1) k → get_or (map f ys) k d ≡ g k) → (k : ℕ) → In i k → get_or (map f (set ys i new)) k d ≡ g k
    written f d g here below k h =
        let wide : i < length (map f ys) = omega (arith, length-map ys f) in
        ap (λ l. get_or l k d) (map-set f ys i new)
        ∙ elim (cases_eq k i) as (λ _. get_or (set (map f ys) i (f new)) k d ≡ g k) [
          | inl q ↦ ap (λ x. get_or (set (map f ys) i (f new)) x d) q ∙ get_or-set_same (map f ys) i (f new) d wide ∙ here ∙ ap g (sym q)
          | inr q ↦ get_or-set_other (map f ys) i k (f new) d q ∙ below k (h.0, omega arith)
        ]

    pub readied_more : Readied i first next position xs (set ys i new)
    readied_more =
        record {
          typed_same = map_kept typed ys i job _ inside read refl ∙ r.typed_same;
          shares = map_kept (λ j. j.share) ys i job _ inside read refl ∙ r.shares;
          booked = map_kept (λ j. j.booked) ys i job _ inside read refl ∙ r.booked;
          firsts = written (λ j. j.first_child) 0 first refl r.firsts;
          nexts = written (λ j. j.next_sibling) 0 next refl r.nexts;
          positions = written (λ j. j.position) 0 position refl r.positions;
          waiting = written (λ j. j.state) Waiting (λ k. Waiting) refl r.waiting;
          others = λ k d h.
              let e : k ≡ i → ⊥ = λ f. h (omega arith, omega arith) in
              get_or-set_other ys i k _ d e ∙ r.others k d (λ p. h (p.0, omega arith));
        }

  -- the links written are the chains of the tree, and the positions are those in the row
  pub laid : (ys : List (Job S)) (n : ℕ) (row : List ℕ) → Chained n (par_of xs n) first next → ((k : ℕ) → In n k → position k ≡ place k row) → Readied n first next position xs ys → Laid n row xs ys
  laid ys n row c told r =
      record {
        typed_same = r.typed_same;
        shares = r.shares;
        booked = r.booked;
        chains = record {
          firsts = λ k h. subst (NextChild n (par_of xs n) k 0) (sym (r.firsts k h)) (c.firsts k h);
          nexts = λ k h. subst (NextChild n (par_of xs n) (par_of xs n k) k) (sym (r.nexts k h)) (c.nexts k h);
        };
        places = λ k h. r.positions k h ∙ told k h;
        waiting = λ k h. let w = r.waiting k h in grind (arith, nat_tests);
        others = r.others;
      }
