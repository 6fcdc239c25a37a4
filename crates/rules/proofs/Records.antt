-- What follows for a row of job records from what was changed of it.
use Rattle.std.proofs.Common.{◌≡◌, ℕ, zero, suc, ◌+◌, ◌<◌, true, false, cond, ◌&&◌, leb, ◌⊎◌, List, [], ◌∷◌, map, length, get_or, take, set, sym, refl, ap, ◌∙◌, subst, inl, inr, arith}
use mathlib.Core.List.{map-map}
use Rattle.std.proofs.lemmas.List.{length-map, get_or-set_same, get_or-set_other}
use Rattle.std.proofs.lemmas.Bool.{cases_Bool, cond-true, cond-false}
use Rattle.std.proofs.lemmas.Bool.Decides.{nat_tests}
use Rattle.trees.specs.Sums.{In}
use Rattle.trees.specs.Trees.{Tree, Chained}
use Rattle.jobs.specs.declared.Job.{Job}
use Rattle.jobs.specs.declared.State.{State}
use Rattle.jobs.specs.declared.State.TheVariants.{Waiting}
use Rattle.jobs.specs.Fields.{first_of, next_of, work_of, output_of}
use Rattle.intake.specs.Faults.{Over, Above, par_of}
use Rattle.intake.specs.Taken.{Sound}
use Rattle.rules.specs.declared.hall.Hall.{Hall}
use Rattle.rules.specs.Records.{state_in, opened_of, with_state, restated, Typed, typed}

in_test : (n k : ℕ) → In n k → (leb 1 k && leb k n) ≡ true
in_test n k i = grind (arith, nat_tests)

out_test : (n k : ℕ) → (In n k → ⊥) → (leb 1 k && leb k n) ≡ false
out_test n k h = go (cases_Bool (leb 1 k && leb k n))
  where
    go : ((leb 1 k && leb k n) ≡ true) ⊎ ((leb 1 k && leb k n) ≡ false) → (leb 1 k && leb k n) ≡ false
    go (inl e) = absurd (h (grind (arith, nat_tests), grind (arith, nat_tests)))
    go (inr e) = e

module _ {S : Type 0} where
  -- a field that is no state stays when a state is changed
  pub map_restated : {Y : Type 0} (f : Job S → Y) → ((x : Job S) (s : State) → f (with_state x s) ≡ f x) → (xs : List (Job S)) (i : ℕ) (s : State) → map f (restated xs i s) ≡ map f xs
  map_restated f same [] i s = refl
  map_restated f same (x ∷ xs) zero s = ap (λ y. y ∷ map f xs) (same x s)
  map_restated f same (x ∷ xs) (suc i) s = ap (λ l. f x ∷ l) (map_restated f same xs i s)

  pub states_restated : (xs : List (Job S)) (i : ℕ) (s : State) → map (λ j. j.state) (restated xs i s) ≡ set (map (λ j. j.state) xs) i s
  states_restated [] i s = refl
  states_restated (x ∷ xs) zero s = refl
  states_restated (x ∷ xs) (suc i) s = ap (λ l. x.state ∷ l) (states_restated xs i s)

  -- a record written back with another state
  pub set_restated : (xs : List (Job S)) (i : ℕ) (s : State) (x : Job S) → i < length xs → x ≡ get_or xs i x → set xs i (with_state x s) ≡ restated xs i s
  set_restated [] i s x h e = refl
  set_restated (y ∷ xs) zero s x h e = ap (λ z. with_state z s ∷ xs) e
  set_restated (y ∷ xs) (suc i) s x h e = ap (λ l. y ∷ l) (set_restated xs i s x (omega arith) e)

  pub state_in_job : (n : ℕ) (xs : List (Job S)) (k : ℕ) → In n k → state_in n xs k ≡ get_or (map (λ j. j.state) xs) k Waiting
  state_in_job n xs k i = cond-true (leb 1 k && leb k n) _ _ (in_test n k i)

  pub state_in_none : (n : ℕ) (xs : List (Job S)) (k : ℕ) → (In n k → ⊥) → state_in n xs k ≡ Waiting
  state_in_none n xs k h = cond-false (leb 1 k && leb k n) _ _ (out_test n k h)

  module _ (n : ℕ) (xs : List (Job S)) (j : ℕ) (s : State) (inside : In n j) (room : n < length xs) where
    pub restated_here : (k : ℕ) → k ≡ j → state_in n (restated xs j s) k ≡ s
    restated_here k e =
        let wide : j < length (map (λ y. y.state) xs) = omega (arith, length-map xs (λ y. y.state)) in
        ap (state_in n (restated xs j s)) e ∙ state_in_job n (restated xs j s) j inside ∙ ap (λ l. get_or l j Waiting) (states_restated xs j s) ∙ get_or-set_same (map (λ y. y.state) xs) j s Waiting wide

    pub restated_other : (k : ℕ) → (k ≡ j → ⊥) → state_in n (restated xs j s) k ≡ state_in n xs k
    restated_other k e = ap (λ v. cond (leb 1 k && leb k n) v Waiting) (ap (λ l. get_or l k Waiting) (states_restated xs j s) ∙ get_or-set_other (map (λ y. y.state) xs) j k s Waiting e)

  -- records that were typed alike
  module _ (xs ys : List (Job S)) (same : map typed ys ≡ map typed xs) where
    pub through : {Y : Type 0} (f : Typed S → Y) → map (λ j. f (typed j)) ys ≡ map (λ j. f (typed j)) xs
    through f = sym (map-map f typed ys) ∙ ap (map f) same ∙ map-map f typed xs

    pub length_typed : length ys ≡ length xs
    length_typed = sym (length-map ys typed) ∙ ap length same ∙ length-map xs typed

    pub par_typed : (n : ℕ) → par_of ys n ≡ par_of xs n
    par_typed n = ap (λ l. λ k. get_or (take (n + 1) l) k 0) (through (λ g. g.parent))

    module _ (read : S → ℕ → ℕ) where
      pub work_typed : work_of read ys ≡ work_of read xs
      work_typed = λ i a k. get_or (through (λ g. read g.work a) i) k 0

      pub output_typed : output_of read ys ≡ output_of read xs
      output_typed = λ i a k. get_or (through (λ g. read g.output a) i) k 0

      pub opened_typed : (h : Hall S) → opened_of read h ys ≡ opened_of read h xs
      opened_typed h =
          λ i. record {
            jobs = h.jobs;
            parent = par_typed h.jobs i;
            work = work_typed i;
            output = output_typed i;
            benches = h.benches;
            floor = read h.floor;
          }

      pub sound_typed : (w n : ℕ) → Sound w read xs n → Sound w read ys n
      sound_typed w n s =
          record {
            some = s.some;
            few = s.few;
            records = omega (arith, s.records, length_typed);
            axes = s.axes;
            bounds = λ i h above. s.bounds i h (back i above);
            tree = subst (Tree n) (sym (par_typed n)) s.tree;
          }
        where
          back : (i : ℕ) → Above w read ys i → Above w read xs i
          back i (inl over) = inl (subst (λ (v : ℕ → ℕ → ℕ). Over w (λ k. v k i)) work_typed over)
          back i (inr (inl over)) = inr (inl (subst (λ (v : ℕ → ℕ → ℕ). Over w (λ k. v k i)) output_typed over))
          back i (inr (inr late)) = inr (inr (subst (λ l. 10000 < get_or l i 0) (through (λ g. g.minutes)) late))

  -- another state leaves what was typed, and the links
  pub typed_restated : (xs : List (Job S)) (j : ℕ) (s : State) → map typed (restated xs j s) ≡ map typed xs
  typed_restated = map_restated typed (λ x s. refl)

  pub chained_same : (n : ℕ) (par : ℕ → ℕ) (xs ys : List (Job S)) → map (λ j. j.first_child) ys ≡ map (λ j. j.first_child) xs → map (λ j. j.next_sibling) ys ≡ map (λ j. j.next_sibling) xs → Chained n par (first_of xs) (next_of xs) → Chained n par (first_of ys) (next_of ys)
  chained_same n par xs ys f g c =
      subst (λ next. Chained n par (first_of ys) (λ k. get_or next k 0)) (sym g) (subst (λ first. Chained n par (λ k. get_or first k 0) (next_of xs)) (sym f) c)
