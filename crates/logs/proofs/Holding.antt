-- What jobs hold, and what a start and a report change of it, on one axis.
use Rattle.std.proofs.Common.{◌≡◌, ℕ, ◌+◌, Bool, true, false, not, ◌&&◌, eqb, ◌⊎◌, sym, ap, ◌∙◌, inl, inr, arith}
use Rattle.std.proofs.lemmas.Bool.{cases_eq, eq-eqb, ne_eqb}
use Rattle.std.proofs.lemmas.Bool.Decides.{nat_tests}
use Rattle.trees.specs.Sums.{In, sum, only}
use Rattle.trees.specs.Trees.{kids}
use Rattle.trees.proofs.Sums.{sum_eq, sum_zero, sum_add, sum_one}
use Rattle.jobs.specs.declared.State.{State}
use Rattle.jobs.specs.declared.State.TheVariants.{Waiting, Running, Done}
use Rattle.logs.specs.Stands.{Opened, is_waiting, is_done, taken, holds, held}
use Rattle.logs.proofs.States.{started_running}

-- Jobs that pass the test c take their work and output until they are done. What is held has such a form, with the jobs that are
-- started.
module _ (o : Opened) (c : ℕ → Bool) where
  abbrev pub covers : (ℕ → State) → ℕ → ℕ → ℕ
  covers t a k =
      only (c k && not (is_done (t k))) (o.work a k + o.output a k)
      + only (is_done (t k) && not (taken o t k)) (o.output a k)

  abbrev pub covered : (ℕ → State) → ℕ → ℕ
  covered t a = sum (covers t a) o.jobs

  -- it depends on what is done only
  pub covered_alike : (t u : ℕ → State) → ((k : ℕ) → is_done (u k) ≡ is_done (t k)) → (a : ℕ) → covered u a ≡ covered t a
  covered_alike t u same a = sum_eq (covers u a) (covers t a) o.jobs (λ k i. rw (same k, same (o.parent k)))

  -- Job i is done now, and nothing else has changed. Its children were done, and its parent is not: its work and its inputs are gone.
  module _ (t u : ℕ → State) (i : ℕ) (inside : In o.jobs i) (unfinished : is_done (t i) ≡ false) (shut : u i ≡ Done)
      (others : (k : ℕ) → (k ≡ i → ⊥) → u k ≡ t k) (children : (k : ℕ) → In o.jobs k → o.parent k ≡ i → t k ≡ Done)
      (parent_open : taken o t i ≡ false) (own : o.parent i ≡ i → ⊥) (counted : c i ≡ true) (a : ℕ) where
    off : ℕ → ℕ
    off k = only (eqb k i) (o.work a k) + only (eqb (o.parent k) i) (o.output a k)

    each : (k : ℕ) → In o.jobs k → covers u a k + off k ≡ covers t a k
    unfolding off
    each k h = let x = others k in let y = others (o.parent k) in let z = children k h in grind (arith, nat_tests)

    pub covered_done : covered u a + (o.work a i + kids o.jobs o.parent (o.output a) i) ≡ covered t a
    unfolding off
    covered_done =
        omega (
          arith,
          sum_eq (λ k. covers u a k + off k) (covers t a) o.jobs each,
          sum_add (covers u a) off o.jobs,
          sum_add (λ k. only (eqb k i) (o.work a k)) (λ k. only (eqb (o.parent k) i) (o.output a k)) o.jobs,
          sum_one (o.work a) i o.jobs inside,
        )

module _ (o : Opened) where
  held_covered : (t : ℕ → State) (a : ℕ) → held o t a ≡ covered o (λ k. not (is_waiting (t k))) t a
  held_covered t a =
      sum_eq (holds o t a) (covers o (λ k. not (is_waiting (t k))) t a) o.jobs (λ k i. ap (λ x. x + only (is_done (t k) && not (taken o t k)) (o.output a k)) (started_running (t k) (o.work a k + o.output a k)))

  pub held_none : (t : ℕ → State) → ((k : ℕ) → In o.jobs k → t k ≡ Waiting) → (a : ℕ) → held o t a ≡ 0
  held_none t wait a = sum_zero (holds o t a) o.jobs (λ k i. rw (wait k i))

  -- job j, which waited, runs now
  pub held_begun : (t u : ℕ → State) (b j : ℕ) → In o.jobs j → t j ≡ Waiting → u j ≡ Running b → ((k : ℕ) → (k ≡ j → ⊥) → u k ≡ t k) → (a : ℕ) → held o u a ≡ held o t a + o.work a j + o.output a j
  held_begun t u b j inside wait run others a =
      omega (
        arith,
        sum_eq (holds o u a) (λ k. holds o t a k + only (eqb k j) (o.work a k + o.output a k)) o.jobs (λ k i. each k (cases_eq k j)),
        sum_add (holds o t a) (λ k. only (eqb k j) (o.work a k + o.output a k)) o.jobs,
        sum_one (λ k. o.work a k + o.output a k) j o.jobs inside,
      )
    where
      done : (k : ℕ) → (k ≡ j) ⊎ (k ≡ j → ⊥) → is_done (u k) ≡ is_done (t k)
      done k (inl e) = ap (λ x. is_done (u x)) e ∙ ap is_done run ∙ sym (ap (λ x. is_done (t x)) e ∙ ap is_done wait)
      done k (inr e) = ap is_done (others k e)

      each : (k : ℕ) → (k ≡ j) ⊎ (k ≡ j → ⊥) → holds o u a k ≡ holds o t a k + only (eqb k j) (o.work a k + o.output a k)
      each k (inl e) =
          let now : u k ≡ Running b = ap u e ∙ run in
          let was : t k ≡ Waiting = ap t e ∙ wait in
          rw (now, was, eq-eqb k j e) (grind arith)
      each k (inr e) = rw (others k e, done (o.parent k) (cases_eq (o.parent k) j), ne_eqb k j e) (grind arith)

  -- job i, which ran, is done now
  pub held_ended : (t u : ℕ → State) (b i : ℕ) → In o.jobs i → t i ≡ Running b → u i ≡ Done → ((k : ℕ) → (k ≡ i → ⊥) → u k ≡ t k) → ((k : ℕ) → In o.jobs k → o.parent k ≡ i → t k ≡ Done) → taken o t i ≡ false → (o.parent i ≡ i → ⊥) → (a : ℕ) → held o u a + (o.work a i + kids o.jobs o.parent (o.output a) i) ≡ held o t a
  held_ended t u b i inside run shut others children free own a =
      let same : held o u a ≡ covered o (λ k. not (is_waiting (t k))) u a = held_covered u a ∙ sum_eq (covers o (λ k. not (is_waiting (u k))) u a) (covers o (λ k. not (is_waiting (t k))) u a) o.jobs (λ k h. rw (started k (cases_eq k i))) in
      omega (arith, same, held_covered t a, covered_done o (λ k. not (is_waiting (t k))) t u i inside (ap is_done run) shut others children free own (ap (λ s. not (is_waiting s)) run) a)
    where
      started : (k : ℕ) → (k ≡ i) ⊎ (k ≡ i → ⊥) → is_waiting (u k) ≡ is_waiting (t k)
      started k (inl e) = ap (λ x. is_waiting (u x)) e ∙ ap is_waiting shut ∙ sym (ap (λ x. is_waiting (t x)) e ∙ ap is_waiting run)
      started k (inr e) = ap is_waiting (others k e)
