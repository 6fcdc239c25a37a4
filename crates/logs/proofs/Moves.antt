-- How the jobs stand stays sound, whatever is rightly started and reported.
use Rattle.std.proofs.Common.{◌≡◌, ℕ, ◌+◌, ◌≤◌, true, false, eqb, ◌⊎◌, sym, refl, ap, ◌∙◌, subst, inl, inr, arith}
use Rattle.std.proofs.lemmas.Bool.{cases_eq, cases_Bool, eq-eqb, ne_eqb, true≢false, cond-true, cond-false}
use Rattle.std.proofs.lemmas.Bool.Decides.{nat_tests}
use Rattle.trees.specs.Sums.{In}
use Rattle.trees.specs.Trees.{kids}
use Rattle.lines.proofs.Upward.{cases_in}
use Rattle.jobs.specs.declared.State.{State}
use Rattle.jobs.specs.declared.State.TheVariants.{Waiting, Running, Done}
use Rattle.logs.specs.Stands.{Opened, runs_on, taken, held, busy, Ready}
use Rattle.logs.specs.Logs.{begun, ended}
use Rattle.logs.proofs.Tallies.{any_from}
use Rattle.logs.proofs.States.{runs_on_from, runs_on_is, waiting_running, waiting_done, running_done, same_bench, Way, waits, runs, done, way}
use Rattle.logs.proofs.Holding.{held_none, held_begun, held_ended}

-- what every way of standing keeps that starts and reports lead to
pub record Sound (o : Opened) (t : ℕ → State) : Type 0 where
  pub fits : (a : ℕ) → held o t a ≤ o.floor a
  -- a child of a started job is done
  pub order : (k : ℕ) → In o.jobs k → (o.parent k ≡ 0 → ⊥) → (t (o.parent k) ≡ Waiting → ⊥) → t k ≡ Done
  pub seated : (k b : ℕ) → In o.jobs k → t k ≡ Running b → In o.benches b
  pub alone : (j k b : ℕ) → In o.jobs j → In o.jobs k → t j ≡ Running b → t k ≡ Running b → j ≡ k
  -- what is no job waits for ever
  pub outside : (k : ℕ) → (In o.jobs k → ⊥) → t k ≡ Waiting

pub waiting_sound : (o : Opened) → Sound o (λ k. Waiting)
waiting_sound o =
    record {
      fits = λ a. omega (arith, held_none o (λ k. Waiting) (λ k i. refl) a);
      order = λ k i p moved. absurd (moved refl);
      seated = λ k b i r. absurd (waiting_running refl r);
      alone = λ j k b i h r q. absurd (waiting_running refl r);
      outside = λ k h. refl;
    }

module _ (o : Opened) (t : ℕ → State) (sound : Sound o t) where
  -- a job that is not done has no done parent
  pub parent_open : (i : ℕ) → In o.jobs i → (t i ≡ Done → ⊥) → taken o t i ≡ false
  parent_open i inside unfinished = go (cases_eq (o.parent i) 0) (way (t (o.parent i)))
    where
      go : (o.parent i ≡ 0) ⊎ (o.parent i ≡ 0 → ⊥) → Way (t (o.parent i)) → taken o t i ≡ false
      go (inl e) v = rw (eq-eqb (o.parent i) 0 e)
      go (inr e) (waits w) = rw w (grind (arith, nat_tests))
      go (inr e) (runs b r) = rw r (grind (arith, nat_tests))
      go (inr e) (done d) = absurd (unfinished (sound.order i inside e (λ w. waiting_done w d)))

  -- a started job that is not done is not its own parent
  pub not_own : (i : ℕ) → In o.jobs i → (t i ≡ Waiting → ⊥) → (t i ≡ Done → ⊥) → o.parent i ≡ i → ⊥
  not_own i inside begun-already unfinished e =
      unfinished (sound.order i inside (λ z. let y : i ≡ 0 = sym e ∙ z in omega arith) (λ w. begun-already (sym (ap t e) ∙ w)))

  pub idle_from : (b : ℕ) → busy o t b ≡ false → (k : ℕ) → In o.jobs k → t k ≡ Running b → ⊥
  idle_from b idle k i r = true≢false (sym (any_from (λ k. runs_on b (t k)) o.jobs k i (runs_on_is b (t k) r)) ∙ idle)

  module _ (b j : ℕ) (bench : In o.benches b) (idle : busy o t b ≡ false) (ready : Ready o t j) where
    at_start : begun t b j j ≡ Running b
    at_start = cond-true (eqb j j) _ _ (eq-eqb j j refl)

    pub begun_other : (k : ℕ) → (k ≡ j → ⊥) → begun t b j k ≡ t k
    begun_other k e = cond-false (eqb k j) _ _ (ne_eqb k j e)

    pub begun_here : (k : ℕ) → k ≡ j → begun t b j k ≡ Running b
    begun_here k e = cond-true (eqb k j) _ _ (eq-eqb k j e)

    pub begun_held : (a : ℕ) → held o (begun t b j) a ≡ held o t a + o.work a j + o.output a j
    begun_held = held_begun o t (begun t b j) b j ready.job ready.waits at_start begun_other

    order_on : (k : ℕ) → In o.jobs k → (o.parent k ≡ 0 → ⊥) → (begun t b j (o.parent k) ≡ Waiting → ⊥) → (k ≡ j) ⊎ (k ≡ j → ⊥) → (o.parent k ≡ j) ⊎ (o.parent k ≡ j → ⊥) → begun t b j k ≡ Done
    order_on k i p moved (inl e) (inl q) = absurd (waiting_done ready.waits (ready.children j ready.job (ap o.parent (sym e) ∙ q)))
    order_on k i p moved (inr e) (inl q) = begun_other k e ∙ ready.children k i q
    order_on k i p moved c (inr q) =
        let old : t k ≡ Done = sound.order k i p (λ w. moved (begun_other (o.parent k) q ∙ w)) in
        begun_other k (λ e. waiting_done ready.waits (ap t (sym e) ∙ old)) ∙ old

    seated_on : (k c : ℕ) → In o.jobs k → begun t b j k ≡ Running c → (k ≡ j) ⊎ (k ≡ j → ⊥) → In o.benches c
    seated_on k c i r (inl e) = subst (In o.benches) (same_bench (begun_here k e) r) bench
    seated_on k c i r (inr e) = sound.seated k c i (sym (begun_other k e) ∙ r)

    alone_on : (x y c : ℕ) → In o.jobs x → In o.jobs y → begun t b j x ≡ Running c → begun t b j y ≡ Running c → (x ≡ j) ⊎ (x ≡ j → ⊥) → (y ≡ j) ⊎ (y ≡ j → ⊥) → x ≡ y
    alone_on x y c i h r q (inl e) (inl f) = e ∙ sym f
    alone_on x y c i h r q (inl e) (inr f) = absurd (idle_from b idle y h (sym (begun_other y f) ∙ q ∙ ap Running (same_bench r (begun_here x e))))
    alone_on x y c i h r q (inr e) (inl f) = absurd (idle_from b idle x i (sym (begun_other x e) ∙ r ∙ ap Running (same_bench q (begun_here y f))))
    alone_on x y c i h r q (inr e) (inr f) = sound.alone x y c i h (sym (begun_other x e) ∙ r) (sym (begun_other y f) ∙ q)

    pub begun_sound : Sound o (begun t b j)
    begun_sound =
        record {
          fits = λ a. omega (arith, begun_held a, ready.fits a);
          order = λ k i p moved. order_on k i p moved (cases_eq k j) (cases_eq (o.parent k) j);
          seated = λ k c i r. seated_on k c i r (cases_eq k j);
          alone = λ x y c i h r q. alone_on x y c i h r q (cases_eq x j) (cases_eq y j);
          outside = λ k h. begun_other k (λ e. h (subst (In o.jobs) (sym e) ready.job)) ∙ sound.outside k h;
        }

  module _ (b i : ℕ) (inside : In o.jobs i) (run : t i ≡ Running b) where
    pub ended_here : ended t b i ≡ Done
    ended_here = cond-true (runs_on b (t i)) _ _ (runs_on_is b (t i) run)

    pub ended_other : (k : ℕ) → (k ≡ i → ⊥) → ended t b k ≡ t k
    ended_other k e = go (cases_Bool (runs_on b (t k))) (cases_in o.jobs k)
      where
        go : (runs_on b (t k) ≡ true) ⊎ (runs_on b (t k) ≡ false) → In o.jobs k ⊎ (In o.jobs k → ⊥) → ended t b k ≡ t k
        go (inr f) h = cond-false (runs_on b (t k)) _ _ f
        go (inl f) (inl h) = absurd (e (sound.alone k i b h inside (runs_on_from b (t k) f) run))
        go (inl f) (inr h) = absurd (waiting_running (sound.outside k h) (runs_on_from b (t k) f))

    running_open : t i ≡ Done → ⊥
    running_open d = running_done run d

    pub running_begun : t i ≡ Waiting → ⊥
    running_begun w = waiting_running w run

    -- its children are done
    pub children_done : (k : ℕ) → In o.jobs k → o.parent k ≡ i → t k ≡ Done
    children_done k h p =
        sound.order k h (λ z. let y : i ≡ 0 = sym p ∙ z in omega arith) (λ w. running_begun (sym (ap t p) ∙ w))

    pub ended_held : (a : ℕ) → held o (ended t b) a + (o.work a i + kids o.jobs o.parent (o.output a) i) ≡ held o t a
    ended_held = held_ended o t (ended t b) b i inside run ended_here ended_other children_done (parent_open i inside running_open) (not_own i inside running_begun running_open)

    order_off : (k : ℕ) → In o.jobs k → (o.parent k ≡ 0 → ⊥) → (ended t b (o.parent k) ≡ Waiting → ⊥) → (o.parent k ≡ i) ⊎ (o.parent k ≡ i → ⊥) → (k ≡ i) ⊎ (k ≡ i → ⊥) → ended t b k ≡ Done
    order_off k h p moved c (inl e) = ap (ended t b) e ∙ ended_here
    order_off k h p moved (inl q) (inr e) = ended_other k e ∙ children_done k h q
    order_off k h p moved (inr q) (inr e) = ended_other k e ∙ sound.order k h p (λ w. moved (ended_other (o.parent k) q ∙ w))

    -- who still runs ran before
    still : (k c : ℕ) → ended t b k ≡ Running c → (k ≡ i) ⊎ (k ≡ i → ⊥) → t k ≡ Running c
    still k c r (inl e) = absurd (running_done r (ap (ended t b) e ∙ ended_here))
    still k c r (inr e) = sym (ended_other k e) ∙ r

    pub ended_sound : Sound o (ended t b)
    ended_sound =
        record {
          fits = λ a. omega (arith, ended_held a, sound.fits a);
          order = λ k h p moved. order_off k h p moved (cases_eq (o.parent k) i) (cases_eq k i);
          seated = λ k c h r. sound.seated k c h (still k c r (cases_eq k i));
          alone = λ x y c h g r q. sound.alone x y c h g (still x c r (cases_eq x i)) (still y c q (cases_eq y i));
          outside = λ k h. ended_other k (λ e. h (subst (In o.jobs) (sym e) inside)) ∙ sound.outside k h;
        }
