-- What holds of every board that a safe rule reaches.
use Rattle.std.proofs.Common.{◌≡◌, ℕ, ◌+◌, ◌-◌, true, false, cond, ◌&&◌, leb, ◌⊎◌, List, map, length, get_or, Some, None, Option, sym, refl, ap, ◌∙◌, subst, inl, inr, arith}
use Rattle.std.proofs.lemmas.List.{length-set, get_or-replicate, get_or-set_same, get_or-set_other}
use Rattle.std.proofs.lemmas.Bool.{cases_eq, cases_Bool}
use Rattle.trees.specs.Sums.{In}
use Rattle.trees.specs.Trees.{Chained}
use Rattle.jobs.specs.declared.Job.{Job}
use Rattle.jobs.specs.declared.State.{State}
use Rattle.jobs.specs.declared.State.TheVariants.{Waiting, Running, Done}
use Rattle.jobs.specs.Fields.{first_of, next_of, work_of, output_of}
use Rattle.lines.proofs.Upward.{cases_in}
use Rattle.intake.specs.Faults.{par_of}
use Rattle.intake.specs.Taken.{Sound}
use Rattle.logs.specs.Stands.{Opened, runs_on, held, busy, Ready}
use Rattle.logs.specs.Logs.{begun, ended}
use Rattle.logs.proofs.Tallies.{any_from, any_none, tally_none}
use Rattle.logs.proofs.States.{runs_on_from, runs_on_is, waiting_running, running_done, same_bench}
use Rattle.logs.proofs.Holding.{held_none}
use Rattle.logs.proofs.Moves.{Sound as Steady, waiting_sound, begun_sound, begun_here, begun_other, begun_held, ended_sound, ended_here, ended_other, ended_held}
use Rattle.logs.proofs.Counts.{started_jobs, done_jobs, begun_started, begun_done, ended_started, ended_done}
use Rattle.rules.specs.declared.hall.Hall.{Hall}
use Rattle.rules.specs.Records.{state_in, seat_of, opened_of, seat, clear, restated, typed, Alike}
use Rattle.rules.specs.Acts.{Acts}
use Rattle.rules.specs.Reached.{GrantedOpening, Ends}
use Rattle.rules.proofs.Records.{map_restated, state_in_none, restated_here, restated_other, par_typed, opened_typed, sound_typed, typed_restated, chained_same}

pub none_some : {A : Type 0} {o : Option A} {x : A} → o ≡ None → o ≡ Some x → ⊥
none_some {A} {o} {x} p q = let z : ◌≡◌ {A = ℕ} 0 1 = cc in omega arith

pub some_same : {A : Type 0} {o : Option A} {x y : A} → o ≡ Some x → o ≡ Some y → x ≡ y
some_same {A} {o} {x} {y} p q = cc

-- what hall and records have in common, and how the jobs stand
pub record Facts {S : Type 0} (w : ℕ) (read : S → ℕ → ℕ) (h : Hall S) (js : List (Job S)) : Type 0 where
  pub sound : Sound w read js h.jobs
  pub chained : Chained h.jobs (par_of js h.jobs) (first_of js) (next_of js)
  pub benched : In 64 h.benches
  pub wide : length h.table ≡ 64
  pub seats : (b j : ℕ) → In h.benches b → seat_of h b ≡ Some j → In h.jobs j × (state_in h.jobs js j ≡ Running b)
  pub on_seat : (k b : ℕ) → In h.jobs k → state_in h.jobs js k ≡ Running b → seat_of h b ≡ Some k
  pub held_is : (a : ℕ) → read h.held a ≡ held (opened_of read h js) (state_in h.jobs js) a
  pub starts_are : h.starts ≡ started_jobs (opened_of read h js) (state_in h.jobs js)
  pub reports_are : h.reports ≡ done_jobs (opened_of read h js) (state_in h.jobs js)
  pub steady : Steady (opened_of read h js) (state_in h.jobs js)

module _ {S : Type 0} (w : ℕ) (read : S → ℕ → ℕ) where
  module _ (h : Hall S) (js : List (Job S)) (facts : Facts w read h js) where
    pub seat_idle : (b : ℕ) → seat_of h b ≡ None → busy (opened_of read h js) (state_in h.jobs js) b ≡ false
    seat_idle b idle = any_none (λ k. runs_on b (state_in h.jobs js k)) h.jobs (λ k i. go k i (cases_Bool (runs_on b (state_in h.jobs js k))))
      where
        go : (k : ℕ) → In h.jobs k → (runs_on b (state_in h.jobs js k) ≡ true) ⊎ (runs_on b (state_in h.jobs js k) ≡ false) → runs_on b (state_in h.jobs js k) ≡ false
        go k i (inl e) = absurd (none_some idle (facts.on_seat k b i (runs_on_from b (state_in h.jobs js k) e)))
        go k i (inr e) = e

    pub seat_busy : (b j : ℕ) → In h.benches b → seat_of h b ≡ Some j → busy (opened_of read h js) (state_in h.jobs js) b ≡ true
    seat_busy b j bench e =
        let s = facts.seats b j bench e in
        any_from (λ k. runs_on b (state_in h.jobs js k)) h.jobs j s.0 (runs_on_is b (state_in h.jobs js j) s.1)

  -- facts of the records as they stand, from those of how the jobs stand
  module _ (h : Hall S) (js zs : List (Job S)) (facts : Facts w read h js) (same : map typed zs ≡ map typed js) (firsts : map (λ j. j.first_child) zs ≡ map (λ j. j.first_child) js) (nexts : map (λ j. j.next_sibling) zs ≡ map (λ j. j.next_sibling) js) where
    pub sound_on : Sound w read zs h.jobs
    sound_on = sound_typed js zs same read w h.jobs facts.sound

    pub chained_on : Chained h.jobs (par_of zs h.jobs) (first_of zs) (next_of zs)
    chained_on = subst (λ par. Chained h.jobs par (first_of zs) (next_of zs)) (sym (par_typed js zs same h.jobs)) (chained_same h.jobs (par_of js h.jobs) js zs firsts nexts facts.chained)

  -- a granted opening
  module _ {R : Type 0} (acts : Acts R S) (r : R) (xs ys zs : List (Job S)) (row : List ℕ) (h : Hall S) (opening : GrantedOpening w read acts r xs row h ys) (alike : Alike h.jobs ys zs) where
    pub opening_typed : map typed zs ≡ map typed xs
    opening_typed = alike.typed_same ∙ opening.laid.typed_same

    waits_at : (k : ℕ) → In h.jobs k ⊎ (In h.jobs k → ⊥) → state_in h.jobs zs k ≡ Waiting
    waits_at k (inl i) = ap (λ l. cond (leb 1 k && leb k h.jobs) (get_or l k Waiting) Waiting) alike.states ∙ opening.laid.waiting k i
    waits_at k (inr i) = state_in_none h.jobs zs k i

    pub opening_waits : state_in h.jobs zs ≡ (λ k. Waiting)
    opening_waits = λ i k. waits_at k (cases_in h.jobs k) i

    no_seat : (b : ℕ) → In h.benches b → seat_of h b ≡ None
    no_seat b i = ap (λ l. get_or l (b - 1) None) opening.empty ∙ get_or-replicate 64 (b - 1) None None (omega (arith, opening.benched))

    pub opening_facts : Facts w read h zs
    opening_facts =
        record {
          sound = sound_typed xs zs opening_typed read w h.jobs opening.sound;
          chained = subst (λ par. Chained h.jobs par (first_of zs) (next_of zs)) (sym (par_typed xs zs opening_typed h.jobs)) (chained_same h.jobs (par_of xs h.jobs) ys zs alike.firsts alike.nexts opening.laid.chains);
          benched = opening.benched;
          wide = ap length opening.empty;
          seats = λ b j i e. absurd (none_some (no_seat b i) e);
          on_seat = λ k b i e. absurd (waiting_running (ap (λ t. t k) opening_waits) e);
          held_is = λ a. opening.nothing a ∙ sym (ap (λ t. held (opened_of read h zs) t a) opening_waits ∙ held_none (opened_of read h zs) (λ k. Waiting) (λ k i. refl) a);
          starts_are = opening.unstarted ∙ sym (ap (started_jobs (opened_of read h zs)) opening_waits ∙ tally_none (λ k. false) h.jobs (λ k i. refl));
          reports_are = opening.unreported ∙ sym (ap (done_jobs (opened_of read h zs)) opening_waits ∙ tally_none (λ k. false) h.jobs (λ k i. refl));
          steady = subst (Steady (opened_of read h zs)) (sym opening_waits) (waiting_sound (opened_of read h zs));
        }

  -- job j is put on bench b
  module _ (h : Hall S) (js zs : List (Job S)) (b j : ℕ) (x : S) (facts : Facts w read h js) (bench : In h.benches b) (idle : seat_of h b ≡ None)
      (ready : Ready (opened_of read h js) (state_in h.jobs js) j)
      (grows : (a : ℕ) → read x a ≡ read h.held a + work_of read js a j + output_of read js a j)
      (alike : Alike h.jobs (restated js j (Running b)) zs) where
    abbrev o : Opened
    o = opened_of read h js

    abbrev t : ℕ → State
    t = state_in h.jobs js

    start_typed : map typed zs ≡ map typed js
    start_typed = alike.typed_same ∙ typed_restated js j (Running b)

    pub start_opened : opened_of read (seat h b j x) zs ≡ opened_of read h js
    start_opened = opened_typed js zs start_typed read h

    -- the log's own words for how the jobs stand now
    pub start_states : state_in h.jobs zs ≡ begun (state_in h.jobs js) b j
    start_states = λ i k. each k (cases_eq k j) i
      where
        now : (k : ℕ) → state_in h.jobs zs k ≡ state_in h.jobs (restated js j (Running b)) k
        now k = ap (λ l. cond (leb 1 k && leb k h.jobs) (get_or l k Waiting) Waiting) alike.states

        each : (k : ℕ) → (k ≡ j) ⊎ (k ≡ j → ⊥) → state_in h.jobs zs k ≡ begun t b j k
        each k (inl e) = now k ∙ restated_here h.jobs js j (Running b) ready.job facts.sound.records k e ∙ sym (begun_here o t facts.steady b j bench (seat_idle h js facts b idle) ready k e)
        each k (inr e) = now k ∙ restated_other h.jobs js j (Running b) ready.job facts.sound.records k e ∙ sym (begun_other o t facts.steady b j bench (seat_idle h js facts b idle) ready k e)

    at_bench : seat_of (seat h b j x) b ≡ Some j
    at_bench = get_or-set_same h.table (b - 1) (Some j) None (omega (arith, facts.wide, facts.benched))

    at_other : (c : ℕ) → In h.benches c → (c ≡ b → ⊥) → seat_of (seat h b j x) c ≡ seat_of h c
    at_other c i e = get_or-set_other h.table (b - 1) (c - 1) (Some j) None (λ q. e (omega arith))

    seats_on : (c k : ℕ) → In h.benches c → seat_of (seat h b j x) c ≡ Some k → (c ≡ b) ⊎ (c ≡ b → ⊥) → In h.jobs k × (begun t b j k ≡ Running c)
    seats_on c k i e (inl q) =
        let same : k ≡ j = some_same e (ap (seat_of (seat h b j x)) q ∙ at_bench) in
        (subst (In h.jobs) (sym same) ready.job, begun_here o t facts.steady b j bench (seat_idle h js facts b idle) ready k same ∙ ap Running (sym q))
    seats_on c k i e (inr q) =
        let s = facts.seats c k i (sym (at_other c i q) ∙ e) in
        (s.0, begun_other o t facts.steady b j bench (seat_idle h js facts b idle) ready k (λ z. waiting_running ready.waits (ap t (sym z) ∙ s.1)) ∙ s.1)

    on_seat_on : (k c : ℕ) → In h.jobs k → begun t b j k ≡ Running c → (k ≡ j) ⊎ (k ≡ j → ⊥) → seat_of (seat h b j x) c ≡ Some k
    on_seat_on k c i e (inl q) =
        let same : b ≡ c = same_bench (begun_here o t facts.steady b j bench (seat_idle h js facts b idle) ready k q) e in
        ap (seat_of (seat h b j x)) (sym same) ∙ at_bench ∙ ap Some (sym q)
    on_seat_on k c i e (inr q) =
        let run : t k ≡ Running c = sym (begun_other o t facts.steady b j bench (seat_idle h js facts b idle) ready k q) ∙ e in
        let old = facts.on_seat k c i run in
        at_other c (facts.steady.seated k c i run) (λ z. none_some idle (ap (seat_of h) (sym z) ∙ old)) ∙ old

    pub start_facts : Facts w read (seat h b j x) zs
    start_facts =
        record {
          sound = sound_on h js zs facts start_typed firsts nexts;
          chained = chained_on h js zs facts start_typed firsts nexts;
          benched = facts.benched;
          wide = length-set h.table (b - 1) (Some j) ∙ facts.wide;
          seats = λ c k i e. let s = seats_on c k i e (cases_eq c b) in (s.0, ap (λ u. u k) start_states ∙ s.1);
          on_seat = λ k c i e. on_seat_on k c i (sym (ap (λ u. u k) start_states) ∙ e) (cases_eq k j);
          held_is = λ a. grown a ∙ sym (ap (λ p. held p (state_in h.jobs zs) a) start_opened ∙ ap (λ u. held o u a) start_states);
          starts_are = ap (λ n. n + 1) facts.starts_are ∙ sym (ap (λ p. started_jobs p (state_in h.jobs zs)) start_opened ∙ ap (started_jobs o) start_states ∙ begun_started o t facts.steady b j bench (seat_idle h js facts b idle) ready);
          reports_are = facts.reports_are ∙ sym (ap (λ p. done_jobs p (state_in h.jobs zs)) start_opened ∙ ap (done_jobs o) start_states ∙ begun_done o t facts.steady b j bench (seat_idle h js facts b idle) ready);
          steady = subst (λ p. Steady p (state_in h.jobs zs)) (sym start_opened) (subst (Steady o) (sym start_states) (begun_sound o t facts.steady b j bench (seat_idle h js facts b idle) ready));
        }
      where
        firsts : map (λ j. j.first_child) zs ≡ map (λ j. j.first_child) js
        firsts = alike.firsts ∙ map_restated (λ j. j.first_child) (λ x s. refl) js j (Running b)

        nexts : map (λ j. j.next_sibling) zs ≡ map (λ j. j.next_sibling) js
        nexts = alike.nexts ∙ map_restated (λ j. j.next_sibling) (λ x s. refl) js j (Running b)

        grown : (a : ℕ) → read x a ≡ held o (begun t b j) a
        grown a = omega (arith, grows a, facts.held_is a, begun_held o t facts.steady b j bench (seat_idle h js facts b idle) ready a)

  -- job j, on bench b, is done
  module _ (h : Hall S) (js zs : List (Job S)) (b j : ℕ) (x : S) (facts : Facts w read h js) (ends : Ends read h js b j x) (alike : Alike h.jobs (restated js j Done) zs) where
    inside : In h.jobs j
    inside = (facts.seats b j ends.bench ends.seated).0

    run : state_in h.jobs js j ≡ Running b
    run = (facts.seats b j ends.bench ends.seated).1

    report_typed : map typed zs ≡ map typed js
    report_typed = alike.typed_same ∙ typed_restated js j Done

    pub report_opened : opened_of read (clear h b x) zs ≡ opened_of read h js
    report_opened = opened_typed js zs report_typed read h

    pub report_states : state_in h.jobs zs ≡ ended (state_in h.jobs js) b
    report_states = λ i k. each k (cases_eq k j) i
      where
        now : (k : ℕ) → state_in h.jobs zs k ≡ state_in h.jobs (restated js j Done) k
        now k = ap (λ l. cond (leb 1 k && leb k h.jobs) (get_or l k Waiting) Waiting) alike.states

        each : (k : ℕ) → (k ≡ j) ⊎ (k ≡ j → ⊥) → state_in h.jobs zs k ≡ ended (state_in h.jobs js) b k
        each k (inl e) = now k ∙ restated_here h.jobs js j Done inside facts.sound.records k e ∙ sym (ap (ended (state_in h.jobs js) b) e ∙ ended_here (opened_of read h js) (state_in h.jobs js) facts.steady b j inside run)
        each k (inr e) = now k ∙ restated_other h.jobs js j Done inside facts.sound.records k e ∙ sym (ended_other (opened_of read h js) (state_in h.jobs js) facts.steady b j inside run k e)

    cleared : seat_of (clear h b x) b ≡ None
    cleared = get_or-set_same h.table (b - 1) None None (omega (arith, facts.wide, facts.benched, ends.bench))

    kept : (c : ℕ) → In h.benches c → (c ≡ b → ⊥) → seat_of (clear h b x) c ≡ seat_of h c
    kept c i e = get_or-set_other h.table (b - 1) (c - 1) None None (λ q. e (omega (arith, ends.bench)))

    seats_off : (c k : ℕ) → In h.benches c → seat_of (clear h b x) c ≡ Some k → (c ≡ b) ⊎ (c ≡ b → ⊥) → In h.jobs k × (ended (state_in h.jobs js) b k ≡ Running c)
    seats_off c k i e (inl q) = absurd (none_some (ap (seat_of (clear h b x)) q ∙ cleared) e)
    seats_off c k i e (inr q) =
        let s = facts.seats c k i (sym (kept c i q) ∙ e) in
        (s.0, ended_other (opened_of read h js) (state_in h.jobs js) facts.steady b j inside run k (λ z. q (same_bench (ap (state_in h.jobs js) (sym z) ∙ s.1) run)) ∙ s.1)

    on_seat_off : (k c : ℕ) → In h.jobs k → ended (state_in h.jobs js) b k ≡ Running c → (k ≡ j) ⊎ (k ≡ j → ⊥) → seat_of (clear h b x) c ≡ Some k
    on_seat_off k c i e (inl q) = absurd (running_done e (ap (ended (state_in h.jobs js) b) q ∙ ended_here (opened_of read h js) (state_in h.jobs js) facts.steady b j inside run))
    on_seat_off k c i e (inr q) =
        let still : state_in h.jobs js k ≡ Running c = sym (ended_other (opened_of read h js) (state_in h.jobs js) facts.steady b j inside run k q) ∙ e in
        kept c (facts.steady.seated k c i still) (λ z. q (facts.steady.alone k j b i inside (still ∙ ap Running z) run)) ∙ facts.on_seat k c i still

    pub report_facts : Facts w read (clear h b x) zs
    report_facts =
        record {
          sound = sound_on h js zs facts report_typed firsts nexts;
          chained = chained_on h js zs facts report_typed firsts nexts;
          benched = facts.benched;
          wide = length-set h.table (b - 1) None ∙ facts.wide;
          seats = λ c k i e. let s = seats_off c k i e (cases_eq c b) in (s.0, ap (λ u. u k) report_states ∙ s.1);
          on_seat = λ k c i e. on_seat_off k c i (sym (ap (λ u. u k) report_states) ∙ e) (cases_eq k j);
          held_is = λ a. shrunk a ∙ sym (ap (λ p. held p (state_in h.jobs zs) a) report_opened ∙ ap (λ u. held (opened_of read h js) u a) report_states);
          starts_are = facts.starts_are ∙ sym (ap (λ p. started_jobs p (state_in h.jobs zs)) report_opened ∙ ap (started_jobs (opened_of read h js)) report_states ∙ ended_started (opened_of read h js) (state_in h.jobs js) facts.steady b j inside run);
          reports_are = ap (λ n. n + 1) facts.reports_are ∙ sym (ap (λ p. done_jobs p (state_in h.jobs zs)) report_opened ∙ ap (done_jobs (opened_of read h js)) report_states ∙ ended_done (opened_of read h js) (state_in h.jobs js) facts.steady b j inside run);
          steady = subst (λ p. Steady p (state_in h.jobs zs)) (sym report_opened) (subst (Steady (opened_of read h js)) (sym report_states) (ended_sound (opened_of read h js) (state_in h.jobs js) facts.steady b j inside run));
        }
      where
        firsts : map (λ j. j.first_child) zs ≡ map (λ j. j.first_child) js
        firsts = alike.firsts ∙ map_restated (λ j. j.first_child) (λ x s. refl) js j Done

        nexts : map (λ j. j.next_sibling) zs ≡ map (λ j. j.next_sibling) js
        nexts = alike.nexts ∙ map_restated (λ j. j.next_sibling) (λ x s. refl) js j Done

        shrunk : (a : ℕ) → read x a ≡ held (opened_of read h js) (ended (state_in h.jobs js) b) a
        shrunk a = omega (arith, ends.shrinks a, facts.held_is a, ended_held (opened_of read h js) (state_in h.jobs js) facts.steady b j inside run a)
