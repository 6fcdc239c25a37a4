-- What the calls of a board that a log led to answer, and what they leave.
use Rattle.std.proofs.Common.{◌≡◌, ℕ, ◌+◌, ◌-◌, ◌<◌, ◌≤◌, not, List, [], ◌∷◌, ◌++◌, map, length, get_or, set, Some, None, Option, Ok, Err, Result, sym, refl, ap, ◌∙◌, subst, arith}
use Rattle.std.proofs.lemmas.List.{get_or_default, length-map}
use Rattle.amounts.specs.Axes.{most}
use Rattle.refusals.specs.declared.Refusal.{Refusal}
use Rattle.refusals.specs.declared.Refusal.TheVariants.{AllStarted}
use Rattle.trees.specs.Sums.{In}
use Rattle.jobs.specs.declared.Job.{Job}
use Rattle.jobs.specs.declared.State.{State}
use Rattle.jobs.specs.declared.State.TheVariants.{Waiting, Running, Done}
use Rattle.jobs.specs.Fields.{work_of, output_of}
use Rattle.logs.specs.declared.call.Call.{Call}
use Rattle.logs.specs.declared.call.Call.TheVariants.{Start, Report, Ask}
use Rattle.logs.specs.declared.call.Sight.{Sight}
use Rattle.logs.specs.declared.call.Tally.{Tally}
use Rattle.logs.specs.declared.call.Answer.{Answer}
use Rattle.logs.specs.declared.call.Answer.TheVariants.{Started, Done as Ended, Told}
use Rattle.logs.specs.Stands.{Opened, is_waiting, is_done}
use Rattle.logs.specs.Logs.{Event, event}
use Rattle.logs.proofs.Tallies.{tally_not}
use Rattle.logs.proofs.Moves.{ended_held}
use Rattle.rules.specs.declared.hall.Hall.{Hall}
use Rattle.rules.specs.Records.{state_in, seat_of, opened_of, seat, clear, restated, Alike, ChainedRecords}
use Rattle.rules.specs.Acts.{Acts}
use Rattle.rules.specs.Reached.{Starts, Ends, Reached, Starting, Reporting}
use Rattle.rules.specs.Duties.{Safe, Willing}
use Rattle.rules.proofs.Records.{state_in_job}
use Rattle.rules.proofs.Facts.{Facts}
use Rattle.rules.proofs.Reaches.{reached_facts}
use Rattle.boards.specs.declared.board.Board.{Board}
use Rattle.boards.specs.Held.{Bearable, Endable, given_back}
use Rattle.boards.specs.Course.{tally_of, Refuses, Turn, Led, Follows}
use Rattle.boards.specs.Course.Refuses.{start_none_left}
use Rattle.boards.specs.Course.Turn.{starts, reports, tells, refuses}
use Rattle.boards.specs.Course.Course.{goes}
use Rattle.boards.proofs.Courses.{Along, along}
use Rattle.boards.proofs.Reading.{state_read}

-- a hall with one place of its table changed by a start; by a report
abbrev pub seat_at_place : {S : Type 0} → Hall S → ℕ → ℕ → S → Hall S
seat_at_place h p j x =
    record { jobs = h.jobs; benches = h.benches; floor = h.floor; held = x; table = set h.table p (Some j); starts = h.starts + 1; reports = h.reports }

abbrev pub clear_at_place : {S : Type 0} → Hall S → ℕ → S → ℕ → Hall S
clear_at_place h p x n =
    record { jobs = h.jobs; benches = h.benches; floor = h.floor; held = x; table = set h.table p None; starts = h.starts; reports = n }

-- a place of the table that is not empty has a job
pub some_from : (o : Option ℕ) → (o ≡ None → ⊥) → (j : ℕ) × (o ≡ Some j)
some_from (Some j) full = (j, refl)
some_from None full = absurd (full refl)

-- the same halls, where the place p is that of bench n
pub seat_at : {S : Type 0} (h : Hall S) (p n j : ℕ) (x : S) → p ≡ n - 1 → seat_at_place h p j x ≡ seat h n j x
seat_at h p n j x e = ap (λ q. seat_at_place h q j x) e

pub clear_at : {S : Type 0} (h : Hall S) (p n : ℕ) (x : S) → p ≡ n - 1 → (m : ℕ) → m ≡ h.reports + 1 → clear_at_place h p x m ≡ clear h n x
clear_at h p n x e m more = ap (λ q. clear_at_place h q x m) e ∙ ap (clear_at_place h (n - 1) x) more

module _ {R S : Type 0} {w : ℕ} {read : S → ℕ → ℕ} {acts : Acts R S} (safe : Safe w read acts) (willing : Willing w read acts) {o : Opened} {l : List (Event S)} (b : Board S R) {js : List (Job S)} (led : Led w read acts o l b js) where
  abbrev h : Hall S
  h = b.hall

  abbrev r : R
  r = b.rule

  pub follows : (c : Call) (a : Result (Answer S) Refusal) (d : Board S R) (zs : List (Job S)) → Turn w read acts b.rule b.hall js c a d.rule d.hall zs → Follows w read acts o l b js c a d zs
  follows c a d zs turn =
      let on : Led w read acts o (l ++ event c a ∷ []) d zs = goes o l r d.rule h d.hall js zs c a led turn in
      record { turn = turn; led = on; lawful = (along w read acts safe willing on).lawful }

  pub refused : (c : Call) (e : Refusal) → Refuses w read acts b.rule b.hall js c e → Follows w read acts o l b js c (Err e) b js
  refused c e why = follows c (Err e) b js (refuses c e why)

  past : Along w read acts safe willing o l b.rule b.hall js
  past = along w read acts safe willing led

  pub reached : Reached w read acts b.rule b.hall js
  reached = past.reached

  pub facts : Facts w read b.hall js
  facts = reached_facts w read acts safe past.reached

  pub chained : ChainedRecords w read js b.hall.jobs
  chained = record { sound = facts.sound; chained = facts.chained }

  pub few_benches : b.hall.benches ≤ 64
  few_benches = facts.benched.1

  -- as many starts as jobs: every job was started
  pub none_left : (n : ℕ) → In b.hall.benches n → seat_of b.hall n ≡ None → b.hall.jobs ≤ b.hall.starts → Follows w read acts o l b js (Start n) (Err (AllStarted n)) b js
  none_left n bench idle all =
      let t = state_in h.jobs js in
      refused (Start n) (AllStarted n) (start_none_left n bench idle (omega (arith, facts.starts_are, tally_not (λ k. not (is_waiting (t k))) h.jobs)))

  state_there : (j : ℕ) (s : State) → In b.hall.jobs j → state_in b.hall.jobs js j ≡ s → get_or (map (λ x. x.state) js) j Done ≡ s
  state_there j s i e =
      get_or_default (map (λ x. x.state) js) j Done Waiting (omega (arith, length-map js (λ x. x.state), facts.sound.records)) ∙ sym (state_in_job h.jobs js j i) ∙ e

  -- the job that the rule names can run
  pub named_runs : ((x : S) (a : ℕ) → read x a ≤ most) → (j : ℕ) → acts.names b.rule b.hall js ≡ Some j → Bearable w read js j b.hall.held
  named_runs bounded j named =
      let ready = safe r h js j past.reached named in
      record {
        job = omega (arith, ready.job, facts.sound.few);
        record_there = omega (arith, ready.job, facts.sound.records);
        waits = state_there j Waiting ready.job ready.waits;
        bears = λ a. omega (arith, ready.fits a, facts.held_is a, bounded h.floor a);
      }

  module _ (n j : ℕ) (x : S) (bench : In b.hall.benches n) (g : Hall S) (ms zs : List (Job S)) (s : R) where
    -- the job was put on the bench, and the rule was told
    pub started : (idle : seat_of b.hall n ≡ None) → acts.names b.rule b.hall js ≡ Some j → ((a : ℕ) → read x a ≡ read b.hall.held a + work_of read js a j + output_of read js a j)
        → g ≡ seat b.hall n j x → ms ≡ restated js j (Running n) → (Starting w read acts b.rule g ms j → acts.started b.rule g ms j s zs) → Alike g.jobs ms zs
        → Follows w read acts o l b js (Start n) (Ok (Started j)) (record { hall = g; rule = s }) zs
    started idle named grows hall_is records_are told alike =
        let begins : Starts w read acts r h js n j x = record { bench = bench; idle = idle; named = named; grows = grows } in
        let done = told (record { hall = h; records = js; bench = n; now_held = x; reached = past.reached; starts = begins; hall_is = hall_is; records_are = records_are }) in
        let P : Hall S → List (Job S) → Type 0 = λ g ms. acts.started r g ms j s zs → Alike g.jobs ms zs → Turn w read acts r h js (Start n) (Ok (Started j)) s g zs in
        let turn : P g ms = subst (λ ms. P g ms) (sym records_are) (subst (λ g. P g (restated js j (Running n))) (sym hall_is) (λ told alike. starts s zs n j x begins told alike)) in
        follows (Start n) (Ok (Started j)) (record { hall = g; rule = s }) zs (turn done alike)

    -- the bench was cleared, and the rule was told
    pub reported : seat_of b.hall n ≡ Some j → ((k : ℕ) → ChainedRecords w read js k → In k j → (a : ℕ) → read x a + given_back w read js j b.hall.held k a ≡ read b.hall.held a)
        → g ≡ clear b.hall n x → ms ≡ restated js j Done → (Reporting w read acts b.rule g ms j → acts.reported b.rule g ms j s zs) → Alike g.jobs ms zs
        → Follows w read acts o l b js (Report n) (Ok (Ended j)) (record { hall = g; rule = s }) zs
    reported seated back hall_is records_are told alike =
        let inside = (facts.seats n j bench seated).0 in
        let ends : Ends read h js n j x = record { bench = bench; seated = seated; shrinks = back h.jobs chained inside } in
        let done = told (record { hall = h; records = js; bench = n; now_held = x; reached = past.reached; ends = ends; hall_is = hall_is; records_are = records_are }) in
        let P : Hall S → List (Job S) → Type 0 = λ g ms. acts.reported r g ms j s zs → Alike g.jobs ms zs → Turn w read acts r h js (Report n) (Ok (Ended j)) s g zs in
        let turn : P g ms = subst (λ ms. P g ms) (sym records_are) (subst (λ g. P g (restated js j Done)) (sym hall_is) (λ told alike. reports s zs n j x ends told alike)) in
        follows (Report n) (Ok (Ended j)) (record { hall = g; rule = s }) zs (turn done alike)

  -- the job on a bench can end
  pub seated_ends : (n j : ℕ) → In b.hall.benches n → seat_of b.hall n ≡ Some j → Endable w read js j b.hall.held n b.hall.jobs
  seated_ends n j bench seated =
      let there = facts.seats n j bench seated in
      record {
        chained = chained;
        job = there.0;
        runs = state_there j (Running n) there.0 there.1;
        holds = λ a. omega (arith, facts.held_is a, ended_held (opened_of read h js) (state_in h.jobs js) facts.steady n j there.0 there.1 a);
      }

  pub few_reports : b.hall.reports ≤ 4095
  few_reports = omega (arith, facts.reports_are, facts.sound.few, tally_not (λ k. is_done (state_in h.jobs js k)) h.jobs)

  -- what a question tells is what the record has, and the tally
  pub told : (j : ℕ) (x : Job S) (t : Tally) → In b.hall.jobs j → x ≡ get_or js j x → t ≡ tally_of b.hall
      → Follows w read acts o l b js (Ask j) (Ok (Told (record { state = x.state; held = b.hall.held; tally = t }))) b js
  told j x t i is counts =
      let state : state_in h.jobs js j ≡ x.state = state_in_job h.jobs js j i ∙ state_read js j x (omega (arith, i, facts.sound.records)) is Waiting in
      let sight : State → Tally → Sight S = λ s n. record { state = s; held = h.held; tally = n } in
      follows (Ask j) (Ok (Told (sight x.state t))) b js (subst (λ s. Turn w read acts r h js (Ask j) (Ok (Told (sight s t))) r h js) state (subst (λ n. Turn w read acts r h js (Ask j) (Ok (Told (sight (state_in h.jobs js j) n))) r h js) (sym counts) (tells j i)))

  pub job_there : (j : ℕ) → In b.hall.jobs j → j < length js
  job_there j i = omega (arith, i, facts.sound.records)
