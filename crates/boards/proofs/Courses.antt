-- The boards that a log leads to are reached, stand as the log says, and their logs are lawful.
use Rattle.std.proofs.Common.{◌≡◌, ℕ, ◌+◌, ◌-◌, ◌<◌, ◌≤◌, Bool, true, false, not, ◌⊎◌, List, [], ◌∷◌, ◌++◌, Some, None, Option, Ok, Err, Result, sym, refl, ap, ◌∙◌, subst, inl, inr, arith}
use Rattle.std.proofs.lemmas.Bool.{cases_Bool, true≢false, not-true, not-false}
use Rattle.refusals.specs.declared.Refusal.{Refusal}
use Rattle.refusals.specs.declared.Refusal.TheVariants.{BenchUnknown, JobUnknown, BenchBusy, BenchIdle, AllStarted, NoneNamed}
use Rattle.trees.specs.Sums.{In, any, only}
use Rattle.jobs.specs.declared.Job.{Job}
use Rattle.jobs.specs.declared.State.{State}
use Rattle.jobs.specs.declared.State.TheVariants.{Waiting, Running}
use Rattle.logs.specs.declared.call.Call.{Call}
use Rattle.logs.specs.declared.call.Call.TheVariants.{Start, Report, Ask}
use Rattle.logs.specs.declared.call.Answer.{Answer}
use Rattle.logs.specs.declared.call.Answer.TheVariants.{Started, Done as Ended, Told}
use Rattle.logs.specs.Stands.{Opened, is_waiting, is_done, tally, held, busy, left, Ready}
use Rattle.logs.specs.Logs.{Event, event, step, after, is_start, is_report, times, Tallied, StartRefused, ReportRefused, AskRefused, Right, Lawful}
use Rattle.logs.specs.Logs.StartRefused.{outside, occupied, all_started, none_named}
use Rattle.logs.specs.Logs.ReportRefused.{outside as no_bench, nothing}
use Rattle.logs.specs.Logs.AskRefused.{outside as no_job}
use Rattle.logs.proofs.Tallies.{any_some, any_false, tally_all, tally_not, tally_none}
use Rattle.logs.proofs.States.{waiting_from}
use Rattle.logs.proofs.Laws.{after_more, times_more, Kept, kept_none, kept_more, lawful_none, lawful_more}
use Rattle.rules.specs.declared.hall.Hall.{Hall}
use Rattle.rules.specs.Records.{state_in, seat_of, opened_of, seat, clear}
use Rattle.rules.specs.Acts.{Acts}
use Rattle.rules.specs.Reached.{Starts, Ends, Reached}
use Rattle.rules.specs.Reached.Reached.{opened, started, reported}
use Rattle.rules.specs.Duties.{Safe, Willing}
use Rattle.rules.proofs.Records.{opened_typed}
use Rattle.rules.proofs.Facts.{Facts, none_some, seat_idle, seat_busy, opening_typed, opening_waits, start_opened, start_states, report_opened, report_states}
use Rattle.rules.proofs.Reaches.{reached_facts}
use Rattle.boards.specs.Course.{sight_of, Refuses, Turn, Course}
use Rattle.boards.specs.Course.Refuses.{start_outside, start_busy, start_none_left, start_none_named, report_outside, report_idle, ask_outside}
use Rattle.boards.specs.Course.Turn.{starts, reports, tells, refuses}
use Rattle.boards.specs.Course.Course.{opens, goes}

-- one of 1 to n does not pass
missing : (p : ℕ → Bool) (n : ℕ) → tally p n < n → (k : ℕ) × In n k × (p k ≡ false)
missing p n few = go (cases_Bool (any (λ k. not (p k)) n))
  where
    go : (any (λ k. not (p k)) n ≡ true) ⊎ (any (λ k. not (p k)) n ≡ false) → (k : ℕ) × In n k × (p k ≡ false)
    go (inl e) = let s = any_some (λ k. not (p k)) n e in (s.0, s.1, not-true (p s.0) s.2)
    go (inr e) = absurd (omega (arith, tally_not p n, tally_none (λ k. not (p k)) n (any_false (λ k. not (p k)) n e)))

seat_cases : (o : Option ℕ) → (o ≡ None) ⊎ ((j : ℕ) × (o ≡ Some j))
seat_cases None = inl refl
seat_cases (Some j) = inr (j, refl)

module _ {R S : Type 0} (w : ℕ) (read : S → ℕ → ℕ) (acts : Acts R S) (safe : Safe w read acts) (willing : Willing w read acts) where
  -- what a log that led to a board has in common with it
  pub record Along (o : Opened) (l : List (Event S)) (r : R) (h : Hall S) (js : List (Job S)) : Type 0 where
    pub reached : Reached w read acts r h js
    pub opened_is : opened_of read h js ≡ o
    pub states : state_in h.jobs js ≡ after l
    pub starts_are : h.starts ≡ times is_start l
    pub reports_are : h.reports ≡ times is_report l
    pub kept : Kept read o l
    pub lawful : Lawful read o l

  module _ (o : Opened) (l : List (Event S)) (r : R) (h : Hall S) (js : List (Job S)) (along : Along o l r h js) where
    abbrev tree : Opened
    tree = opened_of read h js

    abbrev t : ℕ → State
    t = state_in h.jobs js

    pub facts : Facts w read h js
    facts = reached_facts w read acts safe along.reached

    -- what is said of the board's own words holds in the log's
    carry : (P : Opened → (ℕ → State) → Type 0) → P (opened_of read h js) (state_in h.jobs js) → P o (after l)
    carry P x = subst (P o) along.states (subst (λ p. P p t) along.opened_is x)

    -- a job waits and none is named: some bench is busy
    some_busy : acts.names r h js ≡ None → (k : ℕ) → In h.jobs k → t k ≡ Waiting → (c : ℕ) × In h.benches c × (busy tree t c ≡ true)
    some_busy none k i waits = go (cases_Bool (any (busy tree t) h.benches))
      where
        idle : any (busy tree t) h.benches ≡ false → (b : ℕ) → In h.benches b → (seat_of h b ≡ None) ⊎ ((j : ℕ) × (seat_of h b ≡ Some j)) → seat_of h b ≡ None
        idle e b bench (inl q) = q
        idle e b bench (inr q) = absurd (true≢false (sym (seat_busy w read h js facts b q.0 bench q.1) ∙ any_false (busy tree t) h.benches e b bench))

        go : (any (busy tree t) h.benches ≡ true) ⊎ (any (busy tree t) h.benches ≡ false) → (c : ℕ) × In h.benches c × (busy tree t c ≡ true)
        go (inl e) = any_some (busy tree t) h.benches e
        go (inr e) = absurd (none_some none (willing r h js k along.reached (λ b bench. idle e b bench (seat_cases (seat_of h b))) i waits).1)

    refused_right : (c : Call) (e : Refusal) → Refuses w read acts r h js c e → Right read o l c (Err e)
    refused_right _ _ (start_outside b out) = carry (λ p u. StartRefused p u b BenchUnknown) (outside out)
    refused_right _ _ (start_busy b j bench q) = carry (λ p u. StartRefused p u b (BenchBusy b)) (occupied bench (seat_busy w read h js facts b j bench q))
    refused_right _ _ (start_none_left b bench idle all) =
        carry (λ p u. StartRefused p u b (AllStarted b)) (all_started bench (seat_idle w read h js facts b idle) (λ k i waits. true≢false (sym (tally_all (λ k. not (is_waiting (t k))) h.jobs (sym facts.starts_are ∙ all) k i) ∙ ap (λ s. not (is_waiting s)) waits)))
    refused_right _ _ (start_none_named b bench idle few none) =
        let m = missing (λ k. not (is_waiting (t k))) h.jobs (omega (arith, facts.starts_are)) in
        let waits : t m.0 ≡ Waiting = waiting_from (t m.0) (not-false (is_waiting (t m.0)) m.2) in
        let c = some_busy none m.0 m.1 waits in
        carry (λ p u. StartRefused p u b (NoneNamed b)) (none_named bench (seat_idle w read h js facts b idle) m.0 m.1 waits c.0 c.1 c.2)
    refused_right _ _ (report_outside b out) = carry (λ p u. ReportRefused p u b BenchUnknown) (no_bench out)
    refused_right _ _ (report_idle b bench idle) = carry (λ p u. ReportRefused p u b (BenchIdle b)) (nothing bench (seat_idle w read h js facts b idle))
    refused_right _ _ (ask_outside j out) = carry (λ p u. AskRefused p j JobUnknown) (no_job out)

    start_right : (b j : ℕ) (x : S) → Starts w read acts r h js b j x → Right read o l (Start b) (Ok (Started j))
    start_right b j x s = carry (λ p u. In p.benches b × (busy p u b ≡ false) × Ready p u j) (s.bench, seat_idle w read h js facts b s.idle, safe r h js j along.reached s.named)

    report_right : (b j : ℕ) (x : S) → Ends read h js b j x → Right read o l (Report b) (Ok (Ended j))
    report_right b j x e = let s = facts.seats b j e.bench e.seated in carry (λ p u. In p.benches b × In p.jobs j × (u j ≡ Running b)) (e.bench, s.0, s.1)

    left_right : h.jobs - h.reports ≡ left o (after l)
    left_right = carry (λ p u. h.jobs - h.reports ≡ left p u) (omega (arith, facts.reports_are, tally_not (λ k. is_done (t k)) h.jobs))

    pub tallied : (n : ℕ) → n ≡ h.jobs - h.reports → Tallied o l (record { starts = h.starts; reports = h.reports; left = n })
    tallied n e = record { starts_are = along.starts_are; reports_are = along.reports_are; left_is = e ∙ left_right }

    tell_right : (j : ℕ) → In h.jobs j → Right read o l (Ask j) (Ok (Told (sight_of h js j)))
    tell_right j i =
        record {
          job = carry (λ p u. In p.jobs j) i;
          state = ap (λ u. u j) along.states;
          held_is = carry (λ p u. (a : ℕ) → read h.held a ≡ held p u a) facts.held_is;
          tallied = tallied (h.jobs - h.reports) refl;
        }

    parents : (k : ℕ) → In o.jobs k → o.parent k ≤ o.jobs
    parents = carry (λ p u. (k : ℕ) → In p.jobs k → p.parent k ≤ p.jobs) facts.sound.tree.parents

    -- a call that was answered rightly
    on : (c : Call) (a : Result (Answer S) Refusal) (s : R) (g : Hall S) (zs : List (Job S)) → Right read o l c a → Reached w read acts s g zs → opened_of read g zs ≡ opened_of read h js → state_in g.jobs zs ≡ step (state_in h.jobs js) c a → g.starts ≡ h.starts + only (is_start c a) 1 → g.reports ≡ h.reports + only (is_report c a) 1 → Along o (l ++ event c a ∷ []) s g zs
    on c a s g zs right reached same stands more_starts more_reports =
        record {
          reached = reached;
          opened_is = same ∙ along.opened_is;
          states = stands ∙ ap (λ u. step u c a) along.states ∙ sym (after_more l (event c a));
          starts_are = more_starts ∙ ap (λ n. n + only (is_start c a) 1) along.starts_are ∙ sym (times_more is_start l (event c a));
          reports_are = more_reports ∙ ap (λ n. n + only (is_report c a) 1) along.reports_are ∙ sym (times_more is_report l (event c a));
          kept = kept_more read o l along.kept c a right;
          lawful = lawful_more read o parents l c a along.kept along.lawful right;
        }

    still : (c : Call) (a : Result (Answer S) Refusal) → Right read o l c a → step (state_in h.jobs js) c a ≡ state_in h.jobs js → is_start c a ≡ false → is_report c a ≡ false → Along o (l ++ event c a ∷ []) r h js
    still c a right stands no_start no_report =
        on c a r h js right along.reached refl (sym stands) (rw no_start (omega arith)) (rw no_report (omega arith))

    refused_on : (c : Call) (e : Refusal) → Right read o l c (Err e) → Along o (l ++ event c (Err e) ∷ []) r h js
    refused_on (Start b) e right = still (Start b) (Err e) right refl refl refl
    refused_on (Report b) e right = still (Report b) (Err e) right refl refl refl
    refused_on (Ask j) e right = still (Ask j) (Err e) right refl refl refl

    pub turned : {c : Call} {a : Result (Answer S) Refusal} {s : R} {g : Hall S} {zs : List (Job S)} → Turn w read acts r h js c a s g zs → Along o (l ++ event c a ∷ []) s g zs
    turned (starts s zs b j x begins told alike) =
        let ready = safe r h js j along.reached begins.named in
        on (Start b) (Ok (Started j)) s (seat h b j x) zs (start_right b j x begins) (started r s h js zs b j x along.reached begins told alike)
        (start_opened w read h js zs b j x facts begins.bench begins.idle ready begins.grows alike) (start_states w read h js zs b j x facts begins.bench begins.idle ready begins.grows alike) refl (omega arith)
    turned (reports s zs b j x ends told alike) =
        on (Report b) (Ok (Ended j)) s (clear h b x) zs (report_right b j x ends) (reported r s h js zs b j x along.reached ends told alike)
        (report_opened w read h js zs b j x facts ends alike) (report_states w read h js zs b j x facts ends alike) (omega arith) refl
    turned (tells j i) = still (Ask j) (Ok (Told (sight_of h js j))) (tell_right j i) refl refl refl
    turned (refuses c e why) = refused_on c e (refused_right c e why)

  pub along : {o : Opened} {l : List (Event S)} {r : R} {h : Hall S} {js : List (Job S)} → Course w read acts o l r h js → Along o l r h js
  along (opens r s xs ys zs row h opening told alike) =
      record {
        reached = opened r s xs ys zs row h opening told alike;
        opened_is = opened_typed xs zs (opening_typed w read acts r xs ys zs row h opening alike) read h;
        states = opening_waits w read acts r xs ys zs row h opening alike;
        starts_are = opening.unstarted;
        reports_are = opening.unreported;
        kept = kept_none read (opened_of read h xs);
        lawful = lawful_none read (opened_of read h xs) opening.sound.tree.parents;
      }
  along (goes o l r s h g js zs c a past turn) = turned o l r h js (along past) turn
