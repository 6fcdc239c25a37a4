-- Right answers keep a log lawful.
use Rattle.std.proofs.Common.{◌≡◌, ℕ, zero, suc, ◌+◌, ◌≤◌, Bool, true, false, not, eqb, ◌⊎◌, List, [], ◌∷◌, ◌++◌, length, Ok, Err, Result, sym, refl, ap, ◌∙◌, subst, inl, inr, append-nil, arith}
use Rattle.std.proofs.lemmas.Bool.{cases_eq, eq-eqb, ne_eqb, true≢false}
use Rattle.refusals.specs.declared.Refusal.{Refusal}
use Rattle.trees.specs.Sums.{In, only}
use Rattle.trees.specs.Trees.{met}
use Rattle.lines.proofs.Upward.{met_cases, no_way}
use Rattle.jobs.specs.declared.State.{State}
use Rattle.jobs.specs.declared.State.TheVariants.{Waiting, Running, Done}
use Rattle.logs.specs.declared.call.Call.{Call}
use Rattle.logs.specs.declared.call.Call.TheVariants.{Start, Report, Ask}
use Rattle.logs.specs.declared.call.Answer.{Answer}
use Rattle.logs.specs.declared.call.Answer.TheVariants.{Started, Done as Ended, Told}
use Rattle.logs.specs.Stands.{Opened, is_waiting, is_done, runs_on, busy, busy_benches, Ready}
use Rattle.logs.specs.Logs.{Event, event, begun, step, since, after, is_start, starts_job, is_report, times, starts, reports, StartRefused, Right, NextRight, StartGranted, AtPoint, Lawful}
use Rattle.logs.specs.Logs.StartRefused.{outside, occupied, all_started, none_named}
use Rattle.logs.proofs.Tallies.{any_from, tally_none, tally_all}
use Rattle.logs.proofs.States.{done_from, runs_on_is, waiting_done, Way, waits, runs, done, way}
use Rattle.logs.proofs.Moves.{Sound, waiting_sound, begun_sound, begun_here, begun_other, ended_sound}
use Rattle.logs.proofs.Counts.{started_jobs, done_jobs, started_busy, begun_started, begun_done, ended_started, ended_started_at, ended_done}

-- where a list with one more at its end is cut
cut_more : {X : Type 0} (m n l : List X) (e : X) → m ++ n ≡ l ++ e ∷ [] → ((n ≡ []) × (m ≡ l ++ e ∷ [])) ⊎ ((k : List X) × (m ++ k ≡ l) × (n ≡ k ++ e ∷ []))
cut_more [] n l e h = inr (l, refl, h)
cut_more (x ∷ []) n [] e h = inl ((cc), (cc))
cut_more (x ∷ y ∷ m) n [] e h =
    let z : y ∷ (m ++ n) ≡ [] = cc in let w : ◌≡◌ {A = ℕ} (length (y ∷ (m ++ n))) 0 = ap length z in absurd (omega arith)
cut_more (x ∷ m) n (y ∷ l) e h = go (cut_more m n l e (cc)) (cc)
  where
    go : ((n ≡ []) × (m ≡ l ++ e ∷ [])) ⊎ ((k : List _) × (m ++ k ≡ l) × (n ≡ k ++ e ∷ [])) → x ≡ y → ((n ≡ []) × (x ∷ m ≡ y ∷ l ++ e ∷ [])) ⊎ ((k : List _) × (x ∷ m ++ k ≡ y ∷ l) × (n ≡ k ++ e ∷ []))
    go (inl a) q = let p = a.1 in inl (a.0, (cc))
    go (inr a) q = let p = a.1 in inr (a.0, (cc), a.2)

module _ {S : Type 0} where
  pub since_more : (t : ℕ → State) (l : List (Event S)) (e : Event S) → since t (l ++ e ∷ []) ≡ step (since t l) e.call e.answer
  since_more t [] e = refl
  since_more t (x ∷ l) e = since_more (step t x.call x.answer) l e

  pub after_more : (l : List (Event S)) (e : Event S) → after (l ++ e ∷ []) ≡ step (after l) e.call e.answer
  after_more = since_more (λ k. Waiting)

  pub times_more : (p : Call → Result (Answer S) Refusal → Bool) (l : List (Event S)) (e : Event S) → times p (l ++ e ∷ []) ≡ times p l + only (p e.call e.answer) 1
  times_more p [] e = omega arith
  times_more p (x ∷ l) e = omega (arith, times_more p l e)

module _ {S : Type 0} (read : S → ℕ → ℕ) (o : Opened) where
  -- what a log keeps that the next step needs: its counts are those of the jobs
  pub record Kept (l : List (Event S)) : Type 0 where
    pub sound : Sound o (after l)
    pub starts_are : starts l ≡ started_jobs o (after l)
    pub reports_are : reports l ≡ done_jobs o (after l)
    pub once_are : (j : ℕ) → times (starts_job j) l ≡ only (not (is_waiting (after l j))) 1

  pub kept_none : Kept []
  kept_none =
      record {
        sound = waiting_sound o;
        starts_are = sym (tally_none (λ k. false) o.jobs (λ k i. refl));
        reports_are = sym (tally_none (λ k. false) o.jobs (λ k i. refl));
        once_are = λ j. refl;
      }

  module _ (l : List (Event S)) (kept : Kept l) where
    abbrev t : ℕ → State
    t = after l

    -- the same of one step, stated of how the jobs stand after it
    pub record Stepped (c : Call) (a : Result (Answer S) Refusal) : Type 0 where
      pub sound : Sound o (step (after l) c a)
      pub starts_are : starts l + only (is_start c a) 1 ≡ started_jobs o (step (after l) c a)
      pub reports_are : reports l + only (is_report c a) 1 ≡ done_jobs o (step (after l) c a)
      pub once_are : (j : ℕ) → times (starts_job j) l + only (starts_job j c a) 1 ≡ only (not (is_waiting (step (after l) c a j))) 1

    same : (c : Call) (a : Result (Answer S) Refusal) → step (after l) c a ≡ after l → is_start c a ≡ false → is_report c a ≡ false → ((j : ℕ) → starts_job j c a ≡ false) → Stepped c a
    same c a e f g h =
        record {
          sound = subst (Sound o) (sym e) kept.sound;
          starts_are = rw (e, f) (let z = kept.starts_are in omega arith);
          reports_are = rw (e, g) (let z = kept.reports_are in omega arith);
          once_are = λ j. rw (e, h j) (let z = kept.once_are j in omega arith);
        }

    begins : (b j : ℕ) → In o.benches b → busy o (after l) b ≡ false → Ready o (after l) j → Stepped (Start b) (Ok (Started j))
    begins b j bench idle ready =
        record {
          sound = begun_sound o t kept.sound b j bench idle ready;
          starts_are = omega (arith, kept.starts_are, begun_started o t kept.sound b j bench idle ready);
          reports_are = omega (arith, kept.reports_are, begun_done o t kept.sound b j bench idle ready);
          once_are = λ i. each i (cases_eq i j);
        }
      where
        each : (i : ℕ) → (i ≡ j) ⊎ (i ≡ j → ⊥) → times (starts_job i) l + only (eqb j i) 1 ≡ only (not (is_waiting (begun (after l) b j i))) 1
        each i (inl e) =
            let was : times (starts_job i) l ≡ 0 = kept.once_are i ∙ ap (λ x. only (not (is_waiting (after l x))) 1) e ∙ ap (λ s. only (not (is_waiting s)) 1) ready.waits in
            rw (begun_here o t kept.sound b j bench idle ready i e, eq-eqb j i (sym e)) (omega arith)
        each i (inr e) =
            let z = kept.once_are i in
            rw (begun_other o t kept.sound b j bench idle ready i e, ne_eqb j i (λ q. e (sym q))) (omega arith)

    ends : (b i : ℕ) → In o.jobs i → after l i ≡ Running b → (j : ℕ) → Stepped (Report b) (Ok (Ended j))
    ends b i inside run j =
        record {
          sound = ended_sound o t kept.sound b i inside run;
          starts_are = omega (arith, kept.starts_are, ended_started o t kept.sound b i inside run);
          reports_are = omega (arith, kept.reports_are, ended_done o t kept.sound b i inside run);
          once_are = λ k. rw (ended_started_at o t kept.sound b i inside run k) (let z = kept.once_are k in omega arith);
        }

    pub stepped : (c : Call) (a : Result (Answer S) Refusal) → Right read o l c a → Stepped c a
    stepped (Start b) (Ok (Started j)) r = begins b j r.0 r.1 r.2
    stepped (Start b) (Ok (Ended j)) r = absurd r
    stepped (Start b) (Ok (Told s)) r = absurd r
    stepped (Start b) (Err e) r = same (Start b) (Err e) refl refl refl (λ j. refl)
    stepped (Report b) (Ok (Started j)) r = absurd r
    stepped (Report b) (Ok (Ended j)) r = ends b j r.1 r.2 j
    stepped (Report b) (Ok (Told s)) r = absurd r
    stepped (Report b) (Err e) r = same (Report b) (Err e) refl refl refl (λ j. refl)
    stepped (Ask j) a r = same (Ask j) a refl refl refl (λ j. refl)

    pub kept_more : (c : Call) (a : Result (Answer S) Refusal) → Right read o l c a → Kept (l ++ event c a ∷ [])
    kept_more c a r =
        let s = stepped c a r in
        let e : after (l ++ event c a ∷ []) ≡ step (after l) c a = after_more l (event c a) in
        record {
          sound = subst (Sound o) (sym e) s.sound;
          starts_are = times_more is_start l (event c a) ∙ s.starts_are ∙ sym (ap (started_jobs o) e);
          reports_are = times_more is_report l (event c a) ∙ s.reports_are ∙ sym (ap (done_jobs o) e);
          once_are = λ j. times_more (starts_job j) l (event c a) ∙ s.once_are j ∙ sym (ap (λ u. only (not (is_waiting (u j))) 1) e);
        }

  module _ (parents : (k : ℕ) → In o.jobs k → o.parent k ≤ o.jobs) where
    -- every job on the way up to a started one is done
    all_below : (t : ℕ → State) → Sound o t → (d j k : ℕ) → In o.jobs k → (t j ≡ Waiting → ⊥) → met o.parent d k j ≡ true → t k ≡ Done
    all_below t sound zero j k i moved m = absurd (no_way o.parent k j m)
    all_below t sound (suc d) j k i moved m = go (λ h. all_below t sound d j (o.parent k) h moved) (met_cases o.parent d k j m)
      where
        go : (In o.jobs (o.parent k) → met o.parent d (o.parent k) j ≡ true → t (o.parent k) ≡ Done) → (o.parent k ≡ 0 → ⊥) × ((o.parent k ≡ j) ⊎ (met o.parent d (o.parent k) j ≡ true)) → t k ≡ Done
        go r v = by v.1
          where
            by : (o.parent k ≡ j) ⊎ (met o.parent d (o.parent k) j ≡ true) → t k ≡ Done
            by (inl e) = sound.order k i v.0 (λ w. moved (sym (ap t e) ∙ w))
            by (inr e) = sound.order k i v.0 (λ w. waiting_done w (r (omega (arith, v.0, parents k i)) e))

    only_most : (b : Bool) → only b 1 ≤ 1
    only_most true = omega arith
    only_most false = omega arith

    granted : (m : List (Event S)) → Sound o (after m) → ((c : ℕ) → In o.benches c → busy o (after m) c ≡ false) → (k : ℕ) → In o.jobs k → (after m k ≡ Done → ⊥) → (b : ℕ) → In o.benches b → (e : Refusal) → StartRefused o (after m) b e → ⊥
    granted m sound idle k i unfinished b bench _ (outside h) = h bench
    granted m sound idle k i unfinished b bench _ (occupied h f) = true≢false (sym f ∙ idle b h)
    granted m sound idle k i unfinished b bench _ (all_started h f none) = go (way (after m k))
      where
        go : Way (after m k) → ⊥
        go (waits w) = none k i w
        go (runs c r) = true≢false (sym (any_from (λ x. runs_on c (after m x)) o.jobs k i (runs_on_is c (after m k) r)) ∙ idle c (sound.seated k c i r))
        go (done d) = unfinished d
    granted m sound idle k i unfinished b bench _ (none_named h f j g w c q p) = true≢false (sym p ∙ idle c q)

    start_granted : (m : List (Event S)) → Sound o (after m) → ((c : ℕ) → In o.benches c → busy o (after m) c ≡ false) → (k : ℕ) → In o.jobs k → (after m k ≡ Done → ⊥) → (b : ℕ) → In o.benches b → (c : Call) (a : Result (Answer S) Refusal) → Right read o m c a → c ≡ Start b → (j : ℕ) × (a ≡ Ok (Started j))
    start_granted m sound idle k i un b bench (Start d) (Ok (Started j)) r e = (j, refl)
    start_granted m sound idle k i un b bench (Start d) (Ok (Ended j)) r e = absurd r
    start_granted m sound idle k i un b bench (Start d) (Ok (Told s)) r e = absurd r
    start_granted m sound idle k i un b bench (Start d) (Err x) r e =
        let q : d ≡ b = cc in
        absurd (granted m sound idle k i un d (subst (In o.benches) (sym q) bench) x r)
    start_granted m sound idle k i un b bench (Report d) a r e = let z : ◌≡◌ {A = ℕ} 0 1 = cc in absurd (omega arith)
    start_granted m sound idle k i un b bench (Ask d) a r e = let z : ◌≡◌ {A = ℕ} 0 1 = cc in absurd (omega arith)

    first_granted : (m n : List (Event S)) → Sound o (after m) → NextRight read o m n → ((c : ℕ) → In o.benches c → busy o (after m) c ≡ false) → (k : ℕ) → In o.jobs k → (after m k ≡ Done → ⊥) → (b : ℕ) → In o.benches b → StartGranted read o b n
    first_granted m [] sound next idle k i un b bench = tt
    first_granted m (x ∷ n) sound next idle k i un b bench = start_granted m sound idle k i un b bench x.call x.answer next

    pub at_point : (m n : List (Event S)) → Kept m → NextRight read o m n → AtPoint read o m n
    at_point m n kept next =
        record {
          fits = kept.sound.fits;
          below_done = λ j k i h moved below. all_below (after m) kept.sound o.jobs j k h moved below;
          seated = kept.sound.seated;
          alone = kept.sound.alone;
          counts = kept.starts_are ∙ started_busy o (after m) kept.sound ∙ sym (ap (λ x. x + busy_benches o (after m)) kept.reports_are);
          once = λ j. omega (arith, kept.once_are j, only_most (not (is_waiting (after m j))));
          finished = λ all k i. done_from (after m k) (tally_all (λ k. is_done (after m k)) o.jobs (sym kept.reports_are ∙ all) k i);
          next = next;
          unlocked = first_granted m n kept.sound next;
        }

    pub lawful_none : Lawful read o []
    lawful_none [] n h = at_point [] n kept_none (subst (NextRight read o []) (sym h) tt)
    lawful_none (x ∷ m) n h = let w : ◌≡◌ {A = ℕ} (length (x ∷ (m ++ n))) 0 = ap length h in absurd (omega arith)

    module _ (l : List (Event S)) (c : Call) (a : Result (Answer S) Refusal) (kept : Kept l) (lawful : Lawful read o l) (right : Right read o l c a) where
      pub lawful_more : Lawful read o (l ++ event c a ∷ [])
      lawful_more m n h = go (cut_more m n l (event c a) h)
        where
          whole : AtPoint read o (l ++ event c a ∷ []) []
          whole = at_point (l ++ event c a ∷ []) [] (kept_more l kept c a right) tt

          longer : (k : List (Event S)) → m ++ k ≡ l → AtPoint read o m k → AtPoint read o m (k ++ event c a ∷ [])
          longer [] e at = subst (λ x. AtPoint read o x (event c a ∷ [])) (sym (sym (append-nil m) ∙ e)) (at_point l (event c a ∷ []) kept right)
          longer (x ∷ k) e at =
              record {
                fits = at.fits;
                below_done = at.below_done;
                seated = at.seated;
                alone = at.alone;
                counts = at.counts;
                once = at.once;
                finished = at.finished;
                next = at.next;
                unlocked = at.unlocked;
              }

          go : ((n ≡ []) × (m ≡ l ++ event c a ∷ [])) ⊎ ((k : List (Event S)) × (m ++ k ≡ l) × (n ≡ k ++ event c a ∷ [])) → AtPoint read o m n
          go (inl x) = subst (AtPoint read o m) (sym x.0) (subst (λ z. AtPoint read o z []) (sym x.1) whole)
          go (inr x) = subst (AtPoint read o m) (sym x.2) (longer x.0 x.1 (lawful m x.0 x.1))
