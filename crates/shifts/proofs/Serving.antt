-- A desk is served, one call more.
use Rattle.std.proofs.Common.{◌≡◌, ℕ, ◌<◌, ◌⊎◌, List, [], ◌∷◌, ◌++◌, length, get_or, Result, sym, refl, ap, ◌∙◌, subst, inl, inr, append_assoc, append-nil, arith}
use Rattle.refusals.specs.declared.Refusal.{Refusal}
use Rattle.jobs.specs.declared.Job.{Job}
use Rattle.logs.specs.declared.call.Call.{Call}
use Rattle.logs.specs.declared.call.Answer.{Answer}
use Rattle.logs.specs.declared.call.Tally.{Tally}
use Rattle.logs.specs.Stands.{Opened}
use Rattle.logs.specs.Logs.{Event, event, Tallied, paired}
use Rattle.rules.specs.Duties.{Safe, Willing}
use Rattle.rules.specs.Acts.{Acts}
use Rattle.boards.specs.declared.board.Board.{Board}
use Rattle.boards.specs.declared.opening.Setup.{Setup}
use Rattle.boards.specs.Faults.{as_opened}
use Rattle.boards.specs.Course.{Led}
use Rattle.boards.proofs.Courses.{along}
use Rattle.shifts.specs.Shifts.{CarriedOut, Served, Opens, Shift, WholeShift, Answered}

module _ {R S : Type 0} (w : ℕ) (read : S → ℕ → ℕ) (acts : Acts R S) where
  -- the events that were entered since the journal was `before`, after the log l
  pub record SoFar (o : Opened) (l before after : List (Event S)) (d : Board S R) (zs : List (Job S)) : Type 0 where
    pub events : List (Event S)
    pub journaled : after ≡ before ++ events
    pub led : Led w read acts o (l ++ events) d zs

  module _ (o : Opened) (l before : List (Event S)) where
    -- nothing more was carried out
    pub served : (after same : List (Event S)) (d : Board S R) (zs : List (Job S)) → SoFar o l before after d zs → same ≡ after → (v : Served w read acts o l before same d zs) × (v.unentered ≡ [])
    served after same d zs s e = (
      record {
        events = s.events;
        unentered = [];
        few = omega arith;
        journaled = e ∙ s.journaled;
        led = rw append-nil s.led;
      },
      refl,
    )

    pub so_far_more : (after next : List (Event S)) (d f : Board S R) (zs ys : List (Job S)) (e : Event S) (s : SoFar o l before after d zs) → next ≡ after ++ e ∷ [] → Led w read acts o ((l ++ s.events) ++ e ∷ []) f ys → SoFar o l before next f ys
    so_far_more after next d f zs ys e s noted led =
        record {
          events = s.events ++ e ∷ [];
          journaled = noted ∙ ap (λ j. j ++ e ∷ []) s.journaled ∙ append_assoc before s.events (e ∷ []);
          led = subst (λ z. Led w read acts o z f ys) (append_assoc l s.events (e ∷ [])) led;
        }

    -- the desk failed over this event
    pub unserved : (after next : List (Event S)) (d f : Board S R) (zs ys : List (Job S)) (e : Event S) (s : SoFar o l before after d zs) → (next ≡ after) ⊎ (next ≡ after ++ e ∷ []) → Led w read acts o ((l ++ s.events) ++ e ∷ []) f ys → Served w read acts o l before next f ys
    unserved after next d f zs ys e s (inl same) led =
        record {
          events = s.events;
          unentered = e ∷ [];
          few = omega arith;
          journaled = same ∙ s.journaled;
          led = subst (λ z. Led w read acts o z f ys) (append_assoc l s.events (e ∷ [])) led;
        }
    unserved after next d f zs ys e s (inr noted) led = (served next next f ys (so_far_more after next d f zs ys e s noted led) refl).0

pub paired_none : {S : Type 0} (cs : List Call) → paired {S = S} cs [] ≡ []
paired_none [] = refl
paired_none (c ∷ cs) = refl

-- one call more of a list
paired_more : {S : Type 0} (cs : List Call) (xs : List (Result (Answer S) Refusal)) (d : Call) (x : Result (Answer S) Refusal) → length xs < length cs → paired cs (xs ++ x ∷ []) ≡ paired cs xs ++ event (get_or cs (length xs) d) x ∷ []
paired_more [] xs d x h = absurd (omega arith)
paired_more (c ∷ cs) [] d x h = ap (λ l. event c x ∷ l) (paired_none cs)
paired_more (c ∷ cs) (y ∷ xs) d x h = ap (λ l. event c y ∷ l) (paired_more cs xs d x (omega arith))

pub log_more : {S : Type 0} (m : List (Event S)) (cs : List Call) (xs : List (Result (Answer S) Refusal)) (i : ℕ) (d : Call) (x : Result (Answer S) Refusal) → length xs ≡ i → i < length cs → (m ++ paired cs xs) ++ event (get_or cs i d) x ∷ [] ≡ m ++ paired cs (xs ++ x ∷ [])
log_more m cs xs i d x e h =
    append_assoc m (paired cs xs) (event (get_or cs i d) x ∷ []) ∙ ap (λ l. m ++ l) (ap (λ k. paired cs xs ++ event (get_or cs k d) x ∷ []) (sym e) ∙ sym (paired_more cs xs d x (omega arith)))

module _ {R S : Type 0} (w : ℕ) (read : S → ℕ → ℕ) (acts : Acts R S) (safe : Safe w read acts) (willing : Willing w read acts) where
  pub carried : (o : Opened) (l : List (Event S)) (d : Board S R) (zs : List (Job S)) → Led w read acts o l d zs → CarriedOut w read acts o l zs
  carried o l d zs led = record { lawful = (along w read acts safe willing led).lawful; board = d; led = led }

  -- the board was opened under the rule r
  module _ (b : Board S R) (r : R) (is : b.rule ≡ r) (xs : List (Job S)) (setup : Setup S) (d : Board S R) (zs : List (Job S)) (opens : Opens w read acts b.rule xs setup zs) where
    pub opens_so : Opens w read acts r xs setup zs
    opens_so = subst (λ v. Opens w read acts v xs setup zs) is opens

    pub shifted : (before after : List (Event S)) → Served w read acts (as_opened read xs setup) [] before after d zs → Shift w read acts r xs setup zs before after
    shifted before after s =
        record {
          opens = opens_so;
          events = s.events;
          unentered = s.unentered;
          few = s.few;
          journaled = s.journaled;
          carried = carried (as_opened read xs setup) (s.events ++ s.unentered) d zs s.led;
        }

    pub shifted_whole : (before after : List (Event S)) (t : Tally) (s : Served w read acts (as_opened read xs setup) [] before after d zs) → s.unentered ≡ [] → ((l : List (Event S)) → Led w read acts (as_opened read xs setup) l d zs → Tallied (as_opened read xs setup) l t) → WholeShift w read acts r xs setup zs before after t
    shifted_whole before after t s all tells =
        let led : Led w read acts (as_opened read xs setup) s.events d zs = subst (λ l. Led w read acts (as_opened read xs setup) l d zs) (ap (λ u. s.events ++ u) all ∙ append-nil s.events) s.led in
        record {
          opens = opens_so;
          events = s.events;
          journaled = s.journaled;
          carried = carried (as_opened read xs setup) s.events d zs led;
          tallied = tells s.events led;
        }

    pub answered : (calls : List Call) (answers : List (Result (Answer S) Refusal)) → Led w read acts (as_opened read xs setup) (paired calls answers) d zs → Answered w read acts r xs setup zs calls answers
    answered calls answers led = record { opens = opens_so; carried = carried (as_opened read xs setup) (paired calls answers) d zs led }
