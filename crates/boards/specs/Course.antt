-- What each call makes of a board and answers, and which boards a log leads to.
use Rattle.std.specs.Prelude.{◌≡◌, ℕ, ◌-◌, ◌<◌, List, [], ◌∷◌, ◌++◌, Some, None, Ok, Err, Result}
use Rattle.refusals.specs.declared.Refusal.{Refusal}
use Rattle.refusals.specs.declared.Refusal.TheVariants.{BenchUnknown, JobUnknown, BenchBusy, BenchIdle, AllStarted, NoneNamed}
use Rattle.trees.specs.Sums.{In}
use Rattle.jobs.specs.declared.Job.{Job}
use Rattle.jobs.specs.declared.State.TheVariants.{Running, Done}
use Rattle.logs.specs.declared.call.Call.{Call}
use Rattle.logs.specs.declared.call.Call.TheVariants.{Start, Report, Ask}
use Rattle.logs.specs.declared.call.Sight.{Sight}
use Rattle.logs.specs.declared.call.Tally.{Tally}
use Rattle.logs.specs.declared.call.Answer.{Answer}
use Rattle.logs.specs.declared.call.Answer.TheVariants.{Started, Done as Ended, Told}
use Rattle.logs.specs.Stands.{Opened}
use Rattle.logs.specs.Logs.{Event, event, Lawful}
use Rattle.rules.specs.declared.hall.Hall.{Hall}
use Rattle.rules.specs.Records.{state_in, seat_of, opened_of, seat, clear, restated, Alike}
use Rattle.rules.specs.Acts.{Acts}
use Rattle.rules.specs.Reached.{GrantedOpening, Starts, Ends}
use Rattle.boards.specs.declared.board.Board.{Board}

-- what came of the calls of a board
abbrev pub tally_of : {S : Type 0} → Hall S → Tally
tally_of h = record { starts = h.starts; reports = h.reports; left = h.jobs - h.reports }

-- what a question for job j tells of a board
abbrev pub sight_of : {S : Type 0} → Hall S → List (Job S) → ℕ → Sight S
sight_of h js j = record { state = state_in h.jobs js j; held = h.held; tally = tally_of h }

-- the answer of a single call as an answer of a log, of the kind f
abbrev pub answered : {T S : Type 0} → (T → Answer S) → Result T Refusal → Result (Answer S) Refusal
answered f (Ok x) = Ok (f x)
answered f (Err e) = Err e

-- a question, and a refused call, leave P
abbrev pub Still : {S : Type 0} → Result (Answer S) Refusal → Type 0 → Type 0
Still (Ok (Started j)) P = Unit {0}
Still (Ok (Ended j)) P = Unit {0}
Still (Ok (Told s)) P = P
Still (Err e) P = P

module _ {R S : Type 0} (w : ℕ) (read : S → ℕ → ℕ) (acts : Acts R S) where
  -- why a board refuses a call
  pub data Refuses (r : R) (h : Hall S) (js : List (Job S)) : Call → Refusal → Type 0 where
    start_outside : (b : ℕ) → (In h.benches b → ⊥) → Refuses r h js (Start b) BenchUnknown
    start_busy : (b j : ℕ) → In h.benches b → seat_of h b ≡ Some j → Refuses r h js (Start b) (BenchBusy b)
    start_none_left : (b : ℕ) → In h.benches b → seat_of h b ≡ None → h.starts ≡ h.jobs → Refuses r h js (Start b) (AllStarted b)
    start_none_named : (b : ℕ) → In h.benches b → seat_of h b ≡ None → h.starts < h.jobs → acts.names r h js ≡ None → Refuses r h js (Start b) (NoneNamed b)
    report_outside : (b : ℕ) → (In h.benches b → ⊥) → Refuses r h js (Report b) BenchUnknown
    report_idle : (b : ℕ) → In h.benches b → seat_of h b ≡ None → Refuses r h js (Report b) (BenchIdle b)
    ask_outside : (j : ℕ) → (In h.jobs j → ⊥) → Refuses r h js (Ask j) JobUnknown

  -- what a call answers, and what rule, hall and records are after it
  pub data Turn (r : R) (h : Hall S) (js : List (Job S)) : Call → Result (Answer S) Refusal → R → Hall S → List (Job S) → Type 0 where
    starts : (s : R) (zs : List (Job S)) (b j : ℕ) (x : S) → Starts w read acts r h js b j x
        → acts.started r (seat h b j x) (restated js j (Running b)) j s zs → Alike h.jobs (restated js j (Running b)) zs
        → Turn r h js (Start b) (Ok (Started j)) s (seat h b j x) zs
    reports : (s : R) (zs : List (Job S)) (b j : ℕ) (x : S) → Ends read h js b j x
        → acts.reported r (clear h b x) (restated js j Done) j s zs → Alike h.jobs (restated js j Done) zs
        → Turn r h js (Report b) (Ok (Ended j)) s (clear h b x) zs
    tells : (j : ℕ) → In h.jobs j → Turn r h js (Ask j) (Ok (Told (sight_of h js j))) r h js
    refuses : (c : Call) (e : Refusal) → Refuses r h js c e → Turn r h js c (Err e) r h js

  -- The log l, from the opening of the tree o, leads to this board with these records.
  pub data Course : Opened → List (Event S) → R → Hall S → List (Job S) → Type 0 where
    opens : (r s : R) (xs ys zs : List (Job S)) (row : List ℕ) (h : Hall S) → GrantedOpening w read acts r xs row h ys
        → acts.opened r h ys row s zs → Alike h.jobs ys zs → Course (opened_of read h xs) [] s h zs
    goes : (o : Opened) (l : List (Event S)) (r s : R) (h g : Hall S) (js zs : List (Job S)) (c : Call) (a : Result (Answer S) Refusal)
        → Course o l r h js → Turn r h js c a s g zs → Course o (l ++ event c a ∷ []) s g zs

  abbrev pub Led : Opened → List (Event S) → Board S R → List (Job S) → Type 0
  Led o l b js = Course o l b.rule b.hall js

  -- A call on a board that a log led to: its exact answer and what it leaves; the log with this call and answer leads there, and
  -- keeps the laws.
  pub record Follows (o : Opened) (l : List (Event S)) (b : Board S R) (js : List (Job S)) (c : Call) (a : Result (Answer S) Refusal) (d : Board S R) (zs : List (Job S)) : Type 0 where
    pub turn : Turn b.rule b.hall js c a d.rule d.hall zs
    pub led : Led o (l ++ event c a ∷ []) d zs
    pub lawful : Lawful read o (l ++ event c a ∷ [])

  -- the same, after every log that led to the board with these records
  abbrev pub Continues : Board S R → List (Job S) → Call → Result (Answer S) Refusal → Board S R → List (Job S) → Type 0
  Continues b js c a d zs = (o : Opened) (l : List (Event S)) → Led o l b js → Follows o l b js c a d zs
