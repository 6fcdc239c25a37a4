-- What is promised of a board that is opened and then serves calls, one after another.
use Rattle.std.specs.Prelude.{◌≡◌, ℕ, ◌≤◌, List, [], ◌++◌, length, Ok, Err, vec_items, Result, Vec}
use Rattle.refusals.specs.declared.Refusal.{Refusal}
use Rattle.refusals.specs.Judged.{First}
use Rattle.jobs.specs.declared.Job.{Job}
use Rattle.logs.specs.declared.call.Call.{Call}
use Rattle.logs.specs.declared.call.Answer.{Answer}
use Rattle.logs.specs.declared.call.Tally.{Tally}
use Rattle.logs.specs.Stands.{Opened}
use Rattle.logs.specs.Logs.{Event, Tallied, paired, Lawful}
use Rattle.rules.specs.Acts.{Acts}
use Rattle.boards.specs.declared.board.Board.{Board}
use Rattle.boards.specs.declared.opening.Setup.{Setup}
use Rattle.boards.specs.Faults.{OpenFault, as_opened}
use Rattle.boards.specs.Course.{Led}

module _ {R S : Type 0} (w : ℕ) (read : S → ℕ → ℕ) (acts : Acts R S) where
  -- The log l of the tree o is lawful, and leads to a board with the records zs.
  pub record CarriedOut (o : Opened) (l : List (Event S)) (zs : List (Job S)) : Type 0 where
    pub lawful : Lawful read o l
    pub board : Board S R
    pub led : Led w read acts o l board zs

  -- A desk whose journal was `before` and is `after`: these events were entered meanwhile, one more at most was carried out and not
  -- entered, because the desk failed; all of them together were carried out after the log l.
  pub record Served (o : Opened) (l before after : List (Event S)) (d : Board S R) (zs : List (Job S)) : Type 0 where
    pub events : List (Event S)
    pub unentered : List (Event S)
    pub few : length unentered ≤ 1
    pub journaled : after ≡ before ++ events
    pub led : Led w read acts o (l ++ (events ++ unentered)) d zs

  -- where the desk did not fail, everything was entered
  abbrev pub ServedBy : {T F : Type 0} → Opened → List (Event S) → List (Event S) → List (Event S) → Board S R → List (Job S) → Result T F → Type 0
  ServedBy o l before after d zs (Ok x) = (s : Served o l before after d zs) × (s.unentered ≡ [])
  ServedBy o l before after d zs (Err f) = Served o l before after d zs

  -- r is the rule, xs the records and setup what is to be opened; zs are the records afterwards
  module _ (r : R) (xs : List (Job S)) (setup : Setup S) (zs : List (Job S)) where
    abbrev pub Opens : Type 0
    Opens = (e : Refusal) → OpenFault w read acts r xs setup e → ⊥

    -- the opening is refused, and nothing has changed
    pub record NotOpened (e : Refusal) : Type 0 where
      pub first : First (OpenFault w read acts r xs setup) e
      pub same : zs ≡ xs

    -- The board was opened, and the calls that the desk entered in its journal were carried out, with the answers that it was told.
    pub record Shift (before after : List (Event S)) : Type 0 where
      pub opens : Opens
      pub events : List (Event S)
      pub unentered : List (Event S)
      pub few : length unentered ≤ 1
      pub journaled : after ≡ before ++ events
      pub carried : CarriedOut (as_opened read xs setup) (events ++ unentered) zs

    -- the same where the desk did not fail: every call is in the journal, and these are their counts
    pub record WholeShift (before after : List (Event S)) (t : Tally) : Type 0 where
      pub opens : Opens
      pub events : List (Event S)
      pub journaled : after ≡ before ++ events
      pub carried : CarriedOut (as_opened read xs setup) events zs
      pub tallied : Tallied (as_opened read xs setup) events t

    abbrev pub ShiftTold : {F : Type 0} → List (Event S) → List (Event S) → Result (Result Tally Refusal) F → Type 0
    ShiftTold before after (Ok (Ok t)) = WholeShift before after t
    ShiftTold before after (Ok (Err e)) = NotOpened e × (after ≡ before)
    ShiftTold before after (Err f) = Shift before after

    -- the board was opened, and the calls of the list were carried out, as many as have answers
    pub record Answered (calls : List Call) (answers : List (Result (Answer S) Refusal)) : Type 0 where
      pub opens : Opens
      pub carried : CarriedOut (as_opened read xs setup) (paired calls answers) zs

    abbrev pub CallsTold : {A F : Type 0} → List Call → Result (Result (Vec (Result (Answer S) Refusal) A) Refusal) F → Type 0
    CallsTold calls (Ok (Ok v)) = (length (vec_items v) ≡ length calls) × Answered calls (vec_items v)
    CallsTold calls (Ok (Err e)) = NotOpened e
    CallsTold calls (Err f) = (answers : List (Result (Answer S) Refusal)) × Answered calls answers
