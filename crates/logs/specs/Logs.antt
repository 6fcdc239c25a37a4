-- The log of a board since its opening: the calls and their answers, in their order; and the laws that it keeps.
use Rattle.std.specs.Prelude.{◌≡◌, ℕ, ◌+◌, ◌≤◌, Bool, true, false, cond, List, [], ◌∷◌, ◌++◌, Ok, Err, Result, ◌==◌, ◌≢◌}
use Rattle.refusals.specs.declared.Refusal.{Refusal}
use Rattle.refusals.specs.declared.Refusal.TheVariants.{BenchUnknown, JobUnknown, BenchBusy, BenchIdle, AllStarted, NoneNamed}
use Rattle.trees.specs.Sums.{In, only}
use Rattle.trees.specs.Trees.{below}
use Rattle.jobs.specs.declared.State.{State}
use Rattle.jobs.specs.declared.State.TheVariants.{Waiting, Running, Done}
use Rattle.logs.specs.declared.call.Call.{Call}
use Rattle.logs.specs.declared.call.Call.TheVariants.{Start, Report, Ask}
use Rattle.logs.specs.declared.call.Sight.{Sight}
use Rattle.logs.specs.declared.call.Answer.{Answer}
use Rattle.logs.specs.declared.call.Answer.TheVariants.{Started, Done as Ended, Told}
use Rattle.logs.specs.declared.call.Tally.{Tally}
use Rattle.logs.specs.Stands.{Opened, runs_on, held, busy, busy_benches, left, Ready}

pub record Event (S : Type 0) : Type 0 where
  pub call : Call
  pub answer : Result (Answer S) Refusal

abbrev pub event : {S : Type 0} → Call → Result (Answer S) Refusal → Event S
event c a = record { call = c; answer = a }

-- How the jobs stand once job j was started on bench b; once what runs on bench b is done.
abbrev pub begun : (ℕ → State) → ℕ → ℕ → ℕ → State
begun t b j k = cond (k == j) (Running b) (t k)

abbrev pub ended : (ℕ → State) → ℕ → ℕ → State
ended t b k = cond (runs_on b (t k)) Done (t k)

module _ {S : Type 0} where
  -- A granted start on bench b that answers j starts j there. A granted report of b makes what runs there done. Nothing else
  -- changes how the jobs stand.
  abbrev pub step : (ℕ → State) → Call → Result (Answer S) Refusal → ℕ → State
  step t (Start b) (Ok (Started j)) = begun t b j
  step t (Start b) (Ok (Ended j)) = t
  step t (Start b) (Ok (Told s)) = t
  step t (Start b) (Err e) = t
  step t (Report b) (Ok (Started j)) = t
  step t (Report b) (Ok (Ended j)) = ended t b
  step t (Report b) (Ok (Told s)) = t
  step t (Report b) (Err e) = t
  step t (Ask j) a = t

  abbrev pub since : (ℕ → State) → List (Event S) → ℕ → State
  since t [] = t
  since t (e ∷ l) = since (step t e.call e.answer) l

  -- how the jobs stand after a log: at the opening all wait
  abbrev pub after : List (Event S) → ℕ → State
  after = since (λ k. Waiting)

  -- the event is a granted start; of job j; a granted report
  abbrev pub is_start : Call → Result (Answer S) Refusal → Bool
  is_start (Start b) (Ok (Started j)) = true
  is_start (Start b) (Ok (Ended j)) = false
  is_start (Start b) (Ok (Told s)) = false
  is_start (Start b) (Err e) = false
  is_start (Report b) a = false
  is_start (Ask j) a = false

  abbrev pub starts_job : ℕ → Call → Result (Answer S) Refusal → Bool
  starts_job j (Start b) (Ok (Started i)) = i == j
  starts_job j (Start b) (Ok (Ended i)) = false
  starts_job j (Start b) (Ok (Told s)) = false
  starts_job j (Start b) (Err e) = false
  starts_job j (Report b) a = false
  starts_job j (Ask i) a = false

  abbrev pub is_report : Call → Result (Answer S) Refusal → Bool
  is_report (Start b) a = false
  is_report (Report b) (Ok (Started j)) = false
  is_report (Report b) (Ok (Ended j)) = true
  is_report (Report b) (Ok (Told s)) = false
  is_report (Report b) (Err e) = false
  is_report (Ask j) a = false

  -- how many events of a log pass the test
  abbrev pub times : (Call → Result (Answer S) Refusal → Bool) → List (Event S) → ℕ
  times p [] = 0
  times p (e ∷ l) = only (p e.call e.answer) 1 + times p l

  abbrev pub starts : List (Event S) → ℕ
  starts = times is_start

  abbrev pub reports : List (Event S) → ℕ
  reports = times is_report

-- the counts of a log, and the jobs that it leaves
pub record Tallied {S : Type 0} (o : Opened) (l : List (Event S)) (t : Tally) : Type 0 where
  pub starts_are : t.starts ≡ starts l
  pub reports_are : t.reports ≡ reports l
  pub left_is : t.left ≡ left o (after l)

-- calls beside their answers
abbrev pub paired : {S : Type 0} → List Call → List (Result (Answer S) Refusal) → List (Event S)
paired [] xs = []
paired (c ∷ cs) [] = []
paired (c ∷ cs) (x ∷ xs) = event c x ∷ paired cs xs

-- Why a start on bench b is refused, by how the jobs stand. While no bench is busy and a job waits, none of these holds of a bench
-- of the board.
pub data StartRefused (o : Opened) (t : ℕ → State) (b : ℕ) : Refusal → Type 0 where
  outside : (In o.benches b → ⊥) → StartRefused o t b BenchUnknown
  occupied : In o.benches b → busy o t b ≡ true → StartRefused o t b (BenchBusy b)
  all_started : In o.benches b → busy o t b ≡ false → ((k : ℕ) → In o.jobs k → t k ≢ Waiting) → StartRefused o t b (AllStarted b)
  none_named : In o.benches b → busy o t b ≡ false → (k : ℕ) → In o.jobs k → t k ≡ Waiting
      → (c : ℕ) → In o.benches c → busy o t c ≡ true → StartRefused o t b (NoneNamed b)

-- why a report of bench b is refused
pub data ReportRefused (o : Opened) (t : ℕ → State) (b : ℕ) : Refusal → Type 0 where
  outside : (In o.benches b → ⊥) → ReportRefused o t b BenchUnknown
  nothing : In o.benches b → busy o t b ≡ false → ReportRefused o t b (BenchIdle b)

-- why a question for job j is refused
pub data AskRefused (o : Opened) (j : ℕ) : Refusal → Type 0 where
  outside : (In o.jobs j → ⊥) → AskRefused o j JobUnknown

module _ {S : Type 0} (read : S → ℕ → ℕ) (o : Opened) where
  -- what a question for job j tells after the log m
  pub record Seen (m : List (Event S)) (j : ℕ) (s : Sight S) : Type 0 where
    pub job : In o.jobs j
    pub state : s.state ≡ after m j
    pub held_is : (a : ℕ) → read s.held a ≡ held o (after m) a
    pub tallied : Tallied o m s.tally

  -- what may be answered to a call after the log m
  abbrev pub Right : List (Event S) → Call → Result (Answer S) Refusal → Type 0
  Right m (Start b) (Ok (Started j)) = In o.benches b × (busy o (after m) b ≡ false) × Ready o (after m) j
  Right m (Start b) (Ok (Ended j)) = ⊥
  Right m (Start b) (Ok (Told s)) = ⊥
  Right m (Start b) (Err e) = StartRefused o (after m) b e
  Right m (Report b) (Ok (Started j)) = ⊥
  Right m (Report b) (Ok (Ended j)) = In o.benches b × In o.jobs j × (after m j ≡ Running b)
  Right m (Report b) (Ok (Told s)) = ⊥
  Right m (Report b) (Err e) = ReportRefused o (after m) b e
  Right m (Ask j) (Ok (Started i)) = ⊥
  Right m (Ask j) (Ok (Ended i)) = ⊥
  Right m (Ask j) (Ok (Told s)) = Seen m j s
  Right m (Ask j) (Err e) = AskRefused o j e

  -- the first event of n, if there is one, has an answer that was right after m
  abbrev pub NextRight : List (Event S) → List (Event S) → Type 0
  NextRight m [] = Unit {0}
  NextRight m (e ∷ n) = Right m e.call e.answer

  -- the first event of n, if there is one and it is a start on bench b, is granted
  abbrev pub StartGranted : ℕ → List (Event S) → Type 0
  StartGranted b [] = Unit {0}
  StartGranted b (e ∷ n) = e.call ≡ Start b → (j : ℕ) × (e.answer ≡ Ok (Started j))

  -- what holds at the point of a log that comes after the events m and before the events n
  pub record AtPoint (m n : List (Event S)) : Type 0 where
    -- what is held fits the floor on every axis
    pub fits : (a : ℕ) → held o (after m) a ≤ o.floor a
    -- every job below a started one is done
    pub below_done : (j k : ℕ) → In o.jobs j → In o.jobs k → (after m j ≢ Waiting) → below o.jobs o.parent k j ≡ true → after m k ≡ Done
    -- a job that runs is on a bench of the board, and no two are on one
    pub seated : (k b : ℕ) → In o.jobs k → after m k ≡ Running b → In o.benches b
    pub alone : (j k b : ℕ) → In o.jobs j → In o.jobs k → after m j ≡ Running b → after m k ≡ Running b → j ≡ k
    pub counts : starts m ≡ reports m + busy_benches o (after m)
    pub once : (j : ℕ) → times (starts_job j) m ≤ 1
    -- all jobs are reported: all are done
    pub finished : reports m ≡ o.jobs → (k : ℕ) → In o.jobs k → after m k ≡ Done
    pub next : NextRight m n
    -- never locked: while no bench is busy and a job is left, a start on any bench of the board is granted
    pub unlocked : ((c : ℕ) → In o.benches c → busy o (after m) c ≡ false) → (k : ℕ) → In o.jobs k → (after m k ≢ Done)
        → (b : ℕ) → In o.benches b → StartGranted b n

  -- these laws hold at every point of the log
  abbrev pub Lawful : List (Event S) → Type 0
  Lawful l = (m n : List (Event S)) → m ++ n ≡ l → AtPoint m n
