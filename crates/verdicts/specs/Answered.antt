-- What is answered to a text.
use Rattle.std.specs.Prelude.{ℕ, List, map, take, drop, Ok, Err, Result}
use Rattle.refusals.specs.declared.Refusal.{Refusal}
use Rattle.jobs.specs.declared.Job.{Job}
use Rattle.prints.specs.Answers.{Good, Said}
use Rattle.texts.specs.declared.heading.Heading.{Heading}
use Rattle.texts.specs.Records.{line_of, run_of}
use Rattle.checks.specs.Carried.{Carried}
use Rattle.verdicts.specs.declared.judge.Fit.{Fit}

module _ {S : Type 0} (w : ℕ) (read : S → ℕ → ℕ) (room : ℕ) (bs : List ℕ) where
  -- the hall's answer, with what the heading tells
  abbrev pub told_with : Heading S → Result S Refusal → Result (Fit S) Refusal
  told_with h (Ok x) = Ok (record { jobs = h.jobs; peak = x; floor = h.floor })
  told_with h (Err e) = Err e

  -- The text is refused; or it is the text of a run, and the answer is that of the hall to this run.
  pub data Answered : Result (Fit S) Refusal → Type 0 where
    unread : (e : Refusal) → Said w bs room e → Answered (Err e)
    weighed : (h : Heading S) (xs : List (Job S)) (c : Result S Refusal)
        → Good w bs room (run_of read w h (map (line_of read w) (take h.jobs (drop 1 xs))))
        → Carried w read xs h.jobs h.benches h.floor c → Answered (told_with h c)
