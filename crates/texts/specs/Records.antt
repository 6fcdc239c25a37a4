-- The run that a heading and job records hold, and what a granted text leaves.
use Rattle.std.specs.Prelude.{◌≡◌, ℕ, ◌<◌, ◌⊎◌, List, map, length, take, drop, slice_index_or, Result, MatchResult}
use Rattle.std.specs.List.{range_with_len, AllByRecursion}
use Rattle.amounts.specs.Axes.{Same}
use Rattle.jobs.specs.declared.Job.{Job}
use Rattle.jobs.specs.declared.State.TheVariants.{Waiting}
use Rattle.prints.specs.Runs.{JobLine, Run, Letter}
use Rattle.prints.specs.Answers.{Good}
use Rattle.texts.specs.declared.heading.Heading.{Heading}
use Rattle.texts.specs.declared.heading.Rule.{Rule}
use Rattle.texts.specs.declared.heading.Rule.TheVariants.{Line, Booking}
use Rattle.texts.specs.declared.heading.UnknownLetter.{UnknownLetter}

abbrev pub letter_of : Rule → ℕ
letter_of Line = 76
letter_of Booking = 66

-- the rule with this letter, or no rule has it
abbrev pub LetterOf : ℕ → Result Rule UnknownLetter → Type 0
LetterOf c r = MatchResult r (λ rule. letter_of rule ≡ c) (λ e. (e.0 ≡ c) × ¬ (Letter c))

-- `read` gives what each axis of an amount holds, and w is how many axes there are
module _ {S : Type 0} (read : S → ℕ → ℕ) where
  -- the first n axes
  abbrev pub front : ℕ → S → List ℕ
  front n x = map (read x) (range_with_len 1 n)

  abbrev pub line_of : ℕ → Job S → JobLine
  line_of w j = record { parent = j.parent; work = front w j.work; output = front w j.output; minutes = j.minutes }

  abbrev pub run_of : ℕ → Heading S → List JobLine → Run
  run_of w h js = record { rule = letter_of h.rule; benches = h.benches; floor = front w h.floor; jobs = js }

  -- the job waits, with no children, no position and nothing booked
  pub record Fresh (j : Job S) : Type 0 where
    pub first : j.first_child ≡ 0
    pub next : j.next_sibling ≡ 0
    pub position : j.position ≡ 0
    pub state : j.state ≡ Waiting
    pub share : Same read j.share (λ _. 0)
    pub booked : Same read j.booked (λ _. 0)

  -- The bytes are the text of the heading h and of the records from 1 on, as many as h counts, which are
  -- fresh. Record 0 and those above are as they were.
  pub record Granted (w : ℕ) (bs : List ℕ) (old new : List (Job S)) (h : Heading S) : Type 0 where
    pub size : length new ≡ length old
    pub room : h.jobs < length new
    pub good : Good w bs (length old) (run_of w h (map (line_of w) (take h.jobs (drop 1 new))))
    pub fresh : AllByRecursion Fresh (take h.jobs (drop 1 new))
    pub kept : (k : ℕ) (d : Job S) → (k ≡ 0) ⊎ (h.jobs < k) → slice_index_or new k d ≡ slice_index_or old k d
