-- What the line rule means: what it books, what it names, and what it becomes when it is told.
use Rattle.std.specs.Prelude.{◌≡◌, ℕ, ◌+◌, ◌<◌, ◌≤◌, List, take}
use Rattle.trees.specs.Lines.{entry}
use Rattle.trees.specs.Trees.{kids}
use Rattle.jobs.specs.declared.Job.{Job}
use Rattle.intake.specs.Faults.{par_of}
use Rattle.logs.specs.Stands.{Opened}
use Rattle.rules.specs.declared.hall.Hall.{Hall}
use Rattle.rules.specs.Records.{state_in, opened_of}
use Rattle.rules.specs.Acts.{Acts}
use Rattle.line_rule.specs.declared.rule.LineRule.{LineRule}
use Rattle.line_rule.specs.Naming.{first_startable}

-- The jobs at positions 1 to m are booked, with the total x, axis by axis. Jobs are booked in the order of the row while the total
-- with the next job's work and output fits the floor: then those at positions 1 to k are, with the total y.
pub data Books (o : Opened) (row : List ℕ) : ℕ → (ℕ → ℕ) → ℕ → (ℕ → ℕ) → Type 0 where
  all_booked : (x : ℕ → ℕ) → Books o row o.jobs x o.jobs x
  too_much : (m : ℕ) (x : ℕ → ℕ) → m < o.jobs → (a : ℕ) → o.floor a < x a + o.work a (entry row (m + 1)) + o.output a (entry row (m + 1))
      → Books o row m x m x
  one_more : (m k : ℕ) (x y : ℕ → ℕ) → m < o.jobs → ((a : ℕ) → x a + o.work a (entry row (m + 1)) + o.output a (entry row (m + 1)) ≤ o.floor a)
      → Books o row (m + 1) (λ a. x a + o.work a (entry row (m + 1)) + o.output a (entry row (m + 1))) k y → Books o row m x k y

module _ {S : Type 0} (read : S → ℕ → ℕ) where
  -- the line that the rule keeps, for a board of n jobs
  abbrev pub line_kept : LineRule S → ℕ → List ℕ
  line_kept r n = take n r.order

  -- booking on from m jobs and the total x leads to the rule's record
  abbrev pub Booked : Hall S → List (Job S) → ℕ → (ℕ → ℕ) → LineRule S → Type 0
  Booked h js m x s = Books (opened_of read h js) (line_kept s h.jobs) m x s.booked (read s.total)

  abbrev pub line_acts : Acts (LineRule S) S
  line_acts =
      record {
        -- it refuses no opening
        refuses = λ r xs n row e. ⊥;
        -- the first job in the line that is booked, waits and has all its children done
        names = λ r h js. first_startable h.jobs (par_of js h.jobs) (state_in h.jobs js) (line_kept r h.jobs) r.booked;
        -- it keeps the line, and books from nothing
        opened = λ r h ys row s zs. (zs ≡ ys) × (line_kept s h.jobs ≡ row) × Booked h ys 0 (λ a. 0) s;
        -- a start changes nothing
        started = λ r h ms j s zs. (zs ≡ ms) × (s ≡ r);
        -- the work and the inputs of the job come off the total, and then it books on
        reported = λ r h ms j s zs.
            (zs ≡ ms) × (s.order ≡ r.order)
            × ((x : ℕ → ℕ)
            × ((a : ℕ) → x a + ((opened_of read h ms).work a j + kids h.jobs (par_of ms h.jobs) ((opened_of read h ms).output a) j) ≡ read r.total a)
            × Booked h ms r.booked x s);
      }
