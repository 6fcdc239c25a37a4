-- The job that the line rule names.
use Rattle.std.specs.Prelude.{ℕ, zero, suc, Bool, cond, List, Some, None, Option}
use Rattle.trees.specs.Lines.{entry}
use Rattle.jobs.specs.declared.State.{State}
use Rattle.logs.specs.Stands.{startable}

-- the least of the numbers 1 to m that passes the test
abbrev pub least : (ℕ → Bool) → ℕ → Option ℕ
least p zero = None
least p (suc m) = elim (least p m) [ Some i ↦ Some i | None ↦ cond (p (suc m)) (Some (suc m)) None ]

-- the job at a position, if there is one
abbrev pub job_at : List ℕ → Option ℕ → Option ℕ
job_at row (Some p) = Some (entry row p)
job_at row None = None

-- of the jobs at positions 1 to m of the row, the first that can be started
abbrev pub first_startable : ℕ → (ℕ → ℕ) → (ℕ → State) → List ℕ → ℕ → Option ℕ
first_startable n par t row m = job_at row (least (λ p. startable n par t (entry row p)) m)
