-- What a rule means, as a value: R is its record, S the kind of amount.
use Rattle.std.specs.Prelude.{ℕ, List, Option}
use Rattle.refusals.specs.declared.Refusal.{Refusal}
use Rattle.jobs.specs.declared.Job.{Job}
use Rattle.rules.specs.declared.hall.Hall.{Hall}

pub record Acts (R S : Type 0) : Type 1 where
  -- what an opening is refused for: the rule's record, the job records, the count of jobs, the line
  pub refuses : R → List (Job S) → ℕ → List ℕ → Refusal → Type 0
  -- the job that is named, on a board with these records
  pub names : R → Hall S → List (Job S) → Option ℕ
  -- What the rule's record and the job records become when it is told of the opening with a line; of a start of a job; of a report.
  pub opened : R → Hall S → List (Job S) → List ℕ → R → List (Job S) → Type 0
  pub started : R → Hall S → List (Job S) → ℕ → R → List (Job S) → Type 0
  pub reported : R → Hall S → List (Job S) → ℕ → R → List (Job S) → Type 0
