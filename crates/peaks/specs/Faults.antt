-- What the records of a tree and a row handed in as its line can be refused for.
use Rattle.std.specs.Prelude.{ℕ, List}
use Rattle.refusals.specs.declared.Refusal.{Refusal}
use Rattle.trees.specs.Faults.{RowFault}
use Rattle.jobs.specs.declared.Job.{Job}
use Rattle.intake.specs.Faults.{TreeFault, par_of}

pub data RunFault {S : Type 0} (w : ℕ) (read : S → ℕ → ℕ) (xs : List (Job S)) (n : ℕ) (row : List ℕ) : Refusal → Type 0 where
  untreed : {e : Refusal} → TreeFault w read xs n e → RunFault w read xs n row e
  unlined : {e : Refusal} → RowFault n (par_of xs n) row e → RunFault w read xs n row e
