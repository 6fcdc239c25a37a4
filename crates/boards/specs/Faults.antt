-- What an opening can be refused for.
use Rattle.std.specs.Prelude.{ℕ, List}
use Rattle.refusals.specs.declared.Refusal.{Refusal}
use Rattle.refusals.specs.declared.Refusal.TheVariants.{FloorExceeded}
use Rattle.trees.specs.Sums.{In}
use Rattle.jobs.specs.declared.Job.{Job}
use Rattle.peaks.specs.Faults.{RunFault}
use Rattle.peaks.specs.Halls.{BoundFault}
use Rattle.peaks.specs.Stood.{Over}
use Rattle.rules.specs.Acts.{Acts}
use Rattle.logs.specs.Stands.{Opened}
use Rattle.rules.specs.Records.{opened_with}
use Rattle.boards.specs.declared.opening.Setup.{Setup}

-- the tree and the hall of a setup; xs are the records, and `read` gives an amount's axes
abbrev pub as_opened : {S : Type 0} → (S → ℕ → ℕ) → List (Job S) → Setup S → Opened
as_opened read xs setup = opened_with read xs setup.jobs setup.benches setup.floor

-- xs are the records and setup is what is to be opened with them, r is the rule's record
module _ {R S : Type 0} (w : ℕ) (read : S → ℕ → ℕ) (acts : Acts R S) (r : R) (xs : List (Job S)) (setup : Setup S) where
  pub data OpenFault : Refusal → Type 0 where
    unrun : {e : Refusal} → RunFault w read xs setup.jobs setup.line.now e → OpenFault e
    unbounded : {e : Refusal} → BoundFault w setup.benches (read setup.floor) e → OpenFault e
    unruled : {e : Refusal} → acts.refuses r xs setup.jobs setup.line.now e → OpenFault e
    exceeded : (p : ℕ) → In setup.jobs p → Over read xs setup.jobs setup.line.now setup.floor p → OpenFault (FloorExceeded p)
