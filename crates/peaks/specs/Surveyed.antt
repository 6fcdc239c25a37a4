-- The records of a tree with a line of it, the chains of its children and the places of its jobs.
use Rattle.std.specs.Prelude.{◌≡◌, ℕ, List, slice_index}
use Rattle.trees.specs.Sums.{In}
use Rattle.trees.specs.Lines.{place, Line}
use Rattle.trees.specs.Chains.{ChainedBy}
use Rattle.jobs.specs.declared.Job.{Job}
use Rattle.intake.specs.Faults.{par_of}
use Rattle.intake.specs.Taken.{Sound}
use Rattle.peaks.specs.declared.survey.Survey.{Survey}

pub record Surveyed {S : Type 0} (w : ℕ) (read : S → ℕ → ℕ) (xs : List (Job S)) (n : ℕ) (row : List ℕ) (s : Survey) : Type 0 where
  pub sound : Sound w read xs n
  pub lined : Line n (par_of xs n) row
  pub chained : ChainedBy n (par_of xs n) s.chains
  pub placed : (k : ℕ) → In n k → slice_index s.places k ≡ place k row
