-- What is held once a job runs, and once it is done.
use Rattle.std.specs.Prelude.{◌≡◌, ℕ, ◌+◌, ◌<◌, ◌≤◌, List, map, length, Option, MatchOption, slice_index_or}
use Rattle.amounts.specs.Axes.{most}
use Rattle.trees.specs.Sums.{In}
use Rattle.trees.specs.Trees.{kids}
use Rattle.jobs.specs.declared.Job.{Job}
use Rattle.jobs.specs.declared.State.TheVariants.{Waiting, Running, Done}
use Rattle.jobs.specs.Fields.{work_of, output_of}
use Rattle.intake.specs.Faults.{par_of}
use Rattle.rules.specs.Records.{ChainedRecords}

module _ {S : Type 0} (w : ℕ) (read : S → ℕ → ℕ) (xs : List (Job S)) (j : ℕ) (held : S) where
  -- the job waits, and what is held can bear its work and output
  pub record Bearable : Type 0 where
    pub job : In 4095 j
    pub record_there : j < length xs
    pub waits : slice_index_or (map (λ x. x.state) xs) j Done ≡ Waiting
    pub bears : (a : ℕ) → read held a + work_of read xs a j + output_of read xs a j ≤ most

  -- x is what is held with the job running; none only if the job cannot run
  abbrev pub With : Option S → Type 0
  With o =
      MatchOption o (Bearable → ⊥)
      (λ x. In 4095 j × (j < length xs) × ((a : ℕ) → read x a ≡ read held a + work_of read xs a j + output_of read xs a j))

  -- what the job gives back, in the tree of the jobs 1 to n
  abbrev pub given_back : ℕ → ℕ → ℕ
  given_back n a = work_of read xs a j + kids n (par_of xs n) (output_of read xs a) j

  -- the job runs on bench b, and what it gives back is held
  pub record Endable (b n : ℕ) : Type 0 where
    pub chained : ChainedRecords w read xs n
    pub job : In n j
    pub runs : slice_index_or (map (λ x. x.state) xs) j Done ≡ Running b
    pub holds : (a : ℕ) → given_back n a ≤ read held a

  -- x is what is held with the job done; none only if the job does not run there
  abbrev pub Without : ℕ → Option S → Type 0
  Without b o =
      MatchOption o ((n : ℕ) → Endable b n → ⊥)
      (λ x. (j < length xs) × ((n : ℕ) → ChainedRecords w read xs n → In n j → (a : ℕ) → read x a + given_back n a ≡ read held a))
