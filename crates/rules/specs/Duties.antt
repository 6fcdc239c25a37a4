-- What a lawful rule owes. That looking alters nothing needs no words: a rule is lent what it looks at, and may not write there.
use Rattle.std.specs.Prelude.{◌≡◌, ℕ, ◌≤◌, List, Some, None}
use Rattle.refusals.specs.Told.{told}
use Rattle.refusals.specs.declared.Refusal.{Refusal}
use Rattle.trees.specs.Sums.{In}
use Rattle.jobs.specs.declared.Job.{Job}
use Rattle.jobs.specs.declared.State.TheVariants.{Waiting}
use Rattle.logs.specs.Stands.{Ready}
use Rattle.rules.specs.declared.hall.Hall.{Hall}
use Rattle.rules.specs.Records.{state_in, seat_of, opened_of}
use Rattle.rules.specs.Acts.{Acts}
use Rattle.rules.specs.Reached.{Reached}

-- it refuses an opening by the numbers 13 to 15 only
abbrev pub Listed : {R S : Type 0} → Acts R S → Type 0
Listed {R} {S} acts =
    (r : R) (xs : List (Job S)) (n : ℕ) (row : List ℕ) (e : Refusal) → acts.refuses r xs n row e
    → (13 ≤ (told e).number) × ((told e).number ≤ 15)

module _ {R S : Type 0} (w : ℕ) (read : S → ℕ → ℕ) (acts : Acts R S) where
  -- on a reached board the named job waits, its children are done, and with it what is held fits the floor
  abbrev pub Safe : Type 0
  Safe =
      (r : R) (h : Hall S) (js : List (Job S)) (j : ℕ) → Reached w read acts r h js → acts.names r h js ≡ Some j
      → Ready (opened_of read h js) (state_in h.jobs js) j

  -- on a reached board a job is named if no bench is busy and one waits
  abbrev pub Willing : Type 0
  Willing =
      (r : R) (h : Hall S) (js : List (Job S)) (k : ℕ) → Reached w read acts r h js
      → ((b : ℕ) → In h.benches b → seat_of h b ≡ None) → In h.jobs k → state_in h.jobs js k ≡ Waiting
      → (j : ℕ) × (acts.names r h js ≡ Some j)
