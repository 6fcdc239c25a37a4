-- What the reading of a text answers.
use Rattle.std.specs.Prelude.{◌≡◌, ℕ, ◌<◌, ◌≤◌, Bool, true, List, length}
use Rattle.refusals.specs.declared.Refusal.{Refusal}
use Rattle.refusals.specs.declared.Refusal.TheVariants.{TextSize, JobCount, TooManyAxes}
use Rattle.prints.specs.Runs.{Run, text_of, RunHeld}
use Rattle.prints.specs.Faults.{Refused}

-- the text is neither empty nor too long
abbrev pub Sized : List ℕ → Type 0
Sized bs = (0 < length bs) × (length bs ≤ 65536)

-- a run may have n jobs, where there are `room` records: record 0 is no job's
abbrev pub Roomy : ℕ → ℕ → Type 0
Roomy room n = (0 < n) × (n ≤ 4095) × (n < room)

-- the bytes are the text of a run in bounds with n jobs
pub record Counted (ax : ℕ) (bs : List ℕ) (n : ℕ) : Type 0 where
  pub run : Run
  pub held : RunHeld ax true run
  pub whole : bs ≡ text_of run
  pub count : length run.jobs ≡ n

-- the bytes are the text of the run r, and nothing is to be refused
pub record Good (ax : ℕ) (bs : List ℕ) (room : ℕ) (r : Run) : Type 0 where
  pub axes : ax ≤ 64
  pub size : length bs ≤ 65536
  pub held : RunHeld ax true r
  pub whole : bs ≡ text_of r
  pub jobs : Roomy room (length r.jobs)

-- Why a text is refused, where there are `room` records: by the kind of amount, then by its size, then by
-- its bytes, and at last by the count of its jobs.
pub data Said (ax : ℕ) (bs : List ℕ) (room : ℕ) (e : Refusal) : Type 0 where
  by_axes : e ≡ TooManyAxes → 64 < ax → Said ax bs room e
  by_size : e ≡ TextSize → ax ≤ 64 → (Sized bs → ⊥) → Said ax bs room e
  by_bytes : ax ≤ 64 → Sized bs → Refused ax bs e → Said ax bs room e
  by_count : (n : ℕ) → e ≡ JobCount n → ax ≤ 64 → Sized bs → Counted ax bs n → (Roomy room n → ⊥) → Said ax bs room e

-- a text that is refused is refused in one way
abbrev pub OneRefusal : Type 0
OneRefusal = (ax : ℕ) (bs : List ℕ) (room : ℕ) (d e : Refusal) → Said ax bs room d → Said ax bs room e → d ≡ e

-- what is to be granted is not to be refused
abbrev pub NotBoth : Type 0
NotBoth = (ax : ℕ) (bs : List ℕ) (room : ℕ) (r : Run) (e : Refusal) → Good ax bs room r → Said ax bs room e → ⊥

-- runs whose amounts have as many axes, and which have the same text, are the same
abbrev pub OneRun : Type 0
OneRun = (ax : ℕ) (c d : Bool) (a b : Run) → RunHeld ax c a → RunHeld ax d b → text_of a ≡ text_of b → a ≡ b
