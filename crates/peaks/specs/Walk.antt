-- A line as it is run, position by position.
use Rattle.std.specs.Prelude.{◌≡◌, ℕ, List, ◌+◌, ◌<◌, ◌≤◌, Option, MatchOption}
use Rattle.trees.specs.Lines.{Line}
use Rattle.trees.specs.Chains.{ChainedBy}
use Rattle.jobs.specs.declared.Job.{Job}
use Rattle.intake.specs.Faults.{par_of}
use Rattle.intake.specs.Taken.{Sound}
use Rattle.peaks.specs.declared.walk.Walk.{Walk}
use Rattle.peaks.specs.Stood.{Left, Stands}

-- the records are those of a tree with this line and these chains, and `before` is what the jobs before the next position left
pub record Walking {S : Type 0} (w : ℕ) (read : S → ℕ → ℕ) (s : Walk S) : Type 0 where
  pub sound : Sound w read s.jobs.now s.n
  pub lined : Line s.n (par_of s.jobs.now s.n) s.line.now
  pub chained : ChainedBy s.n (par_of s.jobs.now s.n) s.chains
  pub begun : 1 ≤ s.position
  pub within : s.position ≤ s.n + 1
  pub lefts : Left read s.jobs.now s.n s.line.now s.before s.position

-- the walk goes over this line of these jobs
abbrev pub On : {S : Type 0} → List (Job S) → ℕ → List ℕ → Walk S → Type 0
On jobs n line s = (s.jobs.now ≡ jobs) × (s.n ≡ n) × (s.line.now ≡ line)

-- both go over the same line
pub record Same {S : Type 0} (s t : Walk S) : Type 0 where
  pub jobs : t.jobs.now ≡ s.jobs.now
  pub n : t.n ≡ s.n
  pub line : t.line.now ≡ s.line.now

-- a position with what stands there, and the walk after it; none past the last
abbrev pub Passes : {S : Type 0} → (S → ℕ → ℕ) → Walk S → Option (ℕ × S) → Walk S → Type 0
Passes read s r t =
    Same s t
    × MatchOption r ((s.n < s.position) × (t.position ≡ s.position))
    (λ x. (x.0 ≡ s.position) × (s.position ≤ s.n) × Stands read s.jobs.now s.n s.line.now x.1 s.position × (t.position ≡ s.position + 1))
