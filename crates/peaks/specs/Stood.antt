-- What stands at the positions of a line, axis by axis.
use Rattle.std.specs.Prelude.{◌≡◌, ℕ, ◌+◌, ◌<◌, ◌≤◌, List, Option, MatchOption}
use Rattle.amounts.specs.Axes.{most}
use Rattle.trees.specs.Sums.{In}
use Rattle.trees.specs.Standing.{left_at, standing, peak}
use Rattle.jobs.specs.declared.Job.{Job}
use Rattle.jobs.specs.Fields.{work_of, output_of}
use Rattle.intake.specs.Faults.{par_of}

module _ {S : Type 0} (read : S → ℕ → ℕ) (xs : List (Job S)) (n : ℕ) (row : List ℕ) where
  -- axis a of what the jobs before position p have left standing
  abbrev pub left : ℕ → ℕ → ℕ
  left a p = left_at n (par_of xs n) row (work_of read xs a) (output_of read xs a) p

  -- axis a of what stands at position p
  abbrev pub stand : ℕ → ℕ → ℕ
  stand a p = standing n (par_of xs n) row (work_of read xs a) (output_of read xs a) p

  -- x is, axis by axis, what the jobs before position p have left standing
  abbrev pub Left : S → ℕ → Type 0
  Left x p = (a : ℕ) → read x a ≡ left a p

  -- x is, axis by axis, what stands at position p
  abbrev pub Stands : S → ℕ → Type 0
  Stands x p = (a : ℕ) → read x a ≡ stand a p

  -- the same; none if p is no position
  abbrev pub Standing : ℕ → Option S → Type 0
  Standing p o = MatchOption o (In n p → ⊥) (λ x. In n p × Stands x p)

  -- x is, axis by axis, the greatest of what stands over all positions
  abbrev pub Peak : S → Type 0
  Peak x = (a : ℕ) → read x a ≡ peak n (par_of xs n) row (work_of read xs a) (output_of read xs a)

  -- some axis of what stands at position p is above that of the floor
  abbrev pub Over : S → ℕ → Type 0
  Over floor p = (a : ℕ) × (read floor a < stand a p)

-- the job can run on top of `before` and then take what was given to it, with no sum above the limit
pub record Passable {S : Type 0} (read : S → ℕ → ℕ) (job : Job S) (before given : S) : Type 0 where
  pub fits : (k : ℕ) → read before k + read job.work k + read job.output k ≤ most
  pub covers : (k : ℕ) → read given k ≤ read before k + read job.output k
