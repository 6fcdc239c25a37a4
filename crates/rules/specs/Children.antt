-- The children of a job, walked along their chain.
use Rattle.std.specs.Prelude.{◌≡◌, ℕ, zero, suc, ◌-◌, ◌<◌, ◌≤◌, length, Some, None, Option, Ok, Err, Result, slice_index_or}
use Rattle.std.specs.Borrow.{Bor}
use Rattle.jobs.specs.declared.Job.{Job}
use Rattle.rules.specs.declared.kin.Broken.{Broken}
use Rattle.rules.specs.declared.kin.Children.{Children}

-- how many calls there are until the end, at most, where the next child and the last one are these
abbrev pub calls_left : ℕ → ℕ → ℕ → ℕ
calls_left zero last len = 0
calls_left (suc next) last len = suc (len - last)

module _ {S : Type 0} where
  abbrev pub steps_left : Children S → ℕ
  steps_left s = calls_left s.next s.last (length s.jobs.now)

  -- What a call of the walk s gives, and what the walk is then: the record of the next child, or an error where the chain breaks
  -- off, or nothing at its end.
  abbrev pub Gives : Children S → Option (Result (Bor (Job S)) Broken) → Children S → Type 0
  Gives s None t = (s.next ≡ 0) × (t ≡ s)
  Gives s (Some (Err _)) t = (s.next ≡ 0 → ⊥) × (s.last < s.next → length s.jobs.now ≤ s.next)
  Gives s (Some (Ok r)) t =
      (s.last < s.next) × (s.next < length s.jobs.now) × (r.now ≡ slice_index_or s.jobs.now s.next r.now)
      × (t.jobs ≡ s.jobs) × (t.last ≡ s.next) × (t.next ≡ r.now.next_sibling)
