-- How the jobs of an opened tree stand, and what they hold of the floor.
use Rattle.std.specs.Prelude.{◌≡◌, ℕ, ◌+◌, ◌≤◌, Bool, true, false, not, ◌&&◌, ◌==◌}
use Rattle.trees.specs.Sums.{In, sum, only, any}
use Rattle.jobs.specs.declared.State.{State}
use Rattle.jobs.specs.declared.State.TheVariants.{Waiting, Running, Done}

-- The tree that was opened, with its hall. Amounts are told axis by axis: the work of job k on axis a is `work a k`.
pub record Opened : Type 0 where
  pub jobs : ℕ
  pub parent : ℕ → ℕ
  pub work : ℕ → ℕ → ℕ
  pub output : ℕ → ℕ → ℕ
  pub benches : ℕ
  pub floor : ℕ → ℕ

abbrev pub is_waiting : State → Bool
is_waiting Waiting = true
is_waiting (Running b) = false
is_waiting Done = false

abbrev pub is_running : State → Bool
is_running Waiting = false
is_running (Running b) = true
is_running Done = false

abbrev pub is_done : State → Bool
is_done Waiting = false
is_done (Running b) = false
is_done Done = true

abbrev pub runs_on : ℕ → State → Bool
runs_on b Waiting = false
runs_on b (Running c) = c == b
runs_on b Done = false

-- how many of 1 to n pass the test
abbrev pub tally : (ℕ → Bool) → ℕ → ℕ
tally p n = sum (λ k. only (p k) 1) n

-- of the jobs 1 to n, job j waits, and all its children are done
abbrev pub startable : ℕ → (ℕ → ℕ) → (ℕ → State) → ℕ → Bool
startable n par t j = is_waiting (t j) && not (any (λ k. (par k == j) && not (is_done (t k))) n)

-- `t` tells how each job stands
module _ (o : Opened) (t : ℕ → State) where
  -- job k has a parent, and that is done
  abbrev pub taken : ℕ → Bool
  taken k = not (o.parent k == 0) && is_done (t (o.parent k))

  -- What job k holds, on axis a: its work and its output while it runs; once it is done its output, until its parent is done.
  abbrev pub holds : ℕ → ℕ → ℕ
  holds a k =
      only (is_running (t k)) (o.work a k + o.output a k) + only (is_done (t k) && not (taken k)) (o.output a k)

  -- what all jobs hold, on axis a
  abbrev pub held : ℕ → ℕ
  held a = sum (holds a) o.jobs

  -- some job runs on bench b
  abbrev pub busy : ℕ → Bool
  busy b = any (λ k. runs_on b (t k)) o.jobs

  abbrev pub busy_benches : ℕ
  busy_benches = tally busy o.benches

  -- how many jobs are not done
  abbrev pub left : ℕ
  left = tally (λ k. not (is_done (t k))) o.jobs

  -- job j may start: it waits, its children are done, and with it what is held fits the floor
  pub record Ready (j : ℕ) : Type 0 where
    pub job : In o.jobs j
    pub waits : t j ≡ Waiting
    pub children : (k : ℕ) → In o.jobs k → o.parent k ≡ j → t k ≡ Done
    pub fits : (a : ℕ) → held a + o.work a j + o.output a j ≤ o.floor a
