-- What the tests on a job's state tell.
use Rattle.std.proofs.Common.{◌≡◌, ℕ, ◌+◌, true, not, ◌&&◌, sym, refl, ap, ◌∙◌, arith}
use Rattle.std.proofs.lemmas.Bool.{true≢false, eqb-true, eq-eqb}
use Rattle.trees.specs.Sums.{only}
use Rattle.jobs.specs.declared.State.{State}
use Rattle.jobs.specs.declared.State.TheVariants.{Waiting, Running, Done}
use Rattle.logs.specs.Stands.{is_waiting, is_running, is_done, runs_on}

pub waiting_from : (s : State) → is_waiting s ≡ true → s ≡ Waiting
waiting_from Waiting e = refl
waiting_from (Running b) e = absurd (true≢false (sym e))
waiting_from Done e = absurd (true≢false (sym e))

pub done_from : (s : State) → is_done s ≡ true → s ≡ Done
done_from Waiting e = absurd (true≢false (sym e))
done_from (Running b) e = absurd (true≢false (sym e))
done_from Done e = refl

pub runs_on_from : (b : ℕ) (s : State) → runs_on b s ≡ true → s ≡ Running b
runs_on_from b Waiting e = absurd (true≢false (sym e))
runs_on_from b (Running c) e = ap Running (eqb-true c b e)
runs_on_from b Done e = absurd (true≢false (sym e))

pub runs_on_is : (b : ℕ) (s : State) → s ≡ Running b → runs_on b s ≡ true
runs_on_is b s e = ap (runs_on b) e ∙ eq-eqb b b refl

pub waiting_running : {s : State} {b : ℕ} → s ≡ Waiting → s ≡ Running b → ⊥
waiting_running {s} {b} p q = let z : ◌≡◌ {A = ℕ} 0 1 = cc in omega arith

pub waiting_done : {s : State} → s ≡ Waiting → s ≡ Done → ⊥
waiting_done {s} p q = let z : ◌≡◌ {A = ℕ} 0 1 = cc in omega arith

pub running_done : {s : State} {b : ℕ} → s ≡ Running b → s ≡ Done → ⊥
running_done {s} {b} p q = let z : ◌≡◌ {A = ℕ} 0 1 = cc in omega arith

pub same_bench : {s : State} {b c : ℕ} → s ≡ Running b → s ≡ Running c → b ≡ c
same_bench {s} {b} {c} p q = cc

-- a job waits, runs on some bench, or is done
pub data Way (s : State) : Type 0 where
  waits : s ≡ Waiting → Way s
  runs : (b : ℕ) → s ≡ Running b → Way s
  done : s ≡ Done → Way s

pub way : (s : State) → Way s
way Waiting = waits refl
way (Running b) = runs b refl
way Done = done refl

-- started and not done is running
pub started_running : (s : State) (x : ℕ) → only (is_running s) x ≡ only (not (is_waiting s) && not (is_done s)) x
started_running Waiting x = refl
started_running (Running b) x = refl
started_running Done x = refl

pub started_or_done : (s : State) → only (not (is_waiting s)) 1 ≡ only (is_done s) 1 + only (is_running s) 1
started_or_done Waiting = refl
started_or_done (Running b) = refl
started_or_done Done = refl
