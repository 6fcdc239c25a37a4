-- How many jobs are started, are done and run, and how many benches are busy.
use Rattle.std.proofs.Common.{◌≡◌, ℕ, ◌+◌, false, not, eqb, ◌⊎◌, sym, refl, ap, ◌∙◌, inl, inr, arith}
use Rattle.std.proofs.lemmas.Bool.{cases_eq}
use Rattle.std.proofs.lemmas.Bool.Decides.{nat_tests}
use Rattle.trees.specs.Sums.{In, sum, only}
use Rattle.trees.proofs.Sums.{sum_eq, sum_zero, sum_add, sum_one}
use Rattle.lines.proofs.Sums.{sum_swap}
use Rattle.jobs.specs.declared.State.{State}
use Rattle.jobs.specs.declared.State.TheVariants.{Running}
use Rattle.logs.specs.Stands.{Opened, is_waiting, is_running, is_done, runs_on, tally, busy, busy_benches, Ready}
use Rattle.logs.specs.Logs.{begun, ended}
use Rattle.logs.proofs.Tallies.{tally_any, tally_more, tally_same}
use Rattle.logs.proofs.States.{runs_on_from, started_or_done, Way, waits, runs, done, way}
use Rattle.logs.proofs.Moves.{Sound, begun_here, begun_other, ended_here, ended_other}

module _ (o : Opened) (t : ℕ → State) where
  abbrev pub started_jobs : ℕ
  started_jobs = tally (λ k. not (is_waiting (t k))) o.jobs

  abbrev pub done_jobs : ℕ
  done_jobs = tally (λ k. is_done (t k)) o.jobs

  module _ (sound : Sound o t) where
    -- a job that runs is on just one of the benches
    on_one : (k : ℕ) → In o.jobs k → Way (t k) → only (is_running (t k)) 1 ≡ sum (λ b. only (runs_on b (t k)) 1) o.benches
    on_one k i (waits w) = rw w (sym (sum_zero (λ b. 0) o.benches (λ b h. refl)))
    on_one k i (done d) = rw d (sym (sum_zero (λ b. 0) o.benches (λ b h. refl)))
    on_one k i (runs c r) =
        rw r (sym (sum_eq (λ b. only (eqb c b) 1) (λ b. only (eqb b c) 1) o.benches (λ b h. grind (arith, nat_tests)) ∙ sum_one (λ b. 1) c o.benches (sound.seated k c i r)))

    pub started_busy : started_jobs ≡ done_jobs + busy_benches o t
    started_busy =
        omega (
          arith,
          sum_eq (λ k. only (not (is_waiting (t k))) 1) (λ k. only (is_done (t k)) 1 + only (is_running (t k)) 1) o.jobs (λ k i. started_or_done (t k)),
          sum_add (λ k. only (is_done (t k)) 1) (λ k. only (is_running (t k)) 1) o.jobs,
          sum_eq (λ k. only (is_running (t k)) 1) (λ k. sum (λ b. only (runs_on b (t k)) 1) o.benches) o.jobs (λ k i. on_one k i (way (t k))),
          sum_swap (λ k b. only (runs_on b (t k)) 1) o.jobs o.benches,
          sum_eq (λ b. sum (λ k. only (runs_on b (t k)) 1) o.jobs) (λ b. only (busy o t b) 1) o.benches
              (λ b h. tally_any (λ k. runs_on b (t k)) o.jobs (λ j k i g p q. sound.alone j k b i g (runs_on_from b (t j) p) (runs_on_from b (t k) q))),
        )

    module _ (b j : ℕ) (bench : In o.benches b) (idle : busy o t b ≡ false) (ready : Ready o t j) where
      abbrev u : ℕ → State
      u = begun t b j

      done_kept : (k : ℕ) → (k ≡ j) ⊎ (k ≡ j → ⊥) → is_done (u k) ≡ is_done (t k)
      done_kept k (inl e) = ap is_done (begun_here o t sound b j bench idle ready k e) ∙ sym (ap (λ x. is_done (t x)) e ∙ ap is_done ready.waits)
      done_kept k (inr e) = ap is_done (begun_other o t sound b j bench idle ready k e)

      pub begun_started : tally (λ k. not (is_waiting (begun t b j k))) o.jobs ≡ started_jobs + 1
      begun_started =
          tally_more (λ k. not (is_waiting (t k))) (λ k. not (is_waiting (u k))) o.jobs j ready.job (ap (λ s. not (is_waiting s)) ready.waits) (ap (λ s. not (is_waiting s)) (begun_here o t sound b j bench idle ready j refl)) (λ k e. ap (λ s. not (is_waiting s)) (begun_other o t sound b j bench idle ready k e))

      pub begun_done : tally (λ k. is_done (begun t b j k)) o.jobs ≡ done_jobs
      begun_done = tally_same (λ k. is_done (t k)) (λ k. is_done (u k)) o.jobs (λ k i. done_kept k (cases_eq k j))

    module _ (b i : ℕ) (inside : In o.jobs i) (run : t i ≡ Running b) where
      begun_kept : (k : ℕ) → (k ≡ i) ⊎ (k ≡ i → ⊥) → not (is_waiting (ended t b k)) ≡ not (is_waiting (t k))
      begun_kept k (inl e) = ap (λ x. not (is_waiting (ended t b x))) e ∙ ap (λ s. not (is_waiting s)) (ended_here o t sound b i inside run) ∙ sym (ap (λ x. not (is_waiting (t x))) e ∙ ap (λ s. not (is_waiting s)) run)
      begun_kept k (inr e) = ap (λ s. not (is_waiting s)) (ended_other o t sound b i inside run k e)

      pub ended_started_at : (k : ℕ) → not (is_waiting (ended t b k)) ≡ not (is_waiting (t k))
      ended_started_at k = begun_kept k (cases_eq k i)

      pub ended_started : tally (λ k. not (is_waiting (ended t b k))) o.jobs ≡ started_jobs
      ended_started = tally_same (λ k. not (is_waiting (t k))) (λ k. not (is_waiting (ended t b k))) o.jobs (λ k h. ended_started_at k)

      pub ended_done : tally (λ k. is_done (ended t b k)) o.jobs ≡ done_jobs + 1
      ended_done =
          tally_more (λ k. is_done (t k)) (λ k. is_done (ended t b k)) o.jobs i inside (ap is_done run) (ap is_done (ended_here o t sound b i inside run)) (λ k e. ap is_done (ended_other o t sound b i inside run k e))
