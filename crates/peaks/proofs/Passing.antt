-- A job of a sound tree can run at its position, with no sum above the limit.
use Rattle.std.proofs.Common.{◌≡◌, ℕ, ◌+◌, ◌<◌, List, length, get_or, sym, ◌∙◌, arith}
use Rattle.trees.specs.Sums.{In}
use Rattle.trees.specs.Lines.{entry, Line}
use Rattle.trees.specs.Trees.{kids}
use Rattle.trees.proofs.Stands.{left_none, left_most, left_next}
use Rattle.trees.specs.Standing.{left_at}
use Rattle.jobs.specs.declared.Job.{Job}
use Rattle.jobs.specs.Fields.{work_of, output_of}
use Rattle.jobs.proofs.Fields.{at_read}
use Rattle.intake.specs.Faults.{par_of}
use Rattle.intake.specs.Taken.{Sound}
use Rattle.peaks.specs.Stood.{Left, Stands, Passable}
use Rattle.peaks.proofs.Bounded.{Reads, work_most, output_most, outputs_most}

module _ {S : Type 0} (w : ℕ) (read : S → ℕ → ℕ) (kind : Reads w read) (xs : List (Job S)) (n : ℕ) (row : List ℕ) (sound : Sound w read xs n) (line : Line n (par_of xs n) row) (p : ℕ) (here : In n p) where
  pub job_in : In n (entry row p)
  job_in = line.jobs p here

  pub job_record : entry row p < length xs
  job_record = omega (arith, job_in, sound.records)

  module _ (job : Job S) (is : job ≡ get_or xs (entry row p) job) where
    pub work_is : (k : ℕ) → work_of read xs k (entry row p) ≡ read job.work k
    work_is k = at_read (λ j. read j.work k) xs (entry row p) job job_record is

    pub output_is : (k : ℕ) → output_of read xs k (entry row p) ≡ read job.output k
    output_is k = at_read (λ j. read j.output k) xs (entry row p) job job_record is

    -- `before` is what the earlier jobs left, and `given` the inputs of this one
    module _ (before given : S) (lefts : Left read xs n row before p) (gives : (k : ℕ) → read given k ≡ kids n (par_of xs n) (output_of read xs k) (entry row p)) where
      next : (k : ℕ) → left_at n (par_of xs n) row (work_of read xs k) (output_of read xs k) (p + 1) + kids n (par_of xs n) (output_of read xs k) (entry row p) ≡ left_at n (par_of xs n) row (work_of read xs k) (output_of read xs k) p + output_of read xs k (entry row p)
      next k = left_next n (par_of xs n) row (work_of read xs k) (output_of read xs k) line p here

      pub passable : Passable read job before given
      passable =
          record {
            fits = λ k.
                omega (
                  arith,
                  lefts k,
                  left_most n (par_of xs n) row (work_of read xs k) (output_of read xs k) p,
                  outputs_most w read kind xs n sound k,
                  work_most w read kind xs n sound k (entry row p) job_in,
                  output_most w read kind xs n sound k (entry row p) job_in,
                  work_is k,
                  output_is k,
                );
            covers = λ k. omega (arith, lefts k, gives k, next k, output_is k);
          }

      pub stands_next : (x : S) → ((k : ℕ) → read x k ≡ read before k + read job.work k + read job.output k) → Stands read xs n row x p
      stands_next x sums k = omega (arith, sums k, lefts k, work_is k, output_is k)

      pub left_after : (x : S) → ((k : ℕ) → read x k + read given k ≡ read before k + read job.output k) → Left read xs n row x (p + 1)
      left_after x rest k = omega (arith, rest k, lefts k, gives k, next k, output_is k)

-- before the first position nothing is left
pub left_first : {S : Type 0} (read : S → ℕ → ℕ) (xs : List (Job S)) (n : ℕ) (row : List ℕ) (x : S) → ((a : ℕ) → read x a ≡ 0) → Left read xs n row x 1
left_first read xs n row x zero a = zero a ∙ sym (left_none n (par_of xs n) row (work_of read xs a) (output_of read xs a))
