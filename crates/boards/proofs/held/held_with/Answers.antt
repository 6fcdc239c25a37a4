use Rattle.std.proofs.Common.{◌≡◌, ℕ, ◌+◌, ◌<◌, List, length, get_or, Some, None, Option, arith}
use Rattle.amounts.specs.Axes.{most, Sum}
use Rattle.trees.specs.Sums.{In}
use Rattle.jobs.specs.declared.Job.{Job}
use Rattle.jobs.proofs.Fields.{at_read}
use Rattle.boards.specs.Held.{Bearable, With}
use Rattle.boards.proofs.held.held_with.Goals as goal

module _ {S : Type 0} (w : ℕ) (read : S → ℕ → ℕ) (xs : List (Job S)) (j : ℕ) (held : S) (x : Job S) (job : In 4095 j) (inside : j < length xs) (is : x ≡ get_or xs j x) where
  -- the work alone is too much
  no_work : (k : ℕ) → most < read held k + read x.work k → Bearable w read xs j held → ⊥
  no_work k over bear = omega (arith, bear.bears k, at_read (λ j. read j.work k) xs j x inside is)

  with_output : (half : S) → ((k : ℕ) → read half k ≡ read held k + read x.work k) → (o : Option S) → Sum read half x.output o → With w read xs j held o
  with_output half sums None (k, over) = λ bear.
      omega (arith, bear.bears k, sums k, at_read (λ j. read j.work k) xs j x inside is, at_read (λ j. read j.output k) xs j x inside is)
  with_output half sums (Some y) total =
      (job, inside, λ a. omega (arith, total a, sums a, at_read (λ j. read j.work a) xs j x inside is, at_read (λ j. read j.output a) xs j x inside is))

pub returns-in_err-sum : goal.returns-in_err-sum
returns-in_err-sum g c =
    let job = c.in_ok-record.record.now in
    let its = c.in_ok-record.ensures.lookup in
    let over = c.in_err-sum.ensures in
    rw c.from_residual-in_err-sum.ensures (no_work g.K.Amount.width g.K.Amount.reading c.args.jobs.now c.args.job c.args.held.now job (omega arith, omega arith) its.3.0 its.1 over.0 over.1)

pub returns : goal.returns
returns g c =
    let job = c.in_ok-record.record.now in
    let its = c.in_ok-record.ensures.lookup in
    with_output g.K.Amount.width g.K.Amount.reading c.args.jobs.now c.args.job c.args.held.now job (omega arith, omega arith) its.3.0 its.1 _ c.in_ok-sum.ensures c.sum-2.result c.sum-2.ensures
