use Rattle.std.proofs.Common.{subst, inl, inr, arith}
use Rattle.std.proofs.lemmas.Bool.{cases_eq}
use Rattle.intake.specs.Faults.{Above}
use Rattle.intake.proofs.Above.{above_here, offends_here}
use Rattle.intake.proofs.bounds.lowest_offender.Goals as goal
use Rattle.intake.proofs.bounds.lowest_offender.Goals.{else-i-ge1-via-then-i-ge1+then-i-n+else-offends, else-i-ge1-via-then-i-ge1+else-i-n, else-i-ge1-via-else-i-ge1}

pub returns-then-offends : goal.returns-then-offends
returns-then-offends g c =
    let job = c.index-jobs-i in (
      (omega arith, omega arith),
      above_here g.K.Amount.width g.K.Amount.reading c.args.jobs.now c.loop-i.i job.result c.loop-i-test.true job.is c.if-offends.ensures,
      c.loop-i.invariant,
    )

pub loop-i-preserved : goal.loop-i-preserved
loop-i-preserved g c = λ k inside low above.
    let w = g.K.Amount.width in
    let read = g.K.Amount.reading in
    let jobs = c.args.jobs.now in
    let i = c.loop-i.i in
    let job = c.index-jobs-i in
    elim (cases_eq k i) [
      | inr other ↦ c.loop-i.invariant k inside (omega arith) above
      | inl here ↦ elim c.else-i-ge1.branch [
        | else-i-ge1-via-then-i-ge1+then-i-n+else-offends v ↦
            v.if-offends.ensures (offends_here w read jobs i job.result c.loop-i-test.true job.is (subst (Above w read jobs) here above))
        | else-i-ge1-via-then-i-ge1+else-i-n v ↦ omega (arith, v.if-i-n)
        | else-i-ge1-via-else-i-ge1 v ↦ omega (arith, v.if-i-ge1)
      ]
    ]

pub returns : goal.returns
returns g c = λ k inside above. c.loop-i.invariant k inside (omega arith) above
