use Rattle.std.proofs.Common.{arith}
use Rattle.lines.proofs.Places.{fit_more, filled_more}
use Rattle.lines.proofs.check.first_misfit.Goals as goal

pub loop-i-preserved : goal.loop-i-preserved
loop-i-preserved c = (
  omega arith,
  fit_more c.args.jobs c.args.row.now c.loop-i.places c.loop-i.i (omega arith) (omega arith) c.loop-i.invariant.1 c.loop-i.invariant.2 c.if-places-job-ne0.false,
  filled_more c.args.jobs c.args.row.now c.loop-i.places c.loop-i.i (omega arith) (omega arith) c.loop-i.invariant.1 c.loop-i.invariant.2 c.if-places-job-ne0.false _ (omega arith) (omega arith),
)
