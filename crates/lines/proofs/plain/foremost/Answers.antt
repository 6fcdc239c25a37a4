use Rattle.std.proofs.Common.{arith}
use Rattle.lines.specs.Walk.Foremost.{alone, deeper}
use Rattle.lines.proofs.Written.{under_child}
use Rattle.lines.proofs.plain.foremost.Goals as goal

pub loop-job-smaller : goal.loop-job-smaller
loop-job-smaller c =
    under_child _ _ c.loop-job.job _ c.requires.tree.tree c.loop-job.invariant.0 (c.requires.tree.chains.chained.firsts _ c.loop-job.invariant.0) c.loop-job-test.true

pub loop-job-preserved : goal.loop-job-preserved
loop-job-preserved c =
    let first = c.requires.tree.chains.chained.firsts c.loop-job.job c.loop-job.invariant.0 in
    let child = first.some c.loop-job-test.true in
    ((omega (arith, child), child.1), λ r f. c.loop-job.invariant.1 r (deeper first c.loop-job-test.true f))

pub returns-clause-begins : goal.returns-clause-begins
returns-clause-begins c =
    let first = c.requires.tree.chains.chained.firsts c.loop-job.job c.loop-job.invariant.0 in
    c.loop-job.invariant.1 _ (alone (rw c.loop-job-test.false at first))
