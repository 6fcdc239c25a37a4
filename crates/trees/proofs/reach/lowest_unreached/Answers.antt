use Rattle.std.proofs.Common.{refl, arith}
use Rattle.trees.specs.Found.{par_in}
use Rattle.trees.proofs.Walks.{unmarked}
use Rattle.trees.proofs.reach.lowest_unreached.Goals as goal

pub loop-job-init : goal.loop-job-init
loop-job-init c = (refl, unmarked (par_in c.args.parents.now) 4096 1 (omega arith), λ k i h. absurd (omega arith))
