use Rattle.trees.specs.Found.{jobs_in, par_in}
use Rattle.trees.proofs.Links.{Linked}
use Rattle.trees.proofs.chains.link.Given as goal

abbrev pub invariant-loop-job : goal.invariant-loop-job
invariant-loop-job l = Linked (jobs_in l.parents) (par_in l.parents) l.first l.next l.job
