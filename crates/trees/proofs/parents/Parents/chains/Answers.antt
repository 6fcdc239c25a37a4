use Rattle.trees.proofs.Walks.{blank}
use Rattle.trees.proofs.parents.Parents.chains.Goals as goal

pub link-requires-clause-clear : goal.link-requires-clause-clear
link-requires-clause-clear c = λ k. (blank 4096 k, blank 4096 k)
