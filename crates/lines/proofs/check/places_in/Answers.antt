use Rattle.trees.proofs.Walks.{blank}
use Rattle.lines.proofs.check.places_in.Goals as goal

pub check_line-requires-clause-clear : goal.check_line-requires-clause-clear
check_line-requires-clause-clear c = blank 4096
