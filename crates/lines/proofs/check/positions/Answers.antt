use Rattle.std.proofs.lemmas.Result.{err_from_is_err_and}
use Rattle.trees.proofs.Walks.{blank}
use Rattle.lines.proofs.Refused.{parents_first}
use Rattle.lines.proofs.check.positions.Goals as goal

pub returns-in_err-check_parents : goal.returns-in_err-check_parents
returns-in_err-check_parents c =
    let p = err_from_is_err_and c.from_residual.result c.from_residual.ensures.1 in
    rw (p.1, p.2) (parents_first _ _ _ _ c.in_err-check_parents.ensures)

pub check_line-requires-clause-clear : goal.check_line-requires-clause-clear
check_line-requires-clause-clear c = blank 4096
