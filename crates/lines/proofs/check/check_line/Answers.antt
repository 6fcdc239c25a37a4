use Rattle.trees.proofs.Firsts.{tree_none}
use Rattle.lines.proofs.Refused.{entry_first, order_first, line_none, line_placed, entered_in}
use Rattle.lines.proofs.check.check_line.Goals as goal

pub returns-in-Some : goal.returns-in-Some
returns-in-Some c =
    let tree = c.requires.tree in
    let h = c.in-Some.ensures.lowest in
    entry_first _ _ _ (tree_none _ _ tree.some tree.few tree.tree) c.in-Some.position h.1 h.2

pub first_early-requires-clause-placed : goal.first_early-requires-clause-placed
first_early-requires-clause-placed c =
    entered_in _ _ _ c.in_default.ensures.entered

pub returns-in-Some-first_early : goal.returns-in-Some-first_early
returns-in-Some-first_early c =
    let tree = c.requires.tree in
    let e = c.in_default.ensures.entered in
    let h = c.in-Some-first_early.ensures in
    order_first _ _ _ (tree_none _ _ tree.some tree.few tree.tree) tree.tree _ e c.in-Some-first_early.position h.1 h.2

pub returns : goal.returns
returns c =
    let tree = c.requires.tree in
    let none = tree_none _ _ tree.some tree.few tree.tree in
    let e = c.in_default.ensures.entered in
    let h = c.in_default-first_early.ensures in
    (line_none _ _ _ none tree.tree _ e h, line_placed _ _ _ none tree.tree _ e h)
