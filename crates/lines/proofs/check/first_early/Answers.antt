use Rattle.std.proofs.Common.{rules, tests, ℕ, length, get_or, refl, sym, ◌∙◌}
use Rattle.std.proofs.lemmas.Iterator.{YieldsList-from_range}
use Rattle.std.proofs.lemmas.Iterator.Adapters.{option_map_id}
use Rattle.std.proofs.lemmas.Iterator.Consumers.{YieldsList-from_filter_map, min_from_yields_List}
use Rattle.trees.specs.Found.{jobs_in, par_in}
use Rattle.lines.proofs.Earliest.{early, least, earliest}
use Rattle.lines.proofs.check.first_early.Goals as goal

pub returns : goal.returns
returns c =
    let n = jobs_in c.args.parents.now in
    let par = par_in c.args.parents.now in
    let at : ℕ → ℕ = λ k. get_or c.args.places.now k 0 in
    let found = min_from_yields_List _ c.min.result c.min.ensures.ran (YieldsList-from_filter_map _ (early n par at) (YieldsList-from_range 1 (length c.args.parents.now) n (cc) refl) c.filter_map.ensures.closure (λ x r q k. search (rules, tests))) in
    earliest n par at c.requires.tree.tree.parents c.requires.placed c.min.result (rw (sym found ∙ option_map_id c.min.result) at (least (early n par at) n 1))
