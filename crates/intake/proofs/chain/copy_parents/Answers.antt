use Rattle.std.proofs.Common.{◌≡◌, ◌<◌, [], ◌∷◌, ◌++◌, map, length, get_or, take, sym, ap, ◌∙◌, arith}
use Rattle.std.proofs.lemmas.List.{take_all, take_more, take_more_set, length-map}
use Rattle.jobs.proofs.Fields.{at_place}
use Rattle.intake.proofs.chain.copy_parents.Goals as goal

pub loop-i-preserved : goal.loop-i-preserved
loop-i-preserved g c =
    let jobs = c.args.jobs.now in
    let i = c.loop-i.i in
    let job = get_or jobs i c.index-jobs-i.result in
    let there : i < length jobs = omega arith in
    let wide : i < length (map (λ j. j.parent) jobs) = omega (arith, length-map jobs (λ j. j.parent)) in
    take_more_set c.loop-i.row i _ (omega arith)
    ∙ ap (λ l. l ++ (job.parent ∷ [])) c.loop-i.invariant
    ∙ ap (λ x. take i (map (λ j. j.parent) jobs) ++ (x ∷ [])) (sym (at_place (λ j. j.parent) jobs i c.index-jobs-i.result there))
    ∙ sym (take_more (map (λ j. j.parent) jobs) i 0 wide)

pub returns : goal.returns
returns g c =
    let all : c.loop-i.i ≡ length c.args.row.now = omega arith in
    sym (take_all (length c.args.row.now) c.loop-i.row (omega arith)) ∙ rw all at c.loop-i.invariant
