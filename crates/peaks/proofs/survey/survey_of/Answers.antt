use Rattle.std.proofs.Common.{get_or}
use Rattle.refusals.specs.Judged.{First}
use Rattle.refusals.specs.declared.Refusal.{Refusal}
use Rattle.std.proofs.lemmas.Result.{err_from_is_err_and}
use Rattle.trees.specs.Trees.{ChainedTree}
use Rattle.lines.specs.Checks.{Placed}
use Rattle.lines.specs.Faults.{LineFault}
use Rattle.intake.proofs.Rows.{by_row}
use Rattle.peaks.proofs.Firsts.{first_tree, first_line, no_fault}
use Rattle.peaks.proofs.survey.survey_of.Goals as goal

pub returns-in_err-parents : goal.returns-in_err-parents
returns-in_err-parents g c =
    let p = err_from_is_err_and c.from_residual.result c.from_residual.ensures.1 in
    let e = c.in_err-parents.field-0.0 in
    rw (p.1, p.2) (first_tree g.K.Amount.width g.K.Amount.reading c.args.jobs.now c.args.n c.args.line.now e c.in_err-parents.ensures)

pub returns-in_err-places : goal.returns-in_err-places
returns-in_err-places g c =
    let p = err_from_is_err_and c.from_residual-in_err-places.result c.from_residual-in_err-places.ensures.1 in
    let e = c.in_err-places.field-0.0 in
    let jobs = c.args.jobs.now in
    let n = c.args.n in
    let line = c.args.line.now in
    let good = c.in_ok-parents.ensures in
    rw (p.1, p.2) (first_line g.K.Amount.width g.K.Amount.reading jobs n line good.0 e
    (by_row jobs n good.1.0.records (λ m par. First (LineFault m par line) e) c.in_ok-parents.parents good.1.1 c.in_err-places.ensures))

pub returns : goal.returns
returns g c =
    let jobs = c.args.jobs.now in
    let n = c.args.n in
    let line = c.args.line.now in
    let good = c.in_ok-parents.ensures in
    let room = good.1.0.records in
    let row = c.in_ok-parents.parents in
    let chains = c.chains.result in
    let places = c.in_ok-places.places in
    let placed = by_row jobs n room (λ m par. Placed m par line places) row good.1.1 c.in_ok-places.ensures.1 in
    let chained = by_row jobs n room (λ m par. ChainedTree m par (λ k. get_or chains.first k 0) (λ k. get_or chains.next k 0)) row good.1.1 c.chains.ensures in (
      no_fault g.K.Amount.width g.K.Amount.reading jobs n line good.0 (by_row jobs n room (λ m par. (e : Refusal) → LineFault m par line e → ⊥) row good.1.1 c.in_ok-places.ensures.0),
      record { sound = good.1.0; lined = placed.line; chained = chained.chains.chained; placed = placed.placed },
    )
