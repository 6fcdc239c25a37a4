use Rattle.std.proofs.Common.{take, arith}
use Rattle.refusals.specs.Judged.{First}
use Rattle.std.proofs.lemmas.Result.{err_from_is_err_and}
use Rattle.trees.specs.Lines.{Plain}
use Rattle.lines.specs.Faults.{RoomFault}
use Rattle.intake.proofs.Rows.{by_row}
use Rattle.checks.proofs.Faultless.{room_faultless}
use Rattle.checks.proofs.carry.plain_of.Goals as goal

pub returns-in_err-parents : goal.returns-in_err-parents
returns-in_err-parents g c =
    let p = err_from_is_err_and c.from_residual.result c.from_residual.ensures.1 in rw (p.1, p.2) c.in_err-parents.ensures

pub returns-in_err-plain_in : goal.returns-in_err-plain_in
returns-in_err-plain_in g c =
    let jobs = c.args.jobs.now in
    let n = c.args.n in
    let good = c.in_ok-parents.ensures in
    let e = c.in_err-plain_in.field-0.0 in
    let f = by_row jobs n good.1.0.records (λ m par. First (RoomFault m par 4096) e) c.in_ok-parents.parents good.1.1 c.in_err-plain_in.ensures.judged in
    absurd (room_faultless good.1.0 4096 (omega (arith, good.1.0.few)) f.deserved)

pub returns : goal.returns
returns g c =
    let jobs = c.args.jobs.now in
    let n = c.args.n in
    let good = c.in_ok-parents.ensures in
    (good.0, (good.1.0, by_row jobs n good.1.0.records (λ m par. Plain m par (take m c.plain_in.new.row)) c.in_ok-parents.parents good.1.1 c.in_ok-plain_in.ensures.judged.1))
