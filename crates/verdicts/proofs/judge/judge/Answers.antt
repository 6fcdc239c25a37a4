use Rattle.std.proofs.lemmas.Result.{err_from_is_err_and}
use Rattle.std.proofs.Common.{Ok, Err}
use Rattle.verdicts.specs.Answered.Answered.{unread, weighed}
use Rattle.verdicts.proofs.judge.judge.Goals as goal

pub returns-in_err-heading : goal.returns-in_err-heading
returns-in_err-heading g c =
    let p = err_from_is_err_and c.from_residual.result c.from_residual.ensures.1 in
    rw (p.1, p.2) (unread c.in_err-heading.field-0.0 c.in_err-heading.ensures.told.0)

pub returns-in_err-peak : goal.returns-in_err-peak
returns-in_err-peak g c =
    let p = err_from_is_err_and c.from_residual-in_err-peak.result c.from_residual-in_err-peak.ensures.1 in
    let granted = c.in_ok-heading.ensures.told in
    rw (p.1, p.2) (weighed c.in_ok-heading.heading c.read.new.records (Err c.in_err-peak.field-0.0) granted.good c.in_err-peak.ensures)

pub returns : goal.returns
returns g c =
    let granted = c.in_ok-heading.ensures.told in
    weighed c.in_ok-heading.heading c.read.new.records (Ok c.in_ok-peak.peak) granted.good c.in_ok-peak.ensures
