use Rattle.std.proofs.lemmas.Result.{err_from_is_err_and}
use Rattle.std.proofs.lemmas.Option.{MatchOption-at_some, MatchOption-at_none}
use Rattle.boards.proofs.Firsts.{first_run, first_bound, first_rule, first_exceeded, no_fault}
use Rattle.boards.proofs.board.Board.admit.Goals as goal

pub returns-in_err-survey : goal.returns-in_err-survey
returns-in_err-survey g c =
    let p = err_from_is_err_and c.from_residual.result c.from_residual.ensures.1 in
    rw (p.1, p.2) (first_run g.K.Amount.width g.K.Amount.reading g.R.Rule.acts g.met.R.Rule.listed c.args.self.now.rule c.args.jobs.now c.args.setup.now c.in_err-survey.field-0.0 c.in_err-survey.ensures)

pub returns-in_err-check_hall : goal.returns-in_err-check_hall
returns-in_err-check_hall g c =
    let p = err_from_is_err_and c.from_residual-in_err-check_hall.result c.from_residual-in_err-check_hall.ensures.1 in
    rw (p.1, p.2) (first_bound g.K.Amount.width g.K.Amount.reading g.R.Rule.acts g.met.R.Rule.listed c.args.self.now.rule c.args.jobs.now c.args.setup.now
    c.in_ok-survey.ensures.0 c.in_err-check_hall.field-0.0 c.in_err-check_hall.ensures)

pub returns-in_err-check : goal.returns-in_err-check
returns-in_err-check g c =
    let p = err_from_is_err_and c.from_residual-in_err-check.result c.from_residual-in_err-check.ensures.1 in
    let good = c.in_ok-survey.ensures in
    rw (p.1, p.2) (first_rule g.K.Amount.width g.K.Amount.reading g.R.Rule.acts g.met.R.Rule.listed c.args.self.now.rule c.args.jobs.now c.args.setup.now
    good.0 c.in_ok-check_hall.ensures.0 c.in_err-check.field-0.0 (c.in_err-check.ensures good.1.sound good.1.lined))

pub returns-in-Some : goal.returns-in-Some
returns-in-Some g c =
    let good = c.in_ok-survey.ensures in
    let found = MatchOption-at_some _ _ c.in-Some.position c.in-Some.is c.in_ok-position.ensures.1 in
    first_exceeded g.K.Amount.width g.K.Amount.reading g.R.Rule.acts g.met.R.Rule.listed c.args.self.now.rule c.args.jobs.now c.args.setup.now
    good.0 c.in_ok-check_hall.ensures.0 (c.in_ok-check.ensures good.1.sound good.1.lined).0 c.in-Some.position found.0 found.1 found.2

pub returns : goal.returns
returns g c =
    let good = c.in_ok-survey.ensures in (
      no_fault g.K.Amount.width g.K.Amount.reading g.R.Rule.acts g.met.R.Rule.listed c.args.self.now.rule c.args.jobs.now c.args.setup.now
          good.0 c.in_ok-check_hall.ensures.0 (c.in_ok-check.ensures good.1.sound good.1.lined).0 (MatchOption-at_none _ _ c.in_default.is c.in_ok-position.ensures.1),
      good.1,
    )
