use Rattle.std.proofs.Common.{◌≡◌, ◌-◌, arith}
use Rattle.boards.proofs.Courses.{along, tallied}
use Rattle.boards.proofs.board.Board.tally.Goals as goal

pub returns-clause-tallied : goal.returns-clause-tallied
returns-clause-tallied g c = λ o l js led.
    let h = c.args.self.now.hall in
    let rest : c.saturating_sub.result ≡ h.jobs - h.reports = omega (arith, c.saturating_sub.ensures) in
    tallied g.K.Amount.width g.K.Amount.reading g.R.Rule.acts g.met.R.Rule.safe g.met.R.Rule.willing o l c.args.self.now.rule h js (along g.K.Amount.width g.K.Amount.reading g.R.Rule.acts g.met.R.Rule.safe g.met.R.Rule.willing led) c.saturating_sub.result rest
