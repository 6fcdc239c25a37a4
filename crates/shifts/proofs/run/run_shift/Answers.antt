use Rattle.std.proofs.Common.{[]}
use Rattle.std.proofs.lemmas.Result.{err_from_is_err_and}
use Rattle.shifts.proofs.Serving.{shifted, shifted_whole}
use Rattle.shifts.proofs.run.run_shift.Goals as goal

pub returns-in_err-serve : goal.returns-in_err-serve
returns-in_err-serve g c =
    let p = err_from_is_err_and c.from_residual.result c.from_residual.ensures.1 in
    let good = c.in_default.ensures.judged in
    rw p.1 (shifted g.K.Amount.width g.K.Amount.reading g.R.Rule.acts g.met.R.Rule.safe g.met.R.Rule.willing c.new-board.result c.args.rule c.new-board.ensures.0 c.args.jobs.now c.args.setup.now c.serve.new.board c.serve.new.jobs good.0 _ _ (c.in_err-serve.ensures _ [] good.1))

pub returns : goal.returns
returns g c =
    let good = c.in_default.ensures.judged in
    let s = c.in_ok-serve.ensures _ [] good.1 in
    shifted_whole g.K.Amount.width g.K.Amount.reading g.R.Rule.acts g.met.R.Rule.safe g.met.R.Rule.willing c.new-board.result c.args.rule c.new-board.ensures.0 c.args.jobs.now c.args.setup.now c.serve.new.board c.serve.new.jobs good.0 _ _ c.tally.result s.0 s.1 (λ l led. c.tally.ensures.tallied _ l _ led)
