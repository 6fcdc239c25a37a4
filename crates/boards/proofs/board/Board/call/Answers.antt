use Rattle.std.proofs.lemmas.Result.{err_from_is_err_and}
use Rattle.boards.proofs.board.Board.call.Goals as goal
use Rattle.boards.proofs.board.Board.call.Goals.{in-Start+in_ok-start-in-Start, in-Report+in_ok-report-in-Report, in-Ask+in_ok-question-in-Ask}

pub returns-in_err-start-in-Start-clause-follows : goal.returns-in_err-start-in-Start-clause-follows
returns-in_err-start-in-Start-clause-follows g c = λ o l led.
    let p = err_from_is_err_and c.from_residual.result c.from_residual.ensures.1 in
    rw (p.1, p.2, c.in-Start.is) (c.in_err-start-in-Start.ensures.follows o l led)

pub returns-in_err-report-in-Report-clause-follows : goal.returns-in_err-report-in-Report-clause-follows
returns-in_err-report-in-Report-clause-follows g c = λ o l led.
    let p = err_from_is_err_and c.from_residual-in_err-report-in-Report.result c.from_residual-in_err-report-in-Report.ensures.1 in
    rw (p.1, p.2, c.in-Report.is) (c.in_err-report-in-Report.ensures.follows o l led)

pub returns-in_err-question-in-Ask-clause-follows : goal.returns-in_err-question-in-Ask-clause-follows
returns-in_err-question-in-Ask-clause-follows g c = λ o l led.
    let p = err_from_is_err_and c.from_residual-in_err-question-in-Ask.result c.from_residual-in_err-question-in-Ask.ensures.1 in
    rw (p.1, p.2, c.in-Ask.is) (c.in_err-question-in-Ask.ensures.follows o l led)

pub returns-clause-follows : goal.returns-clause-follows
returns-clause-follows g c = λ o l led.
    elim c.match-call.branch [
      | in-Start+in_ok-start-in-Start w ↦ rw (w.in-Start.is, w.result-is, w.self-is, w.jobs-is) (w.in_ok-start-in-Start.ensures.follows o l led)
      | in-Report+in_ok-report-in-Report w ↦ rw (w.in-Report.is, w.result-is, w.self-is, w.jobs-is) (w.in_ok-report-in-Report.ensures.follows o l led)
      | in-Ask+in_ok-question-in-Ask w ↦ rw (w.in-Ask.is, w.result-is, w.self-is, w.jobs-is) (w.in_ok-question-in-Ask.ensures.follows o l led)
    ]
