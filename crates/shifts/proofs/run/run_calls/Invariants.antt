use Rattle.std.proofs.Common.{◌≡◌, List, ◌++◌, length, vec_items}
use Rattle.logs.specs.Stands.{Opened}
use Rattle.logs.specs.Logs.{Event, paired}
use Rattle.boards.specs.Course.{Led}
use Rattle.shifts.proofs.run.run_calls.Given as goal

abbrev pub invariant-loop-call : goal.invariant-loop-call
invariant-loop-call g l =
    (length (vec_items l.answers) ≡ l.call-index)
    × ((o : Opened) (m : List (Event g.row.K.Denot)) → Led g.K.Amount.width g.K.Amount.reading g.R.Rule.acts o m l.initial.board l.initial.jobs
    → Led g.K.Amount.width g.K.Amount.reading g.R.Rule.acts o (m ++ paired l.calls (vec_items l.answers)) l.board l.jobs)
