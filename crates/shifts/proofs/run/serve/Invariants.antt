use Rattle.std.proofs.Common.{List}
use Rattle.logs.specs.Stands.{Opened}
use Rattle.logs.specs.Logs.{Event}
use Rattle.boards.specs.Course.{Led}
use Rattle.shifts.proofs.Serving.{SoFar}
use Rattle.shifts.proofs.run.serve.Given as goal

abbrev pub invariant-loop : goal.invariant-loop
invariant-loop g l =
    (o : Opened) (m : List (Event g.row.K.Denot)) → Led g.K.Amount.width g.K.Amount.reading g.R.Rule.acts o m l.initial.board l.initial.jobs
    → SoFar g.K.Amount.width g.K.Amount.reading g.R.Rule.acts o m (g.D.Desk.journal l.initial.desk) (g.D.Desk.journal l.desk) l.board l.jobs
