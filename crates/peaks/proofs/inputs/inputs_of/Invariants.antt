use Rattle.std.proofs.Common.{◌≡◌, ℕ, ◌+◌, ◌-◌, cond, eqb}
use Rattle.jobs.specs.Fields.{output_of}
use Rattle.intake.specs.Faults.{par_of}
use Rattle.peaks.proofs.Gathering.{before, Child}
use Rattle.peaks.proofs.inputs.inputs_of.Given as goal

abbrev pub invariant-loop-child : goal.invariant-loop-child
invariant-loop-child g l =
    let par = par_of l.jobs l.n in
    let read = g.K.Amount.reading in
    ((a : ℕ) → read l.total a ≡ before l.n par (output_of read l.jobs a) l.i l.child)
    × Child l.n par l.i l.child

abbrev pub decreases-loop-child : goal.decreases-loop-child
decreases-loop-child g l = cond (eqb l.child 0) 0 (l.n + 1 - l.child)
