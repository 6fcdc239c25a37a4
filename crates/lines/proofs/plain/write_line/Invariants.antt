use Rattle.std.proofs.Common.{take}
use Rattle.trees.specs.Found.{jobs_in, par_in}
use Rattle.lines.proofs.Written.{Next}
use Rattle.lines.proofs.plain.write_line.Given as goal

abbrev pub invariant-loop-cell : goal.invariant-loop-cell
invariant-loop-cell l = Next (jobs_in l.parents) (par_in l.parents) (take l.cell-index l.row) l.job
