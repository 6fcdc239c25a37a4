use Rattle.texts.proofs.Axes.{Below}
use Rattle.texts.proofs.reader.Reader.amount.Given as goal

-- the numbers on the axes below `axis` are read
abbrev pub invariant-loop-axis : goal.invariant-loop-axis
invariant-loop-axis g l = Below l.bound l.fn.self l.self l.axis l.amount
