use Rattle.lines.proofs.Unique.{one_plain}
use Rattle.lines.proofs.plain.one_plain_line.Goals as goal

pub returns : goal.returns
returns c = one_plain
