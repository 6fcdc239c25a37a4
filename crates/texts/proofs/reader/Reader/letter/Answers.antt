use Rattle.std.proofs.Common.{rules}
use Rattle.texts.proofs.Taking.{letter_reads}
use Rattle.texts.proofs.reader.Reader.letter.Goals as goal

pub returns : goal.returns
returns g c = letter_reads _ c.args.self.now c.accept.new.self c.accept.result c.accept.ensures (λ x a p. search rules) (λ x p l. search rules)
