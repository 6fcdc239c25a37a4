use Rattle.std.proofs.Common.{arith, rules}
use Rattle.std.proofs.lemmas.Grind.{common_steps}
use Rattle.texts.proofs.Taking.{byte_reads}
use Rattle.texts.proofs.reader.Reader.byte.Goals as goal

pub returns : goal.returns
returns g c = byte_reads _ c.args.self.now c.accept.new.self c.args.b c.accept.result c.requires c.accept.ensures (λ x u p. search rules) (λ x p e. grind (arith, common_steps))
