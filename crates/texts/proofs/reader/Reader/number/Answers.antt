use Rattle.std.proofs.Common.{[], ◌∷◌}
use Rattle.prints.specs.Decimal.{decimal}
use Rattle.prints.specs.Parts.{byte, number, Apart}
use Rattle.texts.specs.Steps.{Any}
use Rattle.texts.proofs.Chain.{came_start, came_on, stopped_on, failed, reads_last}
use Rattle.texts.proofs.reader.Reader.number.Goals as goal

pub returns-in_err-byte-clause-reads : goal.returns-in_err-byte-clause-reads
returns-in_err-byte-clause-reads g c =
    let s = came_start Apart c.args.self.now (byte c.args.mark ∷ number c.args.bound ∷ []) in
    failed _ c.from_residual.result c.from_residual.ensures.1 (stopped_on (byte c.args.mark ∷ []) (number c.args.bound ∷ []) s Any (λ k f. tt) c.in_err-byte.ensures)

pub returns : goal.returns
returns g c =
    let s0 = came_start Apart c.args.self.now (byte c.args.mark ∷ number c.args.bound ∷ []) in
    let s1 = came_on (byte c.args.mark ∷ []) (number c.args.bound ∷ []) s0 Any (λ k f. tt) c.in_ok-byte.ensures in
    record { reads = reads_last (number c.args.bound ∷ []) s1 c.digits.new.self decimal c.digits.result c.digits.ensures.reads; bounded = c.digits.ensures.bounded }
