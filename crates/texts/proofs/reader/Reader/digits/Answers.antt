use Rattle.std.proofs.Common.{◌∙◌, inl, inr, arith, refl, subst}
use Rattle.prints.specs.Decimal.{decimal}
use Rattle.texts.specs.Steps.{Moved}
use Rattle.texts.proofs.Taking.{number_first, number_more, number_came, number_stopped, number_over}
use Rattle.texts.proofs.Chain.{failed}
use Rattle.texts.proofs.reader.Reader.digits.Goals as goal

pub returns-in_err-first-clause-reads : goal.returns-in_err-first-clause-reads
returns-in_err-first-clause-reads g c =
    failed decimal c.from_residual.result c.from_residual.ensures.1 (number_stopped c.args.self.now c.digit.new.self _ c.args.bound c.in_err-first.ensures)

pub returns-then-first-eq0 : goal.returns-then-first-eq0
returns-then-first-eq0 g c =
    let r = c.args.self.now in
    let h = c.in_ok-first.ensures.taken in
    let m = subst (λ n. Moved r.bytes.now r.pos c.digit.new.self.pos (decimal n)) c.if-first-eq0.true (number_first r c.digit.new.self c.in_ok-first.first c.in_ok-first.ensures) in
    record { reads = number_came r c.digit.new.self 0 c.args.bound h.3 m (omega arith) (inl refl); bounded = omega arith }

pub loop-value-init : goal.loop-value-init
loop-value-init g c =
    let h = c.in_ok-first.ensures.taken in
    record { some = grind arith; same = h.3; moved = rw c.from-value.ensures (number_first c.args.self.now c.digit.new.self c.in_ok-first.first c.in_ok-first.ensures) }

pub returns-in_default : goal.returns-in_default
returns-in_default g c =
    let i = c.loop-value.invariant in
    let h = c.in_default.ensures.left in
    let at = number_came c.args.self.now c.loop-value.self c.loop-value.value c.args.bound i.same i.moved (omega arith) (inr h.0) in
    record { reads = rw h.1 at; bounded = omega arith }

pub loop-value-preserved : goal.loop-value-preserved
loop-value-preserved g c =
    let i = c.loop-value.invariant in
    let h = c.in-Ok.ensures in
    record { some = omega (arith, i.some); same = h.taken.3 ∙ i.same; moved = rw c.from-in-loop-value.ensures (number_more c.args.self.now c.loop-value.self c.digit-in-loop-value.new.self c.loop-value.value c.in-Ok.d i.same i.moved i.some h) }

pub returns : goal.returns
returns g c =
    let i = c.loop-value.invariant in
    record { reads = number_over c.args.self.now c.loop-value.self _ c.loop-value.value c.args.bound i.same refl i.moved (omega arith); bounded = tt }
