use Rattle.std.proofs.Common.{◌≡◌, ◌+◌, subst, arith}
use Rattle.texts.proofs.Axes.{Below, below_first, below_more, below_stopped, below_all}
use Rattle.texts.proofs.Chain.{failed}
use Rattle.texts.proofs.reader.Reader.amount.Given as given
use Rattle.texts.proofs.reader.Reader.amount.Goals as goal
use Rattle.texts.proofs.reader.Reader.amount.Goals.{Left-loop-axis, else-loop-axis-test, then-loop-axis-test+in_ok-value+else-axis-axis-end}

pub loop-axis-init : goal.loop-axis-init
loop-axis-init g c = below_first c.args.bound c.args.self.now c.zero-amount.result

pub returns-in_err-value-clause-reads : goal.returns-in_err-value-clause-reads
returns-in_err-value-clause-reads g c =
    let l = c.loop-axis in
    failed _ c.from_residual.result c.from_residual.ensures.1 (below_stopped c.args.bound c.args.self.now l.self l.axis l.amount l.invariant l.auto.axis (omega (arith, c.loop-axis-test.true, c.count-axis-end.ensures)) c.mark.result c.mark.ensures c.number.new.self _ c.in_err-value.ensures.reads)

pub loop-axis-preserved : goal.loop-axis-preserved
loop-axis-preserved g c =
    let l = c.loop-axis in
    let e = c.in_ok-value.ensures in
    below_more c.args.bound c.args.self.now l.self l.axis l.amount l.invariant l.auto.axis (omega (arith, c.loop-axis-test.true, c.count-axis-end.ensures)) c.mark.result c.mark.ensures c.number.new.self c.put-amount.result c.in_ok-value.value e.reads e.bounded c.put-amount.ensures

-- after the last axis
done : (g : given.Over) (c : Left-loop-axis g) → Below c.args.bound c.args.self.now c.loop-axis-test.self (g.K.Amount.width + 1) c.loop-axis-test.amount
done g c =
    let l = c.loop-axis in
    elim c.loop-axis-test.branch [
      | else-loop-axis-test w ↦ absurd (omega (arith, w.loop-axis-test.false, l.auto.axis-end, c.count-axis-end.ensures, g.met.K.Amount.wide))
      | then-loop-axis-test+in_ok-value+else-axis-axis-end w ↦
          let e = w.in_ok-value.ensures in
          let more = below_more c.args.bound c.args.self.now l.self l.axis l.amount l.invariant l.auto.axis (omega (arith, w.loop-axis-test.true, c.count-axis-end.ensures)) w.mark.result w.mark.ensures w.number.new.self w.put-amount.result w.in_ok-value.value e.reads e.bounded w.put-amount.ensures in
          let last : l.axis + 1 ≡ g.K.Amount.width + 1 = omega arith in
          rw (w.self-is, w.amount-is) (subst (λ a. Below c.args.bound c.args.self.now w.number.new.self a w.put-amount.result) last more)
    ]

pub returns : goal.returns
returns g c =
    let h = below_all c.args.bound c.args.self.now c.loop-axis-test.self c.loop-axis-test.amount (done g (goal.at.returns g c).Left-loop-axis) in
    record { reads = h.0; held = h.1 }
