use Rattle.std.proofs.Common.{◌≡◌, ◌+◌, ◌-◌, max, ap, ◌∙◌, sym, arith}
use Rattle.trees.specs.Sums.{greatest}
use Rattle.trees.proofs.Sums.{greatest_next}
use Rattle.peaks.specs.Stood.{stand}
use Rattle.peaks.proofs.Walked.{stepped, on_still, over}
use Rattle.peaks.proofs.run.peak.Goals as goal

pub loop-stands-init : goal.loop-stands-init
loop-stands-init g c =
    let good = c.in_ok-items.ensures.1 in
    rw c.into_iter-stands-iterator.ensures.into_iter_gives (good.0, tt, good.1, λ a. c.zero-most.ensures a ∙ sym (ap (λ p. greatest (stand g.K.Amount.reading c.args.jobs.now c.args.n c.args.line.now a) (p - 1)) good.2))

pub loop-stands-preserved : goal.loop-stands-preserved
loop-stands-preserved g c =
    let read = g.K.Amount.reading in
    let stands = stand read c.args.jobs.now c.args.n c.args.line.now in
    let s = c.loop-stands.stands-iterator in
    let inv = c.loop-stands.invariant in
    let step = stepped g.K.Amount.width read c.args.jobs.now c.args.n c.args.line.now s c.next.new.self inv.0 inv.2 (c.in-Some.field-0-0, c.in-Some.stands) c.in-Some.ensures.steps in
    let p = c.in-Some.field-0-0 in
    let next : c.next.new.self.position - 1 ≡ p + 1 - 1 = omega (arith, step.3) in (
      c.in-Some.ensures.goes.keeps,
      tt,
      on_still g.K.Amount.width read c.args.jobs.now c.args.n c.args.line.now s c.next.new.self inv.0 inv.2 c.in-Some.ensures.steps.0,
      λ a.
          c.greater-most.ensures a
          ∙ ap (λ m. max m (read c.in-Some.stands a)) (inv.3 a ∙ ap (λ q. greatest (stands a) (q - 1)) (sym step.0))
          ∙ ap (max (greatest (stands a) (p - 1))) (step.2 a)
          ∙ sym (greatest_next (stands a) p step.1.0)
          ∙ ap (greatest (stands a)) (sym next),
    )

pub returns : goal.returns
returns g c =
    let past = over g.K.Amount.width g.K.Amount.reading c.args.jobs.now c.args.n c.args.line.now c.loop-stands.stands-iterator c.next.new.self c.loop-stands.invariant.0 c.loop-stands.invariant.2 c.in-None.ensures.steps in
    let behind : c.loop-stands.stands-iterator.position - 1 ≡ c.args.n = omega (arith, past, c.loop-stands.invariant.0.within, c.loop-stands.invariant.2.1) in
    (c.in_ok-items.ensures.0, λ a. c.loop-stands.invariant.3 a ∙ ap (greatest (stand g.K.Amount.reading c.args.jobs.now c.args.n c.args.line.now a)) behind)
