use Rattle.std.proofs.Common.{subst, inl, inr, arith}
use Rattle.std.proofs.lemmas.Bool.{cases_eq}
use Rattle.peaks.specs.Stood.{Over}
use Rattle.peaks.proofs.Walked.{stepped, on_still, over}
use Rattle.peaks.proofs.run.first_over.Goals as goal

pub returns-then-not-fits : goal.returns-then-not-fits
returns-then-not-fits g c =
    let step = stepped g.K.Amount.width g.K.Amount.reading c.args.jobs.now c.args.n c.args.line.now c.loop-p.p-iterator c.next.new.self c.loop-p.invariant.0 c.loop-p.invariant.2 (c.in-Some.p, c.in-Some.stands) c.in-Some.ensures.steps in
    let above = c.if-not-fits.ensures in
    (c.in_ok-items.ensures.0, (step.1, (above.0, omega (arith, above.1, step.2 above.0)), λ k i h. c.loop-p.invariant.3 k i (omega (arith, h, step.0))))

pub loop-p-preserved : goal.loop-p-preserved
loop-p-preserved g c =
    let step = stepped g.K.Amount.width g.K.Amount.reading c.args.jobs.now c.args.n c.args.line.now c.loop-p.p-iterator c.next.new.self c.loop-p.invariant.0 c.loop-p.invariant.2 (c.in-Some.p, c.in-Some.stands) c.in-Some.ensures.steps in (
      c.in-Some.ensures.goes.keeps,
      tt,
      on_still g.K.Amount.width g.K.Amount.reading c.args.jobs.now c.args.n c.args.line.now c.loop-p.p-iterator c.next.new.self c.loop-p.invariant.0 c.loop-p.invariant.2 c.in-Some.ensures.steps.0,
      λ q i h above. elim (cases_eq q c.in-Some.p) [
        | inl e ↦
            let at = subst (Over g.K.Amount.reading c.args.jobs.now c.args.n c.args.line.now c.args.floor.now) e above in
            omega (arith, at.1, c.if-not-fits.ensures at.0, step.2 at.0)
        | inr e ↦ c.loop-p.invariant.3 q i (omega (arith, h, e, step.0, step.3)) above
      ],
    )

pub returns : goal.returns
returns g c =
    let past = over g.K.Amount.width g.K.Amount.reading c.args.jobs.now c.args.n c.args.line.now c.loop-p.p-iterator c.next.new.self c.loop-p.invariant.0 c.loop-p.invariant.2 c.in-None.ensures.steps in
    (c.in_ok-items.ensures.0, λ k i above. c.loop-p.invariant.3 k i (omega (arith, past, i)) above)
