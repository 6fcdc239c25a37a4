use Rattle.std.proofs.Common.{◌≡◌, inl, inr, arith}
use Rattle.trees.specs.Sums.{In}
use Rattle.peaks.specs.Stood.{Stands}
use Rattle.peaks.proofs.Walked.{stepped, on_still, over}
use Rattle.peaks.proofs.run.standing.Goals as goal

pub returns-then-p-position : goal.returns-then-p-position
returns-then-p-position g c =
    let step = stepped g.K.Amount.width g.K.Amount.reading c.args.jobs.now c.args.n c.args.line.now c.loop-p.p-iterator c.next.new.self c.loop-p.invariant.0 c.loop-p.invariant.2 (c.in-Some.p, c.in-Some.stands) c.in-Some.ensures.steps in
    let e : c.in-Some.p ≡ c.args.position = omega arith in
    let here : In c.args.n c.args.position = rw e at step.1 in
    let stands : Stands g.K.Amount.reading c.args.jobs.now c.args.n c.args.line.now c.in-Some.stands c.args.position = rw e at step.2 in
    (c.in_ok-walk.ensures.0, (here, stands))

pub loop-p-preserved : goal.loop-p-preserved
loop-p-preserved g c =
    let step = stepped g.K.Amount.width g.K.Amount.reading c.args.jobs.now c.args.n c.args.line.now c.loop-p.p-iterator c.next.new.self c.loop-p.invariant.0 c.loop-p.invariant.2 (c.in-Some.p, c.in-Some.stands) c.in-Some.ensures.steps in (
      c.in-Some.ensures.goes.keeps,
      tt,
      on_still g.K.Amount.width g.K.Amount.reading c.args.jobs.now c.args.n c.args.line.now c.loop-p.p-iterator c.next.new.self c.loop-p.invariant.0 c.loop-p.invariant.2 c.in-Some.ensures.steps.0,
      λ h. omega (arith, c.loop-p.invariant.3 h, step.0, step.3),
    )

pub returns : goal.returns
returns g c =
    let past = over g.K.Amount.width g.K.Amount.reading c.args.jobs.now c.args.n c.args.line.now c.loop-p.p-iterator c.next.new.self c.loop-p.invariant.0 c.loop-p.invariant.2 c.in-None.ensures.steps in
    (c.in_ok-walk.ensures.0, λ h. omega (arith, past, h, c.loop-p.invariant.3 h))

pub returns-then-position-eq0 : goal.returns-then-position-eq0
returns-then-position-eq0 g c = (
  c.in_ok-walk.ensures.0,
  λ h. elim c.then-position-eq0.either [
    | inl none ↦ omega (arith, h.0, none)
    | inr past ↦ omega (arith, h.1, past.1)
  ],
)
