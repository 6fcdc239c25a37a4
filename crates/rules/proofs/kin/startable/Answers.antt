use Rattle.std.proofs.Common.{sym, ap, ◌∙◌, subst, Some, Ok}
use Rattle.std.specs.Result.{result_ok}
use Rattle.intake.specs.Faults.{par_of}
use Rattle.logs.proofs.Tallies.{startable_true, startable_from}
use Rattle.rules.specs.Children.{Gives}
use Rattle.rules.specs.Records.{state_in}
use Rattle.rules.proofs.Walking.{state_read, false_unless, walks_first, done_first, never_breaks, turn_of, walks_next, turn_child, done_next, done_all}
use Rattle.rules.proofs.kin.startable.Goals as goal

pub returns-in_default-state : goal.returns-in_default-state
returns-in_default-state g c = λ n tree own.
    let jobs = c.args.jobs.now in
    let its = c.in-Some.ensures.lookup in
    let stands = state_read jobs n c.args.job c.in-Some.record.now own its.3.0 its.1 in
    false_unless _ (λ e. c.in_default-state.not-Waiting (sym stands ∙ (startable_true n (par_of jobs n) (state_in n jobs) c.args.job e).0))

pub loop-child-init : goal.loop-child-init
loop-child-init g c =
    let read = g.K.Amount.reading in
    let w = g.K.Amount.width in
    let job = c.args.job in
    let walk = c.of-child-items.result in
    let begins = c.of-child-items.ensures in
    let own = c.in-Some.record.now in
    let its = c.in-Some.ensures.lookup in
    rw c.into_iter-child-iterator.ensures.into_iter_gives (
      walks_first w read c.args.jobs.now job walk own its.3.0 its.1 begins.lent begins.first.0 begins.first.1,
      done_first w read c.args.jobs.now job walk own its.3.0 its.1 begins.lent begins.first.0 begins.first.1,
    )

pub returns-in_default-child : goal.returns-in_default-child
returns-in_default-child g c = λ n tree own.
    let s = c.loop-child.child-iterator in
    absurd (never_breaks g.K.Amount.width g.K.Amount.reading c.args.jobs.now c.args.job s c.next.new.self c.loop-child.invariant.0 c.in-Some-child.child c.in-Some-child.ensures.steps (ap result_ok c.in_default-child.is) n tree own)

pub returns-in_default-state-2 : goal.returns-in_default-state-2
returns-in_default-state-2 g c = λ n tree own.
    let jobs = c.args.jobs.now in
    let s = c.loop-child.child-iterator in
    let r = c.in-Ok.child in
    let t = c.next.new.self in
    let gives : Gives s (Some (Ok r)) t = subst (λ i. Gives s (Some i) t) c.in-Ok.is c.in-Some-child.ensures.steps in
    let turn = turn_of c.loop-child.invariant.0 r t gives in
    let its = turn_child turn n tree own in
    let stands = state_read jobs n s.next r.now its.0 turn.inside turn.is in
    false_unless _ (λ e. c.in_default-state-2.not-Done (sym stands ∙ (startable_true n (par_of jobs n) (state_in n jobs) c.args.job e).1 s.next its.0 its.1))

pub loop-child-preserved : goal.loop-child-preserved
loop-child-preserved g c =
    let s = c.loop-child.child-iterator in
    let r = c.in-Ok.child in
    let t = c.next.new.self in
    let gives : Gives s (Some (Ok r)) t = subst (λ i. Gives s (Some i) t) c.in-Ok.is c.in-Some-child.ensures.steps in
    let turn = turn_of c.loop-child.invariant.0 r t gives in
    (walks_next c.loop-child.invariant.0 r t gives, rw gives.4 (done_next turn c.in-Done.is c.loop-child.invariant.1))

pub returns : goal.returns
returns g c = λ n tree own.
    let read = g.K.Amount.reading in
    let w = g.K.Amount.width in
    let jobs = c.args.jobs.now in
    let job = c.args.job in
    let s = c.loop-child.child-iterator in
    let its = c.in-Some.ensures.lookup in
    let waits = state_read jobs n job c.in-Some.record.now own its.3.0 its.1 ∙ c.in-Waiting.is in
    let done = done_all w read jobs job s.last s.next c.loop-child.invariant.0.comes c.loop-child.invariant.1 c.in-None.ensures.steps.0 n tree own in
    sym (startable_from n (par_of jobs n) (state_in n jobs) job waits done)
