use Rattle.std.proofs.Common.{sym, ◌∙◌, Some, Ok, arith}
use Rattle.peaks.proofs.Bounded.{Reads}
use Rattle.rules.specs.Children.{Gives}
use Rattle.rules.proofs.Walking.{walks_first, gathered_first, never_breaks, gave, turn_of, walks_next, gathered_fits, gathered_next, gathered_all, with_work}
use Rattle.rules.proofs.kin.freed.Goals as goal

pub loop-child-init : goal.loop-child-init
loop-child-init g c =
    let read = g.K.Amount.reading in
    let w = g.K.Amount.width in
    let job = c.args.job in
    let walk = c.of-child-items.result in
    let begins = c.of-child-items.ensures in
    let own = c.in_ok-record.record.now in
    let its = c.in_ok-record.ensures.lookup in
    rw c.into_iter-child-iterator.ensures.into_iter_gives (
      walks_first w read c.args.jobs.now job walk own its.3.0 its.1 begins.lent begins.first.0 begins.first.1,
      gathered_first w read c.args.jobs.now job walk own its.3.0 its.1 begins.lent begins.first.0 begins.first.1 c.zero-given.result c.zero-given.ensures,
    )

pub returns-in_err-ok : goal.returns-in_err-ok
returns-in_err-ok g c = λ n tree own.
    let s = c.loop-child.child-iterator in
    absurd (never_breaks g.K.Amount.width g.K.Amount.reading c.args.jobs.now c.args.job s c.next.new.self c.loop-child.invariant.0 c.in-Some.child c.in-Some.ensures.steps (sym c.ok.ensures.value ∙ c.in_err-ok.was) n tree own)

pub returns-in_err-given : goal.returns-in_err-given
returns-in_err-given g c = λ n tree own.
    let s = c.loop-child.child-iterator in
    let r = c.in_ok-ok.field-0 in
    let kind : Reads g.K.Amount.width g.K.Amount.reading = record { nothing = g.met.K.Amount.nothing; beyond = g.met.K.Amount.beyond } in
    let gives : Gives s (Some (Ok r)) c.next.new.self = gave s c.next.new.self c.in-Some.child r c.in-Some.ensures.steps (sym c.ok.ensures.value ∙ c.in_ok-ok.was) in
    let over = c.in_err-given.ensures in
    let fits = gathered_fits (turn_of c.loop-child.invariant.0 r c.next.new.self gives) kind c.loop-child.given c.loop-child.invariant.1 n tree own over.0 in
    absurd (omega (arith, over.1))

pub loop-child-preserved : goal.loop-child-preserved
loop-child-preserved g c =
    let s = c.loop-child.child-iterator in
    let r = c.in_ok-ok.field-0 in
    let t = c.next.new.self in
    let gives : Gives s (Some (Ok r)) t = gave s t c.in-Some.child r c.in-Some.ensures.steps (sym c.ok.ensures.value ∙ c.in_ok-ok.was) in
    let turn = turn_of c.loop-child.invariant.0 r t gives in
    (walks_next c.loop-child.invariant.0 r t gives, rw gives.5 (gathered_next turn c.loop-child.given c.in_ok-given.given c.loop-child.invariant.1 c.in_ok-given.ensures))

pub returns : goal.returns
returns g c = λ n tree own.
    let read = g.K.Amount.reading in
    let w = g.K.Amount.width in
    let kind : Reads w read = record { nothing = g.met.K.Amount.nothing; beyond = g.met.K.Amount.beyond } in
    let its = c.in_ok-record.ensures.lookup in
    let all = gathered_all w read c.args.jobs.now c.args.job c.loop-child.given c.loop-child.child-iterator.next c.loop-child.invariant.1 c.in-None.ensures.steps.0 in
    with_work w read c.args.jobs.now c.args.job kind c.in_ok-record.record.now its.3.0 its.1 n tree own c.loop-child.given (all n tree own) c.sum-2.result c.sum-2.ensures
