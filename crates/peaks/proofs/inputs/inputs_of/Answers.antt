use Rattle.std.proofs.Common.{◌<◌, length, get_or, sym, ap, ◌∙◌, subst, arith}
use Rattle.trees.specs.Trees.{NextChild}
use Rattle.jobs.specs.Fields.{output_of}
use Rattle.jobs.proofs.Fields.{at_read}
use Rattle.intake.specs.Faults.{par_of}
use Rattle.peaks.proofs.Bounded.{Reads, output_most, outputs_most}
use Rattle.peaks.proofs.Gathering.{before, next_is_child, before_none, before_all, before_most, before_next, chain_less}
use Rattle.peaks.proofs.inputs.inputs_of.Goals as goal

pub loop-child-init : goal.loop-child-init
loop-child-init g c =
    let n = c.args.n in
    let par = par_of c.args.jobs.now n in
    let i = c.args.i in
    let first = c.requires.chained.firsts i c.requires.job in (
      λ a. c.zero-total.ensures a ∙ sym (before_none n par (output_of g.K.Amount.reading c.args.jobs.now a) i _ first),
      next_is_child n par i 0 _ first,
    )

pub offset_bounds-jobs-child : goal.offset_bounds-jobs-child
offset_bounds-jobs-child g c = omega (arith, c.loop-child.invariant.1 c.loop-child-test.true, c.requires.sound.records)

pub bounds-jobs-child : goal.bounds-jobs-child
bounds-jobs-child g c = omega (arith, c.loop-child.invariant.1 c.loop-child-test.true, c.requires.sound.records)

pub offset_bounds-chains-child : goal.offset_bounds-chains-child
offset_bounds-chains-child g c =
    omega (arith, c.loop-child.invariant.1 c.loop-child-test.true, c.requires.sound.few)

pub bounds-chains-child : goal.bounds-chains-child
bounds-chains-child g c = omega (arith, c.loop-child.invariant.1 c.loop-child-test.true, c.requires.sound.few)

pub plus-total-requires : goal.plus-total-requires
plus-total-requires g c = λ k.
    let read = g.K.Amount.reading in
    let w = g.K.Amount.width in
    let kind : Reads w read = record { nothing = g.met.K.Amount.nothing; beyond = g.met.K.Amount.beyond } in
    let jobs = c.args.jobs.now in
    let n = c.args.n in
    let child = c.loop-child.child in
    let own = c.loop-child.invariant.1 c.loop-child-test.true in
    let inside : child < length jobs = omega (arith, own, c.requires.sound.records) in
    omega (
      arith,
      c.loop-child.invariant.0 k,
      before_most n (par_of jobs n) (output_of read jobs k) c.args.i child,
      outputs_most w read kind jobs n c.requires.sound k,
      output_most w read kind jobs n c.requires.sound k child own.0,
      at_read (λ j. read j.output k) jobs child c.index-jobs-child.result inside c.index-jobs-child.is,
    )

pub loop-child-smaller : goal.loop-child-smaller
loop-child-smaller g c =
    let n = c.args.n in
    let par = par_of c.args.jobs.now n in
    let child = c.loop-child.child in
    let own = c.loop-child.invariant.1 c.loop-child-test.true in
    let next = subst (λ v. NextChild n par v child (get_or c.args.chains.now.next child 0)) own.1 (c.requires.chained.nexts child own.0) in
    chain_less n par (λ k. 0) c.args.i child _ c.loop-child-test.true own.0 own.1 next

pub loop-child-preserved : goal.loop-child-preserved
loop-child-preserved g c =
    let read = g.K.Amount.reading in
    let jobs = c.args.jobs.now in
    let n = c.args.n in
    let par = par_of jobs n in
    let i = c.args.i in
    let child = c.loop-child.child in
    let own = c.loop-child.invariant.1 c.loop-child-test.true in
    let inside : child < length jobs = omega (arith, own, c.requires.sound.records) in
    let next = subst (λ v. NextChild n par v child (get_or c.args.chains.now.next child 0)) own.1 (c.requires.chained.nexts child own.0) in (
      λ a.
          omega (
            arith,
            c.plus-total.ensures a,
            c.loop-child.invariant.0 a,
            at_read (λ j. read j.output a) jobs child c.index-jobs-child.result inside c.index-jobs-child.is,
            before_next n par (output_of read jobs a) i child (get_or c.args.chains.now.next child 0) c.loop-child-test.true own.0 own.1 next,
          ),
      next_is_child n par i child _ next,
    )

pub returns : goal.returns
returns g c = λ a.
    let read = g.K.Amount.reading in
    let jobs = c.args.jobs.now in
    let n = c.args.n in
    let par = par_of jobs n in
    c.loop-child.invariant.0 a
    ∙ ap (before n par (output_of read jobs a) c.args.i) c.loop-child-test.false
    ∙ before_all n par (output_of read jobs a) c.args.i
