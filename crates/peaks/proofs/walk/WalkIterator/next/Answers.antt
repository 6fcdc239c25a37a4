use Rattle.std.proofs.Common.{◌+◌, refl, arith}
use Rattle.peaks.specs.Stood.{Left}
use Rattle.peaks.specs.Walk.{Walking}
use Rattle.peaks.proofs.Passing.{passable, stands_next, left_after}
use Rattle.peaks.proofs.walk.WalkIterator.next.Goals as goal

pub inputs_of-given-requires-clause-job : goal.inputs_of-given-requires-clause-job
inputs_of-given-requires-clause-job g c = c.requires.lined.jobs c.args.self.now.position (c.requires.begun, c.if-position-self.false)

pub offset_bounds-jobs-i : goal.offset_bounds-jobs-i
offset_bounds-jobs-i g c =
    omega (arith, c.requires.lined.jobs c.args.self.now.position (c.requires.begun, c.if-position-self.false), c.requires.sound.records)

pub bounds-jobs-i : goal.bounds-jobs-i
bounds-jobs-i g c =
    omega (arith, c.requires.lined.jobs c.args.self.now.position (c.requires.begun, c.if-position-self.false), c.requires.sound.records)

pub pass-stands-requires : goal.pass-stands-requires
pass-stands-requires g c =
    let s = c.args.self.now in
    passable g.K.Amount.width g.K.Amount.reading record { nothing = g.met.K.Amount.nothing; beyond = g.met.K.Amount.beyond } s.jobs.now s.n s.line.now
    c.requires.sound c.requires.lined s.position (c.requires.begun, c.if-position-self.false) c.index-jobs-i.result c.index-jobs-i.is
    s.before c.inputs_of-given.result c.requires.lefts c.inputs_of-given.ensures

pub returns-clause-steps : goal.returns-clause-steps
returns-clause-steps g c =
    let s = c.args.self.now in
    let stands =
    stands_next g.K.Amount.width g.K.Amount.reading record { nothing = g.met.K.Amount.nothing; beyond = g.met.K.Amount.beyond } s.jobs.now s.n s.line.now
    c.requires.sound c.requires.lined s.position (c.requires.begun, c.if-position-self.false) c.index-jobs-i.result c.index-jobs-i.is
    s.before c.inputs_of-given.result c.requires.lefts c.inputs_of-given.ensures c.pass-stands.result.0 c.pass-stands.ensures.stands in
    (record { jobs = refl; n = refl; line = refl }, (refl, c.if-position-self.false, stands, refl))

pub returns-clause-goes : goal.returns-clause-goes
returns-clause-goes g c =
    let s = c.args.self.now in
    let lefts : Left g.K.Amount.reading s.jobs.now s.n s.line.now c.pass-stands.result.1 (s.position + 1) =
    left_after g.K.Amount.width g.K.Amount.reading record { nothing = g.met.K.Amount.nothing; beyond = g.met.K.Amount.beyond } s.jobs.now s.n s.line.now
    c.requires.sound c.requires.lined s.position (c.requires.begun, c.if-position-self.false) c.index-jobs-i.result c.index-jobs-i.is
    s.before c.inputs_of-given.result c.requires.lefts c.inputs_of-given.ensures c.pass-stands.result.1 c.pass-stands.ensures.leaves in
    let walking : Walking g.K.Amount.width g.K.Amount.reading _ =
    record { sound = c.requires.sound; lined = c.requires.lined; chained = c.requires.chained; begun = omega arith; within = omega (arith, c.if-position-self.false); lefts = lefts } in
    record { on = λ _. (walking, tt, omega (arith, c.if-position-self.false)); keeps = walking; rests = λ _. tt }
