use Rattle.std.proofs.Common.{◌+◌, ◌<◌, [], length, sym, refl, ap, ◌∙◌, arith}
use Rattle.std.proofs.lemmas.List.{length_push}
use Rattle.std.proofs.lemmas.Result.{err_from_is_err_and}
use Rattle.std.proofs.lemmas.Bool.{ltb-true, ltb-false}
use Rattle.texts.specs.Records.{line_of, run_of}
use Rattle.texts.proofs.Taking.{moved_at}
use Rattle.texts.proofs.Through.{past_heading, refused_heading, past_line, refused_line, past_all, line_forth, one_more}
use Rattle.texts.proofs.reader.Reader.jobs.Given as given
use Rattle.texts.proofs.reader.Reader.jobs.Goals as goal
use Rattle.texts.proofs.reader.Reader.jobs.Goals.{After-job}

pub returns-in_err-heading : goal.returns-in_err-heading
returns-in_err-heading g c =
    let p = err_from_is_err_and c.from_residual.result c.from_residual.ensures.1 in
    rw (p.1, p.2) (refused_heading c.args.self c.requires c.heading.new.self _ c.in_err-heading.ensures.reads)

pub loop-self-init : goal.loop-self-init
loop-self-init g c =
    let e = c.in_ok-heading.ensures in
    record { few = omega arith; run = run_of g.K.Amount.reading g.K.Amount.width c.in_ok-heading.field-0 []; past = past_heading c.args.self c.requires c.heading.new.self _ e.reads e.held; jobs = refl }

-- there is another line
goes : (g : given.Over) (c : After-job g) → c.loop-self.self.pos < length c.loop-self.self.bytes.now
goes g c = ltb-true _ _ (sym c.more.ensures ∙ c.loop-self-test.true)

pub returns-in_err-job : goal.returns-in_err-job
returns-in_err-job g c =
    let p = err_from_is_err_and c.from_residual-in_err-job.result c.from_residual-in_err-job.ensures.1 in
    rw (p.1, p.2) (refused_line c.args.self c.loop-self.self c.loop-self.invariant.past (goes g (goal.at.returns-in_err-job g c).After-job) c.job.new.self _ c.in_err-job.ensures.reads)

pub loop-self-preserved : goal.loop-self-preserved
loop-self-preserved g c =
    let i = c.loop-self.invariant in
    let e = c.in_ok-job.ensures in
    let j = line_of g.K.Amount.reading g.K.Amount.width c.in_ok-job.field-0 in
    let forth = line_forth c.loop-self.self c.job.new.self j e.reads in
    record {
      few = omega (arith, i.few, forth);
      run = one_more i.run j;
      past = past_line c.args.self c.loop-self.self i.past (goes g (goal.at.loop-self-preserved g c).After-job) c.job.new.self j e.reads e.held;
      jobs = length_push i.run.jobs j ∙ ap (λ n. n + 1) i.jobs;
    }

pub loop-self-smaller : goal.loop-self-smaller
loop-self-smaller g c =
    let e = c.in_ok-job.ensures.reads in
    let m = moved_at (ap (λ b. b.now) (sym c.loop-self.invariant.past.same)) refl e.moved in
    omega (arith, m.within, line_forth c.loop-self.self c.job.new.self (line_of g.K.Amount.reading g.K.Amount.width c.in_ok-job.field-0) e)

pub returns : goal.returns
returns g c =
    let i = c.loop-self.invariant in
    record { run = i.run; held = i.past.held; whole = past_all c.args.self c.loop-self.self i.past (ltb-false _ _ (sym c.more.ensures ∙ c.loop-self-test.false)); count = i.jobs }
