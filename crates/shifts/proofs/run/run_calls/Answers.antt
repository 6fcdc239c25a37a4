use Rattle.std.proofs.Common.{◌+◌, [], ◌∷◌, ◌++◌, length, vec_items, sym, ap, ◌∙◌, subst, append-nil, arith}
use Rattle.std.proofs.lemmas.List.{length_push}
use Rattle.std.proofs.lemmas.Result.{err_from_is_err_and}
use Rattle.logs.specs.Logs.{paired}
use Rattle.boards.specs.Faults.{as_opened}
use Rattle.boards.specs.Course.{Led}
use Rattle.shifts.proofs.Serving.{paired_none, log_more, answered}
use Rattle.shifts.proofs.run.run_calls.Goals as goal

pub loop-call-init : goal.loop-call-init
loop-call-init g c =
    let none = c.new-answers.ensures.items in (
      ap length none,
      λ o m led. subst (λ v. Led g.K.Amount.width g.K.Amount.reading g.R.Rule.acts o v c.open.new.self c.open.new.jobs) (sym (ap (λ v. m ++ paired c.args.calls.now v) none ∙ ap (λ l. m ++ l) (paired_none c.args.calls.now) ∙ append-nil m)) led,
    )

pub loop-call-preserved : goal.loop-call-preserved
loop-call-preserved g c =
    let more = c.in_ok-push.ensures.items in
    let calls = c.args.calls.now in
    let answers = vec_items c.loop-call.answers in
    let i = c.loop-call.call-index in (
      ap length more ∙ length_push answers c.call.result ∙ ap (λ n. n + 1) c.loop-call.invariant.0,
      λ o m led.
          subst (λ v. Led g.K.Amount.width g.K.Amount.reading g.R.Rule.acts o v c.call.new.self c.call.new.jobs)
          (log_more m calls answers i _ c.call.result c.loop-call.invariant.0 c.loop-call-test.true ∙ sym (ap (λ v. m ++ paired calls v) more))
          (c.call.ensures.follows o _ (c.loop-call.invariant.1 o m led)).led,
    )

-- the last call was carried out, and there was no room for its answer
pub returns-in_err-push : goal.returns-in_err-push
returns-in_err-push g c =
    let p = err_from_is_err_and c.from_residual.result c.from_residual.ensures.1 in
    let good = c.in_default.ensures.judged in
    let calls = c.args.calls.now in
    let answers = vec_items c.loop-call.answers in
    let i = c.loop-call.call-index in
    let o = as_opened g.K.Amount.reading c.args.jobs.now c.args.setup.now in
    let led = c.loop-call.invariant.1 o [] good.1 in
    rw p.1 (
      answers ++ c.call.result ∷ [],
      answered g.K.Amount.width g.K.Amount.reading g.R.Rule.acts g.met.R.Rule.safe g.met.R.Rule.willing c.new-board.result c.args.rule c.new-board.ensures.0 c.args.jobs.now c.args.setup.now c.call.new.self c.call.new.jobs good.0 calls (answers ++ c.call.result ∷ [])
          (subst (λ v. Led g.K.Amount.width g.K.Amount.reading g.R.Rule.acts o v c.call.new.self c.call.new.jobs) (log_more [] calls answers i _ c.call.result c.loop-call.invariant.0 c.loop-call-test.true) (c.call.ensures.follows _ _ led).led),
    )

pub returns : goal.returns
returns g c =
    let good = c.in_default.ensures.judged in (
      omega (arith, c.loop-call.invariant.0),
      answered g.K.Amount.width g.K.Amount.reading g.R.Rule.acts g.met.R.Rule.safe g.met.R.Rule.willing c.new-board.result c.args.rule c.new-board.ensures.0 c.args.jobs.now c.args.setup.now c.loop-call.board c.loop-call.jobs good.0 c.args.calls.now (vec_items c.loop-call.answers) (c.loop-call.invariant.1 _ [] good.1),
    )
