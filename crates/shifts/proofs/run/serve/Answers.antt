use Rattle.std.proofs.Common.{◌≡◌, ◌⊎◌, [], ◌∷◌, ◌++◌, refl, ap, ◌∙◌, subst}
use Rattle.std.proofs.lemmas.Result.{err_from_is_err_and}
use Rattle.logs.specs.Logs.{event}
use Rattle.shifts.proofs.Serving.{served, so_far_more, unserved}
use Rattle.shifts.proofs.run.serve.Goals as goal

pub returns-in_default : goal.returns-in_default
returns-in_default g c o m led =
    served g.K.Amount.width g.K.Amount.reading g.R.Rule.acts o m _ _ _ _ _ (c.loop.invariant o m led) c.next_call.ensures

pub returns-in_err-take : goal.returns-in_err-take
returns-in_err-take g c o m led =
    let p = err_from_is_err_and c.from_residual-in_err-take.result c.from_residual-in_err-take.ensures.1 in
    let s = c.loop.invariant o m led in
    let e = event c.in-Some.call c.call-answer.result in
    let journal = g.D.Desk.journal in
    let noted = subst (λ j. (journal c.take.new.self ≡ j) ⊎ (journal c.take.new.self ≡ j ++ e ∷ [])) c.next_call.ensures c.in_err-take.ensures in
    rw p.1 (unserved g.K.Amount.width g.K.Amount.reading g.R.Rule.acts o m _ _ _ _ _ _ _ e s noted (c.call-answer.ensures.follows o _ s.led).led)

pub loop-preserved : goal.loop-preserved
loop-preserved g c o m led =
    let s = c.loop.invariant o m led in
    let e = event c.in-Some.call c.call-answer.result in
    so_far_more g.K.Amount.width g.K.Amount.reading g.R.Rule.acts o m _ _ _ _ _ _ _ e s (c.in_ok-take.ensures ∙ ap (λ j. j ++ e ∷ []) c.next_call.ensures) (c.call-answer.ensures.follows o _ s.led).led

pub returns : goal.returns
returns g c o m led = served g.K.Amount.width g.K.Amount.reading g.R.Rule.acts o m _ _ _ _ _ (c.loop.invariant o m led) refl
