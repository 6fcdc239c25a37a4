use Rattle.std.proofs.Common.{◌≡◌, [], ◌∷◌, sym, ap, ◌∙◌, subst, arith}
use Rattle.std.proofs.lemmas.List.{drop_all, nil_from_length}
use Rattle.std.proofs.lemmas.Bool.{eqb-true, eqb-false}
use Rattle.replies.proofs.Reading.{Read, read_more, read_stopped, unread_none, unread_zero, read_all}
use Rattle.replies.proofs.words.number_of.Goals as goal
use Rattle.replies.proofs.words.number_of.Goals.{else-first-eq48-via-then-first-eq48+else-not-is_empty, else-first-eq48-via-else-first-eq48}

pub returns-in_err-first : goal.returns-in_err-first
returns-in_err-first c =
    rw c.from_residual.ensures (λ n e. unread_none n (sym (nil_from_length _ c.in_err-first.ensures.cases) ∙ e))

pub returns-then-not-is_empty : goal.returns-then-not-is_empty
returns-then-not-is_empty c n e =
    let rest = c.in_ok-first.rest.now in
    let zero = ap (λ x. x ∷ rest) c.if-first-eq48.true in
    unread_zero rest n (eqb-false _ _ (sym c.if-not-is_empty.ensures)) (sym zero ∙ sym c.in_ok-first.ensures.cases.0 ∙ e)

pub returns-in_err-value : goal.returns-in_err-value
returns-in_err-value c =
    let i = c.loop-digit.invariant in
    rw c.from_residual-in_err-value.ensures (read_stopped _ i.0 _ c.loop-digit-test.true i.2 c.in_err-value.ensures)

pub loop-digit-preserved : goal.loop-digit-preserved
loop-digit-preserved c =
    let i = c.loop-digit.invariant in
    let d = c.in_ok-value.ensures in
    (_, omega arith, read_more _ i.0 _ c.loop-digit-test.true i.2 c.in_ok-value.value d.0 d.1)

pub returns : goal.returns
returns c =
    let i = c.loop-digit.invariant in
    let first = c.in_ok-first.first.now in
    let rest = c.in_ok-first.rest.now in
    let is = c.in_ok-first.ensures.cases.0 in
    let read = subst (Read c.args.digits.now i.0) (drop_all _ _ c.loop-digit-test.false) i.2 in
    let alone : first ≡ 48 → rest ≡ [] =
    elim c.else-first-eq48.branch [
      | else-first-eq48-via-then-first-eq48+else-not-is_empty w ↦ λ e. nil_from_length _ (eqb-true _ _ (sym w.if-not-is_empty.ensures))
      | else-first-eq48-via-else-first-eq48 w ↦ λ e. absurd (w.if-first-eq48.false e)
    ] in
    (i.0, is ∙ read_all first rest i.0 alone (subst (λ l. Read l i.0 []) is read), i.1)
