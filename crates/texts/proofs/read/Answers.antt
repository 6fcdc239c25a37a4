use Rattle.std.proofs.Common.{ℕ, List, length, sym, refl, ◌∙◌, subst, inl, inr, arith}
use Rattle.std.proofs.lemmas.Result.{err_from_is_err_and}
use Rattle.std.proofs.lemmas.Bool.{eqb-true, eqb-false}
use Rattle.refusals.specs.declared.Refusal.{Refusal}
use Rattle.prints.specs.Runs.{Run}
use Rattle.prints.specs.Faults.{Refused}
use Rattle.prints.specs.Answers.{Sized, Roomy, Counted, Good, Said, by_axes, by_size, by_bytes, by_count}
use Rattle.prints.proofs.Once.{not_both}
use Rattle.texts.specs.Records.{Granted}
use Rattle.texts.proofs.read.Given as given
use Rattle.texts.proofs.read.Goals as goal
use Rattle.texts.proofs.read.Goals.{In_ok-jobs}

-- what is refused is the text of no run
no_run : {ax : ℕ} {bs : List ℕ} {room : ℕ} {e : Refusal} {A : Type 0} → Said ax bs room e → (run : Run) → Good ax bs room run → A
no_run said run good = absurd (not_both _ _ _ run _ good said)

pub returns-then-count-gt-MOST_AXES : goal.returns-then-count-gt-MOST_AXES
returns-then-count-gt-MOST_AXES g c =
    let said = by_axes refl (omega (arith, c.if-count-gt-MOST_AXES.true, c.count.ensures)) in
    record { told = (said, refl); complete = no_run said }

pub returns-then-is_empty : goal.returns-then-is_empty
returns-then-is_empty g c =
    let bad : Sized c.args.text.now → ⊥ = λ z. elim c.then-is_empty.either [
      | inl e ↦ omega (arith, z.0, eqb-true _ _ (sym c.is_empty.ensures ∙ e))
      | inr e ↦ omega (arith, z.1, e.1)
    ] in
    let said = by_size refl (omega (arith, c.if-count-gt-MOST_AXES.false, c.count.ensures)) bad in
    record { told = (said, refl); complete = no_run said }

pub returns-in_err-jobs : goal.returns-in_err-jobs
returns-in_err-jobs g c =
    let p = err_from_is_err_and c.from_residual.result c.from_residual.ensures.1 in
    let some = eqb-false _ _ (sym c.is_empty.ensures ∙ c.if-is_empty.false) in
    let refused = subst (λ b. Refused g.K.Amount.width b c.in_err-jobs.field-0.0) c.new.ensures.1 c.in_err-jobs.ensures in
    let said = by_bytes (omega (arith, c.if-count-gt-MOST_AXES.false, c.count.ensures)) (grind arith, c.if-text-gt-MOST_BYTES.false) refused in
    record { told = rw (p.1, p.2) (said, refl); complete = no_run said }

-- the jobs of the text
counted : (g : given.Over) (c : In_ok-jobs g) → Counted g.K.Amount.width c.args.text.now c.in_ok-jobs.jobs
counted g c = subst (λ b. Counted g.K.Amount.width b c.in_ok-jobs.jobs) c.new.ensures.1 c.in_ok-jobs.ensures

pub returns-then-jobs-eq0 : goal.returns-then-jobs-eq0
returns-then-jobs-eq0 g c =
    let some = eqb-false _ _ (sym c.is_empty.ensures ∙ c.if-is_empty.false) in
    let bad : Roomy (length c.args.records.now) c.in_ok-jobs.jobs → ⊥ = λ z. elim c.then-jobs-eq0.either [
      | inl e ↦ omega (arith, z.0, e)
      | inr e ↦ elim e [ inl x ↦ omega (arith, z.1, x.1) | inr x ↦ omega (arith, z.2, x.2) ]
    ] in
    let said = by_count c.in_ok-jobs.jobs refl (omega (arith, c.if-count-gt-MOST_AXES.false, c.count.ensures)) (grind arith, c.if-text-gt-MOST_BYTES.false) (counted g (goal.at.returns-then-jobs-eq0 g c).In_ok-jobs) bad in
    record { told = (said, refl); complete = no_run said }

pub returns : goal.returns
returns g c = record {
  told = subst (λ b. Granted g.K.Amount.reading g.K.Amount.width b c.args.records.now c.fill.new.records c.fill.result) c.new-2.ensures.1 c.fill.ensures;
  complete = λ run good. refl;
}

pub new-requires : goal.new-requires
new-requires g c = record { narrow = omega (arith, c.if-count-gt-MOST_AXES.false, c.count.ensures); short = c.if-text-gt-MOST_BYTES.false }

pub new-requires-2 : goal.new-requires-2
new-requires-2 g c = record { narrow = omega (arith, c.if-count-gt-MOST_AXES.false, c.count.ensures); short = c.if-text-gt-MOST_BYTES.false }

pub fill-requires : goal.fill-requires
fill-requires g c =
    let some = c.if-jobs-eq0.false in
    record {
      start = c.new-2.ensures.0;
      room = (grind arith, c.if-jobs-gt-MOST_JOBS.false, c.if-jobs-records.false);
      good = subst (λ b. Counted g.K.Amount.width b c.in_ok-jobs.jobs) (sym c.new-2.ensures.1) (counted g (goal.at.fill-requires g c).In_ok-jobs);
    }
