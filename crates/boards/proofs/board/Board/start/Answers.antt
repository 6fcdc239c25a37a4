use Rattle.std.proofs.Common.{get_or, None, sym, refl, ap, ◌∙◌, arith}
use Rattle.std.proofs.lemmas.Result.{err_from_is_err_and}
use Rattle.refusals.specs.declared.Refusal.TheVariants.{BenchUnknown, BenchBusy, NoneNamed}
use Rattle.logs.specs.declared.call.Call.TheVariants.{Start}
use Rattle.boards.specs.Course.Refuses.{start_outside, start_busy, start_none_named}
use Rattle.boards.specs.Listed.StartListed.{outside, busy, all_started, none_named, altered}
use Rattle.boards.proofs.Answering.{some_from, seat_at, reached, refused, few_benches, none_left, named_runs, started}
use Rattle.boards.proofs.board.Board.start.Goals as goal

pub returns-in_err-place : goal.returns-in_err-place
returns-in_err-place g c =
    let p = err_from_is_err_and c.from_residual.result c.from_residual.ensures.1 in
    let out = c.in_err-place.ensures in
    rw (p.1, p.2, out.0) (
    record {
      outside = λ h. refl;
      listed = outside;
      still = (refl, refl);
      follows = λ o l led.
          let few = few_benches g.met.R.Rule.safe g.met.R.Rule.willing c.args.self.now led in
          refused g.met.R.Rule.safe g.met.R.Rule.willing c.args.self.now led (Start c.args.bench) BenchUnknown (start_outside c.args.bench (λ i. out.1 i (omega arith)));
    }
    )

pub returns-in_default : goal.returns-in_default
returns-in_default g c =
    let at = c.in_ok-place.ensures in
    record {
      outside = λ h. absurd (h at.1);
      listed = busy;
      still = (refl, refl);
      follows = λ o l led.
          let seated = some_from _ c.in_default.not-None in
          refused g.met.R.Rule.safe g.met.R.Rule.willing c.args.self.now led (Start c.args.bench) (BenchBusy c.args.bench) (start_busy c.args.bench seated.0 at.1 (ap (λ p. get_or c.args.self.now.hall.table p None) (sym at.0) ∙ seated.1));
    }

pub returns-then-self : goal.returns-then-self
returns-then-self g c =
    let at = c.in_ok-place.ensures in
    record {
      outside = λ h. absurd (h at.1);
      listed = all_started;
      still = (refl, refl);
      follows = λ o l led.
          none_left g.met.R.Rule.safe g.met.R.Rule.willing c.args.self.now led c.args.bench at.1 (ap (λ p. get_or c.args.self.now.hall.table p None) (sym at.0) ∙ c.in-None.is) c.if-self.true;
    }

pub returns-in_default-name : goal.returns-in_default-name
returns-in_default-name g c =
    let at = c.in_ok-place.ensures in
    record {
      outside = λ h. absurd (h at.1);
      listed = none_named;
      still = (refl, refl);
      follows = λ o l led.
          refused g.met.R.Rule.safe g.met.R.Rule.willing c.args.self.now led (Start c.args.bench) (NoneNamed c.args.bench)
          (start_none_named c.args.bench at.1 (ap (λ p. get_or c.args.self.now.hall.table p None) (sym at.0) ∙ c.in-None.is) c.if-self.false (sym (c.in_default-name.ensures (reached g.met.R.Rule.safe g.met.R.Rule.willing c.args.self.now led))));
    }

pub returns-in_default-held_with : goal.returns-in_default-held_with
returns-in_default-held_with g c =
    let at = c.in_ok-place.ensures in
    record {
      outside = λ h. absurd (h at.1);
      listed = altered;
      still = (refl, refl);
      follows = λ o l led.
          let named = c.in-Some.ensures (reached g.met.R.Rule.safe g.met.R.Rule.willing c.args.self.now led) in
          absurd (c.in_default-held_with.ensures (named_runs g.met.R.Rule.safe g.met.R.Rule.willing c.args.self.now led g.met.K.Amount.bounded c.in-Some.job (sym named)));
    }

pub returns : goal.returns
returns g c =
    let at = c.in_ok-place.ensures in
    record {
      outside = λ h. absurd (h at.1);
      listed = tt;
      still = tt;
      follows = λ o l led.
          let named = c.in-Some.ensures (reached g.met.R.Rule.safe g.met.R.Rule.willing c.args.self.now led) in
          let held = c.in-Some-held_with.ensures in
          started g.met.R.Rule.safe g.met.R.Rule.willing c.args.self.now led c.args.bench c.in-Some.job c.in-Some-held_with.held at.1 _ c.restate.new.jobs c.started.new.jobs c.started.new.self
          (ap (λ p. get_or c.args.self.now.hall.table p None) (sym at.0) ∙ c.in-None.is) (sym named) held.2
          (seat_at c.args.self.now.hall c.in_ok-place.place c.args.bench c.in-Some.job c.in-Some-held_with.held at.0) c.restate.ensures c.started.ensures.told c.started.ensures.kept;
    }
