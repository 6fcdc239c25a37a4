use Rattle.std.proofs.Common.{◌≡◌, ◌+◌, get_or, None, sym, refl, ap, ◌∙◌, arith}
use Rattle.std.proofs.lemmas.Result.{err_from_is_err_and}
use Rattle.refusals.specs.declared.Refusal.TheVariants.{BenchUnknown, BenchIdle}
use Rattle.logs.specs.declared.call.Call.TheVariants.{Report}
use Rattle.boards.specs.Course.Refuses.{report_outside, report_idle}
use Rattle.boards.specs.Listed.ReportListed.{outside, idle, altered}
use Rattle.boards.proofs.Answering.{clear_at, refused, few_benches, few_reports, seated_ends, reported}
use Rattle.boards.proofs.board.Board.report.Goals as goal

pub returns-in_err-place : goal.returns-in_err-place
returns-in_err-place g c =
    let p = err_from_is_err_and c.from_residual.result c.from_residual.ensures.1 in
    let out = c.in_err-place.ensures in
    rw (p.1, p.2, out.0) (
    record {
      outside = λ h. refl;
      listed = outside;
      still = (refl, refl);
      follows = λ o l led.
          let few = few_benches g.met.R.Rule.safe g.met.R.Rule.willing c.args.self.now led in
          refused g.met.R.Rule.safe g.met.R.Rule.willing c.args.self.now led (Report c.args.bench) BenchUnknown (report_outside c.args.bench (λ i. out.1 i (omega arith)));
    }
    )

pub returns-in_default : goal.returns-in_default
returns-in_default g c =
    let at = c.in_ok-place.ensures in
    record {
      outside = λ h. absurd (h at.1);
      listed = idle;
      still = (refl, refl);
      follows = λ o l led.
          refused g.met.R.Rule.safe g.met.R.Rule.willing c.args.self.now led (Report c.args.bench) (BenchIdle c.args.bench) (report_idle c.args.bench at.1 (ap (λ p. get_or c.args.self.now.hall.table p None) (sym at.0) ∙ c.in_default.is));
    }

pub returns-in_default-held_without : goal.returns-in_default-held_without
returns-in_default-held_without g c =
    let at = c.in_ok-place.ensures in
    record {
      outside = λ h. absurd (h at.1);
      listed = altered;
      still = (refl, refl);
      follows = λ o l led.
          absurd (c.in_default-held_without.ensures _ (seated_ends g.met.R.Rule.safe g.met.R.Rule.willing c.args.self.now led c.args.bench c.in-Some.number at.1 (ap (λ p. get_or c.args.self.now.hall.table p None) (sym at.0) ∙ c.in-Some.is)));
    }

pub returns : goal.returns
returns g c =
    let at = c.in_ok-place.ensures in
    record {
      outside = λ h. absurd (h at.1);
      listed = tt;
      still = tt;
      follows = λ o l led.
          let held = c.in-Some-held_without.ensures in
          let few = few_reports g.met.R.Rule.safe g.met.R.Rule.willing c.args.self.now led in
          let more : c.saturating_add-self.result ≡ c.args.self.now.hall.reports + 1 = omega (arith, c.saturating_add-self.ensures) in
          reported g.met.R.Rule.safe g.met.R.Rule.willing c.args.self.now led c.args.bench c.in-Some.number c.in-Some-held_without.held at.1 _ c.restate.new.jobs c.reported.new.jobs c.reported.new.self
          (ap (λ p. get_or c.args.self.now.hall.table p None) (sym at.0) ∙ c.in-Some.is) held.1
          (clear_at c.args.self.now.hall c.in_ok-place.place c.args.bench c.in-Some-held_without.held at.0 c.saturating_add-self.result more) c.restate.ensures c.reported.ensures.told c.reported.ensures.kept;
    }
