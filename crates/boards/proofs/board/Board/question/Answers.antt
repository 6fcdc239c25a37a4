use Rattle.std.proofs.Common.{refl, arith}
use Rattle.refusals.specs.declared.Refusal.TheVariants.{JobUnknown}
use Rattle.logs.specs.declared.call.Call.TheVariants.{Ask}
use Rattle.boards.specs.Course.Refuses.{ask_outside}
use Rattle.boards.specs.Listed.AskListed.{outside, altered}
use Rattle.boards.proofs.Answering.{refused, told, job_there}
use Rattle.boards.proofs.board.Board.question.Goals as goal
use Rattle.boards.proofs.board.Board.question.Goals.{then-job-eq0-via-then-job-eq0, then-job-eq0-via-else-job-eq0+then-job-self}

pub returns-then-job-eq0 : goal.returns-then-job-eq0
returns-then-job-eq0 g c =
    record {
      outside = λ h. refl;
      listed = outside;
      follows = λ o l led.
          refused g.met.R.Rule.safe g.met.R.Rule.willing c.args.self.now led (Ask c.args.job) JobUnknown
          (ask_outside c.args.job (λ i. elim c.then-job-eq0.branch [ then-job-eq0-via-then-job-eq0 v ↦ omega (arith, i.0, v.if-job-eq0.true) | then-job-eq0-via-else-job-eq0+then-job-self v ↦ omega (arith, i.1, v.if-job-self.true) ]));
    }

pub returns-in_default : goal.returns-in_default
returns-in_default g c =
    record {
      outside = λ h. absurd (h (omega arith, omega arith));
      listed = altered;
      follows = λ o l led. absurd (omega (arith, c.in_default.ensures.lookup.3, job_there g.met.R.Rule.safe g.met.R.Rule.willing c.args.self.now led c.args.job (omega arith, omega arith)));
    }

pub returns : goal.returns
returns g c =
    record {
      outside = λ h. absurd (h (omega arith, omega arith));
      listed = tt;
      follows = λ o l led.
          told g.met.R.Rule.safe g.met.R.Rule.willing c.args.self.now led c.args.job c.in-Some.record.now c.tally.result (omega arith, omega arith) c.in-Some.ensures.lookup.1 c.tally.ensures.counts;
    }
