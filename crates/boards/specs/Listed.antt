-- The refusals that each call answers, whatever was done to the records.
use Rattle.std.specs.Prelude.{ℕ}
use Rattle.refusals.specs.declared.Refusal.{Refusal}
use Rattle.refusals.specs.declared.Refusal.TheVariants.{BenchUnknown, JobUnknown, BenchBusy, BenchIdle, AllStarted, NoneNamed, Altered}

pub data StartListed (bench : ℕ) : Refusal → Type 0 where
  outside : StartListed bench BenchUnknown
  busy : StartListed bench (BenchBusy bench)
  all_started : StartListed bench (AllStarted bench)
  none_named : StartListed bench (NoneNamed bench)
  altered : StartListed bench (Altered bench)

pub data ReportListed (bench : ℕ) : Refusal → Type 0 where
  outside : ReportListed bench BenchUnknown
  idle : ReportListed bench (BenchIdle bench)
  altered : ReportListed bench (Altered bench)

pub data AskListed : Refusal → Type 0 where
  outside : AskListed JobUnknown
  altered : AskListed (Altered 0)
