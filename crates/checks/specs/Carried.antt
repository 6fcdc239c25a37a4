-- Whether a hall carries a run by its plain line.
use Rattle.std.specs.Prelude.{ℕ, List, Result}
use Rattle.refusals.specs.declared.Refusal.{Refusal}
use Rattle.refusals.specs.declared.Refusal.TheVariants.{FloorExceeded}
use Rattle.refusals.specs.Judged.{Judged}
use Rattle.trees.specs.Sums.{In}
use Rattle.trees.specs.Lines.{Plain}
use Rattle.jobs.specs.declared.Job.{Job}
use Rattle.intake.specs.Faults.{TreeFault, par_of}
use Rattle.peaks.specs.Halls.{BoundFault}
use Rattle.peaks.specs.Stood.{Peak, Over}

module _ {S : Type 0} (w : ℕ) (read : S → ℕ → ℕ) (xs : List (Job S)) (n benches : ℕ) (floor : S) where
  -- what a hall with such benches and such a floor refuses a run for
  pub data HallFault : Refusal → Type 0 where
    untreed : {e : Refusal} → TreeFault w read xs n e → HallFault e
    unbounded : {e : Refusal} → BoundFault w benches (read floor) e → HallFault e
    exceeded : (row : List ℕ) (p : ℕ) → Plain n (par_of xs n) row → In n p → Over read xs n row floor p → HallFault (FloorExceeded p)

  -- x is the peak of the plain line
  abbrev pub PlainPeak : S → Type 0
  PlainPeak x = (row : List ℕ) → Plain n (par_of xs n) row → Peak read xs n row x

  -- the peak of the plain line where nothing is to be refused, else the first refusal
  abbrev pub Carried : Result S Refusal → Type 0
  Carried = Judged HallFault PlainPeak
