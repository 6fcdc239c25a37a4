-- How a refusal is told: its number, the layer that refuses, the place and, in a text, the column.
use Rattle.std.specs.Prelude.{ℕ, List, ◌∷◌, ◌++◌, codes, decimal}
use Rattle.refusals.specs.declared.Refusal.{Refusal}
use Rattle.refusals.specs.declared.Refusal.TheVariants.{TextSize, TextByte, TextNumber, JobCount, TooManyAxes, JobBound, ParentMissing, NoRoot, SecondRoot, RootUnreached, LineEntry, LineOrder, Benches, Floor, BookingWork, BookingOutput, BookingApart, FloorExceeded, BenchUnknown, JobUnknown, LineMemory, RowMemory, SheetMemory, EntryMemory, LeadMemory, BenchBusy, BenchIdle, AllStarted, NoneNamed, Altered}

pub record Told : Type 0 where
  pub number : ℕ
  pub layer : ℕ
  pub place : ℕ
  pub column : ℕ

abbrev text : ℕ → ℕ → ℕ → Told
text n line column = record { number = n; layer = 1; place = line; column = column }

abbrev outside : ℕ → ℕ → ℕ → Told
outside n layer place = record { number = n; layer = layer; place = place; column = 0 }

abbrev pub told : Refusal → Told
told TextSize = text 1 0 0
told (TextByte line column) = text 2 line column
told (TextNumber line column) = text 3 line column
told (JobCount jobs) = outside 4 2 jobs
told TooManyAxes = outside 5 2 0
told (JobBound job) = outside 5 2 job
told (ParentMissing job) = outside 6 2 job
told NoRoot = outside 7 2 0
told (SecondRoot job) = outside 7 2 job
told (RootUnreached job) = outside 8 2 job
told (LineEntry position) = outside 9 3 position
told (LineOrder position) = outside 10 3 position
told Benches = outside 11 4 0
told Floor = outside 12 4 0
told (BookingWork job) = outside 13 4 job
told (BookingOutput job) = outside 14 4 job
told (BookingApart job) = outside 15 4 job
told (FloorExceeded position) = outside 16 4 position
told BenchUnknown = outside 17 4 0
told JobUnknown = outside 18 4 0
told (LineMemory needed) = outside 19 4 needed
told (RowMemory needed) = outside 19 4 needed
told (SheetMemory needed) = outside 19 4 needed
told (EntryMemory needed) = outside 19 4 needed
told (LeadMemory needed) = outside 19 4 needed
told (BenchBusy bench) = outside 21 4 bench
told (BenchIdle bench) = outside 22 4 bench
told (AllStarted bench) = outside 23 4 bench
told (NoneNamed bench) = outside 24 4 bench
told (Altered bench) = outside 25 4 bench

-- the word and the numbers, parted by spaces
abbrev pub refused : Refusal → List ℕ
refused e =
    codes "refused " ++ (decimal (told e).layer ++ (32 ∷ (decimal (told e).number ++ (32 ∷ (decimal (told e).place ++ (32 ∷ decimal (told e).column))))))
