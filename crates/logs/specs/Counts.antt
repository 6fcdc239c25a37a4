-- How the counts of the calls are told.
use Rattle.std.specs.Prelude.{ℕ, List, ◌∷◌, ◌++◌, decimal}
use Rattle.logs.specs.declared.call.Tally.{Tally}

-- granted starts, granted reports, and the jobs that are not done, parted by spaces
abbrev pub counted : Tally → List ℕ
counted t = decimal t.starts ++ (32 ∷ (decimal t.reports ++ (32 ∷ decimal t.left)))
