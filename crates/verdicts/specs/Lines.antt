-- The line that tells an answer, byte by byte.
use Rattle.std.specs.Prelude.{ℕ, min, List, [], ◌∷◌, ◌++◌, Ok, Err, codes, decimal, Result}
use Rattle.amounts.specs.declared.places.Places.{Places}
use Rattle.amounts.specs.Axes.{most}
use Rattle.refusals.specs.declared.Refusal.{Refusal}
use Rattle.refusals.specs.Told.{refused}
use Rattle.verdicts.specs.declared.judge.Fit.{Fit}

-- what is told of a run that the hall can carry
abbrev pub checked : Fit Places → List ℕ
checked f =
    codes "checked " ++ (decimal f.jobs ++ (codes " jobs: peak " ++ (decimal (min most f.peak.count) ++ (codes " fits floor " ++ decimal (min most f.floor.count)))))

abbrev pub line_of : Result (Fit Places) Refusal → List ℕ
line_of (Ok f) = checked f ++ (10 ∷ [])
line_of (Err e) = refused e ++ (10 ∷ [])
