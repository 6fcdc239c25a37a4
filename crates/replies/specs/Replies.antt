-- The lines that tell answers, byte by byte.
use Rattle.std.specs.Prelude.{ℕ, min, List, [], ◌∷◌, ◌++◌, Ok, Err, Result, codes, decimal}
use Rattle.amounts.specs.declared.places.Places.{Places}
use Rattle.amounts.specs.Axes.{most}
use Rattle.refusals.specs.declared.Refusal.{Refusal}
use Rattle.refusals.specs.Told.{refused}
use Rattle.jobs.specs.Standing.{state_of}
use Rattle.logs.specs.declared.call.Call.{Call}
use Rattle.logs.specs.declared.call.Call.TheVariants.{Start, Report, Ask}
use Rattle.logs.specs.declared.call.Answer.{Answer}
use Rattle.logs.specs.declared.call.Answer.TheVariants.{Started, Done as Ended, Told}
use Rattle.logs.specs.declared.call.Tally.{Tally}
use Rattle.logs.specs.Counts.{counted}

-- the bench or the job that a call names
abbrev pub number_of : Call → ℕ
number_of (Start b) = b
number_of (Report b) = b
number_of (Ask j) = j

-- numbers parted by spaces, and the end of the line
abbrev pub numbers : List ℕ → List ℕ
numbers [] = 10 ∷ []
numbers (n ∷ ns) = 32 ∷ (decimal n ++ numbers ns)

abbrev pub reply : Call → Result (Answer Places) Refusal → List ℕ
reply c (Ok (Started j)) = codes "started" ++ numbers (j ∷ number_of c ∷ [])
reply c (Ok (Ended j)) = codes "done" ++ numbers (j ∷ number_of c ∷ [])
reply c (Ok (Told s)) =
    codes "state "
    ++ (decimal (number_of c) ++ (32 ∷ (state_of s.state ++ (32 ∷ (decimal (min most s.held.count) ++ (32 ∷ (counted s.tally ++ (10 ∷ []))))))))
reply c (Err e) = refused e ++ (10 ∷ [])

-- the line at the end of the calls
abbrev pub end_reply : Tally → List ℕ
end_reply t = codes "end " ++ (counted t ++ (10 ∷ []))
