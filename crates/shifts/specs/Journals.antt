-- The journal of a desk.
use Rattle.std.specs.Prelude.{◌≡◌, ◌⊎◌, List, [], ◌∷◌, ◌++◌, Ok, Err, Result}
use Rattle.logs.specs.Logs.{Event}

-- The event is entered at the end of the journal; where the desk fails, it may be missing.
abbrev pub Noted : {S T F : Type 0} → List (Event S) → List (Event S) → Event S → Result T F → Type 0
Noted before after e (Ok x) = after ≡ before ++ e ∷ []
Noted before after e (Err f) = (after ≡ before) ⊎ (after ≡ before ++ e ∷ [])
