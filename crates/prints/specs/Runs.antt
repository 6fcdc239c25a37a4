-- What a text is: the print of a run.
use Rattle.std.specs.Prelude.{◌≡◌, ℕ, ◌≤◌, Bool, true, false, ◌⊎◌, List, [], ◌∷◌, ◌++◌, length, codes}
use Rattle.std.specs.List.{AllByRecursion}
use Rattle.prints.specs.Decimal.{decimal}

-- the numbers of an amount: c stands before the first, and a slash before each other
abbrev pub marked : ℕ → List ℕ → List ℕ
marked c [] = []
marked c (v ∷ vs) = c ∷ (decimal v ++ marked 47 vs)

-- a job, as its line tells it; an amount is the list of its axes
pub record JobLine : Type 0 where
  pub parent : ℕ
  pub work : List ℕ
  pub output : List ℕ
  pub minutes : ℕ

-- the rule is told by its letter
pub record Run : Type 0 where
  pub rule : ℕ
  pub benches : ℕ
  pub floor : List ℕ
  pub jobs : List JobLine

abbrev pub lines : List JobLine → List ℕ
lines [] = []
lines (j ∷ js) = codes "job " ++ (decimal j.parent ++ (marked 32 j.work ++ (marked 32 j.output ++ (32 ∷ (decimal j.minutes ++ (10 ∷ lines js))))))

abbrev pub text_of : Run → List ℕ
text_of r = codes "hall " ++ (r.rule ∷ 32 ∷ (decimal r.benches ++ (marked 32 r.floor ++ (10 ∷ lines r.jobs))))

-- a number is held to its bound, or may have any size
abbrev pub Held : Bool → ℕ → ℕ → Type 0
Held true v m = v ≤ m
Held false v m = Unit {0}

-- an amount has `ax` axes, with each number held
pub record AmountHeld (ax : ℕ) (cap : Bool) (m : ℕ) (vs : List ℕ) : Type 0 where
  pub axes : length vs ≡ ax
  pub each : AllByRecursion (λ v. Held cap v m) vs

pub record LineHeld (ax : ℕ) (cap : Bool) (j : JobLine) : Type 0 where
  pub parent : Held cap j.parent 4095
  pub work : AmountHeld ax cap 1000000 j.work
  pub output : AmountHeld ax cap 1000000 j.output
  pub minutes : Held cap j.minutes 10000

-- the letter is L or B
abbrev pub Letter : ℕ → Type 0
Letter c = (c ≡ 76) ⊎ (c ≡ 66)

pub record RunHeld (ax : ℕ) (cap : Bool) (r : Run) : Type 0 where
  pub rule : Letter r.rule
  pub benches : Held cap r.benches 64
  pub floor : AmountHeld ax cap 1000000000 r.floor
  pub jobs : AllByRecursion (LineHeld ax cap) r.jobs

-- the bytes are the text of a run: at `true` of one whose numbers are in their bounds
abbrev pub Text : ℕ → Bool → List ℕ → Type 0
Text ax cap bs = (r : Run) × RunHeld ax cap r × (bs ≡ text_of r)

-- the bytes are the beginning of a text
abbrev pub Begins : ℕ → Bool → List ℕ → Type 0
Begins ax cap bs = (rest : List ℕ) × Text ax cap (bs ++ rest)
