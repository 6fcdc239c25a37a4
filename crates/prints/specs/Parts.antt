-- What may still come of a text, where its front is read.
use Rattle.std.specs.Prelude.{◌≡◌, ℕ, zero, suc, ◌-◌, Bool, false, List, [], ◌∷◌, ◌++◌, map, take, drop, codes, slice_index}
use Rattle.std.specs.List.{AllByRecursion}
use Rattle.prints.specs.Decimal.{decimal, digit}
use Rattle.prints.specs.Runs.{JobLine, lines, Letter, Held, LineHeld, Text}

-- one byte, a rule's letter, a number with its bound, or all the job lines that are left
pub data Part : Type 0 where
  byte : ℕ → Part
  letter : Part
  number : ℕ → Part
  jobs : Part

-- an amount of n axes: the byte c stands before the first, and a slash before each other
abbrev pub amount_parts : ℕ → ℕ → ℕ → List Part
amount_parts c zero m = []
amount_parts c (suc n) m = byte c ∷ number m ∷ amount_parts 47 n m

abbrev pub job_parts : ℕ → List Part
job_parts ax = map byte (codes "job ") ++ (number 4095 ∷ (amount_parts 32 ax 1000000 ++ (amount_parts 32 ax 1000000 ++ (byte 32 ∷ number 10000 ∷ byte 10 ∷ []))))

abbrev pub heading_parts : ℕ → List Part
heading_parts ax = map byte (codes "hall ") ++ (letter ∷ byte 32 ∷ number 64 ∷ (amount_parts 32 ax 1000000000 ++ (byte 10 ∷ [])))

-- the bytes are a print of the parts
abbrev pub Prints : ℕ → Bool → List Part → List ℕ → Type 0
Prints ax cap [] ys = ys ≡ []
Prints ax cap (byte b ∷ k) ys = (t : List ℕ) × (ys ≡ b ∷ t) × Prints ax cap k t
Prints ax cap (letter ∷ k) ys = (c : ℕ) × (t : List ℕ) × Letter c × (ys ≡ c ∷ t) × Prints ax cap k t
Prints ax cap (number m ∷ k) ys = (v : ℕ) × (t : List ℕ) × Held cap v m × (ys ≡ decimal v ++ t) × Prints ax cap k t
Prints ax cap (jobs ∷ k) ys = (js : List JobLine) × (t : List ℕ) × AllByRecursion (LineHeld ax cap) js × (ys ≡ lines js ++ t) × Prints ax cap k t

-- no print of the parts begins with a digit
abbrev pub Apart : List Part → Type 0
Apart [] = Unit {0}
Apart (byte b ∷ k) = digit b ≡ false
Apart (letter ∷ k) = Unit {0}
Apart (number m ∷ k) = ⊥
Apart (jobs ∷ k) = Apart k

-- a number comes next
abbrev pub Numbered : List Part → Type 0
Numbered [] = ⊥
Numbered (byte b ∷ k) = ⊥
Numbered (letter ∷ k) = ⊥
Numbered (number m ∷ k) = Unit {0}
Numbered (jobs ∷ k) = ⊥

-- The bytes before p are good, and of a text that begins with them just the parts k are left.
-- The byte at p is known: the text goes on with the same byte, so that a number that ends there has ended.
pub record Stands (ax : ℕ) (bs : List ℕ) (p : ℕ) (k : List Part) : Type 0 where
  pub goes : (cap : Bool) (ys : List ℕ) → Prints ax cap k ys → Text ax cap (take p bs ++ ys)
  pub only : (cap : Bool) (ys : List ℕ) → take 1 ys ≡ take 1 (drop p bs) → Text ax cap (take p bs ++ ys) → Prints ax cap k ys
  pub parted : Numbered k → digit (slice_index bs (p - 1)) ≡ false
