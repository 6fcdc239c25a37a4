-- What a step of the reader says: from r it came to r', and what it took on the way.
use Rattle.std.specs.Prelude.{◌≡◌, ℕ, ◌+◌, ◌<◌, ◌≤◌, cond, List, [], ◌++◌, length, take, Some, None, Ok, Err, Option, Result, IfOk, IfErr, ◌==◌, slice_index}
use Rattle.amounts.specs.declared.amount.Amount.{Ghosts}
use Rattle.refusals.specs.declared.Refusal.{Refusal}
use Rattle.refusals.specs.declared.Refusal.TheVariants.{TextByte}
use Rattle.prints.specs.Parts.{Part, Stands}
use Rattle.prints.specs.Faults.{Refused}
use Rattle.texts.specs.declared.reader.Reader.{Reader}

-- from p to q stand the bytes xs
pub record Moved (bs : List ℕ) (p q : ℕ) (xs : List ℕ) : Type 0 where
  pub forth : p ≤ q
  pub within : q ≤ length bs
  pub took : take q bs ≡ take p bs ++ xs

abbrev pub Any : List Part → Type 0
Any k = Unit {0}

-- the byte before an axis: a space before the first, a slash before each other
abbrev pub mark_of : ℕ → ℕ
mark_of axis = cond (axis == 1) 32 47

-- the reader of a run whose amounts are of some kind
module _ {X : Type 0} {kind : Ghosts X} where
  -- The byte where r stands was taken, and `post` makes x of it; or `post` makes nothing of it, or the text ends
  -- there, and r stands as it stood.
  pub record Accepts {T : Type 0} (post : ℕ → Option T → Type 0) (r r' : Reader X kind) (res : Result T Refusal) : Type 0 where
    pub taken : IfOk res (λ x. (r.pos < length r.bytes.now) × post (slice_index r.bytes.now r.pos) (Some x) × (r'.pos ≡ r.pos + 1) × (r'.bytes ≡ r.bytes))
    pub left : IfErr res (λ e. (r.pos < length r.bytes.now → post (slice_index r.bytes.now r.pos) None) × (r' ≡ r) × (e ≡ TextByte r.line r.column))

  -- The reader took the bytes xs. Where the parts `whole` were to come, and what meets Next after them, now `rest`
  -- is to come, and the same after it.
  pub record Came (Next : List Part → Type 0) (r r' : Reader X kind) (whole rest : List Part) (xs : List ℕ) : Type 0 where
    pub same : r'.bytes ≡ r.bytes
    pub moved : Moved r.bytes.now r.pos r'.pos xs
    pub on : (k : List Part) → Next k → Stands kind.width r.bytes.now r.pos (whole ++ k) → Stands kind.width r.bytes.now r'.pos (rest ++ k)

  -- Where the parts `whole` were to come, and what meets Next after them, the text is refused.
  pub record Stopped (Next : List Part → Type 0) (r r' : Reader X kind) (whole : List Part) (e : Refusal) : Type 0 where
    pub same : r'.bytes ≡ r.bytes
    pub refused : (k : List Part) → Next k → Stands kind.width r.bytes.now r.pos (whole ++ k) → Refused kind.width r.bytes.now e

  -- The parts were read, and the bytes there print the answer; or the text is refused.
  abbrev pub Reads : {T : Type 0} → List Part → (List Part → Type 0) → (T → List ℕ) → Reader X kind → Reader X kind → Result T Refusal → Type 0
  Reads parts Next print r r' (Ok x) = Came Next r r' parts [] (print x)
  Reads parts Next print r r' (Err e) = Stopped Next r r' parts e
