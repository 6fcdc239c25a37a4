-- What each step of the reader takes, and what it refuses.
use Rattle.std.proofs.Common.{◌≡◌, ℕ, ◌+◌, ◌-◌, ◌*◌, ◌<◌, ◌≤◌, true, false, ◌⊎◌, List, [], ◌∷◌, ◌++◌, length, get_or, take, drop, Some, None, Ok, Err, Option, Result, sym, refl, ap, ◌∙◌, subst, inl, inr, append_assoc, append-nil, arith}
use Rattle.std.proofs.lemmas.List.{take_more, take-append-drop, length-take-le, drop_at, get_or_past}
use Rattle.std.proofs.lemmas.Bool.{false≢true, cases_eq, cases_lt}
use Rattle.amounts.specs.declared.amount.Amount.{Ghosts}
use Rattle.refusals.specs.declared.Refusal.{Refusal}
use Rattle.refusals.specs.declared.Refusal.TheVariants.{TextByte, TextNumber}
use Rattle.prints.specs.Decimal.{digit, DigitOf, decimal}
use Rattle.prints.specs.Places.{line_at, column_at}
use Rattle.prints.specs.Runs.{Letter}
use Rattle.prints.specs.Parts.{byte, letter, number, Apart, Stands}
use Rattle.prints.specs.Faults.{UnfitAt, Refused, unfit, above}
use Rattle.prints.proofs.Numeral.{decimal_zero, decimal_digit, decimal_push, decimal_first_digit}
use Rattle.prints.proofs.Standing.{byte_on, byte_unfit, letter_on, letter_unfit, number_on, number_above, number_unfit}
use Rattle.texts.specs.Steps.{Accepts, Moved, Any, Came, Stopped, Reads}
use Rattle.texts.specs.Records.{letter_of}
use Rattle.texts.specs.declared.heading.Rule.{Rule}
use Rattle.texts.specs.declared.heading.Rule.TheVariants.{Line, Booking}
use Rattle.texts.specs.declared.reader.Reader.{Reader}

-- from one place to another
moved_one : (bs : List ℕ) (p q c : ℕ) → p < length bs → get_or bs p 0 ≡ c → q ≡ p + 1 → Moved bs p q (c ∷ [])
moved_one bs p q c lt e f = record { forth = omega arith; within = omega arith; took = ap (λ i. take i bs) f ∙ take_more bs p 0 lt ∙ ap (λ x. take p bs ++ (x ∷ [])) e }

pub moved_none : (bs : List ℕ) (p : ℕ) → p ≤ length bs → Moved bs p p []
moved_none bs p le = record { forth = omega arith; within = le; took = sym (append-nil (take p bs)) }

pub moved_on : {bs : List ℕ} {p q r : ℕ} {xs ys : List ℕ} → Moved bs p q xs → Moved bs q r ys → Moved bs p r (xs ++ ys)
moved_on {bs} {p} {q} {r} {xs} {ys} a b = record {
  forth = omega (arith, a.forth, b.forth);
  within = b.within;
  took = b.took ∙ ap (λ l. l ++ ys) a.took ∙ append_assoc (take p bs) xs ys;
}

-- the same at equal bytes, from an equal place
pub moved_at : {bs cs : List ℕ} {p p' q : ℕ} {xs : List ℕ} → cs ≡ bs → p' ≡ p → Moved bs p q xs → Moved cs p' q xs
moved_at {bs} {cs} {p} {p'} {q} {xs} e f m = subst (λ b. Moved b p' q xs) (sym e) (subst (λ i. Moved bs i q xs) (sym f) m)

-- a number: its first digits write n
one_of : (xs ys zs : List ℕ) → digit (get_or xs 0 0) ≡ true → take 1 (xs ++ ys) ≡ take 1 (xs ++ zs)
one_of [] ys zs h = absurd (false≢true h)
one_of (x ∷ xs) ys zs h = refl

first_is : (bs : List ℕ) (p q n : ℕ) → Moved bs p q (decimal n) → (ys : List ℕ) → take 1 (decimal n ++ ys) ≡ take 1 (drop p bs)
first_is bs p q n m ys =
    let d : digit (get_or (decimal n) 0 0) ≡ true = subst (λ l. digit (get_or l 0 0) ≡ true) (append-nil (decimal n)) (decimal_first_digit n []) in
    let whole : bs ≡ take p bs ++ (decimal n ++ drop q bs) = sym (take-append-drop q bs) ∙ ap (λ l. l ++ drop q bs) m.took ∙ append_assoc (take p bs) (decimal n) (drop q bs) in
    one_of (decimal n) ys (drop q bs) d ∙ ap (λ l. take 1 l) (sym (drop_at (take p bs) (decimal n ++ drop q bs) p (length-take-le p bs (omega (arith, m.forth, m.within)))) ∙ ap (λ l. drop p l) (sym whole))

no_digit : (bs : List ℕ) (p : ℕ) → (p < length bs → digit (get_or bs p 0) ≡ false) → digit (get_or bs p 0) ≡ false
no_digit bs p h = elim (cases_lt p (length bs)) [ inl lt ↦ h lt | inr le ↦ ap digit (get_or_past bs p 0 le) ]

-- the letters of the rules
pub known : (a : Rule) → Letter (letter_of a)
known Line = inl refl
known Booking = inr refl

module _ {X : Type 0} {kind : Ghosts X} where
  -- a refusal where the reader r stands
  unfit_here : (r : Reader X kind) (e : Refusal) → e ≡ TextByte r.line r.column → UnfitAt kind.width r.bytes.now (line_at r.bytes.now r.pos) (column_at r.bytes.now r.pos) r.pos → Refused kind.width r.bytes.now e
  unfit_here r e is u = unfit r.line r.column r.pos is (record { within = u.within; line_is = r.lined; column_is = r.columned; before = u.before; byte = u.byte; end = u.end })

  -- one byte
  pub byte_reads : (post : ℕ → Option (Unit {0}) → Type 0) (r r' : Reader X kind) (b : ℕ) (res : Result (Unit {0}) Refusal) → digit b ≡ false → Accepts post r r' res → ((c : ℕ) (x : Unit {0}) → post c (Some x) → c ≡ b) → ((c : ℕ) → post c None → c ≡ b → ⊥) → Reads (byte b ∷ []) Any (λ _. b ∷ []) r r' res
  byte_reads post r r' b (Ok x) nd h makes none =
      let is = makes _ _ h.taken.1 in
      record {
        same = h.taken.3;
        moved = moved_one r.bytes.now r.pos r'.pos b h.taken.0 is h.taken.2;
        on = λ k a s. subst (λ i. Stands kind.width r.bytes.now i k) (sym h.taken.2) (byte_on r.bytes.now r.pos b k s h.taken.0 is nd);
      }
  byte_reads post r r' b (Err e) nd h makes none = record {
    same = ap (λ x. x.bytes) h.left.1;
    refused = λ k a s. unfit_here r e h.left.2 (byte_unfit r.bytes.now r.pos b k s r.within (λ lt is. none _ (h.left.0 lt) is));
  }

  -- a letter
  pub letter_reads : (post : ℕ → Option Rule → Type 0) (r r' : Reader X kind) (res : Result Rule Refusal) → Accepts post r r' res → ((c : ℕ) (a : Rule) → post c (Some a) → letter_of a ≡ c) → ((c : ℕ) → post c None → Letter c → ⊥) → Reads (letter ∷ []) Any (λ a. letter_of a ∷ []) r r' res
  letter_reads post r r' (Ok a) h makes none =
      let is = sym (makes _ _ h.taken.1) in
      record {
        same = h.taken.3;
        moved = moved_one r.bytes.now r.pos r'.pos (letter_of a) h.taken.0 is h.taken.2;
        on = λ k n s. subst (λ i. Stands kind.width r.bytes.now i k) (sym h.taken.2) (letter_on r.bytes.now r.pos k s h.taken.0 (subst Letter (sym is) (known a)));
      }
  letter_reads post r r' (Err e) h makes none = record {
    same = ap (λ x. x.bytes) h.left.1;
    refused = λ k n s. unfit_here r e h.left.2 (letter_unfit r.bytes.now r.pos k s r.within (λ lt x. none _ (h.left.0 lt) (inl x)) (λ lt x. none _ (h.left.0 lt) (inr x)));
  }

  -- a number
  pub number_first : (r r' : Reader X kind) (d : ℕ) → Accepts DigitOf r r' (Ok d) → Moved r.bytes.now r.pos r'.pos (decimal d)
  number_first r r' d h = go (cases_eq d 0)
    where
      go : (d ≡ 0) ⊎ (d ≡ 0 → ⊥) → Moved r.bytes.now r.pos r'.pos (decimal d)
      go (inl z) = subst (Moved r.bytes.now r.pos r'.pos) (sym (ap decimal z ∙ decimal_zero)) (moved_one r.bytes.now r.pos r'.pos 48 h.taken.0 (omega (arith, h.taken.1.1, z)) h.taken.2)
      go (inr z) = subst (Moved r.bytes.now r.pos r'.pos) (sym (decimal_digit d (grind arith) h.taken.1.0)) (moved_one r.bytes.now r.pos r'.pos (48 + d) h.taken.0 h.taken.1.1 h.taken.2)

  pub number_more : (r q r' : Reader X kind) (n d : ℕ) → q.bytes ≡ r.bytes → Moved r.bytes.now r.pos q.pos (decimal n) → 0 < n → Accepts DigitOf q r' (Ok d) → Moved r.bytes.now r.pos r'.pos (decimal (n * 10 + d))
  number_more r q r' n d same m some h =
      let one = subst (λ b. Moved b.now q.pos r'.pos ((48 + d) ∷ [])) same (moved_one q.bytes.now q.pos r'.pos (48 + d) h.taken.0 h.taken.1.1 h.taken.2) in
      subst (Moved r.bytes.now r.pos r'.pos) (sym (decimal_push n d some h.taken.1.0)) (moved_on m one)

  pub number_came : (r r' : Reader X kind) (n b : ℕ) → r'.bytes ≡ r.bytes → Moved r.bytes.now r.pos r'.pos (decimal n) → n ≤ b → (n ≡ 0) ⊎ (r'.pos < length r'.bytes.now → digit (get_or r'.bytes.now r'.pos 0) ≡ false) → Came Apart r r' (number b ∷ []) [] (decimal n)
  number_came r r' n b same m le ends = record {
    same = same;
    moved = m;
    on = λ k a s. number_on r.bytes.now r.pos r'.pos n b k s a m.took (first_is r.bytes.now r.pos r'.pos n m) le (ended ends);
  }
    where
      ended : (n ≡ 0) ⊎ (r'.pos < length r'.bytes.now → digit (get_or r'.bytes.now r'.pos 0) ≡ false) → (n ≡ 0) ⊎ (digit (get_or r.bytes.now r'.pos 0) ≡ false)
      ended (inl z) = inl z
      ended (inr h) = inr (subst (λ b. digit (get_or b.now r'.pos 0) ≡ false) same (no_digit r'.bytes.now r'.pos h))

  pub number_stopped : (r r' : Reader X kind) (e : Refusal) (b : ℕ) → Accepts DigitOf r r' (Err e) → Stopped Apart r r' (number b ∷ []) e
  number_stopped r r' e b h = record {
    same = ap (λ x. x.bytes) h.left.1;
    refused = λ k a s. unfit_here r e h.left.2 (number_unfit r.bytes.now r.pos b k s r.within h.left.0);
  }

  pub number_over : (r r' : Reader X kind) (e : Refusal) (n b : ℕ) → r'.bytes ≡ r.bytes → e ≡ TextNumber r.line r.column → Moved r.bytes.now r.pos r'.pos (decimal n) → b < n → Stopped Apart r r' (number b ∷ []) e
  number_over r r' e n b same is m lt = record {
    same = same;
    refused = λ k a s.
        let u = number_above r.bytes.now r.pos r'.pos n b k s a m.took (first_is r.bytes.now r.pos r'.pos n m) m.forth m.within lt in
        above r.line r.column r.pos (r'.pos - r.pos) is (record { fresh = u.fresh; digits = u.digits; within = u.within; line_is = r.lined; column_is = r.columned; before = u.before; goes = u.goes; above = u.above });
  }
