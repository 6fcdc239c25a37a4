-- How the reader's place in a text goes on, part by part.
use Rattle.std.proofs.Common.{◌≡◌, ℕ, ◌+◌, ◌-◌, ◌<◌, ◌≤◌, Bool, true, false, ◌⊎◌, List, [], ◌∷◌, ◌++◌, length, get_or, take, drop, sym, refl, ap, ◌∙◌, subst, inl, inr, append_assoc, append-nil, add-zero, arith}
use Rattle.std.proofs.lemmas.List.{take_more, take_all, drop_more, drop_all, get_or-drop, get_or-take, get_or-append-add, length-append, length-take-le}
use Rattle.std.proofs.lemmas.Bool.{cases_eq, both_ways}
use Rattle.prints.specs.Decimal.{digit, decimal}
use Rattle.prints.specs.Places.{line_at, column_at}
use Rattle.prints.specs.Runs.{Held, Text}
use Rattle.prints.specs.Parts.{Part, byte, letter, number, jobs, Prints, Apart, Numbered, Stands}
use Rattle.prints.specs.Faults.{UnfitAt, AboveAt}
use Rattle.prints.proofs.Numeral.{lead, past, lead_decimal, past_decimal, lead_end, past_end, lead_ge, decimal_first, decimal_first_digit, decimal_zero, decimal_digits}
use Rattle.std.proofs.ByRecursion.{All-get_or}

-- the parts have a print
pub a_print : (ax : ℕ) (cap : Bool) (k : List Part) → (ys : List ℕ) × Prints ax cap k ys
a_print ax cap [] = ([], refl)
a_print ax cap (byte b ∷ k) = let p = a_print ax cap k in (b ∷ p.0, (p.0, refl, p.1))
a_print ax cap (letter ∷ k) = let p = a_print ax cap k in (76 ∷ p.0, (76, p.0, inl refl, refl, p.1))
a_print ax cap (number m ∷ k) = let p = a_print ax cap k in (decimal 0 ++ p.0, (0, p.0, held cap m, refl, p.1))
  where
    held : (cap : Bool) (m : ℕ) → Held cap 0 m
    held true m = omega arith
    held false m = tt
a_print ax cap (jobs ∷ k) = let p = a_print ax cap k in (p.0, ([], p.0, tt, refl, p.1))

-- the next byte
first_take : (l : List ℕ) → get_or (take 1 l) 0 0 ≡ get_or l 0 0
first_take [] = refl
first_take (x ∷ l) = refl

pub next_byte : (bs : List ℕ) (p : ℕ) (ys : List ℕ) → take 1 ys ≡ take 1 (drop p bs) → get_or ys 0 0 ≡ get_or bs p 0
next_byte bs p ys e = sym (first_take ys) ∙ ap (λ l. get_or l 0 0) e ∙ first_take (drop p bs) ∙ get_or-drop p bs 0 0 ∙ ap (λ i. get_or bs i 0) (add-zero p)

pub next_is : (bs : List ℕ) (p c : ℕ) (ys : List ℕ) → p < length bs → c ≡ get_or bs p 0 → take 1 (c ∷ ys) ≡ take 1 (drop p bs)
next_is bs p c ys lt e = ap (λ x. x ∷ []) e ∙ ap (λ l. take 1 l) (sym (drop_more bs p 0 lt))

-- one more byte of the text
module _ (bs : List ℕ) (p : ℕ) (lt : p < length bs) where
  pub over : (ys : List ℕ) → take (p + 1) bs ++ ys ≡ take p bs ++ (get_or bs p 0 ∷ ys)
  over ys = ap (λ l. l ++ ys) (take_more bs p 0 lt) ∙ append_assoc (take p bs) (get_or bs p 0 ∷ []) ys

pub print_apart : (ax : ℕ) (cap : Bool) (k : List Part) (ys : List ℕ) → Apart k → Prints ax cap k ys → digit (get_or ys 0 0) ≡ false
print_apart ax cap [] ys a e = rw e refl
print_apart ax cap (byte b ∷ k) ys a h = rw h.1 a
print_apart ax cap (letter ∷ k) ys a (c, t, inl x, e, h) = rw (e, x) refl
print_apart ax cap (letter ∷ k) ys a (c, t, inr x, e, h) = rw (e, x) refl
print_apart ax cap (number m ∷ k) ys a h = absurd a
print_apart ax cap (jobs ∷ k) ys a ([], t, u, e, h) = rw e (print_apart ax cap k t a h)
print_apart ax cap (jobs ∷ k) ys a (j ∷ js, t, u, e, h) = rw e refl

-- the first byte of the text, and the rest of it
module _ {ax : ℕ} (bs : List ℕ) (p : ℕ) (k : List Part) (s : Stands ax bs p k) where
  pub unfit : p ≤ length bs → ((ys : List ℕ) → p < length bs → Prints ax false k (get_or bs p 0 ∷ ys) → ⊥) → (Prints ax false k [] → ⊥) → UnfitAt ax bs (line_at bs p) (column_at bs p) p
  unfit le no_byte no_end = record {
    within = le;
    line_is = refl;
    column_is = refl;
    before = let y = a_print ax true k in (y.0, s.goes true y.0 y.1);
    byte = λ lt b. no_byte b.0 lt (s.only false (get_or bs p 0 ∷ b.0) (next_is bs p _ b.0 lt refl) (subst (Text ax false) (over bs p lt b.0) b.1));
    end = λ e t. no_end (s.only false [] (ap (λ l. take 1 l) (sym (drop_all p bs (omega arith)))) (subst (Text ax false) (sym (append-nil (take p bs) ∙ take_all p bs (omega arith))) t));
  }

-- the byte that was passed
passed : (bs : List ℕ) (p : ℕ) → get_or bs (p + 1 - 1) 0 ≡ get_or bs p 0
passed bs p = let e : p + 1 - 1 ≡ p = omega arith in ap (λ i. get_or bs i 0) e

module _ {ax : ℕ} (bs : List ℕ) (p b : ℕ) (k : List Part) (s : Stands ax bs p (byte b ∷ k)) where
  pub byte_on : p < length bs → get_or bs p 0 ≡ b → digit b ≡ false → Stands ax bs (p + 1) k
  byte_on lt e nd = record {
    parted = λ _. ap digit (passed bs p ∙ e) ∙ nd;
    goes = λ cap ys h. subst (Text ax cap) (sym (over bs p lt ys ∙ ap (λ c. take p bs ++ (c ∷ ys)) e)) (s.goes cap (b ∷ ys) (ys, refl, h));
    only = λ cap ys n t.
        let h = s.only cap (b ∷ ys) (next_is bs p b ys lt (sym e)) (subst (Text ax cap) (over bs p lt ys ∙ ap (λ c. take p bs ++ (c ∷ ys)) e) t) in
        let q : ys ≡ h.0 = let q' = h.1 in cc in
        rw q h.2;
  }

  pub byte_unfit : p ≤ length bs → (p < length bs → get_or bs p 0 ≡ b → ⊥) → UnfitAt ax bs (line_at bs p) (column_at bs p) p
  byte_unfit le ne = unfit bs p (byte b ∷ k) s le (λ ys lt h. ne lt (let q = h.1 in cc)) (λ h. let q = h.1 in let z : ◌≡◌ {A = ℕ} 0 1 = cc in omega arith)

no_digit : (c : ℕ) → (c ≡ 76) ⊎ (c ≡ 66) → digit c ≡ false
no_digit c (inl e) = rw e refl
no_digit c (inr e) = rw e refl

no_number : (k : List Part) → Apart k → Numbered k → ⊥
no_number [] a n = n
no_number (byte b ∷ k) a n = n
no_number (letter ∷ k) a n = n
no_number (number m ∷ k) a n = a
no_number (jobs ∷ k) a n = n

module _ {ax : ℕ} (bs : List ℕ) (p : ℕ) (k : List Part) (s : Stands ax bs p (letter ∷ k)) where
  pub letter_on : p < length bs → (get_or bs p 0 ≡ 76) ⊎ (get_or bs p 0 ≡ 66) → Stands ax bs (p + 1) k
  letter_on lt e = record {
    parted = λ _. ap digit (passed bs p) ∙ no_digit (get_or bs p 0) e;
    goes = λ cap ys h. subst (Text ax cap) (sym (over bs p lt ys)) (s.goes cap (get_or bs p 0 ∷ ys) (get_or bs p 0, ys, e, refl, h));
    only = λ cap ys n t.
        let h = s.only cap (get_or bs p 0 ∷ ys) (next_is bs p _ ys lt refl) (subst (Text ax cap) (over bs p lt ys) t) in
        let q : ys ≡ h.1 = let q' = h.3 in cc in
        rw q h.4;
  }

  pub letter_unfit : p ≤ length bs → (p < length bs → get_or bs p 0 ≡ 76 → ⊥) → (p < length bs → get_or bs p 0 ≡ 66 → ⊥) → UnfitAt ax bs (line_at bs p) (column_at bs p) p
  letter_unfit le nl nb =
      unfit bs p (letter ∷ k) s le
      (λ ys lt h. let q : get_or bs p 0 ≡ h.0 = let q' = h.3 in cc in one lt h.0 q h.2)
      (λ h. let q = h.3 in let z : ◌≡◌ {A = ℕ} 0 1 = cc in omega arith)
    where
      one : p < length bs → (c : ℕ) → get_or bs p 0 ≡ c → (c ≡ 76) ⊎ (c ≡ 66) → ⊥
      one lt c q (inl x) = nl lt (q ∙ x)
      one lt c q (inr x) = nb lt (q ∙ x)

-- a number that ends at q: all its digits are read
module _ {ax : ℕ} (bs : List ℕ) (p q n m : ℕ) (k : List Part) (s : Stands ax bs p (number m ∷ k)) (apart : Apart k) (took : take q bs ≡ take p bs ++ decimal n) where
  number_over : (ys : List ℕ) → take q bs ++ ys ≡ take p bs ++ (decimal n ++ ys)
  number_over ys = ap (λ l. l ++ ys) took ∙ append_assoc (take p bs) (decimal n) ys

  pub number_on : (first : (ys : List ℕ) → take 1 (decimal n ++ ys) ≡ take 1 (drop p bs)) → n ≤ m → (n ≡ 0) ⊎ (digit (get_or bs q 0) ≡ false) → Stands ax bs q k
  number_on first le ends = record {
    parted = λ x. absurd (no_number k apart x);
    goes = λ cap ys h. subst (Text ax cap) (sym (number_over ys)) (s.goes cap (decimal n ++ ys) (n, ys, held cap, refl, h));
    only = λ cap ys x t.
        let h = s.only cap (decimal n ++ ys) (first ys) (subst (Text ax cap) (number_over ys) t) in
        rw (same cap ys x h ends) h.4;
  }
    where
      held : (cap : Bool) → Held cap n m
      held true = le
      held false = tt

      same : (cap : Bool) (ys : List ℕ) → take 1 ys ≡ take 1 (drop q bs) → (h : Prints ax cap (number m ∷ k) (decimal n ++ ys)) → (n ≡ 0) ⊎ (digit (get_or bs q 0) ≡ false) → ys ≡ h.1
      same cap ys x h (inr d) =
          let e = ap past h.3 in
          sym (past_end ys (ap digit (next_byte bs q ys x) ∙ d)) ∙ sym (past_decimal n ys) ∙ e ∙ past_decimal h.0 h.1 ∙ past_end h.1 (print_apart ax cap k h.1 apart h.4)
      same cap ys x h (inl z) = zero h.0 h.1 (ap (λ l. l ++ ys) (sym decimal_zero ∙ ap decimal (sym z)) ∙ h.3) (cases_eq h.0 0)
        where
          zero : (v : ℕ) (t : List ℕ) → 48 ∷ ys ≡ decimal v ++ t → (v ≡ 0) ⊎ (v ≡ 0 → ⊥) → ys ≡ t
          zero v t e (inl o) = let f : 48 ∷ ys ≡ 48 ∷ t = e ∙ ap (λ l. l ++ t) (ap decimal o ∙ decimal_zero) in cc
          zero v t e (inr o) = let p : 0 < v = grind arith in let g : 48 ≡ get_or (decimal v ++ t) 0 0 = ap (λ l. get_or l 0 0) e in absurd (omega (arith, decimal_first v t p, g))

  -- the digits so far are above the bound already
  pub number_above : (first : (ys : List ℕ) → take 1 (decimal n ++ ys) ≡ take 1 (drop p bs)) → p ≤ q → q ≤ length bs → m < n → AboveAt ax bs (line_at bs p) (column_at bs p) p (q - p)
  number_above first le within lt = record {
    fresh = s.parted tt;
    digits = λ i h. ap digit (at i h) ∙ All-get_or (λ c. digit c ≡ true) (decimal n) i 0 (omega (arith, h, size)) (decimal_digits n);
    within = omega arith;
    line_is = refl;
    column_is = refl;
    before = let y = a_print ax true (number m ∷ k) in (y.0, s.goes true y.0 y.1);
    goes = let y = a_print ax false k in (y.0, subst (Text ax false) (sym (there y.0)) (s.goes false (decimal n ++ y.0) (n, y.0, tt, refl, y.1)));
    above = λ b.
        let h = s.only true (decimal n ++ b.0) (first b.0) (subst (Text ax true) (there b.0) b.1) in
        let e : lead n b.0 ≡ h.0 = sym (lead_decimal n b.0) ∙ ap (lead 0) h.3 ∙ lead_decimal h.0 h.1 ∙ lead_end h.0 h.1 (print_apart ax true k h.1 apart h.4) in
        omega (arith, e, lead_ge n b.0, h.2);
  }
    where
      to : p + (q - p) ≡ q
      to = omega arith

      size : length (decimal n) ≡ q - p
      size = let e = ap length took ∙ length-append (take p bs) (decimal n) in omega (arith, e, length-take-le q bs within, length-take-le p bs (omega arith))

      at : (i : ℕ) → i < q - p → get_or bs (p + i) 0 ≡ get_or (decimal n) i 0
      at i h =
          sym (get_or-take q bs (p + i) 0 (omega arith)) ∙ ap (λ l. get_or l (p + i) 0) took
          ∙ ap (λ j. get_or (take p bs ++ decimal n) (j + i) 0) (sym (length-take-le p bs (omega arith))) ∙ get_or-append-add (take p bs) (decimal n) i 0

      there : (ys : List ℕ) → take (p + (q - p)) bs ++ ys ≡ take p bs ++ (decimal n ++ ys)
      there ys = ap (λ i. take i bs ++ ys) to ∙ number_over ys

module _ {ax : ℕ} (bs : List ℕ) (p m : ℕ) (k : List Part) (s : Stands ax bs p (number m ∷ k)) where
  pub number_unfit : p ≤ length bs → (p < length bs → digit (get_or bs p 0) ≡ false) → UnfitAt ax bs (line_at bs p) (column_at bs p) p
  number_unfit le d =
      unfit bs p (number m ∷ k) s le
      (λ ys lt h. both_ways _ (d lt) (ap (λ l. digit (get_or l 0 0)) h.3 ∙ decimal_first_digit h.0 h.1))
      (λ h. let e : digit 0 ≡ true = ap (λ l. digit (get_or l 0 0)) h.3 ∙ decimal_first_digit h.0 h.1 in both_ways false refl e)
