-- An amount, axis by axis.
use Rattle.std.proofs.Common.{◌≡◌, ℕ, zero, suc, ◌+◌, ◌-◌, ◌<◌, ◌≤◌, Bool, true, false, cond, eqb, List, [], ◌∷◌, ◌++◌, map, length, sym, refl, ap, ◌∙◌, subst, append_assoc, append-nil, arith}
use Rattle.std.specs.List.{range_with_len, AllByRecursion}
use Rattle.std.proofs.ByRecursion.{All-push}
use Rattle.amounts.specs.declared.amount.Amount.{Ghosts}
use Rattle.refusals.specs.declared.Refusal.{Refusal}
use Rattle.std.proofs.lemmas.List.FromFn.{map-range_with_len_more, length-map-range_with_len}
use Rattle.std.proofs.lemmas.Bool.{eq-eqb, ne_eqb}
use Rattle.amounts.specs.Axes.{Same, with_at}
use Rattle.prints.specs.Decimal.{digit, decimal}
use Rattle.prints.specs.Runs.{marked, AmountHeld}
use Rattle.prints.specs.Parts.{Part, byte, number, Apart, amount_parts}
use Rattle.texts.specs.Steps.{mark_of, Came, Stopped}
use Rattle.texts.specs.Records.{front}
use Rattle.texts.specs.declared.reader.Reader.{Reader}
use Rattle.texts.proofs.Chain.{came_start, came_on, stopped_on}

-- the byte before an axis
pub mark_digit : (a : ℕ) → digit (mark_of a) ≡ false
mark_digit a = by (eqb a 1)
  where
    by : (b : Bool) → digit (cond b 32 47) ≡ false
    by true = refl
    by false = refl

mark_later : (a : ℕ) → 1 ≤ a → mark_of (a + 1) ≡ 47
mark_later a h = ap (λ b. cond b 32 47) (ne_eqb (a + 1) 1 (λ e. omega arith))

-- what is left of an amount of n axes, before axis a
pub left_first : (n m : ℕ) → amount_parts (mark_of 1) (n + 1 - 1) m ≡ amount_parts 32 n m
left_first n m = let e : n + 1 - 1 ≡ n = omega arith in ap (λ i. amount_parts 32 i m) e

pub left_more : (n a m : ℕ) → 1 ≤ a → a ≤ n → amount_parts (mark_of a) (n + 1 - a) m ≡ byte (mark_of a) ∷ number m ∷ amount_parts (mark_of (a + 1)) (n + 1 - (a + 1)) m
left_more n a m one le =
    let e : n + 1 - a ≡ suc (n + 1 - (a + 1)) = omega arith in
    ap (λ i. amount_parts (mark_of a) i m) e ∙ ap (λ c. byte (mark_of a) ∷ number m ∷ amount_parts c (n + 1 - (a + 1)) m) (sym (mark_later a one))

pub left_none : (n a m : ℕ) → n < a → amount_parts (mark_of a) (n + 1 - a) m ≡ []
left_none n a m h = let e : n + 1 - a ≡ 0 = omega arith in ap (λ i. amount_parts (mark_of a) i m) e

pub left_apart : (c n m : ℕ) (k : List Part) → digit c ≡ false → Apart k → Apart (amount_parts c n m ++ k)
left_apart c zero m k d a = a
left_apart c (suc n) m k d a = d

-- one axis more is printed
slashed_more : (vs : List ℕ) (v : ℕ) → marked 47 (vs ++ (v ∷ [])) ≡ marked 47 vs ++ (47 ∷ decimal v)
slashed_more [] v = ap (λ l. 47 ∷ l) (append-nil (decimal v))
slashed_more (w ∷ vs) v = ap (λ l. 47 ∷ l) (ap (λ l. decimal w ++ l) (slashed_more vs v) ∙ sym (append_assoc (decimal w) (marked 47 vs) (47 ∷ decimal v)))

pub marked_more : (vs : List ℕ) (a v : ℕ) → length vs + 1 ≡ a → marked 32 (vs ++ (v ∷ [])) ≡ marked 32 vs ++ (mark_of a ∷ decimal v)
marked_more [] a v e = let one : a ≡ 1 = omega arith in ap (λ l. 32 ∷ l) (append-nil (decimal v)) ∙ ap (λ i. mark_of i ∷ decimal v) (sym one)
marked_more (w ∷ vs) a v e =
    let later : mark_of a ≡ 47 = ap (λ b. cond b 32 47) (ne_eqb a 1 (λ x. omega arith)) in
    ap (λ l. 32 ∷ l) (ap (λ l. decimal w ++ l) (slashed_more vs v ∙ ap (λ c. marked 47 vs ++ (c ∷ decimal v)) (sym later)) ∙ sym (append_assoc (decimal w) (marked 47 vs) (mark_of a ∷ decimal v)))

-- one axis more is held
agree : (f g : ℕ → ℕ) (a n : ℕ) → ((j : ℕ) → j < a + n → f j ≡ g j) → map f (range_with_len a n) ≡ map g (range_with_len a n)
agree f g a zero h = refl
agree f g a (suc n) h = λ i. h a (omega arith) i ∷ agree f g (a + 1) n (λ j lt. h j (omega arith)) i

pub front_more : {S : Type 0} (read : S → ℕ → ℕ) (x s : S) (k v : ℕ) → 1 ≤ k → Same read s (with_at (read x) k v) → front read k s ≡ front read (k - 1) x ++ (v ∷ [])
front_more read x s k v one same =
    let e : k ≡ k - 1 + 1 = omega arith in
    let at : read s k ≡ v = same k ∙ ap (λ b. cond b v (read x k)) (eq-eqb k k refl) in
    let before : front read (k - 1) s ≡ front read (k - 1) x = agree (read s) (read x) 1 (k - 1) (λ j lt. same j ∙ ap (λ b. cond b v (read x j)) (ne_eqb j k (λ z. omega arith))) in
    ap (λ n. front read n s) e ∙ map-range_with_len_more (read s) 1 (k - 1) k (omega arith) ∙ (λ i. before i ++ (at i ∷ []))

pub field_apart : (n m : ℕ) (rest k : List Part) → Apart (rest ++ k) → Apart ((amount_parts 32 n m ++ rest) ++ k)
field_apart zero m rest k a = a
field_apart (suc n) m rest k a = refl

-- from r₀ on the reader has read the axes of the amount x below axis a
module _ {X : Type 0} {kind : Ghosts X} (m : ℕ) (r₀ : Reader X kind) where
  pub record Below (r : Reader X kind) (a : ℕ) (x : X) : Type 0 where
    pub came : Came Apart r₀ r (amount_parts 32 kind.width m) (amount_parts (mark_of a) (kind.width + 1 - a) m) (marked 32 (front kind.reading (a - 1) x))
    pub held : AllByRecursion (λ v. v ≤ m) (front kind.reading (a - 1) x)

  pub below_first : (x : X) → Below r₀ 1 x
  below_first x = record {
    came = subst (λ l. Came Apart r₀ r₀ (amount_parts 32 kind.width m) l []) (sym (left_first kind.width m)) (came_start Apart r₀ (amount_parts 32 kind.width m));
    held = tt;
  }

  module _ (r : Reader X kind) (a : ℕ) (x : X) (so : Below r a x) (one : 1 ≤ a) (le : a ≤ kind.width) (b : ℕ) (is : b ≡ mark_of a) where
    here : Came Apart r₀ r (amount_parts 32 kind.width m) (byte b ∷ number m ∷ amount_parts (mark_of (a + 1)) (kind.width + 1 - (a + 1)) m) (marked 32 (front kind.reading (a - 1) x))
    here = subst (λ l. Came Apart r₀ r (amount_parts 32 kind.width m) l (marked 32 (front kind.reading (a - 1) x))) (left_more kind.width a m one le ∙ ap (λ c. byte c ∷ number m ∷ amount_parts (mark_of (a + 1)) (kind.width + 1 - (a + 1)) m) (sym is)) so.came

    apart : (k : List Part) → Apart k → Apart (amount_parts (mark_of (a + 1)) (kind.width + 1 - (a + 1)) m ++ k)
    apart k f = left_apart (mark_of (a + 1)) _ m k (mark_digit (a + 1)) f

    pub below_more : (r' : Reader X kind) (s : X) (v : ℕ) → Came Apart r r' (byte b ∷ number m ∷ []) [] (b ∷ decimal v) → v ≤ m → front kind.reading a s ≡ front kind.reading (a - 1) x ++ (v ∷ []) → Below r' (a + 1) s
    below_more r' s v h small e =
        let xs = front kind.reading (a - 1) x in
        let back : a + 1 - 1 ≡ a = omega arith in
        let now : front kind.reading (a + 1 - 1) s ≡ xs ++ (v ∷ []) = ap (λ i. front kind.reading i s) back ∙ e in
        let size : length xs + 1 ≡ a = omega (arith, length-map-range_with_len (kind.reading x) 1 (a - 1)) in
        let step = came_on (byte b ∷ number m ∷ []) (amount_parts (mark_of (a + 1)) (kind.width + 1 - (a + 1)) m) here Apart apart h in
        record {
          came = subst (λ l. Came Apart r₀ r' (amount_parts 32 kind.width m) (amount_parts (mark_of (a + 1)) (kind.width + 1 - (a + 1)) m) l) (ap (λ c. marked 32 xs ++ (c ∷ decimal v)) is ∙ sym (ap (marked 32) now ∙ marked_more xs a v size)) step;
          held = subst (AllByRecursion (λ w. w ≤ m)) (sym now) (All-push (λ w. w ≤ m) xs v so.held small);
        }

    pub below_stopped : (r' : Reader X kind) (e : Refusal) → Stopped Apart r r' (byte b ∷ number m ∷ []) e → Stopped Apart r₀ r' (amount_parts 32 kind.width m) e
    below_stopped r' e h = stopped_on (byte b ∷ number m ∷ []) (amount_parts (mark_of (a + 1)) (kind.width + 1 - (a + 1)) m) here Apart apart h

  pub below_all : (r : Reader X kind) (x : X) → Below r (kind.width + 1) x → Came Apart r₀ r (amount_parts 32 kind.width m) [] (marked 32 (front kind.reading kind.width x)) × AmountHeld kind.width true m (front kind.reading kind.width x)
  below_all r x so =
      let back : kind.width + 1 - 1 ≡ kind.width = omega arith in (
        subst (λ l. Came Apart r₀ r (amount_parts 32 kind.width m) l (marked 32 (front kind.reading kind.width x))) (left_none kind.width (kind.width + 1) m (omega arith)) (subst (λ i. Came Apart r₀ r (amount_parts 32 kind.width m) (amount_parts (mark_of (kind.width + 1)) (kind.width + 1 - (kind.width + 1)) m) (marked 32 (front kind.reading i x))) back so.came),
        record { axes = length-map-range_with_len (kind.reading x) 1 kind.width; each = subst (λ i. AllByRecursion (λ v. v ≤ m) (front kind.reading i x)) back so.held },
      )
