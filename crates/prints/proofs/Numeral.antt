-- Decimal digits: what is printed is read back, and where it ends.
use Rattle.std.proofs.Common.{◌≡◌, ℕ, ◌+◌, ◌-◌, ◌*◌, ◌/◌, ◌%◌, ◌<◌, ◌≤◌, true, false, cond, eqb, ◌⊎◌, List, [], ◌∷◌, ◌++◌, map, get_or, sym, refl, ap, ◌∙◌, subst, inl, inr, arith}
use Rattle.std.specs.List.{AllByRecursion}
use Rattle.std.specs.Int.Digits.{digits_of, number_from_digits_after, AllBelowBase}
use Rattle.std.proofs.lemmas.Int.Digits.{digits_of_step, all_below_base_digits_of, first_digits_of, number_digits_of}
use Rattle.std.proofs.lemmas.List.{map-append}
use Rattle.std.proofs.lemmas.Bool.{cases_eq, ne_eqb, cond-true, cond-false}
use Rattle.std.proofs.lemmas.Bool.Decides.{nat_tests}
use Rattle.prints.specs.Decimal.{digit, decimal}

-- the number that the first digits write, after a, and what stands behind them
abbrev pub lead : ℕ → List ℕ → ℕ
lead a [] = a
lead a (c ∷ cs) = cond (digit c) (lead (a * 10 + (c - 48)) cs) a

abbrev pub past : List ℕ → List ℕ
past [] = []
past (c ∷ cs) = cond (digit c) (past cs) (c ∷ cs)

abbrev pub shown : List ℕ → List ℕ
shown ds = map (λ d. 48 + d) ds

pub decimal_zero : decimal 0 ≡ 48 ∷ []
unfolding decimal
decimal_zero = refl

pub decimal_some : (n : ℕ) → 0 < n → decimal n ≡ shown (digits_of 10 n)
unfolding decimal
decimal_some n h = cond-false (eqb n 0) _ _ (ne_eqb n 0 (λ e. omega arith))

digit_shown : (d : ℕ) → d < 10 → digit (48 + d) ≡ true
digit_shown d h = grind (arith, nat_tests)

lead_shown : (a : ℕ) (ds t : List ℕ) → AllBelowBase 10 ds → lead a (shown ds ++ t) ≡ lead (number_from_digits_after 10 a ds) t
lead_shown a [] t u = refl
lead_shown a (d ∷ ds) t u =
    let e : 48 + d - 48 ≡ d = omega arith in
    cond-true _ _ _ (digit_shown d u.0) ∙ ap (λ x. lead (a * 10 + x) (shown ds ++ t)) e ∙ lead_shown (a * 10 + d) ds t u.1

past_shown : (ds t : List ℕ) → AllBelowBase 10 ds → past (shown ds ++ t) ≡ past t
past_shown [] t u = refl
past_shown (d ∷ ds) t u = cond-true _ _ _ (digit_shown d u.0) ∙ past_shown ds t u.1

pub lead_decimal : (n : ℕ) (t : List ℕ) → lead 0 (decimal n ++ t) ≡ lead n t
lead_decimal n t = go (cases_eq n 0)
  where
    go : (n ≡ 0) ⊎ (n ≡ 0 → ⊥) → lead 0 (decimal n ++ t) ≡ lead n t
    go (inl e) = rw (e, decimal_zero) refl
    go (inr h) =
        let p : 0 < n = grind arith in
        ap (λ l. lead 0 (l ++ t)) (decimal_some n p) ∙ lead_shown 0 (digits_of 10 n) t (all_below_base_digits_of 10 n (omega arith)) ∙ ap (λ x. lead x t) (number_digits_of 10 n (omega arith))

pub past_decimal : (n : ℕ) (t : List ℕ) → past (decimal n ++ t) ≡ past t
past_decimal n t = go (cases_eq n 0)
  where
    go : (n ≡ 0) ⊎ (n ≡ 0 → ⊥) → past (decimal n ++ t) ≡ past t
    go (inl e) = rw (e, decimal_zero) refl
    go (inr h) =
        let p : 0 < n = grind arith in
        ap (λ l. past (l ++ t)) (decimal_some n p) ∙ past_shown (digits_of 10 n) t (all_below_base_digits_of 10 n (omega arith))

-- behind a number stands no digit
pub lead_end : (a : ℕ) (t : List ℕ) → digit (get_or t 0 0) ≡ false → lead a t ≡ a
lead_end a [] h = refl
lead_end a (c ∷ cs) h = cond-false _ _ _ h

pub past_end : (t : List ℕ) → digit (get_or t 0 0) ≡ false → past t ≡ t
past_end [] h = refl
past_end (c ∷ cs) h = cond-false _ _ _ h

pub lead_ge : (a : ℕ) (t : List ℕ) → a ≤ lead a t
lead_ge a [] = omega arith
lead_ge a (c ∷ cs) = let i = lead_ge (a * 10 + (c - 48)) cs in grind (arith, nat_tests)

pub decimal_push : (n d : ℕ) → 0 < n → d < 10 → decimal (n * 10 + d) ≡ decimal n ++ ((48 + d) ∷ [])
decimal_push n d p h =
    let q : (n * 10 + d) / 10 ≡ n = omega arith in
    let r : (n * 10 + d) % 10 ≡ d = omega arith in
    decimal_some (n * 10 + d) (omega arith) ∙ ap shown (digits_of_step 10 (n * 10 + d) (omega arith) (omega arith) ∙ (λ i. digits_of 10 (q i) ++ (r i ∷ []))) ∙ map-append (λ d. 48 + d) (digits_of 10 n) (d ∷ []) ∙ ap (λ l. l ++ ((48 + d) ∷ [])) (sym (decimal_some n p))

pub decimal_digit : (d : ℕ) → 0 < d → d < 10 → decimal d ≡ (48 + d) ∷ []
decimal_digit d p h =
    let q : d / 10 ≡ 0 = omega arith in
    let r : d % 10 ≡ d = omega arith in
    decimal_some d p ∙ ap shown (digits_of_step 10 d (omega arith) p ∙ (λ i. digits_of 10 (q i) ++ (r i ∷ [])))

-- the first byte
first_shown : (ds t : List ℕ) → 0 < get_or ds 0 0 → get_or (shown ds ++ t) 0 0 ≡ 48 + get_or ds 0 0
first_shown [] t h = absurd (omega arith)
first_shown (d ∷ ds) t h = refl

pub decimal_first : (n : ℕ) (t : List ℕ) → 0 < n → 48 < get_or (decimal n ++ t) 0 0
decimal_first n t p =
    let f = first_digits_of 10 n (omega arith) p in
    let e = ap (λ l. get_or (l ++ t) 0 0) (decimal_some n p) ∙ first_shown (digits_of 10 n) t f in
    omega (arith, e, f)

under_first : (ds t : List ℕ) → AllBelowBase 10 ds → 0 < get_or ds 0 0 → digit (get_or (shown ds ++ t) 0 0) ≡ true
under_first [] t u h = absurd (omega arith)
under_first (d ∷ ds) t u h = digit_shown d u.0

pub decimal_first_digit : (n : ℕ) (t : List ℕ) → digit (get_or (decimal n ++ t) 0 0) ≡ true
decimal_first_digit n t = go (cases_eq n 0)
  where
    go : (n ≡ 0) ⊎ (n ≡ 0 → ⊥) → digit (get_or (decimal n ++ t) 0 0) ≡ true
    go (inl e) = rw (e, decimal_zero) refl
    go (inr h) =
        let p : 0 < n = grind arith in
        ap (λ l. digit (get_or (l ++ t) 0 0)) (decimal_some n p) ∙ under_first (digits_of 10 n) t (all_below_base_digits_of 10 n (omega arith)) (first_digits_of 10 n (omega arith) p)

shown_digits : (ds : List ℕ) → AllBelowBase 10 ds → AllByRecursion (λ c. digit c ≡ true) (shown ds)
shown_digits [] u = tt
shown_digits (d ∷ ds) u = (digit_shown d u.0, shown_digits ds u.1)

pub decimal_digits : (n : ℕ) → AllByRecursion (λ c. digit c ≡ true) (decimal n)
decimal_digits n = go (cases_eq n 0)
  where
    go : (n ≡ 0) ⊎ (n ≡ 0 → ⊥) → AllByRecursion (λ c. digit c ≡ true) (decimal n)
    go (inl e) = rw (e, decimal_zero) (refl, tt)
    go (inr h) = let p : 0 < n = grind arith in subst (AllByRecursion (λ c. digit c ≡ true)) (sym (decimal_some n p)) (shown_digits (digits_of 10 n) (all_below_base_digits_of 10 n (omega arith)))
