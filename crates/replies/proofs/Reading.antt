-- Digits that are read one by one.
use Rattle.std.proofs.Common.{◌≡◌, ℕ, ◌+◌, ◌-◌, ◌*◌, ◌<◌, ◌≤◌, true, false, ◌⊎◌, List, [], ◌∷◌, ◌++◌, length, get_or, drop, sym, ap, ◌∙◌, subst, inl, inr, append_assoc, append-nil, arith}
use Rattle.std.proofs.lemmas.List.{drop_more}
use Rattle.std.proofs.lemmas.Bool.{cases_Bool, cases_eq, cond-true, cond-false}
use Rattle.std.proofs.lemmas.Bool.Decides.{nat_tests}
use Rattle.prints.specs.Decimal.{digit, decimal}
use Rattle.prints.proofs.Numeral.{lead, past, decimal_zero, decimal_push, decimal_digit, decimal_first, decimal_first_digit, past_decimal}

-- what stands before `rest` are digits, and they write n
pub record Read (all : List ℕ) (n : ℕ) (rest : List ℕ) : Type 0 where
  pub number : lead 0 all ≡ lead n rest
  pub behind : past all ≡ past rest

-- the next byte
module _ (all : List ℕ) (n i : ℕ) (lt : i < length all) (r : Read all n (drop i all)) where
  next : Read all n (get_or all i 0 ∷ drop (i + 1) all)
  next = subst (Read all n) (drop_more all i 0 lt) r

  pub read_more : (d : ℕ) → d < 10 → get_or all i 0 ≡ 48 + d → Read all (n * 10 + d) (drop (i + 1) all)
  read_more d low is =
      let t : digit (get_or all i 0) ≡ true = grind (arith, nat_tests) in
      let v : get_or all i 0 - 48 ≡ d = omega arith in
      record { number = next.number ∙ cond-true _ _ _ t ∙ ap (λ x. lead (n * 10 + x) (drop (i + 1) all)) v; behind = next.behind ∙ cond-true _ _ _ t }

  pub read_stopped : digit (get_or all i 0) ≡ false → (m : ℕ) → all ≡ decimal m → ⊥
  read_stopped d m e =
      let p : get_or all i 0 ∷ drop (i + 1) all ≡ [] = sym (cond-false _ _ _ d) ∙ sym next.behind ∙ ap past (e ∙ sym (append-nil (decimal m))) ∙ past_decimal m [] in
      let z : ◌≡◌ {A = ℕ} 0 1 = cc in
      omega arith

-- no byte
pub unread_none : (m : ℕ) → [] ≡ decimal m → ⊥
unread_none m e =
    let p : digit 0 ≡ true = ap (λ l. digit (get_or l 0 0)) (e ∙ sym (append-nil (decimal m))) ∙ decimal_first_digit m [] in
    grind (arith, nat_tests)

-- a leading zero
pub unread_zero : (rest : List ℕ) (m : ℕ) → (length rest ≡ 0 → ⊥) → 48 ∷ rest ≡ decimal m → ⊥
unread_zero rest m some e = go (cases_eq m 0)
  where
    go : (m ≡ 0) ⊎ (m ≡ 0 → ⊥) → ⊥
    go (inl z) =
        let p : 48 ∷ rest ≡ 48 ∷ [] = e ∙ ap decimal z ∙ decimal_zero in
        let q : rest ≡ [] = cc in
        some (ap length q)
    go (inr h) =
        let p : 0 < m = grind arith in
        omega (arith, decimal_first m [] p, ap (λ l. get_or l 0 0) (e ∙ sym (append-nil (decimal m))))

-- where nothing stands behind the digits, the first byte is one
first_digit : (c : ℕ) (cs : List ℕ) → past (c ∷ cs) ≡ [] → digit c ≡ true
first_digit c cs e = go (cases_Bool (digit c))
  where
    go : (digit c ≡ true) ⊎ (digit c ≡ false) → digit c ≡ true
    go (inl d) = d
    go (inr d) =
        let p : c ∷ cs ≡ [] = sym (cond-false _ _ _ d) ∙ e in
        let z : ◌≡◌ {A = ℕ} 0 1 = cc in
        absurd (omega arith)

of_digit : (c : ℕ) → digit c ≡ true → (48 ≤ c) × (c ≤ 57) × (48 + (c - 48) ≡ c)
of_digit c d =
    let low : 48 ≤ c = grind (arith, nat_tests) in
    let high : c ≤ 57 = grind (arith, nat_tests) in
    (low, high, omega arith)

-- digits after a number above zero
decimal_on : (n : ℕ) (cs : List ℕ) → 0 < n → past cs ≡ [] → decimal (lead n cs) ≡ decimal n ++ cs
decimal_on n [] p e = sym (append-nil (decimal n))
decimal_on n (c ∷ cs) p e =
    let d = first_digit c cs e in
    let b = of_digit c d in
    let rest = decimal_on (n * 10 + (c - 48)) cs (omega arith) (sym (cond-true _ _ _ d) ∙ e) in
    let last = ap (λ l. l ++ cs) (decimal_push n (c - 48) p (omega arith)) in
    ap decimal (cond-true _ _ _ d) ∙ rest ∙ last ∙ append_assoc (decimal n) _ cs ∙ ap (λ x. decimal n ++ (x ∷ cs)) b.2

read_some : (c : ℕ) (cs : List ℕ) (n : ℕ) → (c ≡ 48 → ⊥) → Read (c ∷ cs) n [] → c ∷ cs ≡ decimal n
read_some c cs n ne r =
    let d = first_digit c cs r.behind in
    let b = of_digit c d in
    let some : 0 < c - 48 = grind arith in
    let rest = decimal_on (c - 48) cs some (sym (cond-true _ _ _ d) ∙ r.behind) in
    let first = decimal_digit (c - 48) some (omega arith) ∙ ap (λ x. x ∷ []) b.2 in
    let start : c - 48 ≡ 0 * 10 + (c - 48) = omega arith in
    ap (λ l. l ++ cs) (sym first) ∙ sym rest ∙ ap decimal (ap (λ x. lead x cs) start ∙ sym (cond-true _ _ _ d) ∙ r.number)

read_zero : (n : ℕ) → Read (48 ∷ []) n [] → 48 ∷ [] ≡ decimal n
read_zero n r = let z : 0 ≡ n = r.number in sym decimal_zero ∙ ap decimal z

-- all bytes are read, and the first is no zero unless it is alone
pub read_all : (c : ℕ) (cs : List ℕ) (n : ℕ) → (c ≡ 48 → cs ≡ []) → Read (c ∷ cs) n [] → c ∷ cs ≡ decimal n
read_all c cs n alone r = go (cases_eq c 48)
  where
    go : (c ≡ 48) ⊎ (c ≡ 48 → ⊥) → c ∷ cs ≡ decimal n
    go (inl e) =
        let bytes : c ∷ cs ≡ 48 ∷ [] = let none = alone e in cc in
        bytes ∙ read_zero n (subst (λ l. Read l n []) bytes r)
    go (inr e) = read_some c cs n e r
