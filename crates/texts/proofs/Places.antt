-- How a line and a column go on.
use Rattle.std.proofs.Common.{◌≡◌, ℕ, ◌+◌, ◌-◌, ◌<◌, ◌≤◌, not, eqb, List, length, get_or, take, sym, ap, ◌∙◌, arith}
use Rattle.std.specs.List.{suffix_len}
use Rattle.std.proofs.lemmas.List.{length-take-le}
use Rattle.std.proofs.lemmas.List.Sums.{count_by_more_yes, count_by_more_no, suffix_len-take_yes, suffix_len-take_no, suffix_len-le-length, count_by-le-length}
use Rattle.std.proofs.lemmas.Bool.{eq-eqb, ne_eqb}
use Rattle.prints.specs.Places.{line_at, column_at}

pub line_on : (bs : List ℕ) (p : ℕ) → p < length bs → (get_or bs p 0 ≡ 10 → ⊥) → line_at bs (p + 1) ≡ line_at bs p
line_on bs p lt ne = ap (λ n. n + 1) (count_by_more_no (λ c. eqb c 10) bs p 0 lt (ne_eqb _ _ ne))

pub line_next : (bs : List ℕ) (p : ℕ) → p < length bs → get_or bs p 0 ≡ 10 → line_at bs (p + 1) ≡ line_at bs p + 1
line_next bs p lt e = ap (λ n. n + 1) (count_by_more_yes (λ c. eqb c 10) bs p 0 lt (eq-eqb _ _ e))

back : (p : ℕ) → p + 1 - 1 ≡ p
back p = omega arith

pub column_on : (bs : List ℕ) (p : ℕ) → p < length bs → (get_or bs p 0 ≡ 10 → ⊥) → column_at bs (p + 1) ≡ column_at bs p + 1
column_on bs p lt ne =
    let q : get_or bs (p + 1 - 1) 0 ≡ get_or bs p 0 = ap (λ i. get_or bs i 0) (back p) in
    let e = suffix_len-take_yes (λ c. not (eqb c 10)) bs (p + 1) 0 (omega arith) (omega arith) (ap not (ne_eqb _ _ (λ x. ne (sym q ∙ x)))) in
    let f = ap (λ i. suffix_len (λ c. not (eqb c 10)) (take i bs)) (back p) in
    omega (arith, e, f)

pub column_next : (bs : List ℕ) (p : ℕ) → p < length bs → get_or bs p 0 ≡ 10 → column_at bs (p + 1) ≡ 1
column_next bs p lt x =
    let q : get_or bs (p + 1 - 1) 0 ≡ get_or bs p 0 = ap (λ i. get_or bs i 0) (back p) in
    let e = suffix_len-take_no (λ c. not (eqb c 10)) bs (p + 1) 0 (omega arith) (omega arith) (ap not (eq-eqb _ _ (q ∙ x))) in
    omega (arith, e)

pub column_small : (bs : List ℕ) (p : ℕ) → p ≤ length bs → column_at bs p ≤ p + 1
column_small bs p le = omega (arith, suffix_len-le-length (λ c. not (eqb c 10)) (take p bs), length-take-le p bs le)

pub line_small : (bs : List ℕ) (p : ℕ) → p ≤ length bs → line_at bs p ≤ p + 1
line_small bs p le = omega (arith, count_by-le-length (λ c. eqb c 10) (take p bs), length-take-le p bs le)
