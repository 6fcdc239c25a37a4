-- How many lines a text has.
use Rattle.std.proofs.Common.{◌≡◌, ℕ, ◌+◌, ◌<◌, false, cond, eqb, ◌⊎◌, List, [], ◌∷◌, ◌++◌, length, sym, refl, ap, ◌∙◌, inl, inr, append_assoc, arith}
use Rattle.std.specs.Int.Digits.{digits_of}
use Rattle.std.proofs.lemmas.Bool.{cases_eq}
use Rattle.std.proofs.lemmas.Bool.Decides.{nat_tests}
use Rattle.prints.specs.Decimal.{decimal}
use Rattle.prints.specs.Runs.{marked, JobLine, Run, lines, Letter, text_of}
use Rattle.prints.specs.Answers.{Counted}
use Rattle.prints.proofs.Numeral.{shown, decimal_zero, decimal_some}

abbrev ends : List ℕ → ℕ
ends [] = 0
ends (c ∷ cs) = cond (eqb c 10) 1 0 + ends cs

ends_append : (xs ys : List ℕ) → ends (xs ++ ys) ≡ ends xs + ends ys
ends_append [] ys = omega arith
ends_append (x ∷ xs) ys = let i = ends_append xs ys in omega arith

ends_shown : (ds : List ℕ) → ends (shown ds) ≡ 0
ends_shown [] = refl
ends_shown (d ∷ ds) = let i = ends_shown ds in grind (arith, nat_tests)

ends_decimal : (n : ℕ) (t : List ℕ) → ends (decimal n ++ t) ≡ ends t
ends_decimal n t = let i = go (cases_eq n 0) in omega (arith, ends_append (decimal n) t)
  where
    go : (n ≡ 0) ⊎ (n ≡ 0 → ⊥) → ends (decimal n) ≡ 0
    go (inl e) = rw (e, decimal_zero) refl
    go (inr h) = let p : 0 < n = grind arith in ap ends (decimal_some n p) ∙ ends_shown (digits_of 10 n)

ends_marked : (c : ℕ) (vs t : List ℕ) → eqb c 10 ≡ false → ends (marked c vs ++ t) ≡ ends t
ends_marked c [] t n = refl
ends_marked c (v ∷ vs) t n =
    let i = ends_marked 47 vs t refl in
    let e = ap ends (append_assoc (decimal v) (marked 47 vs) t) ∙ ends_decimal v (marked 47 vs ++ t) in
    rw n (omega arith)

ends_lines : (js : List JobLine) → ends (lines js) ≡ length js
ends_lines [] = refl
ends_lines (j ∷ js) =
    let i = ends_lines js in
    let tail : List ℕ = 32 ∷ (decimal j.minutes ++ (10 ∷ lines js)) in
    let w = ends_marked 32 j.work (marked 32 j.output ++ tail) refl in
    let o = ends_marked 32 j.output tail refl in
    let m = ends_decimal j.minutes (10 ∷ lines js) in
    let p = ends_decimal j.parent (marked 32 j.work ++ (marked 32 j.output ++ tail)) in
    omega arith

no_end : (c : ℕ) → Letter c → eqb c 10 ≡ false
no_end c (inl e) = rw e refl
no_end c (inr e) = rw e refl

ends_text : (r : Run) → Letter r.rule → ends (text_of r) ≡ 1 + length r.jobs
ends_text r l =
    let n = no_end r.rule l in
    let j = ends_lines r.jobs in
    let f = ends_marked 32 r.floor (10 ∷ lines r.jobs) refl in
    let b = ends_decimal r.benches (marked 32 r.floor ++ (10 ∷ lines r.jobs)) in
    rw n (omega arith)

-- texts with as many jobs have as many lines
pub no_more_lines : (a b : Run) (js : List JobLine) → Letter a.rule → Letter b.rule → text_of a ++ lines js ≡ text_of b → length a.jobs ≡ length b.jobs → js ≡ []
no_more_lines a b [] ra rb e n = refl
no_more_lines a b (j ∷ js) ra rb e n =
    let all = ap ends (sym e) ∙ ends_append (text_of a) (lines (j ∷ js)) in
    absurd (omega (arith, all, ends_text a ra, ends_text b rb, ends_lines (j ∷ js)))

pub one_count : {ax m : ℕ} {bs : List ℕ} (b : Run) → Letter b.rule → bs ≡ text_of b → Counted ax bs m → m ≡ length b.jobs
one_count {ax} {m} {bs} b l w a =
    let to = ap ends (sym a.whole ∙ w) in
    omega (arith, to, ends_text a.run a.held.rule, ends_text b l, a.count)
