-- A refused text is refused in one way, and what is to be granted in none.
use Rattle.std.proofs.Common.{◌≡◌, ℕ, ◌+◌, ◌-◌, ◌<◌, ◌≤◌, Bool, true, false, ◌⊎◌, List, ◌++◌, length, get_or, take, drop, sym, ap, ◌∙◌, subst, inl, inr, append_assoc, arith}
use Rattle.std.proofs.lemmas.List.{take-take, take-append-drop}
use Rattle.std.proofs.lemmas.Bool.{cases_order, cases_lt, both_ways}
use Rattle.refusals.specs.declared.Refusal.{Refusal}
use Rattle.refusals.specs.declared.Refusal.TheVariants.{TextByte, TextNumber, JobCount}
use Rattle.prints.specs.Decimal.{digit}
use Rattle.prints.specs.Places.{line_at, column_at}
use Rattle.prints.specs.Runs.{Text, Begins}
use Rattle.prints.specs.Faults.{UnfitAt, AboveAt, Refused, unfit, above}
use Rattle.prints.specs.Answers.{Counted, Roomy, by_axes, by_size, by_bytes, by_count, OneRefusal, NotBoth}
use Rattle.prints.proofs.Whole.{any_text, not_refused}
use Rattle.prints.proofs.Ends.{one_count}

shorter : (ax : ℕ) (cap : Bool) (bs : List ℕ) (p q : ℕ) → p ≤ q → Begins ax cap (take q bs) → Begins ax cap (take p bs)
shorter ax cap bs p q le (rest, t) =
    let e : take q bs ++ rest ≡ take p bs ++ (drop p (take q bs) ++ rest) = ap (λ l. l ++ rest) (sym (take-append-drop p (take q bs)) ∙ ap (λ l. l ++ drop p (take q bs)) (take-take p q bs le)) ∙ append_assoc (take p bs) (drop p (take q bs)) rest in
    (drop p (take q bs) ++ rest, subst (Text ax cap) e t)

looser : (ax : ℕ) (bs : List ℕ) → Begins ax true bs → Begins ax false bs
looser ax bs (rest, t) = (rest, any_text ax (bs ++ rest) t)

module _ (ax : ℕ) (bs : List ℕ) where
  unfit_first : (l c l' c' p q : ℕ) → UnfitAt ax bs l c p → UnfitAt ax bs l' c' q → p < q → ⊥
  unfit_first l c l' c' p q u v lt = u.byte (omega (arith, v.within)) (shorter ax false bs (p + 1) q (omega arith) (looser ax (take q bs) v.before))

  unfit_above : (l c l' c' p q n : ℕ) → UnfitAt ax bs l c p → AboveAt ax bs l' c' q n → ⊥
  unfit_above l c l' c' p q n u v = go (cases_lt p (q + n))
    where
      go : (p < q + n) ⊎ (q + n ≤ p) → ⊥
      go (inl lt) = u.byte (omega (arith, v.within)) (shorter ax false bs (p + 1) (q + n) (omega arith) v.goes)
      go (inr le) = v.above (shorter ax true bs (q + n) p le u.before)

  above_first : (l c l' c' p m q n : ℕ) → AboveAt ax bs l c p m → AboveAt ax bs l' c' q n → p < q → ⊥
  above_first l c l' c' p m q n u v lt = go (cases_lt q (p + m))
    where
      go : (q < p + m) ⊎ (p + m ≤ q) → ⊥
      go (inl in-run) =
          let e : p + (q - 1 - p) ≡ q - 1 = omega arith in
          both_ways _ v.fresh (sym (ap (λ i. digit (get_or bs i 0)) e) ∙ u.digits (q - 1 - p) (omega arith))
      go (inr le) = u.above (shorter ax true bs (p + m) q le v.before)

  -- neither of two places comes first, so they are one
  one : (f : ℕ → ℕ → Refusal) (l c l' c' p q : ℕ) → l ≡ line_at bs p → c ≡ column_at bs p → l' ≡ line_at bs q → c' ≡ column_at bs q → (p < q → ⊥) → (q < p → ⊥) → f l c ≡ f l' c'
  one f l c l' c' p q el ec el' ec' a b = go (cases_order p q)
    where
      go : (p ≡ q) ⊎ ((p < q) ⊎ (q < p)) → f l c ≡ f l' c'
      go (inl e) = λ i. f ((el ∙ ap (line_at bs) e ∙ sym el') i) ((ec ∙ ap (column_at bs) e ∙ sym ec') i)
      go (inr (inl h)) = absurd (a h)
      go (inr (inr h)) = absurd (b h)

  same_fault : (d e : Refusal) → Refused ax bs d → Refused ax bs e → d ≡ e
  same_fault d e (unfit l c p x u) (unfit l' c' q y v) = x ∙ one TextByte l c l' c' p q u.line_is u.column_is v.line_is v.column_is (unfit_first l c l' c' p q u v) (unfit_first l' c' l c q p v u) ∙ sym y
  same_fault d e (unfit l c p x u) (above l' c' q n y v) = absurd (unfit_above l c l' c' p q n u v)
  same_fault d e (above l c p m x u) (unfit l' c' q y v) = absurd (unfit_above l' c' l c q p m v u)
  same_fault d e (above l c p m x u) (above l' c' q n y v) = x ∙ one TextNumber l c l' c' p q u.line_is u.column_is v.line_is v.column_is (above_first l c l' c' p m q n u v) (above_first l' c' l c q n p m v u) ∙ sym y

  counted_good : (n : ℕ) (e : Refusal) → Counted ax bs n → Refused ax bs e → ⊥
  counted_good n e g r = not_refused ax bs e (g.run, g.held, g.whole) r

pub one_refusal : OneRefusal
one_refusal ax bs room d e (by_axes x a) (by_axes y b) = x ∙ sym y
one_refusal ax bs room d e (by_axes x a) (by_size y b z) = absurd (omega arith)
one_refusal ax bs room d e (by_axes x a) (by_bytes b z r) = absurd (omega arith)
one_refusal ax bs room d e (by_axes x a) (by_count n y b z g h) = absurd (omega arith)
one_refusal ax bs room d e (by_size x a w) (by_axes y b) = absurd (omega arith)
one_refusal ax bs room d e (by_size x a w) (by_size y b z) = x ∙ sym y
one_refusal ax bs room d e (by_size x a w) (by_bytes b z r) = absurd (w z)
one_refusal ax bs room d e (by_size x a w) (by_count n y b z g h) = absurd (w z)
one_refusal ax bs room d e (by_bytes a w r) (by_axes y b) = absurd (omega arith)
one_refusal ax bs room d e (by_bytes a w r) (by_size y b z) = absurd (z w)
one_refusal ax bs room d e (by_bytes a w r) (by_bytes b z s) = same_fault ax bs d e r s
one_refusal ax bs room d e (by_bytes a w r) (by_count n y b z g h) = absurd (counted_good ax bs n d g r)
one_refusal ax bs room d e (by_count m x a w f i) (by_axes y b) = absurd (omega arith)
one_refusal ax bs room d e (by_count m x a w f i) (by_size y b z) = absurd (z w)
one_refusal ax bs room d e (by_count m x a w f i) (by_bytes b z s) = absurd (counted_good ax bs m e f s)
one_refusal ax bs room d e (by_count m x a w f i) (by_count n y b z g h) = x ∙ ap JobCount (one_count g.run g.held.rule g.whole f ∙ g.count) ∙ sym y

pub not_both : NotBoth
not_both ax bs room r e g (by_axes x a) = omega (arith, g.axes)
not_both ax bs room r e g (by_size x a z) = z (subst (λ l. 0 < length l) (sym g.whole) (omega arith), g.size)
not_both ax bs room r e g (by_bytes a z s) = not_refused ax bs e (r, g.held, g.whole) s
not_both ax bs room r e g (by_count n x a z f h) = h (subst (Roomy room) (sym (one_count r g.held.rule g.whole f)) g.jobs)
