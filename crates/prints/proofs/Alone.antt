-- A text is the text of one run alone.
use Rattle.std.proofs.Common.{◌≡◌, ℕ, Bool, false, List, [], ◌∷◌, ◌++◌, length, get_or, sym, refl, ap, ◌∙◌, append_assoc, arith}
use Rattle.std.specs.List.{AllByRecursion}
use Rattle.prints.specs.Decimal.{digit, decimal}
use Rattle.prints.specs.Runs.{marked, JobLine, Run, lines, LineHeld}
use Rattle.prints.specs.Answers.{OneRun}
use Rattle.prints.proofs.Numeral.{lead, past, lead_decimal, past_decimal, lead_end, past_end}

-- no digit stands at the front
abbrev Ended : List ℕ → Type 0
Ended t = digit (get_or t 0 0) ≡ false

number_same : (v w : ℕ) (t u : List ℕ) → Ended t → Ended u → decimal v ++ t ≡ decimal w ++ u → (v ≡ w) × (t ≡ u)
number_same v w t u a b e = (
  sym (lead_end v t a) ∙ sym (lead_decimal v t) ∙ ap (lead 0) e ∙ lead_decimal w u ∙ lead_end w u b,
  sym (past_end t a) ∙ sym (past_decimal v t) ∙ ap past e ∙ past_decimal w u ∙ past_end u b,
)

marked_ended : (c : ℕ) (vs t : List ℕ) → digit c ≡ false → Ended t → Ended (marked c vs ++ t)
marked_ended c [] t n a = a
marked_ended c (v ∷ vs) t n a = n

amount_same : (c : ℕ) (vs ws t u : List ℕ) → length vs ≡ length ws → Ended t → Ended u → marked c vs ++ t ≡ marked c ws ++ u → (vs ≡ ws) × (t ≡ u)
amount_same c [] [] t u l a b e = (refl, e)
amount_same c [] (w ∷ ws) t u l a b e = absurd (omega arith)
amount_same c (v ∷ vs) [] t u l a b e = absurd (omega arith)
amount_same c (v ∷ vs) (w ∷ ws) t u l a b e =
    let f : decimal v ++ (marked 47 vs ++ t) ≡ decimal w ++ (marked 47 ws ++ u) = let g : c ∷ (decimal v ++ (marked 47 vs ++ t)) ≡ c ∷ (decimal w ++ (marked 47 ws ++ u)) = ap (λ l. c ∷ l) (sym (append_assoc (decimal v) (marked 47 vs) t)) ∙ e ∙ ap (λ l. c ∷ l) (append_assoc (decimal w) (marked 47 ws) u) in cc in
    let n = number_same v w (marked 47 vs ++ t) (marked 47 ws ++ u) (marked_ended 47 vs t refl a) (marked_ended 47 ws u refl b) f in
    let r = amount_same 47 vs ws t u (omega arith) a b n.1 in
    ((λ i. n.0 i ∷ r.0 i), r.1)

module _ (ax : ℕ) (c d : Bool) where
  lines_same : (js ks : List JobLine) → AllByRecursion (LineHeld ax c) js → AllByRecursion (LineHeld ax d) ks → lines js ≡ lines ks → js ≡ ks
  lines_same [] [] f g e = refl
  lines_same [] (k ∷ ks) f g e = let z : ◌≡◌ {A = ℕ} 0 1 = cc in absurd (omega arith)
  lines_same (j ∷ js) [] f g e = let z : ◌≡◌ {A = ℕ} 0 1 = cc in absurd (omega arith)
  lines_same (j ∷ js) (k ∷ ks) f g e =
      let tail : JobLine → List JobLine → List ℕ = λ x xs. 32 ∷ (decimal x.minutes ++ (10 ∷ lines xs)) in
      let mid : JobLine → List JobLine → List ℕ = λ x xs. marked 32 x.output ++ tail x xs in
      let low : JobLine → List JobLine → List ℕ = λ x xs. marked 32 x.work ++ mid x xs in
      let e0 : decimal j.parent ++ low j js ≡ decimal k.parent ++ low k ks = cc in
      let p = number_same j.parent k.parent (low j js) (low k ks) (marked_ended 32 j.work (mid j js) refl (marked_ended 32 j.output (tail j js) refl refl)) (marked_ended 32 k.work (mid k ks) refl (marked_ended 32 k.output (tail k ks) refl refl)) e0 in
      let w = amount_same 32 j.work k.work (mid j js) (mid k ks) (f.0.work.axes ∙ sym g.0.work.axes) (marked_ended 32 j.output (tail j js) refl refl) (marked_ended 32 k.output (tail k ks) refl refl) p.1 in
      let o = amount_same 32 j.output k.output (tail j js) (tail k ks) (f.0.output.axes ∙ sym g.0.output.axes) refl refl w.1 in
      let e3 : decimal j.minutes ++ (10 ∷ lines js) ≡ decimal k.minutes ++ (10 ∷ lines ks) = let x = o.1 in cc in
      let m = number_same j.minutes k.minutes (10 ∷ lines js) (10 ∷ lines ks) refl refl e3 in
      let e4 : lines js ≡ lines ks = let x = m.1 in cc in
      let r = lines_same js ks f.1 g.1 e4 in
      λ i. record { parent = p.0 i; work = w.0 i; output = o.0 i; minutes = m.0 i } ∷ r i

pub one_run : OneRun
one_run ax c d a b f g e =
    let end : Run → List ℕ = λ r. 10 ∷ lines r.jobs in
    let low : Run → List ℕ = λ r. marked 32 r.floor ++ end r in
    let e0 : a.rule ≡ b.rule = cc in
    let e1 : decimal a.benches ++ low a ≡ decimal b.benches ++ low b = cc in
    let n = number_same a.benches b.benches (low a) (low b) (marked_ended 32 a.floor (end a) refl refl) (marked_ended 32 b.floor (end b) refl refl) e1 in
    let m = amount_same 32 a.floor b.floor (end a) (end b) (f.floor.axes ∙ sym g.floor.axes) refl refl n.1 in
    let e2 : lines a.jobs ≡ lines b.jobs = let x = m.1 in cc in
    let r = lines_same ax c d a.jobs b.jobs f.jobs g.jobs e2 in
    λ i. record { rule = e0 i; benches = n.0 i; floor = m.0 i; jobs = r i }
