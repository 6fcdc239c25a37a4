-- The whole text: where it begins, a line more, its end.
use Rattle.std.proofs.Common.{◌≡◌, ℕ, zero, suc, ◌+◌, ◌<◌, ◌≤◌, Bool, true, false, ◌⊎◌, List, [], ◌∷◌, ◌++◌, map, length, get_or, take, drop, codes, sym, refl, ap, ◌∙◌, subst, inl, inr, append_assoc, append-nil, arith}
use Rattle.std.specs.List.{AllByRecursion}
use Rattle.std.proofs.lemmas.List.{drop_more, take-append-drop}
use Rattle.std.proofs.lemmas.Bool.{cases_lt}
use Rattle.refusals.specs.declared.Refusal.{Refusal}
use Rattle.prints.specs.Decimal.{decimal}
use Rattle.prints.specs.Runs.{marked, AmountHeld, JobLine, Run, lines, text_of, Held, LineHeld, Text, Begins}
use Rattle.prints.specs.Parts.{Part, byte, letter, number, jobs, Prints, Stands, amount_parts, job_parts, heading_parts}
use Rattle.prints.specs.Faults.{Refused, unfit, above}

-- a word at the front
word_print : (ax : ℕ) (cap : Bool) (w : List ℕ) (k : List Part) (ys : List ℕ) → Prints ax cap (map byte w ++ k) ys → (t : List ℕ) × (ys ≡ w ++ t) × Prints ax cap k t
word_print ax cap [] k ys h = (ys, refl, h)
word_print ax cap (b ∷ w) k ys (t, e, h) = let r = word_print ax cap w k t h in (r.0, e ∙ ap (λ l. b ∷ l) r.1, r.2)

-- an amount at the front
amount_print : (ax c n m : ℕ) (cap : Bool) (k : List Part) (ys : List ℕ) → Prints ax cap (amount_parts c n m ++ k) ys → (vs : List ℕ) × (t : List ℕ) × AmountHeld n cap m vs × (ys ≡ marked c vs ++ t) × Prints ax cap k t
amount_print ax c zero m cap k ys h = ([], ys, record { axes = refl; each = tt }, refl, h)
amount_print ax c (suc n) m cap k ys (t1, e1, (v, t2, hv, e2, h)) =
    let r = amount_print ax 47 n m cap k t2 h in
    (v ∷ r.0, r.1, record { axes = ap suc r.2.axes; each = (hv, r.2.each) }, e1 ∙ ap (λ l. c ∷ l) (e2 ∙ ap (λ l. decimal v ++ l) r.3 ∙ sym (append_assoc (decimal v) (marked 47 r.0) r.1)), r.4)

print_amount : (ax c n m : ℕ) (cap : Bool) (k : List Part) (vs t : List ℕ) → AmountHeld n cap m vs → Prints ax cap k t → Prints ax cap (amount_parts c n m ++ k) (marked c vs ++ t)
print_amount ax c zero m cap k [] t a h = h
print_amount ax c zero m cap k (v ∷ vs) t a h = absurd (omega (arith, a.axes))
print_amount ax c (suc n) m cap k [] t a h = absurd (omega (arith, a.axes))
print_amount ax c (suc n) m cap k (v ∷ vs) t a h = (_, refl, (v, marked 47 vs ++ t, a.each.0, append_assoc (decimal v) (marked 47 vs) t, print_amount ax 47 n m cap k vs t (record { axes = omega (arith, a.axes); each = a.each.1 }) h))

-- the heading, and what follows it
abbrev heading_then : ℕ → List Part → List Part
heading_then ax k = map byte (codes "hall ") ++ (letter ∷ byte 32 ∷ number 64 ∷ (amount_parts 32 ax 1000000000 ++ (byte 10 ∷ k)))

heading_then_is : (ax : ℕ) (k : List Part) → heading_parts ax ++ k ≡ heading_then ax k
heading_then_is ax k = simp append_assoc

heading_text : (ax : ℕ) (cap : Bool) (ys : List ℕ) → Prints ax cap (heading_then ax (jobs ∷ [])) ys → Text ax cap ys
heading_text ax cap ys h = go (word_print ax cap (codes "hall ") (letter ∷ byte 32 ∷ number 64 ∷ (amount_parts 32 ax 1000000000 ++ (byte 10 ∷ jobs ∷ []))) ys h)
  where
    go : (t : List ℕ) × (ys ≡ codes "hall " ++ t) × Prints ax cap (letter ∷ byte 32 ∷ number 64 ∷ (amount_parts 32 ax 1000000000 ++ (byte 10 ∷ jobs ∷ []))) t → Text ax cap ys
    go (t, e, (c, t1, lc, e1, (t2, e2, (b, t3, hb, e3, h3)))) = by (amount_print ax 32 ax 1000000000 cap (byte 10 ∷ jobs ∷ []) t3 h3)
      where
        by : (vs : List ℕ) × (t4 : List ℕ) × AmountHeld ax cap 1000000000 vs × (t3 ≡ marked 32 vs ++ t4) × Prints ax cap (byte 10 ∷ jobs ∷ []) t4 → Text ax cap ys
        by (f, t4, hf, e4, (t5, e5, (js, t6, hj, e6, e7))) =
            (record { rule = c; benches = b; floor = f; jobs = js }, record { rule = lc; benches = hb; floor = hf; jobs = hj }, rw (e, e1, e2, e3, e4, e5, e6, e7, append-nil (lines js)) refl)

text_heading : (ax : ℕ) (cap : Bool) (ys : List ℕ) → Text ax cap ys → Prints ax cap (heading_then ax (jobs ∷ [])) ys
text_heading ax cap ys (r, h, e) =
    subst (Prints ax cap (heading_then ax (jobs ∷ []))) (sym e) (
      _,
      refl,
      (
        _,
        refl,
        (
          _,
          refl,
          (
            _,
            refl,
            (
              _,
              refl,
              (
                r.rule,
                _,
                h.rule,
                refl,
                (
                  _,
                  refl,
                  (
                    r.benches,
                    _,
                    h.benches,
                    refl,
                    print_amount ax 32 ax 1000000000 cap _ r.floor _ h.floor (_, refl, (r.jobs, [], h.jobs, sym (append-nil (lines r.jobs)), refl)),
                  ),
                ),
              ),
            ),
          ),
        ),
      ),
    )

pub at_start : (ax : ℕ) (bs : List ℕ) → Stands ax bs 0 (heading_parts ax ++ (jobs ∷ []))
at_start ax bs = subst (Stands ax bs 0) (sym (heading_then_is ax (jobs ∷ []))) (record { parted = λ x. absurd x; goes = λ cap ys h. heading_text ax cap ys h; only = λ cap ys n t. text_heading ax cap ys t })

-- a job's line, and what follows it
abbrev job_then : ℕ → List Part → List Part
job_then ax k = map byte (codes "job ") ++ (number 4095 ∷ (amount_parts 32 ax 1000000 ++ (amount_parts 32 ax 1000000 ++ (byte 32 ∷ number 10000 ∷ byte 10 ∷ k))))

job_then_is : (ax : ℕ) (k : List Part) → job_parts ax ++ k ≡ job_then ax k
job_then_is ax k = simp append_assoc

job_print : (ax : ℕ) (cap : Bool) (ys : List ℕ) → Prints ax cap (job_then ax (jobs ∷ [])) ys → Prints ax cap (jobs ∷ []) ys
job_print ax cap ys h = go (word_print ax cap (codes "job ") (number 4095 ∷ (amount_parts 32 ax 1000000 ++ (amount_parts 32 ax 1000000 ++ (byte 32 ∷ number 10000 ∷ byte 10 ∷ jobs ∷ [])))) ys h)
  where
    go : (t : List ℕ) × (ys ≡ codes "job " ++ t) × Prints ax cap (number 4095 ∷ (amount_parts 32 ax 1000000 ++ (amount_parts 32 ax 1000000 ++ (byte 32 ∷ number 10000 ∷ byte 10 ∷ jobs ∷ [])))) t → Prints ax cap (jobs ∷ []) ys
    go (t, e, (p, t1, hp, e1, h1)) = by (amount_print ax 32 ax 1000000 cap (amount_parts 32 ax 1000000 ++ (byte 32 ∷ number 10000 ∷ byte 10 ∷ jobs ∷ [])) t1 h1)
      where
        by : (vs : List ℕ) × (t2 : List ℕ) × AmountHeld ax cap 1000000 vs × (t1 ≡ marked 32 vs ++ t2) × Prints ax cap (amount_parts 32 ax 1000000 ++ (byte 32 ∷ number 10000 ∷ byte 10 ∷ jobs ∷ [])) t2 → Prints ax cap (jobs ∷ []) ys
        by (w, t2, hw, e2, h2) = then (amount_print ax 32 ax 1000000 cap (byte 32 ∷ number 10000 ∷ byte 10 ∷ jobs ∷ []) t2 h2)
          where
            then : (vs : List ℕ) × (t3 : List ℕ) × AmountHeld ax cap 1000000 vs × (t2 ≡ marked 32 vs ++ t3) × Prints ax cap (byte 32 ∷ number 10000 ∷ byte 10 ∷ jobs ∷ []) t3 → Prints ax cap (jobs ∷ []) ys
            then (o, t3, ho, e3, (t4, e4, (m, t5, hm, e5, (t6, e6, (js, t7, hj, e7, e8))))) =
                (record { parent = p; work = w; output = o; minutes = m } ∷ js, [], (record { parent = hp; work = hw; output = ho; minutes = hm }, hj), rw (e, e1, e2, e3, e4, e5, e6, e7, e8, append-nil (lines js), append-nil) refl, refl)

print_job : (ax : ℕ) (cap : Bool) (j : JobLine) (js : List JobLine) (ys : List ℕ) → AllByRecursion (LineHeld ax cap) (j ∷ js) → ys ≡ lines (j ∷ js) → Prints ax cap (job_then ax (jobs ∷ [])) ys
print_job ax cap j js ys h e =
    subst (Prints ax cap (job_then ax (jobs ∷ []))) (sym e) (
      _,
      refl,
      (
        _,
        refl,
        (
          _,
          refl,
          (
            _,
            refl,
            (
              j.parent,
              _,
              h.0.parent,
              refl,
              print_amount ax 32 ax 1000000 cap _ j.work _ h.0.work (
                  print_amount ax 32 ax 1000000 cap _ j.output _ h.0.output (
                    _,
                    refl,
                    (j.minutes, _, h.0.minutes, refl, (_, refl, (js, [], h.1, sym (append-nil (lines js)), refl))),
                  )),
            ),
          ),
        ),
      ),
    )

pub line_more : (ax : ℕ) (bs : List ℕ) (p : ℕ) → p < length bs → Stands ax bs p (jobs ∷ []) → Stands ax bs p (job_parts ax ++ (jobs ∷ []))
line_more ax bs p lt s = subst (Stands ax bs p) (sym (job_then_is ax (jobs ∷ []))) (record { parted = λ x. absurd x; goes = λ cap ys h. s.goes cap ys (job_print ax cap ys h); only = λ cap ys n t. some cap ys n (s.only cap ys n t) })
  where
    some : (cap : Bool) (ys : List ℕ) → take 1 ys ≡ take 1 (drop p bs) → Prints ax cap (jobs ∷ []) ys → Prints ax cap (job_then ax (jobs ∷ [])) ys
    some cap ys n ([], t, h, e, f) = let z : ◌≡◌ {A = ℕ} 0 1 = let a : [] ≡ get_or bs p 0 ∷ [] = ap (λ l. take 1 l) (sym (e ∙ f)) ∙ n ∙ ap (λ l. take 1 l) (drop_more bs p 0 lt) in cc in absurd (omega arith)
    some cap ys n (j ∷ js, t, h, e, f) = print_job ax cap j js ys h (e ∙ ap (λ l. lines (j ∷ js) ++ l) f ∙ append-nil (lines (j ∷ js)))

-- one line more
lines_more : (js : List JobLine) (j : JobLine) → lines (js ++ (j ∷ [])) ≡ lines js ++ lines (j ∷ [])
lines_more [] j = refl
lines_more (i ∷ js) j = rw (lines_more js j) (simp append_assoc)

pub text_more : (r : Run) (j : JobLine) → text_of (record { rule = r.rule; benches = r.benches; floor = r.floor; jobs = r.jobs ++ (j ∷ []) }) ≡ text_of r ++ lines (j ∷ [])
text_more r j = rw (lines_more r.jobs j) (simp append_assoc)

-- a text in bounds is not refused
begins_front : (ax : ℕ) (cap : Bool) (bs : List ℕ) (n : ℕ) → Text ax cap bs → Begins ax cap (take n bs)
begins_front ax cap bs n t = (drop n bs, subst (Text ax cap) (sym (take-append-drop n bs)) t)

pub any_text : (ax : ℕ) (bs : List ℕ) → Text ax true bs → Text ax false bs
any_text ax bs (r, h, e) = (r, record { rule = h.rule; benches = tt; floor = loose h.floor; jobs = all r.jobs h.jobs }, e)
  where
    each : (m : ℕ) (vs : List ℕ) → AllByRecursion (λ v. Held false v m) vs
    each m [] = tt
    each m (v ∷ vs) = (tt, each m vs)

    loose : {m : ℕ} {vs : List ℕ} → AmountHeld ax true m vs → AmountHeld ax false m vs
    loose {m} {vs} h = record { axes = h.axes; each = each m vs }

    all : (js : List JobLine) → AllByRecursion (LineHeld ax true) js → AllByRecursion (LineHeld ax false) js
    all [] a = tt
    all (j ∷ js) a = (record { parent = tt; work = loose a.0.work; output = loose a.0.output; minutes = tt }, all js a.1)

pub not_refused : (ax : ℕ) (bs : List ℕ) (e : Refusal) → Text ax true bs → Refused ax bs e → ⊥
not_refused ax bs e t (unfit l c p is u) = by (cases_lt p (length bs))
  where
    by : (p < length bs) ⊎ (length bs ≤ p) → ⊥
    by (inl lt) = u.byte lt (begins_front ax false bs (p + 1) (any_text ax bs t))
    by (inr le) = u.end (omega (arith, u.within)) (any_text ax bs t)
not_refused ax bs e t (above l c p n is u) = u.above (begins_front ax true bs (p + n) t)
