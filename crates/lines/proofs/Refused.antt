-- Which refusal comes first where a tree comes with a row, or with the memory for one.
use Rattle.std.proofs.Common.{◌≡◌, ℕ, ◌+◌, ◌<◌, ◌≤◌, ◌⊎◌, List, get_or, sym, refl, ap, ◌∙◌, inl, inr, arith, lit<}
use Rattle.std.proofs.lemmas.Bool.{cases_lt}
use Rattle.std.proofs.lemmas.Bool.Decides.{nat_tests}
use Rattle.refusals.specs.Told.{told}
use Rattle.refusals.specs.Judged.{First, NotAfter}
use Rattle.refusals.specs.declared.Refusal.{Refusal}
use Rattle.refusals.specs.declared.Refusal.TheVariants.{LineEntry, LineOrder, LineMemory}
use Rattle.trees.specs.Sums.{In}
use Rattle.trees.specs.Trees.{Tree}
use Rattle.trees.specs.Lines.{entry, place}
use Rattle.trees.specs.Faults.{ParentFault, RowFault, Unfit}
use Rattle.trees.specs.Faults.ParentFault.{count}
use Rattle.trees.specs.Faults.RowFault.{unfit, longer, early}
use Rattle.lines.specs.Checks.{Misfit, Entered, Early, Placed}
use Rattle.lines.specs.Faults.{LineFault, RoomFault}
use Rattle.lines.specs.Faults.LineFault.{untreed, unlined}
use Rattle.lines.specs.Faults.RoomFault.{no_tree, no_room}
use Rattle.trees.proofs.Numbers.{tree_number, row_number}
use Rattle.trees.proofs.Places.{place_low, place_entry}
use Rattle.lines.proofs.Places.{fit_all, fit_job, fit_line}

module _ (n : ℕ) (row places : List ℕ) (e : Entered n row places) where
  has : (k : ℕ) → In n k → place k row ≤ n
  has k i = fit_all n row n (omega (arith, e.size)) e.fit (omega arith) k i

  at_place : (k : ℕ) → In n k → get_or places k 0 ≡ place k row
  at_place k i = let z = has k i in let y = e.entered k in grind (arith, nat_tests)

  pub entered_in : (k : ℕ) → In n k → In n (get_or places k 0)
  entered_in k i = rw (at_place k i) (place_low k row, has k i)

module _ (n : ℕ) (par : ℕ → ℕ) where
  abbrev pub Treed : Type 0
  Treed = (e : Refusal) → ParentFault n par e → ⊥

  module _ (room : ℕ) where
    after_tree : (e : Refusal) → First (ParentFault n par) e → {d : Refusal} → RoomFault n par room d → NotAfter (told e) (told d)
    after_tree e f (no_tree h) = f.first _ h
    after_tree e f (no_room h) = let z = tree_number f.deserved in inl (omega arith)

    pub tree_first : (e : Refusal) → First (ParentFault n par) e → First (RoomFault n par room) e
    tree_first e f = record { deserved = no_tree f.deserved; first = λ d h. after_tree e f h }

    only_room : Treed → {d : Refusal} → RoomFault n par room d → NotAfter (told (LineMemory n)) (told d)
    only_room t (no_tree h) = absurd (t _ h)
    only_room t (no_room h) = inr (refl, omega arith)

    pub room_first : Treed → room < n → First (RoomFault n par room) (LineMemory n)
    room_first t h = record { deserved = no_room h; first = λ d f. only_room t f }

    pub room_none : Treed → n ≤ room → (e : Refusal) → RoomFault n par room e → ⊥
    room_none t h e f = go f
      where
        go : {e : Refusal} → RoomFault n par room e → ⊥
        go (no_tree x) = t _ x
        go (no_room x) = omega arith

  module _ (row : List ℕ) where
    -- without a refusal the jobs are few
    pub line_few : ((e : Refusal) → LineFault n par row e → ⊥) → n ≤ 4095
    line_few h = elim (cases_lt 4095 n) [ inl l ↦ absurd (h _ (untreed (count (inr l)))) | inr l ↦ l ]

    after_parents : (e : Refusal) → First (ParentFault n par) e → {d : Refusal} → LineFault n par row d → NotAfter (told e) (told d)
    after_parents e f (untreed h) = f.first _ h
    after_parents e f (unlined h) = let z = tree_number f.deserved in let y = row_number h in inl (omega arith)

    pub parents_first : (e : Refusal) → First (ParentFault n par) e → First (LineFault n par row) e
    parents_first e f = record { deserved = untreed f.deserved; first = λ d h. after_parents e f h }

    module _ (treed : Treed) where
      module _ (p : ℕ) (found : Misfit n row p) (least : (q : ℕ) → In (n + 1) q → q < p → Misfit n row q → ⊥) where
        fault : Misfit n row p → RowFault n par row (LineEntry p)
        fault (inl h) = unfit p h.0 h.1
        fault (inr h) = rw h.0 (longer h.1)

        none_before : (q : ℕ) → In (n + 1) q → Misfit n row q → p ≤ q
        none_before q i h = elim (cases_lt q p) [ inl l ↦ absurd (least q i l h) | inr l ↦ l ]

        after_entry : {d : Refusal} → LineFault n par row d → NotAfter (told (LineEntry p)) (told d)
        after_entry (untreed h) = absurd (treed _ h)
        after_entry (unlined (unfit q i h)) = inr (refl, none_before q (omega arith) (inl (i, h)))
        after_entry (unlined (longer h)) = inr (refl, none_before (n + 1) (omega arith) (inr (refl, h)))
        after_entry (unlined (early q c i j a b)) = inl (lit< tt)

        pub entry_first : First (LineFault n par row) (LineEntry p)
        entry_first = record { deserved = unlined (fault found); first = λ d f. after_entry f }

      module _ (tree : Tree n par) (places : List ℕ) (e : Entered n row places) where
        fits : (q : ℕ) → In n q → Unfit n row q → ⊥
        fits q i (inl h) = omega (arith, e.size)
        fits q i (inr (inl h)) = h (e.fit q i).0
        fits q i (inr (inr h)) = omega (arith, (e.fit q i).1)

        -- a parent that stands too early, in the terms of the refusal and of the search
        told_early : (p : ℕ) → Early n par (λ k. get_or places k 0) p → RowFault n par row (LineOrder p)
        told_early p w =
            let c = w.0 in
            let ip : In n (par w.0) = omega (arith, tree.parents w.0 w.1, w.2) in
            let a = at_place n row places e (par w.0) ip in
            let b = at_place n row places e w.0 w.1 in
            let q : place (par w.0) row ≡ p = sym a ∙ w.3 in
            early p w.0 (omega (arith, place_low (par w.0) row, has n row places e (par w.0) ip)) w.1
            (sym (place_entry (par w.0) row (omega (arith, has n row places e (par w.0) ip, e.size))) ∙ ap (entry row) q)
            (omega (arith, w.4))

        found_early : (p c : ℕ) → In n p → In n c → par c ≡ entry row p → p ≤ place c row → Early n par (λ k. get_or places k 0) p
        found_early p c i j a b =
            let f = e.fit p i in
            let z = at_place n row places e c j in
            (c, j, (λ h. omega (arith, f.0)), rw a (at_place n row places e (entry row p) f.0 ∙ f.1), omega arith)

        module _ (p : ℕ) (found : Early n par (λ k. get_or places k 0) p) (least : (q : ℕ) → In n q → q < p → Early n par (λ k. get_or places k 0) q → ⊥) where
          after_order : {d : Refusal} → LineFault n par row d → NotAfter (told (LineOrder p)) (told d)
          after_order (untreed h) = absurd (treed _ h)
          after_order (unlined (unfit q i h)) = absurd (fits q i h)
          after_order (unlined (longer h)) = absurd (omega (arith, e.size))
          after_order (unlined (early q c i j a b)) = inr (refl, elim (cases_lt q p) [ inl l ↦ absurd (least q i l (found_early q c i j a b)) | inr l ↦ l ])

          pub order_first : First (LineFault n par row) (LineOrder p)
          order_first = record { deserved = unlined (told_early p found); first = λ d f. after_order f }

        module _ (none : (q : ℕ) → In n q → Early n par (λ k. get_or places k 0) q → ⊥) where
          pub line_none : (d : Refusal) → LineFault n par row d → ⊥
          line_none d f = go f
            where
              go : {d : Refusal} → LineFault n par row d → ⊥
              go (untreed h) = treed _ h
              go (unlined (unfit q i h)) = fits q i h
              go (unlined (longer h)) = omega (arith, e.size)
              go (unlined (early q c i j a b)) = none q i (found_early q c i j a b)

          later : (k : ℕ) → In n k → (par k ≡ 0 → ⊥) → place k row < place (par k) row
          later k i z = go (cases_lt (place k row) (place (par k) row))
            where
              ip : In n (par k)
              ip = omega (arith, tree.parents k i)

              go : (place k row < place (par k) row) ⊎ (place (par k) row ≤ place k row) → place k row < place (par k) row
              go (inl h) = h
              go (inr h) =
                  absurd (none (place (par k) row) (place_low (par k) row, has n row places e (par k) ip) (k, i, z, at_place n row places e (par k) ip, rw (at_place n row places e k i) h))

          pub line_placed : Placed n par row places
          line_placed = record {
            tree = tree;
            line = fit_line n par row e.size e.fit later;
            placed = at_place n row places e;
            rest = λ k h. let z : place k row ≤ n → ⊥ = λ y. h (fit_job n row n (omega (arith, e.size)) e.fit k y) in let x = e.entered k in grind (arith, nat_tests);
          }
