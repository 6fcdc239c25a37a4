-- The first refusal of a row of parents, check by check.
use Rattle.std.proofs.Common.{◌≡◌, ℕ, ◌<◌, ◌≤◌, ◌⊎◌, refl, inl, inr, arith, lit<}
use Rattle.std.proofs.lemmas.Bool.{cases_lt}
use Rattle.refusals.specs.Told.{told}
use Rattle.refusals.specs.Judged.{First, NotAfter}
use Rattle.refusals.specs.declared.Refusal.{Refusal}
use Rattle.refusals.specs.declared.Refusal.TheVariants.{JobCount, ParentMissing, NoRoot, SecondRoot, RootUnreached}
use Rattle.trees.specs.Sums.{In}
use Rattle.trees.specs.Trees.{Reaches, Tree}
use Rattle.trees.specs.Found.{OneRoot, TwoRoots}
use Rattle.trees.specs.Faults.{ParentFault}
use Rattle.trees.specs.Faults.ParentFault.{count, missing, rootless, second, unreached}

module _ (n : ℕ) (par : ℕ → ℕ) where
  abbrev Counted : Type 0
  Counted = (1 ≤ n) × (n ≤ 4095)

  abbrev Parented : Type 0
  Parented = (k : ℕ) → In n k → n < par k → ⊥

  after_count : {d : Refusal} → ParentFault n par d → NotAfter (told (JobCount n)) (told d)
  after_count (count h) = inr (refl, omega arith)
  after_count (missing i a b) = inl (lit< tt)
  after_count (rootless h) = inl (lit< tt)
  after_count (second i j a b c e f) = inl (lit< tt)
  after_count (unreached i a b) = inl (lit< tt)

  pub first_count : (n ≡ 0) ⊎ (4095 < n) → First (ParentFault n par) (JobCount n)
  first_count h = record { deserved = count h; first = λ d f. after_count f }

  miscounted : Counted → (n ≡ 0) ⊎ (4095 < n) → ⊥
  miscounted c (inl h) = omega arith
  miscounted c (inr h) = omega arith

  module _ (counted : Counted) where
    module _ (x : ℕ) (low : (k : ℕ) → In n k → k < x → n < par k → ⊥) where
      after_missing : {d : Refusal} → ParentFault n par d → NotAfter (told (ParentMissing x)) (told d)
      after_missing (count h) = absurd (miscounted counted h)
      after_missing (missing i a b) = inr (refl, elim (cases_lt i x) [ inl h ↦ absurd (low i a h b) | inr h ↦ h ])
      after_missing (rootless h) = inl (lit< tt)
      after_missing (second i j a b c e f) = inl (lit< tt)
      after_missing (unreached i a b) = inl (lit< tt)

      pub first_missing : In n x → n < par x → First (ParentFault n par) (ParentMissing x)
      first_missing i h = record { deserved = missing x i h; first = λ d f. after_missing f }

    module _ (parented : Parented) where
      after_rootless : ((k : ℕ) → In n k → par k ≡ 0 → ⊥) → {d : Refusal} → ParentFault n par d → NotAfter (told NoRoot) (told d)
      after_rootless r (count h) = absurd (miscounted counted h)
      after_rootless r (missing i a b) = absurd (parented i a b)
      after_rootless r (rootless h) = inr (refl, omega arith)
      after_rootless r (second i j a b c e f) = absurd (r i a e)
      after_rootless r (unreached i a b) = inl (lit< tt)

      pub first_rootless : ((k : ℕ) → In n k → par k ≡ 0 → ⊥) → First (ParentFault n par) NoRoot
      first_rootless r = record { deserved = rootless r; first = λ d f. after_rootless r f }

      module _ (x y : ℕ) (s : TwoRoots n par x y) where
        after_second : {d : Refusal} → ParentFault n par d → NotAfter (told (SecondRoot y)) (told d)
        after_second (count h) = absurd (miscounted counted h)
        after_second (missing i a b) = absurd (parented i a b)
        after_second (rootless h) = absurd (h x s.early s.early_free)
        after_second (second i j a b c e f) =
            inr (
              refl,
              elim (cases_lt j y) [
                | inl h ↦ absurd (let p = s.only_early i a (omega arith) e in let q = s.only_early j b h f in omega arith)
                | inr h ↦ h
              ],
            )
        after_second (unreached i a b) = inl (lit< tt)

        pub first_second : First (ParentFault n par) (SecondRoot y)
        first_second =
            record {
              deserved = second x y s.early s.late s.order s.early_free s.late_free;
              first = λ d f. after_second f;
            }

      module _ (o : OneRoot n par) where
        two_roots : (i j : ℕ) → In n i → In n j → i < j → par i ≡ 0 → par j ≡ 0 → ⊥
        two_roots i j a b c e f = let p = o.one_top i a e in let q = o.one_top j b f in omega arith

        module _ (x : ℕ) (low : (k : ℕ) → In n k → k < x → Reaches par k) where
          after_unreached : {d : Refusal} → ParentFault n par d → NotAfter (told (RootUnreached x)) (told d)
          after_unreached (count h) = absurd (miscounted counted h)
          after_unreached (missing i a b) = absurd (parented i a b)
          after_unreached (rootless h) = absurd (h o.top o.top_in o.top_free)
          after_unreached (second i j a b c e f) = absurd (two_roots i j a b c e f)
          after_unreached (unreached i a b) = inr (refl, elim (cases_lt i x) [ inl h ↦ absurd (b (low i a h)) | inr h ↦ h ])

          pub first_unreached : In n x → (Reaches par x → ⊥) → First (ParentFault n par) (RootUnreached x)
          first_unreached i h = record { deserved = unreached x i h; first = λ d f. after_unreached f }

        pub no_fault : ((k : ℕ) → In n k → Reaches par k) → (d : Refusal) → ParentFault n par d → ⊥
        no_fault r _ (count h) = miscounted counted h
        no_fault r _ (missing i a b) = parented i a b
        no_fault r _ (rootless h) = h o.top o.top_in o.top_free
        no_fault r _ (second i j a b c e f) = two_roots i j a b c e f
        no_fault r _ (unreached i a b) = b (r i a)

        pub a_tree : ((k : ℕ) → In n k → Reaches par k) → Tree n par
        a_tree r =
            record {
              parents = λ k i. elim (cases_lt n (par k)) [ inl h ↦ absurd (parented k i h) | inr h ↦ h ];
              top = o.top;
              top_in = o.top_in;
              top_free = o.top_free;
              one_top = o.one_top;
              reaches = r;
            }

-- the parents of a tree are not refused
pub tree_none : (n : ℕ) (par : ℕ → ℕ) → 1 ≤ n → n ≤ 4095 → Tree n par → (d : Refusal) → ParentFault n par d → ⊥
tree_none n par some few tree =
    no_fault n par (some, few) (λ k i h. omega (arith, tree.parents k i, h)) record { top = tree.top; top_in = tree.top_in; top_free = tree.top_free; one_top = tree.one_top } tree.reaches
