-- The places of the numbers of a row.
use Rattle.std.proofs.Common.{◌≡◌, ℕ, zero, suc, ◌-◌, ◌<◌, ◌≤◌, true, false, cond, eqb, ◌⊎◌, List, [], ◌∷◌, length, get_or, refl, inl, inr, arith}
use Rattle.std.proofs.lemmas.Bool.{eq-eqb, ne_eqb, cases_eq}
use Rattle.trees.specs.Sums.{In}
use Rattle.trees.specs.Lines.{entry, place, Line}

pub place_low : (k : ℕ) (l : List ℕ) → 1 ≤ place k l
place_low k [] = omega arith
place_low k (x ∷ l) = elim (eqb x k) as (λ v. 1 ≤ cond v 1 (suc (place k l))) [ true ↦ omega arith | false ↦ omega arith ]

pub place_high : (k : ℕ) (l : List ℕ) → place k l ≤ suc (length l)
place_high k [] = omega arith
place_high k (x ∷ l) = let r = place_high k l in elim (eqb x k) as (λ v. cond v 1 (suc (place k l)) ≤ suc (suc (length l))) [ true ↦ omega arith | false ↦ omega arith ]

at_most : (l : List ℕ) (q : ℕ) → q < length l → place (get_or l q 0) l ≤ suc q
at_most [] q h = absurd (omega arith)
at_most (x ∷ l) zero h = rw (eq-eqb x x refl) (omega arith)
at_most (x ∷ l) (suc q) h = let r = at_most l q (omega arith) in elim (eqb x (get_or l q 0)) as (λ v. cond v 1 (suc (place (get_or l q 0) l)) ≤ suc (suc q)) [ true ↦ omega arith | false ↦ omega arith ]

-- what stands at position p has no later place
pub place_most : (l : List ℕ) (p : ℕ) → In (length l) p → place (entry l p) l ≤ p
place_most l p i = omega (arith, at_most l (p - 1) (omega arith))

-- who has a place stands there
pub place_entry : (k : ℕ) (l : List ℕ) → place k l ≤ length l → entry l (place k l) ≡ k
place_entry k [] h = absurd (omega arith)
place_entry k (x ∷ l) h = go (λ z. place_entry k l z) (cases_eq x k)
  where
    back : (p : ℕ) → 1 ≤ p → suc p - 1 ≡ suc (p - 1)
    back p h = omega arith

    go : (place k l ≤ length l → entry l (place k l) ≡ k) → (x ≡ k) ⊎ (x ≡ k → ⊥) → entry (x ∷ l) (place k (x ∷ l)) ≡ k
    go r (inl e) = rw (eq-eqb x k e) e
    go r (inr e) =
        let f = ne_eqb x k e in
        rw f (rw (back (place k l) (place_low k l)) (r (let z = rw f at h in omega arith)))

-- in a line each position is the place of its job
pub line_place : (n : ℕ) (par : ℕ → ℕ) (row : List ℕ) → Line n par row → (p : ℕ) → In n p → place (entry row p) row ≡ p
line_place n par row l p i =
    let k = l.all (entry row p) (l.jobs p i) in
    l.once (place (entry row p) row) p k i (place_entry (entry row p) row (omega (arith, l.size)))
