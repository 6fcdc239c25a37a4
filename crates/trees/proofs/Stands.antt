-- What stands in the hall from position to position of a line, on one axis.
use Rattle.std.proofs.Common.{◌≡◌, ℕ, ◌+◌, ◌≤◌, not, ◌&&◌, eqb, ltb, List, sym, ap, ◌∙◌, arith}
use Rattle.std.proofs.lemmas.Bool.Decides.{nat_tests}
use Rattle.trees.specs.Sums.{In, sum, only}
use Rattle.trees.specs.Trees.{kids}
use Rattle.trees.specs.Lines.{entry, place, Line}
use Rattle.trees.specs.Standing.{left_at}
use Rattle.trees.proofs.Sums.{sum_le, sum_eq, sum_zero, sum_add, sum_one}
use Rattle.trees.proofs.Places.{place_low, place_entry, line_place}

module _ (n : ℕ) (par : ℕ → ℕ) (row : List ℕ) (w f : ℕ → ℕ) where
  pub left_none : left_at n par row w f 1 ≡ 0
  left_none = sum_zero (λ k. only (ltb (place k row) 1 && not (ltb (place (par k) row) 1)) (f k)) n (λ k i. let z = place_low k row in grind (arith, nat_tests))

  pub left_most : (p : ℕ) → left_at n par row w f p ≤ sum f n
  left_most p = sum_le (λ k. only (ltb (place k row) p && not (ltb (place (par k) row) p)) (f k)) f n (λ k i. grind (arith, nat_tests))

  module _ (l : Line n par row) (p : ℕ) (here : In n p) where
    abbrev i : ℕ
    i = entry row p

    at_p : place i row ≡ p
    at_p = line_place n par row l p here

    -- who is at p is that job, and nobody else
    there : (k : ℕ) → k ≡ i → place k row ≡ p
    there k e = ap (λ x. place x row) e ∙ at_p

    alone : (k : ℕ) → place k row ≡ p → k ≡ i
    alone k e = sym (place_entry k row (omega (arith, l.size))) ∙ ap (entry row) e

    step : (k : ℕ) → In n k → only (ltb (place k row) (p + 1) && not (ltb (place (par k) row) (p + 1))) (f k) + only (eqb (par k) i) (f k) ≡ only (ltb (place k row) p && not (ltb (place (par k) row) p)) (f k) + only (eqb k i) (f k)
    step k j =
        let z = l.later k j in
        let a = there k in
        let b = alone k in
        let c = there (par k) in
        let d = alone (par k) in
        grind (arith, nat_tests)

    -- the next position has its output more and those of its children less
    pub left_next : left_at n par row w f (p + 1) + kids n par f (entry row p) ≡ left_at n par row w f p + f (entry row p)
    left_next =
        omega (
          arith,
          sum_add (λ k. only (ltb (place k row) (p + 1) && not (ltb (place (par k) row) (p + 1))) (f k)) (λ k. only (eqb (par k) i) (f k)) n,
          sum_add (λ k. only (ltb (place k row) p && not (ltb (place (par k) row) p)) (f k)) (λ k. only (eqb k i) (f k)) n,
          sum_eq (λ k. only (ltb (place k row) (p + 1) && not (ltb (place (par k) row) (p + 1))) (f k) + only (eqb (par k) i) (f k)) (λ k. only (ltb (place k row) p && not (ltb (place (par k) row) p)) (f k) + only (eqb k i) (f k)) n step,
          sum_one f i n (l.jobs p here),
        )
