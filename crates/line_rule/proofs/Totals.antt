-- How the booked total moves, and what it covers.
use Rattle.std.proofs.Common.{◌≡◌, ℕ, ◌+◌, ◌<◌, ◌≤◌, false, not, ◌&&◌, eqb, ltb, leb, List, sym, ap, ◌∙◌, arith}
use Rattle.std.proofs.lemmas.Bool.{le-leb}
use Rattle.std.proofs.lemmas.Bool.Decides.{nat_tests}
use Rattle.trees.specs.Sums.{In, sum, only}
use Rattle.trees.specs.Trees.{kids, Tree}
use Rattle.trees.specs.Lines.{Line, entry, place}
use Rattle.trees.specs.Standing.{standing}
use Rattle.trees.proofs.Sums.{sum_le, sum_eq, sum_zero, sum_add, sum_one}
use Rattle.trees.proofs.Places.{place_low, place_entry, line_place}
use Rattle.jobs.specs.declared.State.{State}
use Rattle.jobs.specs.declared.State.TheVariants.{Waiting, Done}
use Rattle.logs.specs.Stands.{Opened, is_waiting, is_done, taken, holds, held}
use Rattle.logs.specs.Logs.{begun}
use Rattle.logs.proofs.Holding.{covered_alike, covered_done}
use Rattle.line_rule.specs.Totals.{total, takes}

module _ (o : Opened) (row : List ℕ) where
  abbrev n : ℕ
  n = o.jobs

  abbrev par : ℕ → ℕ
  par = o.parent

  -- what job k holds while it runs, on axis a
  abbrev whole : ℕ → ℕ → ℕ
  whole a k = o.work a k + o.output a k

  -- nothing is booked or done: the total is zero
  pub total_none : (t : ℕ → State) → ((k : ℕ) → In n k → t k ≡ Waiting) → (a : ℕ) → total o row t 0 a ≡ 0
  total_none t w a = sum_zero (takes o row t 0 a) n (λ k i. let z = place_low k row in let e = w k i in grind (arith, nat_tests))

  -- one more job booked
  pub total_more : (t : ℕ → State) (m : ℕ) → Line n par row → m < n → is_done (t (entry row (m + 1))) ≡ false
      → (a : ℕ) → total o row t (m + 1) a ≡ total o row t m a + o.work a (entry row (m + 1)) + o.output a (entry row (m + 1))
  total_more t m l h d a =
      omega (
        arith,
        sum_eq (takes o row t (m + 1) a) (λ k. takes o row t m a k + only (eqb k next) (whole a k)) n step,
        sum_add (takes o row t m a) (λ k. only (eqb k next) (whole a k)) n,
        sum_one (whole a) next n (l.jobs (m + 1) (omega arith)),
      )
    where
      next : ℕ
      next = entry row (m + 1)

      alone : (k : ℕ) → place k row ≡ m + 1 → k ≡ next
      alone k e = sym (place_entry k row (omega (arith, l.size))) ∙ ap (entry row) e

      step : (k : ℕ) → In n k → takes o row t (m + 1) a k ≡ takes o row t m a k + only (eqb k next) (whole a k)
      step k j = let x = line_place n par row l (m + 1) (omega arith) in let y = alone k in grind (arith, nat_tests)

  -- a start moves nothing
  pub total_begun : (t : ℕ → State) (m b j : ℕ) → t j ≡ Waiting → (a : ℕ) → total o row (begun t b j) m a ≡ total o row t m a
  total_begun t m b j w = covered_alike o (λ k. leb (place k row) m) t (begun t b j) (λ k. grind (arith, nat_tests))

  -- Job i, which is booked and not done, and whose children are done, is done from now on: its work and its inputs come off the
  -- total.
  pub total_done : (t u : ℕ → State) (m i : ℕ) → In n i → is_done (t i) ≡ false → u i ≡ Done → ((k : ℕ) → (k ≡ i → ⊥) → u k ≡ t k)
      → ((k : ℕ) → In n k → par k ≡ i → t k ≡ Done) → taken o t i ≡ false → (par i ≡ i → ⊥) → place i row ≤ m
      → (a : ℕ) → total o row u m a + (o.work a i + kids n par (o.output a) i) ≡ total o row t m a
  total_done t u m i here unfinished shut others children free own booked =
      covered_done o (λ k. leb (place k row) m) t u i here unfinished shut others children free own (le-leb (place i row) m booked)

  module _ (t : ℕ → State) (m : ℕ) where
    -- what a booked job that waits will hold
    abbrev awaits : ℕ → ℕ → ℕ
    awaits a k = only (leb (place k row) m && is_waiting (t k)) (whole a k)

    -- every started job is booked: the total is what is held and what the booked jobs that wait will hold
    total_parts : ((k : ℕ) → In n k → (t k ≡ Waiting → ⊥) → place k row ≤ m) → (a : ℕ) → held o t a + sum (awaits a) n ≡ total o row t m a
    total_parts booked a =
        sym (sum_add (holds o t a) (awaits a) n)
        ∙ sum_eq (λ k. holds o t a k + awaits a k) (takes o row t m a) n (λ k i. let b = booked k i in grind (arith, nat_tests))

    -- what is held is within the total
    pub held_within : ((k : ℕ) → In n k → (t k ≡ Waiting → ⊥) → place k row ≤ m) → (a : ℕ) → held o t a ≤ total o row t m a
    held_within booked a = omega (arith, total_parts booked a)

    -- and so it is with a booked job that waits
    pub held_with : (j : ℕ) → ((k : ℕ) → In n k → (t k ≡ Waiting → ⊥) → place k row ≤ m) → In n j → t j ≡ Waiting → place j row ≤ m
        → (a : ℕ) → held o t a + o.work a j + o.output a j ≤ total o row t m a
    held_with j booked i w b a =
        omega (
          arith,
          total_parts booked a,
          sum_one (whole a) j n i,
          sum_le (λ k. only (eqb k j) (whole a k)) (awaits a) n (λ k _. grind (arith, nat_tests)),
        )

    -- the booked jobs are done and no other is: with the next job the total is what stands at its position
    pub total_stands : Tree n par → Line n par row → m < n
        → ((k : ℕ) → In n k → place k row ≤ m → t k ≡ Done) → ((k : ℕ) → In n k → m < place k row → is_done (t k) ≡ false)
        → (a : ℕ) → total o row t m a + o.work a (entry row (m + 1)) + o.output a (entry row (m + 1)) ≡ standing n par row (o.work a) (o.output a) (m + 1)
    total_stands tree l h done others a = omega (arith, sum_eq (takes o row t m a) left n step)
      where
        left : ℕ → ℕ
        left k = only (ltb (place k row) (m + 1) && not (ltb (place (par k) row) (m + 1))) (o.output a k)

        -- job k is done just if it is booked
        told : (k : ℕ) → In n k → is_done (t k) ≡ leb (place k row) m
        told k i = let x = done k i in let y = others k i in grind (arith, nat_tests)

        -- 0, the parent of the root, stands nowhere
        nowhere : place 0 row ≤ m → ⊥
        nowhere b = omega (arith, place_entry 0 row (omega (arith, l.size)), l.jobs (place 0 row) (omega (arith, place_low 0 row)))

        step : (k : ℕ) → In n k → takes o row t m a k ≡ left k
        step k i = let v = nowhere in let x = told k i in let y = tree.parents k i in let z = told (par k) in grind (arith, nat_tests)
