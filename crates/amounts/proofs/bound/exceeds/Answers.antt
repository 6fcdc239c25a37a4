use Rattle.std.proofs.Common.{rules, tests, arith, ℕ, ◌≡◌, ◌+◌, ◌-◌, ◌<◌, ◌≤◌, min, MatchBool, Bool, true, false, length, get_or}
use Rattle.std.proofs.lemmas.Iterator.{YieldsList-from_range, cases_from_any}
use Rattle.std.proofs.lemmas.List.FromFn.{length-range_with_len, get_or-range_with_len}
use Rattle.std.specs.List.{range_with_len, AllWithin, HoldsAt}
use Rattle.amounts.specs.Axes.{Row, Exceeds as Above, Seen}
use Rattle.amounts.proofs.bound.exceeds.Goals as goal

module _ (w : ℕ) (x : Row) (bound : ℕ) where
  abbrev Yes : ℕ → Type 0
  Yes k = Seen w k × (bound < x k)

  abbrev No : ℕ → Type 0
  No k = Seen w k → x k ≤ bound

  -- the numbers from 1 to n are all that are seen
  among : (n : ℕ) → n ≡ min 65 w → (r : Bool)
      → MatchBool r ((i : ℕ) × (i < length (range_with_len 1 n)) × HoldsAt Yes (range_with_len 1 n) i) (AllWithin No (range_with_len 1 n) 0 (length (range_with_len 1 n)))
      → MatchBool r (Above w x bound) (Above w x bound → ⊥)
  among n e true (i, h, y) = (get_or (range_with_len 1 n) i 0, (y 0).0, (y 0).1)
  among n e false h = λ (k, seen, over).
      let here : k - 1 < n = omega (arith, e, seen) in
      let at : get_or (range_with_len 1 n) (k - 1) 0 ≡ k = grind (arith, get_or-range_with_len 1 n (k - 1) 0 here, seen) in
      let no : No (get_or (range_with_len 1 n) (k - 1) 0) = h (k - 1) 0 (omega arith) (omega (arith, here, length-range_with_len 1 n)) in
      omega (arith, (rw at at no) seen, over)

pub returns : goal.returns
returns g c =
    let w = g.K.Amount.width in
    let x = g.K.Amount.reading c.args.amount.now in
    among w x c.args.bound c.count.result c.count.ensures c.any.result
    (cases_from_any _ _ c.any.result (Yes w x c.args.bound) (No w x c.args.bound) c.any.ensures.ran
    (YieldsList-from_range 1 (c.count.result + 1) c.count.result (cc) (omega arith))
    (λ k q h. search (rules, tests)) (λ k q h. search (rules, tests)))
