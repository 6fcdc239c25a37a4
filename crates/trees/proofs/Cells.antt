-- A row of which a part was lent or written.
use Rattle.std.proofs.Common.{◌≡◌, ℕ, ◌+◌, ◌-◌, ◌≤◌, List, ◌++◌, length, take, drop, replicate, ◌∙◌, refl, sym, ap, subst, arith, length-take}
use Rattle.std.proofs.lemmas.List.{take-append-le, take_all, drop-replicate, length-replicate, length-append}
use Rattle.trees.specs.Trees.{Tree}
use Rattle.trees.specs.Found.{jobs_in, par_in, laid}

-- the front of a row is what it was lent as
pub front : (n : ℕ) (xs ys : List ℕ) → length xs ≡ n → take n (xs ++ ys) ≡ xs
front n xs ys h = take-append-le n xs ys (omega arith) ∙ take_all n xs (omega arith)

-- the front of a blank row is as long as it is taken
pub front_blank : (n size : ℕ) → n ≤ size → length {A = ℕ} (take n (replicate size 0)) ≡ n
front_blank n size h = omega (arith, length-take {A = ℕ} n (replicate size 0), length-replicate {A = ℕ} size 0)

module _ (jobs : ℕ) (row new : List ℕ) (is : new ≡ row) (count : jobs ≡ jobs_in row) (some : 1 ≤ jobs) where
  abbrev cells : List ℕ
  cells = new ++ drop (length row) (replicate 4096 0)

  took : take (jobs + 1) cells ≡ row
  took = front (jobs + 1) new _ (omega (arith, ap length is, count, some)) ∙ is

  -- a row that was copied into blank cells
  pub copied : jobs ≤ 4095 → Tree (jobs_in row) (par_in row)
      → (1 ≤ jobs) × (jobs ≤ 4095) × (length cells ≡ 4096) × (cells ≡ laid (take (jobs + 1) cells)) × Tree jobs (par_in (take (jobs + 1) cells))
  copied few tree =
      let tail = drop-replicate {X = ℕ} (length row) 4096 0 in
      let whole : cells ≡ laid row = rw (is, tail) refl in
      let long : length (laid row) ≡ 4096 = omega (arith, length-append row (replicate (4096 - length row) 0), length-replicate {A = ℕ} (4096 - length row) 0, count) in
      (some, few, ap length whole ∙ long, whole ∙ sym (ap laid took), subst (λ r. Tree jobs (par_in r)) (sym took) (subst (λ n. Tree n (par_in row)) (sym count) tree))
