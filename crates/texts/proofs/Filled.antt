-- The records from 1 on are written.
use Rattle.std.proofs.Common.{◌≡◌, ℕ, ◌+◌, ◌-◌, ◌<◌, ◌⊎◌, List, length, get_or, take, drop, sym, ap, ◌∙◌, inl, inr, arith}
use Rattle.std.proofs.lemmas.List.{places, length-take-le, length-drop}
use Rattle.std.proofs.lemmas.Slice.{between-put_mid}
use borrow.Rule.Slice.PartMut.{put_mid}

back : (n : ℕ) → n + 1 - 1 ≡ n
back n = omega arith

-- how many they are
pub part_size : {X : Type 0} (xs : List X) (n : ℕ) → n < length xs → length (take (n + 1 - 1) (drop 1 xs)) ≡ n
part_size xs n lt = omega (arith, length-take-le (n + 1 - 1) (drop 1 xs), length-drop 1 xs)

module _ {X : Type 0} (xs ys : List X) (n : ℕ) (size : length ys ≡ n) (room : n < length xs) where
  pub filled_size : length (put_mid 1 (n + 1 - 1) xs ys) ≡ length xs
  filled_size = grind (arith, places)

  pub filled : take n (drop 1 (put_mid 1 (n + 1 - 1) xs ys)) ≡ ys
  filled = ap (λ i. take i (drop 1 (put_mid 1 (n + 1 - 1) xs ys))) (sym (back n)) ∙ between-put_mid 1 (n + 1 - 1) xs ys (n + 1) (omega arith) (omega arith)

  pub others_kept : (k : ℕ) (d : X) → (k ≡ 0) ⊎ (n < k) → get_or (put_mid 1 (n + 1 - 1) xs ys) k d ≡ get_or xs k d
  others_kept k d (inl z) = grind (arith, places)
  others_kept k d (inr lt) = grind (arith, places)
