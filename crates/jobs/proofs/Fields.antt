-- A field of a row's records, read and after a write.
use Rattle.std.proofs.Common.{◌≡◌, ℕ, ◌<◌, List, map, length, get_or, set, sym, ap, ◌∙◌, arith}
use Rattle.std.proofs.lemmas.List.{map-set, set-get_or, get_or-map, get_or-set_same, get_or-set_other, length-map}
use Rattle.jobs.specs.Fields.{at}

-- an element is written over by one that h does not tell from it
pub map_kept : {X Y : Type 0} (h : X → Y) (xs : List X) (i : ℕ) (x y : X) → i < length xs → x ≡ get_or xs i x → h y ≡ h x → map h (set xs i y) ≡ map h xs
map_kept h xs i x y inside read same =
    let was : h y ≡ get_or (map h xs) i (h x) = same ∙ ap h read ∙ sym (get_or-map h xs i x (h x) inside) in
    map-set h xs i y ∙ ap (set (map h xs) i) was ∙ set-get_or (map h xs) i (h x)

module _ {X : Type 0} (f : X → ℕ) (xs : List X) (i : ℕ) where
  pub at_place : (d : X) → i < length xs → at f xs i ≡ f (get_or xs i d)
  at_place d inside = get_or-map f xs i d 0 inside

  pub at_read : (x : X) → i < length xs → x ≡ get_or xs i x → at f xs i ≡ f x
  at_read x inside read = at_place x inside ∙ ap f (sym read)

  pub at_same : (y : X) → i < length xs → at f (set xs i y) i ≡ f y
  at_same y inside =
      let wide : i < length (map f xs) = omega (arith, length-map xs f) in
      ap (λ l. get_or l i 0) (map-set f xs i y) ∙ get_or-set_same (map f xs) i (f y) 0 wide

  pub at_other : (y : X) (k : ℕ) → (k ≡ i → ⊥) → at f (set xs i y) k ≡ at f xs k
  at_other y k other = ap (λ l. get_or l k 0) (map-set f xs i y) ∙ get_or-set_other (map f xs) i k (f y) 0 other
