-- Plain lines of one tree.
use Rattle.std.specs.Prelude.{◌≡◌, ℕ, List}
use Rattle.trees.specs.Trees.{Tree}
use Rattle.trees.specs.Lines.{Plain}

-- any two of them are equal
abbrev pub OnePlain : Type 0
OnePlain = (n : ℕ) (par : ℕ → ℕ) (a b : List ℕ) → Tree n par → Plain n par a → Plain n par b → a ≡ b
