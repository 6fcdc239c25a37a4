-- The walk that writes the plain line.
use Rattle.std.specs.Prelude.{ℕ, ◌≢◌}
use Rattle.trees.specs.Trees.{NextChild}

-- r is where the plain line begins the subtree of j: j itself if it is a leaf, else where it begins the subtree of its lowest child
pub data Foremost (n : ℕ) (par : ℕ → ℕ) : ℕ → ℕ → Type 0 where
  alone : {j : ℕ} → NextChild n par j 0 0 → Foremost n par j j
  deeper : {j c r : ℕ} → NextChild n par j 0 c → (c ≢ 0) → Foremost n par c r → Foremost n par j r
