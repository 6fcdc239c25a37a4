-- The refusals of trees have lower numbers than those of lines.
use Rattle.std.proofs.Common.{ℕ, ◌<◌, ◌≤◌, List, lit<, lit≤}
use Rattle.refusals.specs.Told.{told}
use Rattle.refusals.specs.declared.Refusal.{Refusal}
use Rattle.trees.specs.Faults.{ParentFault, RowFault}
use Rattle.trees.specs.Faults.ParentFault.{count, missing, rootless, second, unreached}
use Rattle.trees.specs.Faults.RowFault.{unfit, longer, early}

pub tree_number : {n : ℕ} {par : ℕ → ℕ} {e : Refusal} → ParentFault n par e → (told e).number < 9
tree_number (count h) = lit< tt
tree_number (missing i a b) = lit< tt
tree_number (rootless h) = lit< tt
tree_number (second i j a b c e f) = lit< tt
tree_number (unreached i a b) = lit< tt

pub row_number : {n : ℕ} {par : ℕ → ℕ} {row : List ℕ} {e : Refusal} → RowFault n par row e → 9 ≤ (told e).number
row_number (unfit p i h) = lit≤ tt
row_number (longer h) = lit≤ tt
row_number (early p c i j a b) = lit≤ tt
