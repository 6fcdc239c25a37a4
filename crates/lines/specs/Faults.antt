-- What a tree handed in with a row, or with the memory for one, can be refused for.
use Rattle.std.specs.Prelude.{ℕ, ◌<◌, List}
use Rattle.refusals.specs.declared.Refusal.{Refusal}
use Rattle.refusals.specs.declared.Refusal.TheVariants.{LineMemory}
use Rattle.trees.specs.Faults.{ParentFault, RowFault}

-- no tree, or a row that is no line of it
pub data LineFault (n : ℕ) (par : ℕ → ℕ) (row : List ℕ) : Refusal → Type 0 where
  untreed : {e : Refusal} → ParentFault n par e → LineFault n par row e
  unlined : {e : Refusal} → RowFault n par row e → LineFault n par row e

-- no tree, or no room for all its jobs
pub data RoomFault (n : ℕ) (par : ℕ → ℕ) (room : ℕ) : Refusal → Type 0 where
  no_tree : {e : Refusal} → ParentFault n par e → RoomFault n par room e
  no_room : room < n → RoomFault n par room (LineMemory n)
