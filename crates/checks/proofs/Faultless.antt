-- A tree is refused for nothing, and a line is no refused row.
use Rattle.std.proofs.Common.{◌≡◌, ℕ, ◌≤◌, List, ap, ◌∙◌, inl, inr, arith}
use Rattle.refusals.specs.declared.Refusal.{Refusal}
use Rattle.trees.specs.Lines.{place, Line}
use Rattle.trees.specs.Faults.{ParentFault, RowFault}
use Rattle.trees.specs.Faults.RowFault.{unfit, longer, early}
use Rattle.trees.proofs.Firsts.{tree_none}
use Rattle.trees.proofs.Places.{line_place}
use Rattle.lines.specs.Faults.{RoomFault}
use Rattle.lines.specs.Faults.RoomFault.{no_tree, no_room}
use Rattle.jobs.specs.declared.Job.{Job}
use Rattle.intake.specs.Faults.{TreeFault, par_of}
use Rattle.intake.specs.Faults.TreeFault.{records, axes, bound, parents}
use Rattle.intake.specs.Taken.{Sound}
use Rattle.peaks.specs.Faults.{RunFault}
use Rattle.peaks.specs.Faults.RunFault.{untreed, unlined}

module _ {S : Type 0} {w : ℕ} {read : S → ℕ → ℕ} {xs : List (Job S)} {n : ℕ} (s : Sound w read xs n) where
  parentless : {e : Refusal} → ParentFault n (par_of xs n) e → ⊥
  parentless p = tree_none n (par_of xs n) s.some s.few s.tree _ p

  pub sound_faultless : {e : Refusal} → TreeFault w read xs n e → ⊥
  sound_faultless (records h) = omega (arith, s.records)
  sound_faultless (axes h) = omega (arith, s.axes)
  sound_faultless (bound i a b) = s.bounds i a b
  sound_faultless (parents p) = parentless p

  pub room_faultless : (room : ℕ) → n ≤ room → {e : Refusal} → RoomFault n (par_of xs n) room e → ⊥
  room_faultless room h (no_tree p) = parentless p
  room_faultless room h (no_room p) = omega arith

  module _ {row : List ℕ} (l : Line n (par_of xs n) row) where
    line_faultless : {e : Refusal} → RowFault n (par_of xs n) row e → ⊥
    line_faultless (unfit p i (inl h)) = omega (arith, l.size, i)
    line_faultless (unfit p i (inr (inl h))) = h (l.jobs p i)
    line_faultless (unfit p i (inr (inr h))) = omega (arith, line_place n (par_of xs n) row l p i)
    line_faultless (longer h) = omega (arith, l.size)
    line_faultless (early p c i j e h) =
        let up : place (par_of xs n c) row ≡ p = ap (λ x. place x row) e ∙ line_place n (par_of xs n) row l p i in
        omega (arith, l.later c j, up)

    pub run_faultless : {e : Refusal} → RunFault w read xs n row e → ⊥
    run_faultless (untreed h) = sound_faultless h
    run_faultless (unlined h) = line_faultless h
