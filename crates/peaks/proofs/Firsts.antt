-- The first refusal of records with a row, from those of the records and of the row.
use Rattle.std.proofs.Common.{ℕ, ◌<◌, List, inl, arith, lit<}
use Rattle.refusals.specs.Told.{told}
use Rattle.refusals.specs.Judged.{First, NotAfter}
use Rattle.refusals.specs.declared.Refusal.{Refusal}
use Rattle.trees.proofs.Numbers.{tree_number, row_number}
use Rattle.lines.specs.Faults.{LineFault}
use Rattle.lines.specs.Faults.LineFault.{untreed as of_Tree, unlined as of_row}
use Rattle.jobs.specs.declared.Job.{Job}
use Rattle.intake.specs.Faults.{TreeFault, par_of}
use Rattle.intake.specs.Faults.TreeFault.{records, axes, bound, parents}
use Rattle.peaks.specs.Faults.{RunFault}
use Rattle.peaks.specs.Faults.RunFault.{untreed, unlined}

module _ {S : Type 0} (w : ℕ) (read : S → ℕ → ℕ) (xs : List (Job S)) (n : ℕ) (row : List ℕ) where
  pub number : {e : Refusal} → TreeFault w read xs n e → (told e).number < 9
  number (records h) = lit< tt
  number (axes h) = lit< tt
  number (bound i a b) = lit< tt
  number (parents p) = tree_number p

  after_tree : (e : Refusal) → First (TreeFault w read xs n) e → {d : Refusal} → RunFault w read xs n row d → NotAfter (told e) (told d)
  after_tree e f (untreed h) = f.first _ h
  after_tree e f (unlined h) = let a = number f.deserved in let b = row_number h in inl (omega arith)

  pub first_tree : (e : Refusal) → First (TreeFault w read xs n) e → First (RunFault w read xs n row) e
  first_tree e f = record { deserved = untreed f.deserved; first = λ d h. after_tree e f h }

  module _ (treed : (e : Refusal) → TreeFault w read xs n e → ⊥) where
    whole : {e : Refusal} → LineFault n (par_of xs n) row e → RunFault w read xs n row e
    whole (of_Tree h) = untreed (parents h)
    whole (of_row h) = unlined h

    after_line : (e : Refusal) → First (LineFault n (par_of xs n) row) e → {d : Refusal} → RunFault w read xs n row d → NotAfter (told e) (told d)
    after_line e f (untreed h) = absurd (treed _ h)
    after_line e f (unlined h) = f.first _ (of_row h)

    pub first_line : (e : Refusal) → First (LineFault n (par_of xs n) row) e → First (RunFault w read xs n row) e
    first_line e f = record { deserved = whole f.deserved; first = λ d h. after_line e f h }

    module _ (lineless : (e : Refusal) → LineFault n (par_of xs n) row e → ⊥) where
      pub no_fault : (e : Refusal) → RunFault w read xs n row e → ⊥
      no_fault e (untreed h) = treed e h
      no_fault e (unlined h) = lineless e (of_row h)
