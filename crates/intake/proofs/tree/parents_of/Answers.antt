use Rattle.std.proofs.Common.{◌≡◌, ℕ, ◌+◌, ◌<◌, ◌≤◌, List, length, take, replicate, Result, Ok, Err, ◌∙◌, inl, inr, arith}
use Rattle.refusals.specs.Judged.{First, Judged}
use Rattle.refusals.specs.declared.Refusal.{Refusal}
use Rattle.trees.specs.Found.{jobs_in, par_in, TreeRow}
use Rattle.trees.specs.Sums.{In}
use Rattle.trees.specs.Trees.{Tree}
use Rattle.trees.specs.Faults.{ParentFault}
use Rattle.trees.proofs.Cells.{front, front_blank}
use Rattle.jobs.specs.declared.Job.{Job}
use Rattle.intake.specs.Faults.{TreeFault, Above, parent_row}
use Rattle.intake.specs.Taken.{Sound}
use Rattle.intake.proofs.Rows.{by_row}
use Rattle.intake.proofs.Firsts.{first_count, first_axes, first_bound, first_parents, no_fault}
use Rattle.intake.proofs.tree.parents_of.Goals as goal

pub returns-then-n-eq0 : goal.returns-then-n-eq0
returns-then-n-eq0 g c =
    let n = c.args.n in
    let jobs = c.args.jobs.now in
    first_count g.K.Amount.width g.K.Amount.reading jobs n (elim c.then-n-eq0.either [
      | inl none ↦ inl none
      | inr r ↦ inr (elim r [ inl many ↦ inl many.1 | inr short ↦ inr short.2 ])
    ])

pub returns-then-count-gt-MOST_AXES : goal.returns-then-count-gt-MOST_AXES
returns-then-count-gt-MOST_AXES g c =
    first_axes g.K.Amount.width g.K.Amount.reading c.args.jobs.now c.args.n (omega arith) (omega arith) (omega arith) (omega (arith, c.count.ensures))

pub returns-in-Some : goal.returns-in-Some
returns-in-Some g c =
    let found = c.in-Some.ensures in
    first_bound g.K.Amount.width g.K.Amount.reading c.args.jobs.now c.args.n (omega arith) (omega arith) (omega arith) (omega (arith, c.count.ensures))
    c.in-Some.job found.2 found.0 found.1

-- what the check of the parents says of the records
settled : {S : Type 0} (w : ℕ) (read : S → ℕ → ℕ) (xs : List (Job S)) (n : ℕ) → 1 ≤ n → n ≤ 4095 → n < length xs → w ≤ 64 → ((k : ℕ) → In n k → Above w read xs k → ⊥)
    → (row : List ℕ) → row ≡ parent_row xs n → (r : Result (List ℕ) Refusal)
    → Judged (ParentFault (jobs_in row) (par_in row)) (λ t. (t ≡ row) × TreeRow row) r
    → Judged (TreeFault w read xs n) (λ t. Sound w read xs n × (t ≡ parent_row xs n)) r
settled w read xs n some few room narrow held row e (Ok t) (none, is) = (
  no_fault w read xs n some few room narrow held (by_row xs n room (λ m par. (d : Refusal) → ParentFault m par d → ⊥) row e none),
  (record { some = some; few = few; records = room; axes = narrow; bounds = held; tree = by_row xs n room Tree row e is.1.tree }, is.0 ∙ e),
)
settled w read xs n some few room narrow held row e (Err d) first =
    first_parents w read xs n some few room narrow held d (by_row xs n room (λ m par. First (ParentFault m par) d) row e first)

pub returns : goal.returns
returns g c =
    let blank : length {A = ℕ} (take (c.args.n + 1) (replicate 4096 0)) ≡ c.args.n + 1 = front_blank (c.args.n + 1) 4096 (omega arith) in
    let size : length c.copy_parents.new.row ≡ c.args.n + 1 = c.copy_parents.auto.row ∙ blank in
    let row : c.copy_parents.new.row ≡ parent_row c.args.jobs.now c.args.n = rw blank at c.copy_parents.ensures in
    settled g.K.Amount.width g.K.Amount.reading c.args.jobs.now c.args.n (omega arith) (omega arith) (omega arith) (omega (arith, c.count.ensures)) c.in_default.ensures
    _ (front (c.args.n + 1) c.copy_parents.new.row _ size ∙ row) c.of.result c.of.ensures
