use Rattle.std.proofs.Common.{◌≡◌, ◌<◌, ◌⊎◌, sym, subst, inl, inr, arith}
use Rattle.std.proofs.lemmas.Result.{err_from_is_err_and}
use Rattle.refusals.specs.Judged.{First}
use Rattle.refusals.specs.declared.Refusal.TheVariants.{JobCount}
use Rattle.trees.specs.Found.{jobs_in, par_in}
use Rattle.trees.specs.Faults.{ParentFault}
use Rattle.trees.proofs.Firsts.{first_count, first_missing, first_rootless, first_second, first_unreached}
use Rattle.trees.proofs.parents.check_parents.Goals as goal

pub returns-then-jobs-eq0 : goal.returns-then-jobs-eq0
returns-then-jobs-eq0 c =
    let row = c.args.parents.now in
    let wrong : (jobs_in row ≡ 0) ⊎ (4095 < jobs_in row) = grind (arith, c.then-jobs-eq0.either) in
    subst (λ n. First (ParentFault (jobs_in row) (par_in row)) (JobCount n)) (sym c.saturating_sub-jobs.ensures)
    (first_count (jobs_in row) (par_in row) wrong)

pub returns-in-Some : goal.returns-in-Some
returns-in-Some c =
    let row = c.args.parents.now in
    let found = c.in-Some.ensures in
    first_missing (jobs_in row) (par_in row) (omega arith, omega arith) c.in-Some.job found.2 found.0 found.1

pub returns-in_err-one_root : goal.returns-in_err-one_root
returns-in_err-one_root c =
    let row = c.args.parents.now in
    let p = err_from_is_err_and c.from_residual.result c.from_residual.ensures.1 in
    rw (p.1, p.2) (elim c.in_err-one_root.ensures [
      | inl none ↦ rw none.0 (first_rootless (jobs_in row) (par_in row) (omega arith, omega arith) c.in_default.ensures none.1)
      | inr two ↦ rw two.2 (first_second (jobs_in row) (par_in row) (omega arith, omega arith) c.in_default.ensures two.0 two.1 two.3)
    ])

pub returns-in-Some-lowest_unreached : goal.returns-in-Some-lowest_unreached
returns-in-Some-lowest_unreached c =
    let row = c.args.parents.now in
    let found = c.in-Some-lowest_unreached.ensures in
    first_unreached (jobs_in row) (par_in row) (omega arith, omega arith) c.in_default.ensures c.in_ok-one_root.ensures
    c.in-Some-lowest_unreached.job found.2 found.0 found.1
