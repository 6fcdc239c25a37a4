use Rattle.std.proofs.Common.{ℕ, ◌-◌, List, take, sym, subst}
use native.Mathlib.Nat.{sub-zero}
use Rattle.std.proofs.lemmas.Result.{err_from_is_err_and}
use Rattle.std.proofs.lemmas.Option.{MatchOption-at_some, MatchOption-at_none}
use Rattle.trees.specs.Lines.{Plain}
use Rattle.intake.specs.Faults.{par_of}
use Rattle.checks.proofs.Faultless.{run_faultless}
use Rattle.checks.proofs.Firsts.{first_tree, first_hall, first_exceeded, peak_told}
use Rattle.checks.proofs.carry.carried.Goals as goal

-- the front of a row as it is lent to a call
lent_plain : (par : ℕ → ℕ) (n : ℕ) (cells : List ℕ) → Plain n par (take n cells) → Plain n par (take (n - 0) cells)
lent_plain par n cells p = subst (λ m. Plain n par (take m cells)) (sym (sub-zero n)) p

pub returns-in_err-line : goal.returns-in_err-line
returns-in_err-line g c =
    let p = err_from_is_err_and c.from_residual.result c.from_residual.ensures.1 in
    rw (p.1, p.2) (first_tree g.K.Amount.width g.K.Amount.reading c.args.jobs.now c.args.n c.args.benches c.args.floor.now c.in_err-line.field-0.0 c.in_err-line.ensures)

pub returns-in_err-check_hall : goal.returns-in_err-check_hall
returns-in_err-check_hall g c =
    let p = err_from_is_err_and c.from_residual-in_err-check_hall.result c.from_residual-in_err-check_hall.ensures.1 in
    rw (p.1, p.2) (first_hall g.K.Amount.width g.K.Amount.reading c.args.jobs.now c.args.n c.args.benches c.args.floor.now c.in_ok-line.ensures.1.0 c.in_err-check_hall.field-0.0 c.in_err-check_hall.ensures)

-- the line was made here
pub returns-in_err-position : goal.returns-in_err-position
returns-in_err-position g c =
    let good = c.in_ok-line.ensures.1 in
    let line = lent_plain (par_of c.args.jobs.now c.args.n) c.args.n c.in_ok-line.line good.1 in
    absurd (run_faultless good.0 line.postorder.line c.in_err-position.ensures.deserved)

pub returns-in-Some : goal.returns-in-Some
returns-in-Some g c =
    let good = c.in_ok-line.ensures.1 in
    let n = c.args.n in
    let line = lent_plain (par_of c.args.jobs.now n) n c.in_ok-line.line good.1 in
    let found = MatchOption-at_some _ _ c.in-Some.position c.in-Some.is c.in_ok-position.ensures.1 in
    first_exceeded g.K.Amount.width g.K.Amount.reading c.args.jobs.now n c.args.benches c.args.floor.now good.0 c.in_ok-check_hall.ensures.0 _ line c.in-Some.position found.2 found.0 found.1

pub returns : goal.returns
returns g c =
    let good = c.in_ok-line.ensures.1 in
    let n = c.args.n in
    let line = lent_plain (par_of c.args.jobs.now n) n c.in_ok-line.line good.1 in
    peak_told g.K.Amount.width g.K.Amount.reading c.args.jobs.now n c.args.benches c.args.floor.now good.0 c.in_ok-check_hall.ensures.0 _ line
    (MatchOption-at_none _ _ c.in_default.is c.in_ok-position.ensures.1) c.peak.result c.peak.ensures
