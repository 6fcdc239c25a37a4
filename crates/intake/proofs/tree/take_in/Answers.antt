use Rattle.std.proofs.Common.{get_or, refl}
use Rattle.std.proofs.lemmas.Result.{err_from_is_err_and}
use Rattle.trees.specs.Trees.{ChainedTree}
use Rattle.intake.proofs.Rows.{by_row}
use Rattle.intake.proofs.Rechaining.{taken}
use Rattle.intake.proofs.tree.take_in.Goals as goal

pub returns-in_err-parents : goal.returns-in_err-parents
returns-in_err-parents g c =
    let p = err_from_is_err_and c.from_residual.result c.from_residual.ensures.1 in
    record { told = rw (p.1, p.2) c.in_err-parents.ensures; same = rw p.1 refl }

pub returns : goal.returns
returns g c =
    let jobs = c.args.jobs.now in
    let n = c.args.n in
    let good = c.in_ok-parents.ensures in
    let chains = c.chains.result in
    let chained = by_row jobs n good.1.0.records (λ m par. ChainedTree m par (λ k. get_or chains.first k 0) (λ k. get_or chains.next k 0)) c.in_ok-parents.parents good.1.1 c.chains.ensures in
    record {
      told = (good.0, (good.1.0, taken (λ k. get_or chains.first k 0) (λ k. get_or chains.next k 0) jobs c.set_chains.new.jobs n chained.chains.chained c.set_chains.ensures));
      same = tt;
    }
