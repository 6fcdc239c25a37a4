use Rattle.std.proofs.Common.{◌≡◌, ◌+◌, ◌-◌, subst, arith}
use Rattle.trees.specs.Sums.{In}
use Rattle.trees.specs.Found.{jobs_in, par_in}
use Rattle.trees.proofs.Links.{Linked, unlinked, linked_more, linked_all}
use Rattle.trees.proofs.chains.link.Goals as goal

pub loop-job-preserved : goal.loop-job-preserved
loop-job-preserved c =
    let parents = c.args.parents.now in
    let job = c.loop-job.job in
    let back : job ≡ job - 1 + 1 = omega arith in
    let here : In (jobs_in parents) (job - 1) = (omega arith, omega arith) in
    let inside = c.requires.tree.tree.parents (job - 1) here in
    linked_more (jobs_in parents) (par_in parents) c.loop-job.first c.loop-job.next (job - 1) here inside (omega arith) (omega arith)
    (subst (Linked (jobs_in parents) (par_in parents) c.loop-job.first c.loop-job.next) back c.loop-job.invariant)

pub loop-job-init : goal.loop-job-init
loop-job-init c =
    let parents = c.args.parents.now in
    unlinked (jobs_in parents) (par_in parents) c.args.first.now c.args.next.now c.requires.clear _ (omega arith)

pub returns : goal.returns
returns c =
    let parents = c.args.parents.now in
    linked_all (jobs_in parents) (par_in parents) c.loop-job.first c.loop-job.next c.loop-job.job c.loop-job-test.false c.loop-job.invariant
