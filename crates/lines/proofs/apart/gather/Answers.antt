use Rattle.std.proofs.Common.{◌≡◌, ℕ, ◌<◌, cond, eqb, length, get_or, sym, ap, ◌∙◌, arith}
use Rattle.lines.specs.declared.apart.Span.{Span}
use Rattle.lines.specs.Spans.{size_of, low_of}
use Rattle.trees.specs.Found.{jobs_in, par_in}
use Rattle.lines.proofs.Gathered.{gathered_none, gathered_all, gathered_most, job_in, field_put, sizes_more, lows_more, lows_begin, lows_end}
use Rattle.lines.proofs.apart.gather.Goals as goal

pub loop-entry-init : goal.loop-entry-init
loop-entry-init c = (
  (λ k h. c.requires.alone k h ∙ sym (gathered_none _ _ c.args.row.now c.requires.tree.tree c.requires.line k)),
  lows_begin _ _ c.args.row.now c.requires.tree.tree c.requires.line _ c.requires.placed,
)

pub bounds-parents-job : goal.bounds-parents-job
bounds-parents-job c = omega (arith, job_in _ _ c.args.row.now c.requires.tree.tree c.requires.line c.loop-entry.entry-index c.loop-entry-test.true)

pub bounds-spans-job : goal.bounds-spans-job
bounds-spans-job c = omega (arith, job_in _ _ c.args.row.now c.requires.tree.tree c.requires.line c.loop-entry.entry-index c.loop-entry-test.true)

pub bounds-spans-job-in-loop-entry : goal.bounds-spans-job-in-loop-entry
bounds-spans-job-in-loop-entry c = omega (arith, job_in _ _ c.args.row.now c.requires.tree.tree c.requires.line c.loop-entry.entry-index c.loop-entry-test.true)

pub bounds-spans-parent : goal.bounds-spans-parent
bounds-spans-parent c = omega (arith, c.requires.tree.tree.parents _ (job_in _ _ c.args.row.now c.requires.tree.tree c.requires.line c.loop-entry.entry-index c.loop-entry-test.true))

pub take_in-requires : goal.take_in-requires
take_in-requires c =
    let job = get_or c.args.row.now c.loop-entry.entry-index 0 in
    let i = job_in _ _ c.args.row.now c.requires.tree.tree c.requires.line c.loop-entry.entry-index c.loop-entry-test.true in
    let p = c.requires.tree.tree.parents _ i in
    let most = λ (k : ℕ). gathered_most (jobs_in c.args.parents.now) (par_in c.args.parents.now) c.args.row.now c.loop-entry.entry-index k c.requires.tree.few in
    omega (arith, most job, most (par_in c.args.parents.now job), c.loop-entry.invariant.0 job i.1, c.loop-entry.invariant.0 (par_in c.args.parents.now job) (omega arith), c.requires.tree.few)

pub loop-entry-preserved : goal.loop-entry-preserved
loop-entry-preserved c =
    let parent = par_in c.args.parents.now (get_or c.args.row.now c.loop-entry.entry-index 0) in
    let i = job_in _ _ c.args.row.now c.requires.tree.tree c.requires.line c.loop-entry.entry-index c.loop-entry-test.true in
    let p : parent < length c.loop-entry.spans = omega (arith, c.requires.tree.tree.parents _ i) in
    let put = λ (f : Span → ℕ) (k : ℕ). field_put f c.loop-entry.spans parent c.take_in.new.self k p in (
      sizes_more _ _ c.args.row.now c.requires.tree.tree c.requires.line c.loop-entry.entry-index c.loop-entry-test.true _ _ c.loop-entry.invariant.0 (λ k. put (λ s. s.size) k ∙ ap (λ v. cond (eqb k parent) v (size_of c.loop-entry.spans k)) c.take_in.ensures.0),
      lows_more _ _ c.args.row.now c.requires.tree.tree c.requires.line c.loop-entry.entry-index c.loop-entry-test.true _ _ c.loop-entry.invariant.1 (λ k. put (λ s. s.low) k ∙ ap (λ v. cond (eqb k parent) v (low_of c.loop-entry.spans k)) c.take_in.ensures.1),
    )

pub returns : goal.returns
returns c =
    let e : c.loop-entry.entry-index ≡ jobs_in c.args.parents.now = omega (arith, c.requires.line.size) in
    let i = rw e at c.loop-entry.invariant in
    record {
      sizes = λ k h. i.0 k h.1 ∙ gathered_all _ _ c.args.row.now c.requires.tree.tree c.requires.line k h;
      lows = lows_end _ _ c.args.row.now c.requires.tree.tree c.requires.line _ i.1;
    }
