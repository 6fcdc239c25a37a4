use Rattle.std.proofs.Common.{◌<◌, length, rules, ◌≡◌, ℕ, ◌+◌, ◌-◌, get_or, set, subst, arith}
use Rattle.boards.proofs.Laying.{ready, Readied, readied_more, laid}
use Rattle.boards.proofs.lay.lay.Goals as goal

pub offset_bounds-jobs-i-in-loop-i : goal.offset_bounds-jobs-i-in-loop-i
offset_bounds-jobs-i-in-loop-i g c = let h : c.loop-i.i < length c.args.jobs.now = omega arith in search rules

pub loop-i-preserved : goal.loop-i-preserved
loop-i-preserved g c =
    let first : ℕ → ℕ = λ k. get_or c.args.survey.now.chains.first k 0 in
    let next : ℕ → ℕ = λ k. get_or c.args.survey.now.chains.next k 0 in
    let position : ℕ → ℕ = λ k. get_or c.args.survey.now.places k 0 in
    let i = c.loop-i.i in
    let job = c.index-jobs-i in
    let back : i ≡ i + 1 - 1 = omega arith in
    let more = readied_more first next position c.args.jobs.now c.loop-i.jobs i job.result c.loop-i.invariant.0 (omega arith) job.is c.loop-i.invariant.1 in
    (omega arith, subst (λ m. Readied m first next position c.args.jobs.now (set c.loop-i.jobs i (ready job.result (first i) (next i) (position i)))) back more)

pub returns : goal.returns
returns g c = λ row surveyed.
    let first : ℕ → ℕ = λ k. get_or c.args.survey.now.chains.first k 0 in
    let next : ℕ → ℕ = λ k. get_or c.args.survey.now.chains.next k 0 in
    let position : ℕ → ℕ = λ k. get_or c.args.survey.now.places k 0 in
    let jobs = c.args.jobs.now in
    let all : c.loop-i.i - 1 ≡ c.args.n = omega (arith, c.loop-i.auto.i-end (omega arith)) in
    let done = subst (λ m. Readied m first next position jobs c.loop-i.jobs) all c.loop-i.invariant.1 in
    laid first next position jobs c.loop-i.jobs c.args.n row surveyed.chained surveyed.placed done
