use Rattle.std.proofs.Common.{◌≡◌, ℕ, ◌+◌, ◌-◌, ◌<◌, length, get_or, set, subst, arith, rules}
use Rattle.intake.specs.Taken.{linked, Rechained}
use Rattle.intake.proofs.Rechaining.{none_rechained, rechained_more}
use Rattle.intake.proofs.chain.set_chains.Goals as goal

pub offset_bounds-jobs-i : goal.offset_bounds-jobs-i
offset_bounds-jobs-i g c = let h : c.loop-i.i < length c.args.jobs.now = omega arith in search rules

pub offset_bounds-jobs-i-in-loop-i : goal.offset_bounds-jobs-i-in-loop-i
offset_bounds-jobs-i-in-loop-i g c = let h : c.loop-i.i < length c.args.jobs.now = omega arith in search rules

pub loop-i-init : goal.loop-i-init
loop-i-init g c =
    (omega arith, none_rechained (λ k. get_or c.args.chains.now.first k 0) (λ k. get_or c.args.chains.now.next k 0) c.args.jobs.now)

pub loop-i-preserved : goal.loop-i-preserved
loop-i-preserved g c =
    let first : ℕ → ℕ = λ k. get_or c.args.chains.now.first k 0 in
    let next : ℕ → ℕ = λ k. get_or c.args.chains.now.next k 0 in
    let i = c.loop-i.i in
    let job = c.index-jobs-i in
    let back : i ≡ i + 1 - 1 = omega arith in
    let more = rechained_more first next c.args.jobs.now c.loop-i.jobs i job.result c.loop-i.invariant.0 (omega arith) job.is c.loop-i.invariant.1 in
    (omega arith, subst (λ m. Rechained m first next c.args.jobs.now (set c.loop-i.jobs i (linked job.result (first i) (next i)))) back more)

pub returns : goal.returns
returns g c =
    let all : c.loop-i.i - 1 ≡ c.args.n = omega (arith, c.loop-i.auto.i-end (omega arith)) in
    subst (λ m. Rechained m (λ k. get_or c.args.chains.now.first k 0) (λ k. get_or c.args.chains.now.next k 0) c.args.jobs.now c.loop-i.jobs) all c.loop-i.invariant.1
