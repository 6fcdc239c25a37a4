use Rattle.std.proofs.Common.{inl, inr, arith}
use Rattle.refusals.specs.Judged.{OrderDecides}
use Rattle.refusals.proofs.order_decides.Goals as goal

decides : OrderDecides
decides a b (inl p) (inl q) = absurd (omega arith)
decides a b (inl p) (inr q) = absurd (omega arith)
decides a b (inr p) (inl q) = absurd (omega arith)
decides a b (inr p) (inr q) = (p.0, omega arith)

pub returns : goal.returns
returns c = decides
