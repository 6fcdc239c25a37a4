use Rattle.std.proofs.Common.{refl, arith}
use Rattle.peaks.proofs.Passing.{left_first}
use Rattle.peaks.proofs.walk.Walk.of.Goals as goal

pub returns : goal.returns
returns g c =
    let good = c.in_ok-chains.ensures in (
      good.0,
      (
        record {
          sound = good.1.sound;
          lined = good.1.lined;
          chained = good.1.chained;
          begun = omega arith;
          within = omega arith;
          lefts = left_first g.K.Amount.reading c.args.jobs.now c.args.n c.args.line.now c.zero.result c.zero.ensures;
        },
        (refl, refl, refl),
        refl,
      ),
    )
