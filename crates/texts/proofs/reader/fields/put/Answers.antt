use Rattle.std.proofs.Common.{◌-◌, [], ◌∷◌, ◌++◌, ap, ◌∙◌}
use Rattle.std.proofs.lemmas.Option.{MatchOption-at_some}
use Rattle.texts.specs.Records.{front}
use Rattle.texts.proofs.Axes.{front_more}
use Rattle.texts.proofs.reader.fields.put.Goals as goal

pub returns : goal.returns
returns g c =
    let read = g.K.Amount.reading in
    let a = c.args.axis in
    let s = MatchOption-at_some _ _ c.unwrap.result c.unwrap.ensures c.with_axis.ensures in
    front_more read c.args.amount c.unwrap.result a c.from.result c.requires.0 s.2 ∙ ap (λ v. front read (a - 1) c.args.amount ++ (v ∷ [])) c.from.ensures
