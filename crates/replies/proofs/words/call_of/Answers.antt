use Rattle.std.proofs.Common.{Some, None, codes}
use Rattle.std.proofs.lemmas.Slice.Eq.{strip_prefix_is}
use Rattle.logs.specs.declared.call.Call.TheVariants.{Start, Report, Ask}
use Rattle.replies.specs.Words.LineOf.{start, report, ask}
use Rattle.replies.proofs.Calls.{no_word, good}
use Rattle.replies.proofs.words.call_of.Goals as goal
use Rattle.std.proofs.lemmas.Bool.Decides.{Decides-eqb}

pub returns-in_ok-number_of : goal.returns-in_ok-number_of
returns-in_ok-number_of c =
    let is = strip_prefix_is Decides-eqb c.args.line.now (codes "start ") (Some c.in-Some.digits) c.in-Some.ensures.cases in
    good _ (codes "start ") Start start _ _ c.in_ok-number_of.ensures is

pub returns-in_ok-number_of-2 : goal.returns-in_ok-number_of-2
returns-in_ok-number_of-2 c =
    let is = strip_prefix_is Decides-eqb c.args.line.now (codes "report ") (Some c.in-Some-strip_prefix.digits) c.in-Some-strip_prefix.ensures.cases in
    good _ (codes "report ") Report report _ _ c.in_ok-number_of-2.ensures is

pub returns-in_ok-number_of-3 : goal.returns-in_ok-number_of-3
returns-in_ok-number_of-3 c =
    let is = strip_prefix_is Decides-eqb c.args.line.now (codes "ask ") (Some c.in-Some-strip_prefix-2.digits) c.in-Some-strip_prefix-2.ensures.cases in
    good _ (codes "ask ") Ask ask _ _ c.in_ok-number_of-3.ensures is

pub returns-in_default-strip_prefix-2 : goal.returns-in_default-strip_prefix-2
returns-in_default-strip_prefix-2 c =
    let line = c.args.line.now in
    let s = strip_prefix_is Decides-eqb line (codes "start ") None c.in_default.ensures.cases in
    let r = strip_prefix_is Decides-eqb line (codes "report ") None c.in_default-strip_prefix.ensures.cases in
    let a = strip_prefix_is Decides-eqb line (codes "ask ") None c.in_default-strip_prefix-2.ensures.cases in
    no_word line s r a
