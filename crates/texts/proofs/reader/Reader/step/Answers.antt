use Rattle.std.proofs.Common.{◌+◌, ap, sym, ◌∙◌, arith}
use Rattle.texts.proofs.Places.{line_on, line_next, column_on, column_next, line_small, column_small}
use Rattle.texts.proofs.reader.Reader.step.Goals as goal

pub overflow_add-self-else-passed-eq10 : goal.overflow_add-self-else-passed-eq10
overflow_add-self-else-passed-eq10 g c =
    let r = c.args.self.now in
    omega (arith, column_small r.bytes.now r.pos r.within, r.columned, r.within, r.short)

pub overflow_add-self-then-passed-eq10 : goal.overflow_add-self-then-passed-eq10
overflow_add-self-then-passed-eq10 g c =
    let r = c.args.self.now in
    omega (arith, line_small r.bytes.now r.pos r.within, r.lined, r.within, r.short)

pub invariant_of-self : goal.invariant_of-self
invariant_of-self g c =
    let r = c.args.self.now in
    let here = r.bytes.now in
    let is = c.if-passed-eq10.true in
    record {
      narrow = r.narrow;
      short = r.short;
      within = omega (arith, c.requires);
      lined = ap (λ n. n + 1) r.lined ∙ sym (line_next here r.pos c.requires is);
      columned = sym (column_next here r.pos c.requires is);
    }

pub invariant_of-self-else-passed-eq10 : goal.invariant_of-self-else-passed-eq10
invariant_of-self-else-passed-eq10 g c =
    let r = c.args.self.now in
    let here = r.bytes.now in
    let other = c.if-passed-eq10.false in
    record {
      narrow = r.narrow;
      short = r.short;
      within = omega (arith, c.requires);
      lined = r.lined ∙ sym (line_on here r.pos c.requires other);
      columned = ap (λ n. n + 1) r.columned ∙ sym (column_on here r.pos c.requires other);
    }
