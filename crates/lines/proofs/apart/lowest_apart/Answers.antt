use Rattle.std.proofs.Common.{◌≡◌, ℕ, ◌<◌, ◌≤◌, length, take, replicate, ◌∙◌, sym, subst, arith, length-take, rules}
use Rattle.std.proofs.lemmas.List.{length-replicate}
use Rattle.trees.specs.Found.{jobs_in, par_in}
use Rattle.lines.specs.declared.apart.Span.{Span}
use Rattle.lines.proofs.Refused.{line_few}
use Rattle.lines.proofs.Gathered.{members_most}
use Rattle.lines.proofs.Spans.{begins_most, found_apart}
use Rattle.lines.proofs.apart.lowest_apart.Goals as goal

abbrev none : Span
none = record { size = 0; low = 0 }

-- the front of the blank spans is as long as it is taken
blank : (n : ℕ) → n ≤ 4096 → length (take n (replicate 4096 none)) ≡ n
blank n h = omega (arith, length-take n (replicate 4096 none), length-replicate 4096 none)

-- and no longer than a whole row
short : (n m : ℕ) → n ≤ 4096 → m ≡ 4096 → length (take n (replicate 4096 none)) ≤ m
short n m h e = omega (arith, blank n h)

pub slice_bounds-cells-end : goal.slice_bounds-cells-end
slice_bounds-cells-end c = omega (arith, line_few _ _ _ c.in_ok-places.ensures.0)

pub slice_bounds-spans-end : goal.slice_bounds-spans-end
slice_bounds-spans-end c = sym (blank (length c.args.parents.now) (omega (arith, line_few _ _ _ c.in_ok-places.ensures.0)))

pub set_alone-requires : goal.set_alone-requires
set_alone-requires c =
    let few = line_few _ _ _ c.in_ok-places.ensures.0 in
    short (length c.args.parents.now) (length c.in_ok-places.places) (omega (arith, few)) (omega arith)

pub gather-requires : goal.gather-requires
gather-requires c =
    let h = c.in_ok-places.ensures in
    let few = line_few _ _ _ h.0 in
    let some = h.1.tree.top_in in
    let first = blank (length c.args.parents.now) (omega (arith, few)) in
    let size : length c.set_alone.new.spans ≡ length c.args.parents.now = c.set_alone.auto.spans ∙ first in
    record {
      tree = record { some = omega (arith, some); few = few; tree = h.1.tree };
      line = h.1.line;
      long = omega (arith, size, some);
      alone = λ k i. (c.set_alone.ensures k (subst (λ m. k < m) (sym first) (omega (arith, some, i)))).0;
      placed = λ k i. (c.set_alone.ensures k (subst (λ m. k < m) (sym first) (omega (arith, some, i)))).1 ∙ h.1.placed k i;
    }

pub first_apart-requires : goal.first_apart-requires
first_apart-requires c =
    let h = c.in_ok-places.ensures in
    let few = line_few _ _ _ h.0 in
    let size : length c.gather.new.spans ≡ length c.args.parents.now = c.gather.auto.spans ∙ c.set_alone.auto.spans ∙ blank (length c.args.parents.now) (omega (arith, few)) in
    record {
      long = (search rules, omega (arith, size));
      few = λ k i. (omega (arith, h.1.placed k i, h.1.line.all k i), omega (arith, c.gather.ensures.sizes k i, members_most (jobs_in c.args.parents.now) (par_in c.args.parents.now) k), omega (arith, begins_most _ _ _ h.1.tree h.1.line k _ (c.gather.ensures.lows k i)));
    }

pub returns : goal.returns
returns c =
    let h = c.in_ok-places.ensures in
    (h.0, found_apart _ _ _ h.1.tree h.1.line _ _ _ c.gather.ensures.sizes c.gather.ensures.lows h.1.placed c.first_apart.result c.first_apart.ensures)
