use Rattle.std.proofs.Common.{◌≡◌, ◌<◌, map, length, take, sym, ap, ◌∙◌, subst, inl, inr, arith, rules}
use Rattle.std.specs.List.{AllByRecursion}
use Rattle.std.proofs.ByRecursion.{All-push}
use Rattle.std.proofs.lemmas.Bool.{cases_lt}
use Rattle.std.proofs.lemmas.List.{length-map, length-take-le, take_all, take_more_set, map_push}
use Rattle.prints.specs.Answers.{Roomy, Counted, Good}
use Rattle.prints.proofs.Ends.{one_count}
use Rattle.texts.specs.Records.{line_of, run_of, Fresh}
use Rattle.texts.proofs.Through.{Past, past_heading, heading_reads, past_line, line_reads, past_all, past_last}
use Rattle.texts.proofs.Filled.{part_size, filled, filled_size, others_kept}
use Rattle.texts.proofs.reader.Reader.fill.Given as given
use Rattle.texts.proofs.reader.Reader.fill.Goals as goal
use Rattle.texts.proofs.reader.Reader.fill.Goals.{In-loop-record}

pub unwrap-heading-requires : goal.unwrap-heading-requires
unwrap-heading-requires g c =
    let q = c.requires.good in
    heading_reads c.args.self c.requires.start c.heading.new.self _ c.heading.result (q.run, q.held, q.whole) c.heading.ensures.reads

pub loop-record-init : goal.loop-record-init
loop-record-init g c =
    let e = c.heading.ensures in
    let is = c.unwrap-heading.ensures in
    record { past = past_heading c.args.self c.requires.start c.heading.new.self _ (rw is at e.reads) (rw is at e.held); fresh = tt }

-- there is another line: the lines so far are fewer than those of the whole text
goes : (g : given.Over) (c : In-loop-record g) → c.loop-record.self.pos < length c.loop-record.self.bytes.now
goes g c = elim (cases_lt c.loop-record.self.pos (length c.loop-record.self.bytes.now)) [
  | inl lt ↦ lt
  | inr le ↦
      let i = c.loop-record.invariant.past in
      let f = line_of g.K.Amount.reading g.K.Amount.width in
      let js = take c.loop-record.record-index c.loop-record.record-items in
      let part = part_size c.args.records.now c.args.jobs (omega (arith, c.requires.room.2)) in
      let few = length-map js f ∙ length-take-le c.loop-record.record-index c.loop-record.record-items (omega (arith, c.loop-record-test.true, c.loop-record.auto.record-items)) in
      let all = one_count _ i.held.rule (past_all c.args.self c.loop-record.self i le) c.requires.good in
      absurd (omega (arith, part, few, all, c.loop-record-test.true))
]

pub unwrap-requires : goal.unwrap-requires
unwrap-requires g c =
    let q = c.requires.good in
    line_reads c.args.self c.loop-record.self c.loop-record.invariant.past (goes g (goal.at.unwrap-requires g c).In-loop-record) c.job.new.self _ c.job.result (q.run, q.held, q.whole) c.job.ensures.reads

pub loop-record-preserved : goal.loop-record-preserved
loop-record-preserved g c =
    let w = g.K.Amount.width in
    let read = g.K.Amount.reading in
    let i = c.loop-record.invariant in
    let e = c.job.ensures in
    let is = c.unwrap.ensures in
    let js = take c.loop-record.record-index c.loop-record.record-items in
    let j = c.unwrap.result in
    let more = take_more_set c.loop-record.record-items c.loop-record.record-index j (omega (arith, c.loop-record-test.true, c.loop-record.auto.record-index-end)) in
    let on = past_line c.args.self c.loop-record.self i.past (goes g (goal.at.loop-record-preserved g c).In-loop-record) c.job.new.self (line_of read w j) (rw is at e.reads) (rw is at e.held) in
    record {
      past = subst (λ ls. Past c.args.self c.job.new.self (run_of read w c.unwrap-heading.result ls)) (sym (ap (map (line_of read w)) more ∙ map_push (line_of read w) js j)) on;
      fresh = subst (AllByRecursion (Fresh read)) (sym more) (All-push (Fresh read) js j i.fresh (rw is at e.fresh));
    }

pub returns : goal.returns
returns g c =
    let w = g.K.Amount.width in
    let read = g.K.Amount.reading in
    let old = c.args.records.now in
    let items = c.loop-record.record-items in
    let n = c.args.jobs in
    let room = c.requires.room in
    let part = part_size old n (omega (arith, room.2)) in
    let size : length items ≡ n = omega (arith, c.loop-record.auto.record-items, part) in
    let all = take_all c.loop-record.record-index items (omega (arith, c.loop-record-test.false, part, size)) in
    let past = subst (λ js. Past c.args.self c.loop-record.self (run_of read w c.unwrap-heading.result (map (line_of read w) js))) all c.loop-record.invariant.past in
    let count = length-map items (line_of read w) ∙ size in
    let whole = past_last c.args.self c.loop-record.self past (subst (Counted w c.args.self.bytes.now) (sym count) c.requires.good) in
    let now = filled old items n size (omega (arith, room.2)) in
    record {
      size = filled_size old items n size (omega (arith, room.2));
      room = omega (arith, room.2, filled_size old items n size (omega (arith, room.2)));
      good = subst (λ js. Good w c.args.self.bytes.now (length old) (run_of read w c.unwrap-heading.result (map (line_of read w) js))) (sym now) (record { axes = c.args.self.narrow; size = c.args.self.short; held = past.held; whole = whole; jobs = subst (Roomy (length old)) (sym count) room });
      fresh = subst (AllByRecursion (Fresh read)) (all ∙ sym now) c.loop-record.invariant.fresh;
      kept = others_kept old items n size (omega (arith, room.2));
    }

pub offset_bounds-1 : goal.offset_bounds-1
offset_bounds-1 g c =
    let h : 1 < length c.args.records.now = omega (arith, c.requires.room) in
    search rules

pub offset_bounds-record-items-record-index : goal.offset_bounds-record-items-record-index
offset_bounds-record-items-record-index g c =
    let part = part_size c.args.records.now c.args.jobs (omega (arith, c.requires.room.2)) in
    let h : c.loop-record.record-index < length c.args.records.now = omega (arith, part, c.requires.room.2, c.loop-record-test.true) in
    search rules
