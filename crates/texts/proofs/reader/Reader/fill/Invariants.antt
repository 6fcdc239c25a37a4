use Rattle.std.proofs.Common.{map, take}
use Rattle.std.specs.List.{AllByRecursion}
use Rattle.texts.specs.Records.{line_of, run_of, Fresh}
use Rattle.texts.proofs.Through.{Past}
use Rattle.texts.proofs.reader.Reader.fill.Given as goal

-- the lines that are read are the heading and those of the records so far, which are fresh
abbrev pub invariant-loop-record : goal.invariant-loop-record
invariant-loop-record g l =
    let w = g.K.Amount.width in
    let read = g.K.Amount.reading in
    let js = take l.record-index l.record-items in
    record {
      past : Past l.fn.self l.self (run_of read w l.heading (map (line_of read w) js));
      fresh : AllByRecursion (Fresh read) js;
    }
