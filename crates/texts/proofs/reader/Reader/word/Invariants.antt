use Rattle.std.proofs.Common.{map, take, drop}
use Rattle.prints.specs.Parts.{byte}
use Rattle.texts.specs.Steps.{Any, Came}
use Rattle.texts.proofs.reader.Reader.word.Given as goal

-- the first bytes of the word are read
abbrev pub invariant-loop-b : goal.invariant-loop-b
invariant-loop-b g l = Came Any l.fn.self l.self (map byte l.w) (map byte (drop l.b-index l.w)) (take l.b-index l.w)
