use Rattle.std.proofs.Common.{◌≡◌, ◌+◌, ◌-◌, ◌<◌}
use Rattle.prints.specs.Decimal.{decimal}
use Rattle.texts.specs.Steps.{Moved}
use Rattle.texts.proofs.reader.Reader.digits.Given as goal

-- all the digits before the reader's place write the value
abbrev pub invariant-loop-value : goal.invariant-loop-value
invariant-loop-value g l = record {
  some : 0 < l.value;
  same : l.self.bytes ≡ l.fn.self.bytes;
  moved : Moved l.fn.self.bytes.now l.fn.self.pos l.self.pos (decimal l.value);
}

abbrev pub decreases-loop-value : goal.decreases-loop-value
decreases-loop-value g l = l.bound + 1 - l.value
