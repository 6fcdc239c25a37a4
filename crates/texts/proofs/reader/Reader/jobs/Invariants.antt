use Rattle.std.proofs.Common.{◌≡◌, ◌-◌, ◌≤◌, length}
use Rattle.prints.specs.Runs.{Run}
use Rattle.texts.proofs.Through.{Past}
use Rattle.texts.proofs.reader.Reader.jobs.Given as goal

-- the lines that are read are the heading and those of `count` jobs
abbrev pub invariant-loop-self : goal.invariant-loop-self
invariant-loop-self g l = record {
  few : l.count ≤ l.self.pos;
  run : Run;
  past : Past l.fn.self l.self run;
  jobs : length run.jobs ≡ l.count;
}

abbrev pub decreases-loop-self : goal.decreases-loop-self
decreases-loop-self g l = length l.fn.self.bytes.now - l.self.pos
