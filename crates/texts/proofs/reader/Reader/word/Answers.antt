use Rattle.std.proofs.Common.{◌+◌, [], ◌∷◌, map, get_or, take, drop, sym, subst}
use Rattle.std.proofs.lemmas.List.{take_more, take_all, drop_more, drop_all}
use Rattle.prints.specs.Parts.{byte}
use Rattle.texts.specs.Steps.{Any, Came}
use Rattle.texts.proofs.Chain.{came_start, came_on, stopped_on, failed}
use Rattle.texts.proofs.reader.Reader.word.Given as given
use Rattle.texts.proofs.reader.Reader.word.Goals as goal
use Rattle.texts.proofs.reader.Reader.word.Goals.{After-byte}

pub loop-b-init : goal.loop-b-init
loop-b-init g c = came_start Any c.args.self.now (map byte c.args.w.now)

-- the next byte, and the rest of the word
so : (g : given.Over) (c : After-byte g) → Came Any c.args.self.now c.loop-b.self (map byte c.args.w.now) (byte (get_or c.args.w.now c.loop-b.b-index 0) ∷ map byte (drop (c.loop-b.b-index + 1) c.args.w.now)) (take c.loop-b.b-index c.args.w.now)
so g c = subst (λ l. Came Any c.args.self.now c.loop-b.self (map byte c.args.w.now) (map byte l) (take c.loop-b.b-index c.args.w.now)) (drop_more c.args.w.now c.loop-b.b-index 0 c.loop-b-test.true) c.loop-b.invariant

pub returns-in_err-byte : goal.returns-in_err-byte
returns-in_err-byte g c =
    failed _ c.from_residual.result c.from_residual.ensures.1 (stopped_on (byte (get_or c.args.w.now c.loop-b.b-index 0) ∷ []) _ (so g (goal.at.returns-in_err-byte g c).After-byte) Any (λ k f. tt) c.in_err-byte.ensures)

pub loop-b-preserved : goal.loop-b-preserved
loop-b-preserved g c =
    let w = c.args.w.now in
    let n = c.loop-b.b-index in
    let s = came_on (byte (get_or w n 0) ∷ []) _ (so g (goal.at.loop-b-preserved g c).After-byte) Any (λ k f. tt) c.in_ok-byte.ensures in
    subst (λ l. Came Any c.args.self.now c.byte.new.self (map byte w) (map byte (drop (n + 1) w)) l) (sym (take_more w n 0 c.loop-b-test.true)) s

pub returns : goal.returns
returns g c =
    let w = c.args.w.now in
    let n = c.loop-b.b-index in
    let done = subst (λ l. Came Any c.args.self.now c.loop-b.self (map byte w) (map byte l) (take n w)) (drop_all n w c.loop-b-test.false) c.loop-b.invariant in
    subst (λ l. Came Any c.args.self.now c.loop-b.self (map byte w) [] l) (take_all n w c.loop-b-test.false) done
