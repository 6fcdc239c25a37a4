use Rattle.std.proofs.Common.{ℕ, List, [], ◌∷◌, ◌++◌, codes, refl, append_assoc}
use Rattle.prints.specs.Decimal.{decimal}
use Rattle.prints.specs.Runs.{marked}
use Rattle.prints.specs.Parts.{Part, byte, letter, number, Apart, amount_parts, heading_parts}
use Rattle.texts.specs.Steps.{Any, Came}
use Rattle.texts.specs.Records.{front, letter_of}
use Rattle.texts.specs.declared.reader.Reader.{Reader}
use Rattle.texts.proofs.Taking.{known}
use Rattle.texts.proofs.Axes.{field_apart}
use Rattle.texts.proofs.Chain.{came_start, came_on, stopped_on, failed}
use Rattle.texts.proofs.reader.Reader.heading.Given as given
use Rattle.texts.proofs.reader.Reader.heading.Goals as goal
use Rattle.texts.proofs.reader.Reader.heading.Goals.{In_ok-word, In_ok-rule, In_ok-benches, In_ok-floor}

-- what is left after each part
abbrev word : List Part
word = byte 104 ∷ byte 97 ∷ byte 108 ∷ byte 108 ∷ byte 32 ∷ []

abbrev floor_on : ℕ → List Part
floor_on n = amount_parts 32 n 1000000000 ++ (byte 10 ∷ [])

abbrev benches_on : ℕ → List Part
benches_on n = byte 32 ∷ number 64 ∷ floor_on n

abbrev So : (g : given.Over) → Reader g.row.K.Denot g.K.Amount → Reader g.row.K.Denot g.K.Amount → List Part → List ℕ → Type 0
So g r₀ r rest xs = Came Any r₀ r (heading_parts g.K.Amount.width) rest xs

-- after each part
so_word : (g : given.Over) (c : In_ok-word g) → So g c.args.self.now c.word.new.self (letter ∷ benches_on g.K.Amount.width) (codes "hall ")
so_word g c =
    let n = g.K.Amount.width in
    came_on word (letter ∷ benches_on n) (came_start Any c.args.self.now (heading_parts n)) Any (λ k f. tt) c.in_ok-word.ensures

so_rule : (g : given.Over) (c : In_ok-rule g) {xs : List ℕ} → So g c.args.self.now c.word.new.self (letter ∷ benches_on g.K.Amount.width) xs → So g c.args.self.now c.letter.new.self (benches_on g.K.Amount.width) (xs ++ (letter_of c.in_ok-rule.rule ∷ []))
so_rule g c s = came_on (letter ∷ []) (benches_on g.K.Amount.width) s Any (λ k f. tt) c.in_ok-rule.ensures

so_benches : (g : given.Over) (c : In_ok-benches g) {xs : List ℕ} → So g c.args.self.now c.letter.new.self (benches_on g.K.Amount.width) xs → So g c.args.self.now c.number.new.self (floor_on g.K.Amount.width) (xs ++ (32 ∷ decimal c.in_ok-benches.benches))
so_benches g c s =
    let e = c.in_ok-benches.ensures in
    let n = g.K.Amount.width in
    came_on (byte 32 ∷ number 64 ∷ []) (floor_on n) s Apart (λ k f. field_apart n 1000000000 (byte 10 ∷ []) k refl) e.reads

so_floor : (g : given.Over) (c : In_ok-floor g) {xs : List ℕ} → So g c.args.self.now c.number.new.self (floor_on g.K.Amount.width) xs → So g c.args.self.now c.amount.new.self (byte 10 ∷ []) (xs ++ marked 32 (front g.K.Amount.reading g.K.Amount.width c.in_ok-floor.floor))
so_floor g c s = let e = c.in_ok-floor.ensures in came_on (amount_parts 32 g.K.Amount.width 1000000000) (byte 10 ∷ []) s Apart (λ k f. refl) e.reads

pub returns-in_err-word-clause-reads : goal.returns-in_err-word-clause-reads
returns-in_err-word-clause-reads g c =
    let n = g.K.Amount.width in
    let s = came_start Any c.args.self.now (heading_parts n) in
    failed _ c.from_residual.result c.from_residual.ensures.1 (stopped_on word (letter ∷ benches_on n) s Any (λ k f. tt) c.in_err-word.ensures)

pub returns-in_err-rule-clause-reads : goal.returns-in_err-rule-clause-reads
returns-in_err-rule-clause-reads g c =
    let s = so_word g (goal.at.returns-in_err-rule-clause-reads g c).In_ok-word in
    failed _ c.from_residual-in_err-rule.result c.from_residual-in_err-rule.ensures.1 (stopped_on (letter ∷ []) (benches_on g.K.Amount.width) s Any (λ k f. tt) c.in_err-rule.ensures)

pub returns-in_err-benches-clause-reads : goal.returns-in_err-benches-clause-reads
returns-in_err-benches-clause-reads g c =
    let at = goal.at.returns-in_err-benches-clause-reads g c in
    let n = g.K.Amount.width in
    let s = so_rule g at.In_ok-rule (so_word g at.In_ok-word) in
    failed _ c.from_residual-in_err-benches.result c.from_residual-in_err-benches.ensures.1 (stopped_on (byte 32 ∷ number 64 ∷ []) (floor_on n) s Apart (λ k f. field_apart n 1000000000 (byte 10 ∷ []) k refl) c.in_err-benches.ensures.reads)

pub returns-in_err-floor-clause-reads : goal.returns-in_err-floor-clause-reads
returns-in_err-floor-clause-reads g c =
    let at = goal.at.returns-in_err-floor-clause-reads g c in
    let s = so_benches g at.In_ok-benches (so_rule g at.In_ok-rule (so_word g at.In_ok-word)) in
    failed _ c.from_residual-in_err-floor.result c.from_residual-in_err-floor.ensures.1 (stopped_on (amount_parts 32 g.K.Amount.width 1000000000) (byte 10 ∷ []) s Apart (λ k f. refl) c.in_err-floor.ensures.reads)

pub returns-in_err-byte-clause-reads : goal.returns-in_err-byte-clause-reads
returns-in_err-byte-clause-reads g c =
    let at = goal.at.returns-in_err-byte-clause-reads g c in
    let s = so_floor g at.In_ok-floor (so_benches g at.In_ok-benches (so_rule g at.In_ok-rule (so_word g at.In_ok-word))) in
    failed _ c.from_residual-in_err-byte.result c.from_residual-in_err-byte.ensures.1 (stopped_on (byte 10 ∷ []) [] s Any (λ k f. tt) c.in_err-byte.ensures)

pub returns : goal.returns
returns g c =
    let at = goal.at.returns g c in
    let s = so_floor g at.In_ok-floor (so_benches g at.In_ok-benches (so_rule g at.In_ok-rule (so_word g at.In_ok-word))) in
    let t = came_on (byte 10 ∷ []) [] s Any (λ k f. tt) c.in_ok-byte.ensures in
    record {
      reads = simp append_assoc at t;
      held = record { rule = known c.in_ok-rule.rule; benches = c.in_ok-benches.ensures.bounded; floor = c.in_ok-floor.ensures.held; jobs = tt };
    }
