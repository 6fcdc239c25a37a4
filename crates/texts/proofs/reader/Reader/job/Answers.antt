use Rattle.std.proofs.Common.{◌≡◌, ℕ, true, List, [], ◌∷◌, ◌++◌, codes, sym, refl, subst, append_assoc}
use Rattle.prints.specs.Decimal.{decimal}
use Rattle.prints.specs.Runs.{marked, lines, JobLine, LineHeld}
use Rattle.prints.specs.Parts.{Part, byte, number, Apart, amount_parts, job_parts}
use Rattle.texts.specs.Steps.{Any, Came}
use Rattle.texts.specs.Records.{front, line_of}
use Rattle.texts.specs.declared.reader.Reader.{Reader}
use Rattle.texts.proofs.Axes.{field_apart}
use Rattle.texts.proofs.Chain.{came_start, came_on, stopped_on, failed}
use Rattle.texts.proofs.reader.Reader.job.Given as given
use Rattle.texts.proofs.reader.Reader.job.Goals as goal
use Rattle.texts.proofs.reader.Reader.job.Goals.{In_ok-word, In_ok-parent, In_ok-work, In_ok-output, In_ok-minutes}

-- what is left from each part on
abbrev word : List Part
word = byte 106 ∷ byte 111 ∷ byte 98 ∷ []

abbrev minutes_on : List Part
minutes_on = byte 32 ∷ number 10000 ∷ byte 10 ∷ []

abbrev output_on : ℕ → List Part
output_on n = amount_parts 32 n 1000000 ++ minutes_on

abbrev work_on : ℕ → List Part
work_on n = amount_parts 32 n 1000000 ++ output_on n

abbrev parent_on : ℕ → List Part
parent_on n = byte 32 ∷ number 4095 ∷ work_on n

output_apart : (n : ℕ) (k : List Part) → Apart (output_on n ++ k)
output_apart n k = field_apart n 1000000 minutes_on k refl

work_apart : (n : ℕ) (k : List Part) → Apart (work_on n ++ k)
work_apart n k = field_apart n 1000000 (output_on n) k (output_apart n k)

abbrev So : (g : given.Over) → Reader g.row.K.Denot g.K.Amount → Reader g.row.K.Denot g.K.Amount → List Part → List ℕ → Type 0
So g r₀ r rest xs = Came Any r₀ r (job_parts g.K.Amount.width) rest xs

-- after each part
so_word : (g : given.Over) (c : In_ok-word g) → So g c.args.self.now c.word.new.self (parent_on g.K.Amount.width) (codes "job")
so_word g c =
    let n = g.K.Amount.width in
    came_on word (parent_on n) (came_start Any c.args.self.now (job_parts n)) Any (λ k f. tt) c.in_ok-word.ensures

so_parent : (g : given.Over) (c : In_ok-parent g) {xs : List ℕ} → So g c.args.self.now c.word.new.self (parent_on g.K.Amount.width) xs → So g c.args.self.now c.number.new.self (work_on g.K.Amount.width) (xs ++ (32 ∷ decimal c.in_ok-parent.parent))
so_parent g c s =
    let e = c.in_ok-parent.ensures in
    let n = g.K.Amount.width in
    came_on (byte 32 ∷ number 4095 ∷ []) (work_on n) s Apart (λ k f. work_apart n k) e.reads

so_work : (g : given.Over) (c : In_ok-work g) {xs : List ℕ} → So g c.args.self.now c.number.new.self (work_on g.K.Amount.width) xs → So g c.args.self.now c.amount.new.self (output_on g.K.Amount.width) (xs ++ marked 32 (front g.K.Amount.reading g.K.Amount.width c.in_ok-work.work))
so_work g c s =
    let e = c.in_ok-work.ensures in
    let n = g.K.Amount.width in
    came_on (amount_parts 32 n 1000000) (output_on n) s Apart (λ k f. output_apart n k) e.reads

so_output : (g : given.Over) (c : In_ok-output g) {xs : List ℕ} → So g c.args.self.now c.amount.new.self (output_on g.K.Amount.width) xs → So g c.args.self.now c.amount-2.new.self minutes_on (xs ++ marked 32 (front g.K.Amount.reading g.K.Amount.width c.in_ok-output.output))
so_output g c s = let e = c.in_ok-output.ensures in came_on (amount_parts 32 g.K.Amount.width 1000000) minutes_on s Apart (λ k f. refl) e.reads

so_minutes : (g : given.Over) (c : In_ok-minutes g) {xs : List ℕ} → So g c.args.self.now c.amount-2.new.self minutes_on xs → So g c.args.self.now c.number-2.new.self (byte 10 ∷ []) (xs ++ (32 ∷ decimal c.in_ok-minutes.minutes))
so_minutes g c s = let e = c.in_ok-minutes.ensures in came_on (byte 32 ∷ number 10000 ∷ []) (byte 10 ∷ []) s Apart (λ k f. refl) e.reads

pub returns-in_err-word-clause-reads : goal.returns-in_err-word-clause-reads
returns-in_err-word-clause-reads g c =
    let n = g.K.Amount.width in
    let s = came_start Any c.args.self.now (job_parts n) in
    failed _ c.from_residual.result c.from_residual.ensures.1 (stopped_on word (parent_on n) s Any (λ k f. tt) c.in_err-word.ensures)

pub returns-in_err-parent-clause-reads : goal.returns-in_err-parent-clause-reads
returns-in_err-parent-clause-reads g c =
    let n = g.K.Amount.width in
    let s = so_word g (goal.at.returns-in_err-parent-clause-reads g c).In_ok-word in
    failed _ c.from_residual-in_err-parent.result c.from_residual-in_err-parent.ensures.1 (stopped_on (byte 32 ∷ number 4095 ∷ []) (work_on n) s Apart (λ k f. work_apart n k) c.in_err-parent.ensures.reads)

pub returns-in_err-work-clause-reads : goal.returns-in_err-work-clause-reads
returns-in_err-work-clause-reads g c =
    let n = g.K.Amount.width in
    let at = goal.at.returns-in_err-work-clause-reads g c in
    let s = so_parent g at.In_ok-parent (so_word g at.In_ok-word) in
    failed _ c.from_residual-in_err-work.result c.from_residual-in_err-work.ensures.1 (stopped_on (amount_parts 32 n 1000000) (output_on n) s Apart (λ k f. output_apart n k) c.in_err-work.ensures.reads)

pub returns-in_err-output-clause-reads : goal.returns-in_err-output-clause-reads
returns-in_err-output-clause-reads g c =
    let at = goal.at.returns-in_err-output-clause-reads g c in
    let s = so_work g at.In_ok-work (so_parent g at.In_ok-parent (so_word g at.In_ok-word)) in
    failed _ c.from_residual-in_err-output.result c.from_residual-in_err-output.ensures.1 (stopped_on (amount_parts 32 g.K.Amount.width 1000000) minutes_on s Apart (λ k f. refl) c.in_err-output.ensures.reads)

pub returns-in_err-minutes-clause-reads : goal.returns-in_err-minutes-clause-reads
returns-in_err-minutes-clause-reads g c =
    let at = goal.at.returns-in_err-minutes-clause-reads g c in
    let s = so_output g at.In_ok-output (so_work g at.In_ok-work (so_parent g at.In_ok-parent (so_word g at.In_ok-word))) in
    failed _ c.from_residual-in_err-minutes.result c.from_residual-in_err-minutes.ensures.1 (stopped_on (byte 32 ∷ number 10000 ∷ []) (byte 10 ∷ []) s Apart (λ k f. refl) c.in_err-minutes.ensures.reads)

pub returns-in_err-byte-clause-reads : goal.returns-in_err-byte-clause-reads
returns-in_err-byte-clause-reads g c =
    let at = goal.at.returns-in_err-byte-clause-reads g c in
    let s = so_minutes g at.In_ok-minutes (so_output g at.In_ok-output (so_work g at.In_ok-work (so_parent g at.In_ok-parent (so_word g at.In_ok-word)))) in
    failed _ c.from_residual-in_err-byte.result c.from_residual-in_err-byte.ensures.1 (stopped_on (byte 10 ∷ []) [] s Any (λ k f. tt) c.in_err-byte.ensures)

pub returns : goal.returns
returns g c =
    let at = goal.at.returns g c in
    let r = c.args.self.now in
    let read = g.K.Amount.reading in
    let n = g.K.Amount.width in
    let s = so_minutes g at.In_ok-minutes (so_output g at.In_ok-output (so_work g at.In_ok-work (so_parent g at.In_ok-parent (so_word g at.In_ok-word)))) in
    let t = came_on (byte 10 ∷ []) [] s Any (λ k f. tt) c.in_ok-byte.ensures in
    let line : JobLine = record { parent = c.in_ok-parent.parent; work = front read n c.in_ok-work.work; output = front read n c.in_ok-output.output; minutes = c.in_ok-minutes.minutes } in
    let j = c.new.ensures in
    let is : line ≡ line_of read n c.new.result = λ i. record { parent = sym j.typed.0 i; work = front read n (sym j.typed.1.0 i); output = front read n (sym j.typed.1.1.0 i); minutes = sym j.typed.1.1.1 i } in
    record {
      reads = subst (λ l. Came Any c.args.self.now c.byte.new.self (job_parts n) [] (lines (l ∷ []))) is (simp append_assoc at t);
      held = subst (LineHeld n true) is (record { parent = c.in_ok-parent.ensures.bounded; work = c.in_ok-work.ensures.held; output = c.in_ok-output.ensures.held; minutes = c.in_ok-minutes.ensures.bounded });
      fresh = record { first = j.links.0; next = j.links.1.0; position = j.links.1.1; state = j.waits; share = j.booked.0; booked = j.booked.1 };
    }
