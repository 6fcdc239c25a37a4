-- A whole text, line by line.
use Rattle.std.proofs.Common.{◌≡◌, ◌<◌, ◌≤◌, ℕ, true, List, [], ◌∷◌, ◌++◌, length, take, drop, Ok, Err, Result, sym, refl, ap, ◌∙◌, subst, append-nil, arith}
use Rattle.std.proofs.lemmas.List.{take_all, length-append, length-take-le, take-append-drop}
use Rattle.std.specs.Result.{IsOk}
use Rattle.std.proofs.ByRecursion.{All-push}
use Rattle.amounts.specs.declared.amount.Amount.{Ghosts}
use Rattle.refusals.specs.declared.Refusal.{Refusal}
use Rattle.prints.specs.Runs.{JobLine, Run, lines, text_of, LineHeld, RunHeld, Text}
use Rattle.prints.specs.Parts.{jobs, Stands, job_parts, heading_parts}
use Rattle.prints.specs.Faults.{Refused}
use Rattle.prints.specs.Answers.{Counted}
use Rattle.prints.proofs.Whole.{at_start, line_more, text_more, not_refused}
use Rattle.prints.proofs.Ends.{no_more_lines}
use Rattle.texts.specs.Steps.{Any, Came, Stopped, Reads}
use Rattle.texts.specs.declared.reader.Reader.{Reader}
use Rattle.texts.proofs.Taking.{moved_at}

-- the run with one job more
abbrev pub one_more : Run → JobLine → Run
one_more r j = record { rule = r.rule; benches = r.benches; floor = r.floor; jobs = r.jobs ++ (j ∷ []) }

module _ {X : Type 0} {kind : Ghosts X} (r₀ : Reader X kind) where
  -- from the beginning r has come past the text of the run, in bounds, and only job lines may follow
  pub record Past (r : Reader X kind) (run : Run) : Type 0 where
    pub same : r.bytes ≡ r₀.bytes
    pub held : RunHeld kind.width true run
    pub upto : take r.pos r₀.bytes.now ≡ text_of run
    pub stands : Stands kind.width r₀.bytes.now r.pos (jobs ∷ [])

  module _ (zero : r₀.pos ≡ 0) where
    start : Stands kind.width r₀.bytes.now r₀.pos (heading_parts kind.width ++ (jobs ∷ []))
    start = subst (λ i. Stands kind.width r₀.bytes.now i (heading_parts kind.width ++ (jobs ∷ []))) (sym zero) (at_start kind.width r₀.bytes.now)

    pub past_heading : (r : Reader X kind) (run : Run) → Came Any r₀ r (heading_parts kind.width) [] (text_of run) → RunHeld kind.width true run → Past r run
    past_heading r run t h = record { same = t.same; held = h; upto = (moved_at refl (sym zero) t.moved).took; stands = t.on (jobs ∷ []) tt start }

    pub refused_heading : (r : Reader X kind) (e : Refusal) → Stopped Any r₀ r (heading_parts kind.width) e → Refused kind.width r₀.bytes.now e
    refused_heading r e h = h.refused (jobs ∷ []) tt start

    -- a good text is not refused
    pub heading_reads : {T : Type 0} (r : Reader X kind) (print : T → List ℕ) (res : Result T Refusal) → Text kind.width true r₀.bytes.now → Reads (heading_parts kind.width) Any print r₀ r res → IsOk res
    heading_reads r print (Ok x) good h = refl
    heading_reads r print (Err e) good h = absurd (not_refused kind.width r₀.bytes.now e good (refused_heading r e h))

  module _ (r : Reader X kind) {run : Run} (t : Past r run) (lt : r.pos < length r.bytes.now) where
    next : Stands kind.width r.bytes.now r.pos (job_parts kind.width ++ (jobs ∷ []))
    next = line_more kind.width r.bytes.now r.pos lt (subst (λ b. Stands kind.width b.now r.pos (jobs ∷ [])) (sym t.same) t.stands)

    pub past_line : (r' : Reader X kind) (j : JobLine) → Came Any r r' (job_parts kind.width) [] (lines (j ∷ [])) → LineHeld kind.width true j → Past r' (one_more run j)
    past_line r' j h l = record {
      same = h.same ∙ t.same;
      held = record { rule = t.held.rule; benches = t.held.benches; floor = t.held.floor; jobs = All-push (LineHeld kind.width true) run.jobs j t.held.jobs l };
      upto = (moved_at (ap (λ b. b.now) (sym t.same)) refl h.moved).took ∙ ap (λ x. x ++ lines (j ∷ [])) t.upto ∙ sym (text_more run j);
      stands = subst (λ b. Stands kind.width b.now r'.pos (jobs ∷ [])) t.same (h.on (jobs ∷ []) tt next);
    }

    pub refused_line : (r' : Reader X kind) (e : Refusal) → Stopped Any r r' (job_parts kind.width) e → Refused kind.width r₀.bytes.now e
    refused_line r' e h = subst (λ b. Refused kind.width b.now e) t.same (h.refused (jobs ∷ []) tt next)

    pub line_reads : {T : Type 0} (r' : Reader X kind) (print : T → List ℕ) (res : Result T Refusal) → Text kind.width true r₀.bytes.now → Reads (job_parts kind.width) Any print r r' res → IsOk res
    line_reads r' print (Ok x) good h = refl
    line_reads r' print (Err e) good h = absurd (not_refused kind.width r₀.bytes.now e good (refused_line r' e h))

  -- nothing follows, since the text ends there, or since it has no more jobs
  pub past_all : (r : Reader X kind) {run : Run} → Past r run → length r.bytes.now ≤ r.pos → r₀.bytes.now ≡ text_of run
  past_all r t le = sym (take_all r.pos r₀.bytes.now (subst (λ b. length b.now ≤ r.pos) t.same le)) ∙ t.upto

  pub past_last : (r : Reader X kind) {run : Run} → Past r run → Counted kind.width r₀.bytes.now (length run.jobs) → r₀.bytes.now ≡ text_of run
  past_last r {run} t q =
      let bs = r₀.bytes.now in
      let rest = t.stands.only true (drop r.pos bs) refl (subst (Text kind.width true) (sym (take-append-drop r.pos bs)) (q.run, q.held, q.whole)) in
      let js = rest.0 in
      let left : drop r.pos bs ≡ lines js = rest.3 ∙ ap (λ l. lines js ++ l) rest.4 ∙ append-nil (lines js) in
      let whole : bs ≡ text_of run ++ lines js = sym (take-append-drop r.pos bs) ∙ ap (λ l. l ++ drop r.pos bs) t.upto ∙ ap (λ l. text_of run ++ l) left in
      whole ∙ ap (λ l. text_of run ++ lines l) (no_more_lines run q.run js t.held.rule q.held.rule (sym whole ∙ q.whole) (sym q.count)) ∙ append-nil (text_of run)

-- a line moves the reader on
pub line_forth : {X : Type 0} {kind : Ghosts X} (r r' : Reader X kind) (j : JobLine) → Came Any r r' (job_parts kind.width) [] (lines (j ∷ [])) → r.pos < r'.pos
line_forth r r' j h =
    let m = h.moved in
    let bs = r.bytes.now in
    let e = ap length m.took ∙ length-append (take r.pos bs) (lines (j ∷ [])) in
    omega (arith, e, m.forth, m.within, length-take-le r'.pos bs m.within, length-take-le r.pos bs (omega (arith, m.forth, m.within)))
