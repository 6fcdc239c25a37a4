-- Steps of the reader, one after another.
use Rattle.std.proofs.Common.{◌≡◌, ℕ, List, [], ◌++◌, Ok, Err, Result, sym, refl, ap, ◌∙◌, subst, append_assoc}
use Rattle.std.specs.Result.{IsErrAnd}
use Rattle.std.proofs.lemmas.Result.{err_from_is_err_and}
use Rattle.amounts.specs.declared.amount.Amount.{Ghosts}
use Rattle.refusals.specs.declared.Refusal.{Refusal}
use Rattle.prints.specs.Parts.{Part, Stands}
use Rattle.prints.specs.Faults.{Refused}
use Rattle.texts.specs.Steps.{Came, Stopped, Reads}
use Rattle.texts.specs.declared.reader.Reader.{Reader}
use Rattle.texts.proofs.Taking.{moved_none, moved_on, moved_at}

module _ {X : Type 0} {kind : Ghosts X} where
  -- no step was taken yet
  pub came_start : (Then : List Part → Type 0) (r : Reader X kind) (whole : List Part) → Came Then r r whole whole []
  came_start Then r whole = record { same = refl; moved = moved_none r.bytes.now r.pos r.within; on = λ k f s. s }

  -- a further step, over the first parts of what was still to come
  module _ {Then : List Part → Type 0} {r₀ r : Reader X kind} {whole : List Part} {xs : List ℕ} (parts rest : List Part) (so : Came Then r₀ r whole (parts ++ rest) xs) (Next : List Part → Type 0) (next : (k : List Part) → Then k → Next (rest ++ k)) where
    before : (k : List Part) → Then k → Stands kind.width r₀.bytes.now r₀.pos (whole ++ k) → Stands kind.width r.bytes.now r.pos (parts ++ (rest ++ k))
    before k f s = subst (λ b. Stands kind.width b.now r.pos (parts ++ (rest ++ k))) (sym so.same) (subst (Stands kind.width r₀.bytes.now r.pos) (append_assoc parts rest k) (so.on k f s))

    pub came_on : {r' : Reader X kind} {ys : List ℕ} → Came Next r r' parts [] ys → Came Then r₀ r' whole rest (xs ++ ys)
    came_on {r'} {ys} h = record {
      same = h.same ∙ so.same;
      moved = moved_on so.moved (moved_at (ap (λ b. b.now) (sym so.same)) refl h.moved);
      on = λ k f s. subst (λ b. Stands kind.width b.now r'.pos (rest ++ k)) so.same (h.on (rest ++ k) (next k f) (before k f s));
    }

    pub stopped_on : {r' : Reader X kind} {e : Refusal} → Stopped Next r r' parts e → Stopped Then r₀ r' whole e
    stopped_on {r'} {e} h = record {
      same = h.same ∙ so.same;
      refused = λ k f s. subst (λ b. Refused kind.width b.now e) so.same (h.refused (rest ++ k) (next k f) (before k f s));
    }

  -- what a step refused is passed on
  pub failed : {T : Type 0} {Next : List Part → Type 0} {r r' : Reader X kind} {parts : List Part} {e : Refusal} (print : T → List ℕ) (res : Result T Refusal) → IsErrAnd res (λ d. d ≡ e) → Stopped Next r r' parts e → Reads parts Next print r r' res
  failed print res is h = let p = err_from_is_err_and res is in rw (p.1, p.2) h

  -- the last step, whatever it answers
  pub reads_last : {T : Type 0} {Then : List Part → Type 0} {r₀ r : Reader X kind} {whole : List Part} {xs : List ℕ} (parts : List Part) → Came Then r₀ r whole (parts ++ []) xs → (r' : Reader X kind) (print : T → List ℕ) (res : Result T Refusal) → Reads parts Then print r r' res → Reads whole Then (λ x. xs ++ print x) r₀ r' res
  reads_last {T} {Then} parts so r' print (Ok x) h = came_on parts [] so Then (λ k f. f) h
  reads_last {T} {Then} parts so r' print (Err d) h = stopped_on parts [] so Then (λ k f. f) h
