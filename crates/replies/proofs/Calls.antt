-- A line's word tells which call it is, and what stands behind the word tells the number.
use Rattle.std.proofs.Common.{◌≡◌, ℕ, List, ◌++◌, codes, sym, ap, ◌∙◌, subst}
use Rattle.logs.specs.declared.call.Call.{Call}
use Rattle.prints.specs.Decimal.{decimal}
use Rattle.replies.specs.Words.{held_number, LineOf}
use Rattle.replies.specs.Words.LineOf.{start, report, ask}

-- the line does not begin with the word
abbrev pub Other : List ℕ → List ℕ → Type 0
Other line word = (rest : List ℕ) → line ≡ word ++ rest → ⊥

pub no_word : (line : List ℕ) → Other line (codes "start ") → Other line (codes "report ") → Other line (codes "ask ") → (c : Call) → LineOf line c → ⊥
no_word line s r a _ (start n e) = s (decimal n) e
no_word line s r a _ (report n e) = r (decimal n) e
no_word line s r a _ (ask n e) = a (decimal n) e

-- what stands behind the word reads as v; `make` is the kind of call
pub good : (line word : List ℕ) (make : ℕ → Call) → ((n : ℕ) → line ≡ word ++ decimal n → LineOf line (make (held_number n)))
    → (x : List ℕ) (v : ℕ) → (n : ℕ) × (x ≡ decimal n) × (v ≡ held_number n) → line ≡ word ++ x → LineOf line (make v)
good line word make kind x v read is = subst (λ k. LineOf line (make k)) (sym read.2) (kind read.0 (is ∙ ap (λ l. word ++ l) read.1))
