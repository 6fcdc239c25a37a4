-- What a step of a walk says of the line that it goes over.
use Rattle.std.proofs.Common.{◌≡◌, ℕ, ◌+◌, ◌<◌, List, Some, None, ◌∙◌, subst, sym, arith}
use Rattle.trees.specs.Sums.{In}
use Rattle.jobs.specs.declared.Job.{Job}
use Rattle.peaks.specs.declared.walk.Walk.{Walk}
use Rattle.peaks.specs.Stood.{Stands}
use Rattle.peaks.specs.Walk.{Walking, On, Same, Passes}

module _ {S : Type 0} (w : ℕ) (read : S → ℕ → ℕ) (jobs : List (Job S)) (n : ℕ) (line : List ℕ) where
  module _ (s t : Walk S) (walking : Walking w read s) (on : On jobs n line s) where
    pub on_still : Same s t → On jobs n line t
    on_still same = (same.jobs ∙ on.0, same.n ∙ on.1, same.line ∙ on.2)

    -- a step
    pub stepped : (x : ℕ × S) → Passes read s (Some x) t → (x.0 ≡ s.position) × In n x.0 × Stands read jobs n line x.1 x.0 × (t.position ≡ x.0 + 1)
    stepped x (same, (is, here, stands, next)) = (
      is,
      (omega (arith, is, walking.begun), omega (arith, is, here, on.1)),
      subst (Stands read jobs n line x.1) (sym is)
          (subst (λ l. Stands read jobs n l x.1 s.position) on.2
          (subst (λ m. Stands read jobs m s.line.now x.1 s.position) on.1
          (subst (λ j. Stands read j s.n s.line.now x.1 s.position) on.0 stands))),
      omega (arith, is, next),
    )

    -- no step: all positions are behind
    pub over : Passes read s None t → n < s.position
    over (same, (past, stays)) = omega (arith, past, on.1)
