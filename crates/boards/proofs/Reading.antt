-- The fields of one job record.
use Rattle.std.proofs.Common.{◌≡◌, ℕ, ◌<◌, List, map, length, get_or, sym, ap, ◌∙◌}
use Rattle.std.proofs.lemmas.List.{get_or-map}
use Rattle.jobs.specs.declared.Job.{Job}
use Rattle.jobs.specs.declared.State.{State}

module _ {S : Type 0} (xs : List (Job S)) (i : ℕ) (x : Job S) (inside : i < length xs) (read : x ≡ get_or xs i x) where
  -- how job i stands, whatever is said of what is no job
  pub state_read : (d : State) → get_or (map (λ j. j.state) xs) i d ≡ x.state
  state_read d = get_or-map (λ j. j.state) xs i x d inside ∙ ap (λ j. j.state) (sym read)
