-- The chains of a tree's children, as two rows.
use Rattle.std.specs.Prelude.{ℕ, List, slice_index}
use Rattle.trees.specs.declared.chains.Chains.{Chains}
use Rattle.trees.specs.Trees.{Chained, ChainedTree}
use Rattle.trees.specs.Found.{jobs_in, par_in}

abbrev pub ChainedBy : ℕ → (ℕ → ℕ) → Chains → Type 0
ChainedBy n par c = Chained n par (λ k. slice_index c.first k) (λ k. slice_index c.next k)

-- the parents in the row make a tree of at most 4,095 jobs, with these chains
abbrev pub ChainsOf : List ℕ → Chains → Type 0
ChainsOf parents c = ChainedTree (jobs_in parents) (par_in parents) (λ k. slice_index c.first k) (λ k. slice_index c.next k)
