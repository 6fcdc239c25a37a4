-- A tree of job records, and its records once its chains are set.
use Rattle.std.specs.Prelude.{◌≡◌, ℕ, ◌<◌, ◌≤◌, List, map, length, slice_index_or}
use Rattle.trees.specs.Sums.{In}
use Rattle.trees.specs.Trees.{Tree, Chained}
use Rattle.jobs.specs.declared.Job.{Job}
use Rattle.jobs.specs.Fields.{first_of, next_of}
use Rattle.intake.specs.Faults.{Above, par_of}

module _ {S : Type 0} where
  -- the job with other links
  abbrev pub linked : Job S → ℕ → ℕ → Job S
  linked j first next =
      record {
        parent = j.parent;
        work = j.work;
        output = j.output;
        minutes = j.minutes;
        first_child = first;
        next_sibling = next;
        state = j.state;
        position = j.position;
        share = j.share;
        booked = j.booked;
      }

  -- the job without its links
  abbrev pub bare : Job S → Job S
  bare j = linked j 0 0

  -- the records are those of a tree of the jobs 1 to n, all within their bounds
  pub record Sound (w : ℕ) (read : S → ℕ → ℕ) (xs : List (Job S)) (n : ℕ) : Type 0 where
    pub some : 1 ≤ n
    pub few : n ≤ 4095
    pub records : n < length xs
    pub axes : w ≤ 64
    pub bounds : (i : ℕ) → In n i → Above w read xs i → ⊥
    pub tree : Tree n (par_of xs n)

  -- ys is xs with the links of the jobs 1 to n as `first` and `next` tell; every other record, and every other field, is as it was
  pub record Rechained (n : ℕ) (first next : ℕ → ℕ) (xs ys : List (Job S)) : Type 0 where
    pub rest : map bare ys ≡ map bare xs
    pub firsts : (k : ℕ) → In n k → first_of ys k ≡ first k
    pub nexts : (k : ℕ) → In n k → next_of ys k ≡ next k
    pub others : (k : ℕ) (d : Job S) → (In n k → ⊥) → slice_index_or ys k d ≡ slice_index_or xs k d

  -- ys is xs with the chains of its tree
  pub record Taken (n : ℕ) (xs ys : List (Job S)) : Type 0 where
    pub rest : map bare ys ≡ map bare xs
    pub chains : Chained n (par_of xs n) (first_of ys) (next_of ys)
    pub others : (k : ℕ) (d : Job S) → (In n k → ⊥) → slice_index_or ys k d ≡ slice_index_or xs k d
