-- The job records and the hall of a board, as the log's laws see them, and what a call changes of them.
use Rattle.std.specs.Prelude.{◌≡◌, ℕ, zero, suc, ◌+◌, ◌-◌, cond, ◌&&◌, List, [], ◌∷◌, map, replicate, Some, None, Option, nat_le, slice_index_or, slice_set}
use Rattle.trees.specs.Sums.{In}
use Rattle.trees.specs.Trees.{Chained}
use Rattle.trees.specs.Lines.{place}
use Rattle.jobs.specs.declared.Job.{Job}
use Rattle.jobs.specs.declared.State.{State}
use Rattle.jobs.specs.declared.State.TheVariants.{Waiting}
use Rattle.jobs.specs.Fields.{at, first_of, next_of, work_of, output_of}
use Rattle.intake.specs.Faults.{par_of}
use Rattle.intake.specs.Taken.{Sound}
use Rattle.logs.specs.Stands.{Opened}
use Rattle.rules.specs.declared.hall.Hall.{Hall}

module _ {S : Type 0} where
  -- the records are those of a tree of the jobs 1 to n, all within their bounds, with the chains of its children
  pub record ChainedRecords (w : ℕ) (read : S → ℕ → ℕ) (xs : List (Job S)) (n : ℕ) : Type 0 where
    pub sound : Sound w read xs n
    pub chained : Chained n (par_of xs n) (first_of xs) (next_of xs)

  -- how each of the jobs 1 to n stands; what is no job waits
  abbrev pub state_in : ℕ → List (Job S) → ℕ → State
  state_in n xs k = cond (nat_le 1 k && nat_le k n) (slice_index_or (map (λ j. j.state) xs) k Waiting) Waiting

  -- the job on bench b, if it has one
  abbrev pub seat_of : Hall S → ℕ → Option ℕ
  seat_of h b = slice_index_or h.table (b - 1) None

  -- the tree of the jobs 1 to n of these records, with a hall; `read` gives an amount's axes
  abbrev pub opened_with : (S → ℕ → ℕ) → List (Job S) → ℕ → ℕ → S → Opened
  opened_with read xs n benches floor =
      record {
        jobs = n;
        parent = par_of xs n;
        work = work_of read xs;
        output = output_of read xs;
        benches = benches;
        floor = read floor;
      }

  -- the tree and the hall that a board has open
  abbrev pub opened_of : (S → ℕ → ℕ) → Hall S → List (Job S) → Opened
  opened_of read h xs = opened_with read xs h.jobs h.benches h.floor

  -- nothing has been granted yet; x is held
  abbrev pub unused : ℕ → ℕ → S → S → Hall S
  unused n benches floor x =
      record {
        jobs = n;
        benches = benches;
        floor = floor;
        held = x;
        table = replicate 64 None;
        starts = 0;
        reports = 0;
      }

  -- job j is put on bench b, and x is held from now on; bench b is cleared
  abbrev pub seat : Hall S → ℕ → ℕ → S → Hall S
  seat h b j x =
      record {
        jobs = h.jobs;
        benches = h.benches;
        floor = h.floor;
        held = x;
        table = slice_set h.table (b - 1) (Some j);
        starts = h.starts + 1;
        reports = h.reports;
      }

  abbrev pub clear : Hall S → ℕ → S → Hall S
  clear h b x =
      record {
        jobs = h.jobs;
        benches = h.benches;
        floor = h.floor;
        held = x;
        table = slice_set h.table (b - 1) None;
        starts = h.starts;
        reports = h.reports + 1;
      }

  abbrev pub with_state : Job S → State → Job S
  with_state j s =
      record {
        parent = j.parent;
        work = j.work;
        output = j.output;
        minutes = j.minutes;
        first_child = j.first_child;
        next_sibling = j.next_sibling;
        state = s;
        position = j.position;
        share = j.share;
        booked = j.booked;
      }

  -- the records with the state of record i changed, and nothing else
  abbrev pub restated : List (Job S) → ℕ → State → List (Job S)
  restated [] i s = []
  restated (x ∷ xs) zero s = with_state x s ∷ xs
  restated (x ∷ xs) (suc i) s = x ∷ restated xs i s

-- what was typed of a job
pub record Typed (S : Type 0) : Type 0 where
  pub parent : ℕ
  pub work : S
  pub output : S
  pub minutes : ℕ

module _ {S : Type 0} where
  abbrev pub typed : Job S → Typed S
  typed j = record { parent = j.parent; work = j.work; output = j.output; minutes = j.minutes }

  -- The same records but for the rule's figures, the share and the booked amount, of the jobs 1 to n.
  pub record Alike (n : ℕ) (xs ys : List (Job S)) : Type 0 where
    pub typed_same : map typed ys ≡ map typed xs
    pub firsts : map (λ j. j.first_child) ys ≡ map (λ j. j.first_child) xs
    pub nexts : map (λ j. j.next_sibling) ys ≡ map (λ j. j.next_sibling) xs
    pub states : map (λ j. j.state) ys ≡ map (λ j. j.state) xs
    pub positions : map (λ j. j.position) ys ≡ map (λ j. j.position) xs
    pub others : (k : ℕ) (d : Job S) → (In n k → ⊥) → slice_index_or ys k d ≡ slice_index_or xs k d

  -- The records made ready: the jobs 1 to n have their chains and their positions in the row, and wait. No other field and no
  -- other record has changed.
  pub record Laid (n : ℕ) (row : List ℕ) (xs ys : List (Job S)) : Type 0 where
    pub typed_same : map typed ys ≡ map typed xs
    pub shares : map (λ j. j.share) ys ≡ map (λ j. j.share) xs
    pub booked : map (λ j. j.booked) ys ≡ map (λ j. j.booked) xs
    pub chains : Chained n (par_of xs n) (first_of ys) (next_of ys)
    pub places : (k : ℕ) → In n k → at (λ j. j.position) ys k ≡ place k row
    pub waiting : (k : ℕ) → In n k → state_in n ys k ≡ Waiting
    pub others : (k : ℕ) (d : Job S) → (In n k → ⊥) → slice_index_or ys k d ≡ slice_index_or xs k d
