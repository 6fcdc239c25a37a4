-- The boards that are reached from a granted opening by starts that the rule named, and by reports. A board is told by the rule's
-- record, the hall and the job records.
use Rattle.std.specs.Prelude.{◌≡◌, ℕ, ◌+◌, List, replicate, Some, None}
use Rattle.amounts.specs.Axes.{Exceeds}
use Rattle.refusals.specs.declared.Refusal.{Refusal}
use Rattle.trees.specs.Sums.{In}
use Rattle.trees.specs.Trees.{kids}
use Rattle.trees.specs.Lines.{Line}
use Rattle.jobs.specs.declared.Job.{Job}
use Rattle.jobs.specs.declared.State.TheVariants.{Running, Done}
use Rattle.jobs.specs.Fields.{work_of, output_of}
use Rattle.intake.specs.Faults.{par_of}
use Rattle.intake.specs.Taken.{Sound}
use Rattle.peaks.specs.Stood.{Over}
use Rattle.rules.specs.declared.hall.Hall.{Hall}
use Rattle.rules.specs.Records.{seat_of, seat, clear, restated, Alike, Laid}
use Rattle.rules.specs.Acts.{Acts}

-- Bench b has job j; x is what is held when it is done.
pub record Ends {S : Type 0} (read : S → ℕ → ℕ) (h : Hall S) (js : List (Job S)) (b j : ℕ) (x : S) : Type 0 where
  pub bench : In h.benches b
  pub seated : seat_of h b ≡ Some j
  pub shrinks : (a : ℕ) → read x a + (work_of read js a j + kids h.jobs (par_of js h.jobs) (output_of read js a) j) ≡ read h.held a

module _ {R S : Type 0} (w : ℕ) (read : S → ℕ → ℕ) (acts : Acts R S) where
  -- An opening with nothing to refuse: xs are the records as they were handed in, ys as they were made ready, and h is the hall of
  -- the board that opens.
  pub record GrantedOpening (r : R) (xs : List (Job S)) (row : List ℕ) (h : Hall S) (ys : List (Job S)) : Type 0 where
    pub sound : Sound w read xs h.jobs
    pub lined : Line h.jobs (par_of xs h.jobs) row
    pub benched : In 64 h.benches
    pub floored : Exceeds w (read h.floor) 1000000000 → ⊥
    pub ruled : (e : Refusal) → acts.refuses r xs h.jobs row e → ⊥
    pub fitting : (p : ℕ) → In h.jobs p → Over read xs h.jobs row h.floor p → ⊥
    pub laid : Laid h.jobs row xs ys
    pub empty : h.table ≡ replicate 64 None
    pub nothing : (a : ℕ) → read h.held a ≡ 0
    pub unstarted : h.starts ≡ 0
    pub unreported : h.reports ≡ 0

  -- The rule names job j, which goes to the idle bench b; x is what is held then.
  pub record Starts (r : R) (h : Hall S) (js : List (Job S)) (b j : ℕ) (x : S) : Type 0 where
    pub bench : In h.benches b
    pub idle : seat_of h b ≡ None
    pub named : acts.names r h js ≡ Some j
    pub grows : (a : ℕ) → read x a ≡ read h.held a + work_of read js a j + output_of read js a j

  pub data Reached : R → Hall S → List (Job S) → Type 0 where
    opened : (r s : R) (xs ys zs : List (Job S)) (row : List ℕ) (h : Hall S) → GrantedOpening r xs row h ys
        → acts.opened r h ys row s zs → Alike h.jobs ys zs → Reached s h zs
    started : (r s : R) (h : Hall S) (js zs : List (Job S)) (b j : ℕ) (x : S) → Reached r h js → Starts r h js b j x
        → acts.started r (seat h b j x) (restated js j (Running b)) j s zs → Alike h.jobs (restated js j (Running b)) zs
        → Reached s (seat h b j x) zs
    reported : (r s : R) (h : Hall S) (js zs : List (Job S)) (b j : ℕ) (x : S) → Reached r h js → Ends read h js b j x
        → acts.reported r (clear h b x) (restated js j Done) j s zs → Alike h.jobs (restated js j Done) zs
        → Reached s (clear h b x) zs

  -- A job was just put on a bench of a reached board, and its record says so: the rule is about to be told.
  pub record Starting (r : R) (g : Hall S) (ms : List (Job S)) (j : ℕ) : Type 0 where
    pub hall : Hall S
    pub records : List (Job S)
    pub bench : ℕ
    pub now_held : S
    pub reached : Reached r hall records
    pub starts : Starts r hall records bench j now_held
    pub hall_is : g ≡ seat hall bench j now_held
    pub records_are : ms ≡ restated records j (Running bench)

  -- The bench of a job was just cleared, and its record says that it is done.
  pub record Reporting (r : R) (g : Hall S) (ms : List (Job S)) (j : ℕ) : Type 0 where
    pub hall : Hall S
    pub records : List (Job S)
    pub bench : ℕ
    pub now_held : S
    pub reached : Reached r hall records
    pub ends : Ends read hall records bench j now_held
    pub hall_is : g ≡ clear hall bench now_held
    pub records_are : ms ≡ restated records j Done
