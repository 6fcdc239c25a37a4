-- What the rule finds when it looks for a job to name, and that it names one when it must.
use Rattle.std.proofs.Common.{◌≡◌, ℕ, zero, suc, ◌+◌, ◌<◌, ◌≤◌, Bool, true, false, List, Some, None, Option, refl, ap, inl, inr, arith, MatchOption}
use Rattle.std.proofs.lemmas.Bool.{both_ways}
use Rattle.std.proofs.lemmas.Bool.Decides.{nat_tests}
use Rattle.trees.specs.Sums.{In}
use Rattle.trees.specs.Trees.{Tree}
use Rattle.trees.specs.Lines.{Line, entry, place}
use Rattle.trees.specs.Standing.{standing}
use Rattle.trees.proofs.Places.{place_entry, line_place}
use Rattle.jobs.specs.declared.State.{State}
use Rattle.jobs.specs.declared.State.TheVariants.{Waiting, Done}
use Rattle.logs.specs.Stands.{Opened, is_waiting, is_running, is_done, startable, Ready}
use Rattle.logs.proofs.Tallies.{startable_true, startable_from}
use Rattle.line_rule.specs.Totals.{total, Full}
use Rattle.line_rule.specs.Naming.{least, job_at, first_startable}
use Rattle.line_rule.proofs.Totals.{held_with, total_stands}

-- i is the first of 1 to m that passes the test; none passes
abbrev First : (ℕ → Bool) → ℕ → ℕ → Type 0
First p m i = In m i × (p i ≡ true) × ((k : ℕ) → In m k → k < i → p k ≡ false)

abbrev Fail : (ℕ → Bool) → ℕ → Type 0
Fail p m = (k : ℕ) → In m k → p k ≡ false

least_tells : (p : ℕ → Bool) (m : ℕ) → MatchOption (least p m) (Fail p m) (First p m)
least_tells p zero = λ k i. absurd (omega arith)
least_tells p (suc m) = let z = least_tells p m in grind (arith, nat_tests)

pub least_some : (p : ℕ → Bool) (m i : ℕ) → least p m ≡ Some i → In m i × (p i ≡ true) × ((k : ℕ) → In m k → k < i → p k ≡ false)
least_some p m i e = rw e at (least_tells p m)

pub least_none : (p : ℕ → Bool) (m : ℕ) → least p m ≡ None → (k : ℕ) → In m k → p k ≡ false
least_none p m e = rw e at (least_tells p m)

-- the least number that passes is the answer
pub least_is : (p : ℕ → Bool) (m i : ℕ) → In m i → p i ≡ true → ((k : ℕ) → In m k → k < i → p k ≡ false) → least p m ≡ Some i
least_is p m i here e low = let z = least_tells p m in grind (arith, nat_tests)

pub least_is_none : (p : ℕ → Bool) (m : ℕ) → ((k : ℕ) → In m k → p k ≡ false) → least p m ≡ None
least_is_none p m fail = let z = least_tells p m in grind (arith, nat_tests)

module _ (o : Opened) (row : List ℕ) (t : ℕ → State) (m : ℕ) (tree : Tree o.jobs o.parent) (line : Line o.jobs o.parent row)
    (few : m ≤ o.jobs) (begun-booked : (k : ℕ) → In o.jobs k → (t k ≡ Waiting → ⊥) → place k row ≤ m) where
  abbrev n : ℕ
  n = o.jobs

  abbrev par : ℕ → ℕ
  par = o.parent

  -- the job at position p can be started; it waits
  abbrev can : ℕ → Bool
  can p = startable n par t (entry row p)

  abbrev waits_at : ℕ → Bool
  waits_at p = is_waiting (t (entry row p))

  -- the named job is ready
  pub named_ready : ((a : ℕ) → total o row t m a ≤ o.floor a) → (j : ℕ) → first_startable n par t row m ≡ Some j → Ready o t j
  named_ready room j = go (least can m) (least_tells can m)
    where
      at : (p : ℕ) → First can m p → Ready o t (entry row p)
      at p f =
          let i = line.jobs p (omega arith) in
          let s = startable_true n par t (entry row p) f.1 in
          let b : place (entry row p) row ≤ m = omega (arith, line_place n par row line p (omega arith)) in
          record {
            job = i;
            waits = s.0;
            children = s.1;
            fits = λ a. omega (arith, room a, held_with o row t m (entry row p) begun-booked i s.0 b a);
          }

      go : (r : Option ℕ) → MatchOption r (Fail can m) (First can m) → job_at row r ≡ Some j → Ready o t j
      go (Some p) f e = let z : entry row p ≡ j = cc in rw z at (at p f)
      go None f e = absurd (grind arith)

  -- Nothing runs and a job waits: a job is named. If a booked job waits, all children of the first such in the line are done. Else
  -- the total with the next job is what stands at its position, which fits the floor, so it would have been booked.
  pub named_some : Full o row t m → ((p a : ℕ) → In n p → standing n par row (o.work a) (o.output a) p ≤ o.floor a)
      → ((k : ℕ) → In n k → is_running (t k) ≡ false) → (k : ℕ) → In n k → t k ≡ Waiting → (j : ℕ) × (first_startable n par t row m ≡ Some j)
  named_some full fits idle k i w = go (least can m) (least waits_at m) (least_tells can m) (least_tells waits_at m)
    where
      -- who does not wait is done
      settled : (c : ℕ) → In n c → waits_at (place c row) ≡ false → t c ≡ Done
      settled c j e = let x = place_entry c row (omega (arith, line.size, line.all c j)) in let y = idle c j in grind (arith, nat_tests)

      first_can : (p : ℕ) → First waits_at m p → can p ≡ true
      first_can p f = startable_from n par t (entry row p) (grind (arith, nat_tests)) children
        where
          children : (c : ℕ) → In n c → par c ≡ entry row p → t c ≡ Done
          children c j e =
              let b : place c row < p = omega (arith, line.later c j, ap (λ x. place x row) e, line_place n par row line p (omega arith)) in
              settled c j (f.2 (place c row) (omega (arith, line.all c j)) b)

      not_all_done : Fail waits_at m → ⊥
      not_all_done f =
          elim full [
            | inl e ↦ omega (arith, more)
            | inr (a, over) ↦ omega (arith, total_stands o row t m tree line more done others a, fits (m + 1) a (omega (arith, more)))
          ]
        where
          done : (c : ℕ) → In n c → place c row ≤ m → t c ≡ Done
          done c j b = settled c j (f (place c row) (omega (arith, line.all c j)))

          others : (c : ℕ) → In n c → m < place c row → is_done (t c) ≡ false
          others c j b = let z = begun-booked c j in grind (arith, nat_tests)

          more : m < n
          more = let z = done k i in let y = line.all k i in grind (arith, nat_tests)

      go : (r s : Option ℕ) → MatchOption r (Fail can m) (First can m) → MatchOption s (Fail waits_at m) (First waits_at m) → (j : ℕ) × (job_at row r ≡ Some j)
      go (Some p) s f g = (entry row p, refl)
      go None (Some p) f g = absurd (both_ways (can p) (f p g.0) (first_can p g))
      go None None f g = absurd (not_all_done g)
