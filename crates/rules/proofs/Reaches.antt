-- What is kept by openings, starts and reports holds of every board that is reached.
use Rattle.std.proofs.Common.{◌≡◌, ℕ, List, Some}
use Rattle.jobs.specs.declared.Job.{Job}
use Rattle.jobs.specs.declared.State.TheVariants.{Running, Done}
use Rattle.logs.specs.Stands.{Ready}
use Rattle.rules.specs.declared.hall.Hall.{Hall}
use Rattle.rules.specs.Records.{state_in, opened_of, seat, clear, restated, Alike}
use Rattle.rules.specs.Acts.{Acts}
use Rattle.rules.specs.Reached.{GrantedOpening, Starts, Ends, Reached}
use Rattle.rules.specs.Reached.Reached.{opened, started, reported}
use Rattle.rules.specs.Duties.{Safe}
use Rattle.rules.proofs.Facts.{Facts, opening_facts, start_facts, report_facts}

module _ {R S : Type 0} (w : ℕ) (read : S → ℕ → ℕ) (acts : Acts R S) where
  -- What a rule keeps of its record, beside what holds of every board. With it the named job is ready.
  pub record Keeps (Kept : R → Hall S → List (Job S) → Type 0) : Type 0 where
    pub opens : (r s : R) (xs ys zs : List (Job S)) (row : List ℕ) (h : Hall S) → GrantedOpening w read acts r xs row h ys
        → acts.opened r h ys row s zs → Alike h.jobs ys zs → Facts w read h zs → Kept s h zs
    pub starts : (r s : R) (h : Hall S) (js zs : List (Job S)) (b j : ℕ) (x : S) → Kept r h js → Facts w read h js
        → Starts w read acts r h js b j x → acts.started r (seat h b j x) (restated js j (Running b)) j s zs
        → Alike h.jobs (restated js j (Running b)) zs → Kept s (seat h b j x) zs
    pub reports : (r s : R) (h : Hall S) (js zs : List (Job S)) (b j : ℕ) (x : S) → Kept r h js → Facts w read h js
        → Ends read h js b j x → acts.reported r (clear h b x) (restated js j Done) j s zs
        → Alike h.jobs (restated js j Done) zs → Kept s (clear h b x) zs
    pub ready : (r : R) (h : Hall S) (js : List (Job S)) (j : ℕ) → Kept r h js → Facts w read h js → acts.names r h js ≡ Some j
        → Ready (opened_of read h js) (state_in h.jobs js) j

  module _ {Kept : R → Hall S → List (Job S) → Type 0} (keeps : Keeps Kept) where
    pub kept : {r : R} {h : Hall S} {js : List (Job S)} → Reached w read acts r h js → Facts w read h js × Kept r h js
    kept (opened r s xs ys zs row h opening told alike) =
        let facts = opening_facts w read acts r xs ys zs row h opening alike in
        (facts, keeps.opens r s xs ys zs row h opening told alike facts)
    kept (started r s h js zs b j x past starts told alike) =
        let old = kept past in
        let ready = keeps.ready r h js j old.1 old.0 starts.named in
        (start_facts w read h js zs b j x old.0 starts.bench starts.idle ready starts.grows alike, keeps.starts r s h js zs b j x old.1 old.0 starts told alike)
    kept (reported r s h js zs b j x past ends told alike) =
        let old = kept past in
        (report_facts w read h js zs b j x old.0 ends alike, keeps.reports r s h js zs b j x old.1 old.0 ends told alike)

    pub safe_kept : Safe w read acts
    safe_kept r h js j reached named = let old = kept reached in keeps.ready r h js j old.1 old.0 named

  module _ (safe : Safe w read acts) where
    reached_keeps : Keeps (Reached w read acts)
    reached_keeps =
        record {
          opens = λ r s xs ys zs row h opening told alike facts. opened r s xs ys zs row h opening told alike;
          starts = λ r s h js zs b j x past facts starts told alike. started r s h js zs b j x past starts told alike;
          reports = λ r s h js zs b j x past facts ends told alike. reported r s h js zs b j x past ends told alike;
          ready = λ r h js j past facts named. safe r h js j past named;
        }

    pub reached_facts : {r : R} {h : Hall S} {js : List (Job S)} → Reached w read acts r h js → Facts w read h js
    reached_facts reached = (kept reached_keeps reached).0
