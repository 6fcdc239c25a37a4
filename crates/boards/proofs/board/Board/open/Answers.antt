use Rattle.std.proofs.Common.{◌≡◌, ℕ, ◌≤◌, List, [], sym, refl, ap, subst, inl, inr, arith}
use Rattle.std.proofs.lemmas.Bool.{cases_lt}
use Rattle.jobs.specs.declared.Job.{Job}
use Rattle.rules.specs.declared.hall.Hall.{Hall}
use Rattle.rules.specs.Acts.{Acts}
use Rattle.rules.specs.Reached.{GrantedOpening}
use Rattle.rules.specs.Records.{opened_of, unused, Alike}
use Rattle.boards.specs.Course.{Course}
use Rattle.boards.specs.Course.Course.{opens}
use Rattle.boards.specs.declared.opening.Setup.{Setup}
use Rattle.boards.specs.Faults.{as_opened}
use Rattle.boards.specs.Faults.OpenFault.{unbounded, unruled, exceeded}
use Rattle.peaks.specs.Halls.BoundFault.{unbenched, unfloored}
use Rattle.boards.proofs.board.Board.open.Goals as goal

-- the log begins with a hall where nothing has been granted yet
begins : {R S : Type 0} (w : ℕ) (read : S → ℕ → ℕ) (acts : Acts R S) (r s : R) (xs ys zs : List (Job S)) (setup : Setup S) (h : Hall S)
    → h ≡ unused setup.jobs setup.benches setup.floor h.held → (GrantedOpening w read acts r xs setup.line.now h ys → acts.opened r h ys setup.line.now s zs) → Alike h.jobs ys zs
    → GrantedOpening w read acts r xs setup.line.now (unused setup.jobs setup.benches setup.floor h.held) ys → Course w read acts (as_opened read xs setup) [] s h zs
begins w read acts r s xs ys zs setup h is told alike granted =
    let opening = subst (λ g. GrantedOpening w read acts r xs setup.line.now g ys) (sym is) granted in
    subst (λ o. Course w read acts o [] s h zs) (ap (λ g. opened_of read g xs) is) (opens r s xs ys zs setup.line.now h opening (told opening) alike)

pub returns : goal.returns
returns g c =
    let good = c.in_ok-survey.ensures in
    let survey = good.1 in
    let setup = c.args.setup.now in
    let hall = c.new-self in
    let some : 1 ≤ setup.benches = elim (cases_lt 0 setup.benches) [ inl h ↦ h | inr h ↦ absurd (good.0 _ (unbounded (unbenched (inl (omega arith))))) ] in
    let few : setup.benches ≤ 64 = elim (cases_lt 64 setup.benches) [ inl h ↦ absurd (good.0 _ (unbounded (unbenched (inr h)))) | inr h ↦ h ] in
    let granted : GrantedOpening g.K.Amount.width g.K.Amount.reading g.R.Rule.acts c.args.self.now.rule c.args.jobs.now setup.line.now (unused setup.jobs setup.benches setup.floor hall.result.held) c.lay.new.jobs =
    record {
      sound = survey.sound;
      lined = survey.lined;
      benched = (some, few);
      floored = λ h. good.0 _ (unbounded (unfloored h));
      ruled = λ e h. good.0 e (unruled h);
      fitting = λ p i over. good.0 _ (exceeded p i over);
      laid = c.lay.ensures setup.line.now survey;
      empty = refl;
      nothing = hall.ensures.nothing;
      unstarted = refl;
      unreported = refl;
    } in
    record {
      judged = (
        good.0,
        begins g.K.Amount.width g.K.Amount.reading g.R.Rule.acts c.args.self.now.rule c.opening.new.self c.args.jobs.now c.lay.new.jobs c.opening.new.jobs setup hall.result hall.ensures.unused (c.opening.ensures.told c.args.jobs.now) c.opening.ensures.kept granted,
      );
      still = tt;
    }
