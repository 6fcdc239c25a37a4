-- A walk along the chain of a job's children in lent records. What it keeps is told wherever the records are those of a tree with
-- its chains; of other records nothing is known.
use Rattle.std.proofs.Common.{◌≡◌, ℕ, ◌+◌, ◌<◌, ◌≤◌, Bool, true, false, ◌&&◌, leb, List, length, get_or, Some, None, Option, Ok, Err, Result, Bor, sym, refl, ap, ◌∙◌, subst, inl, inr, arith, MatchOption}
use Rattle.std.proofs.lemmas.List.{get_or-map}
use Rattle.std.proofs.lemmas.Bool.{cases_eq, cases_lt, cond-true, and_from, le-leb}
use Rattle.std.specs.Result.{result_ok}
use Rattle.amounts.specs.Axes.{most, Sum}
use Rattle.trees.specs.Sums.{In}
use Rattle.trees.specs.Trees.{NextChild, kids}
use Rattle.jobs.specs.declared.Job.{Job}
use Rattle.jobs.specs.declared.State.TheVariants.{Waiting, Done}
use Rattle.jobs.specs.Fields.{work_of, output_of}
use Rattle.jobs.proofs.Fields.{at_read}
use Rattle.intake.specs.Faults.{par_of}
use Rattle.peaks.proofs.Bounded.{Reads, work_most, output_most, outputs_most}
use Rattle.peaks.proofs.Gathering.{before, before_none, before_all, before_most, before_next}
use Rattle.rules.specs.Records.{state_in, ChainedRecords}
use Rattle.rules.specs.declared.kin.Broken.{Broken}
use Rattle.rules.specs.declared.kin.Children.{Children}
use Rattle.rules.specs.Children.{Gives}

module _ {S : Type 0} (w : ℕ) (read : S → ℕ → ℕ) (xs : List (Job S)) (job : ℕ) where
  -- P n, wherever the job is one of a tree of n jobs with its chains
  abbrev pub InTree : (ℕ → Type 0) → Type 0
  InTree P = (n : ℕ) → ChainedRecords w read xs n → In n job → P n

  -- the child after those up to `last` is c; there is none if c is 0
  abbrev pub Comes : ℕ → ℕ → Type 0
  Comes last c = InTree (λ n. NextChild n (par_of xs n) job last c)

  -- x is the sum of the outputs of the children before c; of all if c is 0
  abbrev pub Gathered : S → ℕ → Type 0
  Gathered x c = InTree (λ n. (a : ℕ) → read x a ≡ before n (par_of xs n) (output_of read xs a) job c)

  -- the children up to `last` are done
  abbrev pub DoneTo : ℕ → Type 0
  DoneTo last = InTree (λ n. (k : ℕ) → In n k → k ≤ last → par_of xs n k ≡ job → state_in n xs k ≡ Done)

  -- where the walk s of the job's children stands
  pub record Walks (s : Children S) : Type 0 where
    pub same : s.jobs.now ≡ xs
    pub comes : Comes s.last s.next

  -- a turn of the walk: c comes after `last`, and r is its record
  pub record Turn (last c : ℕ) (r : Job S) : Type 0 where
    pub comes : Comes last c
    pub rises : last < c
    pub inside : c < length xs
    pub is : r ≡ get_or xs c r

  -- the start, from the job's own record
  pub comes_first : (r : Job S) → job < length xs → r ≡ get_or xs job r → Comes 0 r.first_child
  comes_first r inside is n tree own =
      subst (NextChild n (par_of xs n) job 0) (at_read (λ j. j.first_child) xs job r inside is) (tree.chained.firsts job own)

  -- the walk s begins, and x is nothing
  module _ (s : Children S) (r : Job S) (inside : job < length xs) (is : r ≡ get_or xs job r) (same : s.jobs.now ≡ xs) (last : s.last ≡ 0) (next : s.next ≡ r.first_child) where
    pub walks_first : Walks s
    walks_first = record { same = same; comes = rw (last, next) (comes_first r inside is) }

    pub gathered_first : (x : S) → ((a : ℕ) → read x a ≡ 0) → Gathered x s.next
    gathered_first x zero n tree own a =
        zero a ∙ sym (before_none n (par_of xs n) (output_of read xs a) job s.next (rw next (comes_first r inside is n tree own)))

    pub done_first : DoneTo s.last
    done_first n tree own k in-k low child = absurd (omega arith)

  -- the walk s does not break off
  pub never_breaks : (s t : Children S) → Walks s → (i : Result (Bor (Job S)) Broken) → Gives s (Some i) t → result_ok i ≡ None → InTree (λ n. ⊥)
  never_breaks s t walks (Ok r) gives none n tree own = cc
  never_breaks s t walks (Err e) gives none n tree own =
      let c = (walks.comes n tree own).some gives.0 in
      let stops : length xs ≤ s.next = subst (λ l. length l ≤ s.next) walks.same (gives.1 c.0) in
      omega (arith, c.1, tree.sound.records)

  pub gathered_all : (x : S) (c : ℕ) → Gathered x c → c ≡ 0 → InTree (λ n. (a : ℕ) → read x a ≡ kids n (par_of xs n) (output_of read xs a) job)
  gathered_all x c sum end n tree own a =
      sum n tree own a
      ∙ ap (before n (par_of xs n) (output_of read xs a) job) end
      ∙ before_all n (par_of xs n) (output_of read xs a) job

  pub done_all : (last c : ℕ) → Comes last c → DoneTo last → c ≡ 0 → InTree (λ n. (k : ℕ) → In n k → par_of xs n k ≡ job → state_in n xs k ≡ Done)
  done_all last c comes done end n tree own k in-k child =
      elim (cases_lt last k) [
        | inl high ↦ absurd ((comes n tree own).none end k high in-k.1 child)
        | inr low ↦ done n tree own k in-k low child
      ]

  -- o is the sum of the job's work, in its record r, and of its children's outputs, x: no axis of it passes the limit
  pub with_work : Reads w read → (r : Job S) → job < length xs → r ≡ get_or xs job r → InTree (λ n. (x : S) → ((a : ℕ) → read x a ≡ kids n (par_of xs n) (output_of read xs a) job) → (o : Option S) → Sum read r.work x o → MatchOption o ⊥ (λ y. (a : ℕ) → read y a ≡ work_of read xs a job + kids n (par_of xs n) (output_of read xs a) job))
  with_work kind r inside is n tree own x all None over =
      let a = over.0 in
      omega (
        arith,
        over.1,
        all a,
        at_read (λ j. read j.work a) xs job r inside is,
        work_most w read kind xs n tree.sound a job own,
        before_all n (par_of xs n) (output_of read xs a) job,
        before_most n (par_of xs n) (output_of read xs a) job 0,
        outputs_most w read kind xs n tree.sound a,
      )
  with_work kind r inside is n tree own x all (Some y) sum = λ a. omega (arith, sum a, all a, at_read (λ j. read j.work a) xs job r inside is)

-- how a job stands is what its record says
pub state_read : {S : Type 0} (xs : List (Job S)) (n k : ℕ) (r : Job S) → In n k → k < length xs → r ≡ get_or xs k r → state_in n xs k ≡ r.state
state_read xs n k r in-k inside is =
    cond-true (leb 1 k && leb k n) _ Waiting (and_from (leb 1 k) (leb k n) (le-leb 1 k in-k.0) (le-leb k n in-k.1))
    ∙ get_or-map (λ j. j.state) xs k r Waiting inside
    ∙ ap (λ j. j.state) (sym is)

pub false_unless : (b : Bool) → (b ≡ true → ⊥) → false ≡ b
false_unless true never = absurd (never refl)
false_unless false never = refl

module _ {S : Type 0} {w : ℕ} {read : S → ℕ → ℕ} {xs : List (Job S)} {job last c : ℕ} {r : Job S} (turn : Turn w read xs job last c r) where
  pub turn_child : InTree w read xs job (λ n. In n c × (par_of xs n c ≡ job))
  turn_child n tree own =
      let s = (turn.comes n tree own).some (λ e. omega arith) in
      ((omega arith, s.1), s.2)

  pub comes_next : Comes w read xs job c r.next_sibling
  comes_next n tree own =
      let t = turn_child n tree own in
      let next = subst (NextChild n (par_of xs n) (par_of xs n c) c) (at_read (λ j. j.next_sibling) xs c r turn.inside turn.is) (tree.chained.nexts c t.0) in
      subst (λ v. NextChild n (par_of xs n) v c r.next_sibling) t.1 next

  pub gathered_fits : Reads w read → (x : S) → Gathered w read xs job x c → InTree w read xs job (λ n. (a : ℕ) → read x a + read r.output a ≤ most)
  gathered_fits kind x sum n tree own a =
      omega (
        arith,
        sum n tree own a,
        before_most n (par_of xs n) (output_of read xs a) job c,
        outputs_most w read kind xs n tree.sound a,
        output_most w read kind xs n tree.sound a c (turn_child n tree own).0,
        at_read (λ j. read j.output a) xs c r turn.inside turn.is,
      )

  pub gathered_next : (x y : S) → Gathered w read xs job x c → ((a : ℕ) → read y a ≡ read x a + read r.output a) → Gathered w read xs job y r.next_sibling
  gathered_next x y sum more n tree own a =
      let t = turn_child n tree own in
      omega (
        arith,
        more a,
        sum n tree own a,
        at_read (λ j. read j.output a) xs c r turn.inside turn.is,
        before_next n (par_of xs n) (output_of read xs a) job c r.next_sibling (λ e. omega arith) t.0 t.1 (comes_next n tree own),
      )

  pub done_next : r.state ≡ Done → DoneTo w read xs job last → DoneTo w read xs job c
  done_next here done n tree own k in-k low child =
      elim (cases_eq k c) [
        | inl e ↦ ap (state_in n xs) e ∙ state_read xs n c r (turn_child n tree own).0 turn.inside turn.is ∙ here
        | inr other ↦ elim (cases_lt last k) [
          | inl high ↦ absurd (((turn.comes n tree own).some (λ e. omega arith)).3 k high (omega arith) child)
          | inr passed ↦ done n tree own k in-k passed child
        ]
      ]

-- an item that has a record is that record
pub gave : {S : Type 0} (s t : Children S) (i : Result (Bor (Job S)) Broken) (r : Bor (Job S)) → Gives s (Some i) t → result_ok i ≡ Some r → Gives s (Some (Ok r)) t
gave s t (Ok x) r gives some = let e : x ≡ r = cc in subst (λ y. Gives s (Some (Ok y)) t) e gives
gave s t (Err e) r gives some = cc

-- the walk s gave the record r, and is t now
module _ {S : Type 0} {w : ℕ} {read : S → ℕ → ℕ} {xs : List (Job S)} {job : ℕ} {s : Children S} (walks : Walks w read xs job s) (r : Bor (Job S)) (t : Children S) (gives : Gives s (Some (Ok r)) t) where
  pub turn_of : Turn w read xs job s.last s.next r.now
  turn_of =
      record {
        comes = walks.comes;
        rises = gives.0;
        inside = subst (λ l. s.next < length l) walks.same gives.1;
        is = subst (λ l. r.now ≡ get_or l s.next r.now) walks.same gives.2;
      }

  pub walks_next : Walks w read xs job t
  walks_next = record { same = ap (λ b. b.now) gives.3 ∙ walks.same; comes = rw (gives.4, gives.5) (comes_next turn_of) }
