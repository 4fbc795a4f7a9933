-- A task executes one runnable of one job in a tick, and so its parts are unique.
use Rattle.std.proofs.Common.{◌≡◌, ℕ, zero, suc, ◌<◌, ◌≤◌, inl, inr, Some, List, [], ◌∷◌, length, refl, sym, ap, subst, ◌∙◌, arith}
use Rattle.std.proofs.lemmas.Bool.{cases_lt}
use Rattle.cl_model.specs.declared.model.SystemModel.{SystemModel}
use Rattle.cl_runs.specs.{TaskTiming.{System, timing_at}, SystemOf.system_of, Run.{Run, jobs_of, entry_at}, Moments.Executes}
use Rattle.cl_runs.proofs.Work.{through_place, places_rise, work_rises}
use Rattle.cl_draw.specs.{declared.parts.Part.Part, Parts.{due_in, part_at, IsPart, IsFollowedBy, HasPartAt, AreParts}, Inner.TaskRuns.IsTaskRun}
use Rattle.cl_draw.proofs.CursorFacts.{places_are}

-- the parts from a tick on
pub record ArePartsFrom (system : System) (run : Run) (task low : ℕ) (parts : List Part) : Type 0 where
  pub each : (k : ℕ) → k < length parts → IsPart system run task (part_at parts k)
  pub in_order : (k : ℕ) → suc k < length parts → IsFollowedBy system run task (part_at parts k) (part_at parts (suc k))
  pub after : (k : ℕ) → k < length parts → low ≤ (part_at parts k).from
  pub all : (tick : ℕ) → low ≤ tick → tick < run.table.ticks → entry_at run (timing_at system task).core tick ≡ Some task → HasPartAt parts tick

part_same : (one other : Part) → one.job ≡ other.job → one.place ≡ other.place → one.from ≡ other.from → one.to ≡ other.to → one ≡ other
part_same one other job place from to = λ i. record { job = job i; place = place i; from = from i; to = to i }

-- two equal numbers, since neither is less
not_less : (m n : ℕ) → (m < n → ⊥) → (n < m → ⊥) → m ≡ n
not_less m n one other = elim (cases_lt m n) [
  | inl less ↦ absurd (one less)
  | inr not ↦ elim (cases_lt n m) [ inl less ↦ absurd (other less) | inr too ↦ omega (arith, not, too) ]
]

module _ (model : SystemModel) (run : Run) (task : ℕ) (of : IsTaskRun model run task) where
  -- ---- one runnable of one job

  abbrev Does : (job place tick : ℕ) → Type 0
  Does job place tick = Executes (system_of model) run task job place tick

  no_earlier_job : (k p l q t : ℕ) → Does k p t → Does l q t → k < l → ⊥
  no_earlier_job k p l q t one other before = omega (
    arith,
    one.unfinished,
    other.begun,
    work_rises (jobs_of run task) k p l q one.in_table (omega (arith, one.is_runnable, places_are model run task of k one.in_table)) before,
  )

  pub one_job : (k p l q t : ℕ) → Does k p t → Does l q t → k ≡ l
  one_job k p l q t one other = not_less k l (no_earlier_job k p l q t one other) (no_earlier_job l q k p t other one)

  no_earlier_place : (k p q t : ℕ) → Does k p t → Does k q t → p < q → ⊥
  no_earlier_place k p q t one other before = omega (
    arith,
    one.unfinished,
    other.begun,
    through_place (jobs_of run task) k p (omega (arith, one.is_runnable, places_are model run task of k one.in_table)),
    places_rise (jobs_of run task) k (suc p) q before,
  )

  pub one_place : (k p q t : ℕ) → Does k p t → Does k q t → p ≡ q
  one_place k p q t one other = not_less p q (no_earlier_place k p q t one other) (no_earlier_place k q p t other one)

  -- ---- the parts from a tick on

  abbrev From : (low : ℕ) → List Part → Type 0
  From low parts = ArePartsFrom (system_of model) run task low parts

  -- the task runs where a part begins
  runs_at : (part : Part) → IsPart (system_of model) run task part → (tick : ℕ) → part.from ≤ tick → tick < part.to
      → (tick < run.table.ticks) × (entry_at run (timing_at (system_of model) task).core tick ≡ Some task)
  runs_at part is tick after before = let does = is.executes tick after before in (does.below_end, does.runs)

  rises : (low : ℕ) (parts : List Part) → From low parts → (k : ℕ) → k < length parts → (part_at parts 0).from ≤ (part_at parts k).from
  rises low parts are zero within = omega arith
  rises low parts are (suc k) within =
      omega (arith, rises low parts are k (omega (arith, within)), (are.each k (omega (arith, within))).some, (are.in_order k within).in_order)

  -- the first part begins by each later tick in which the task runs
  begins_by : (low : ℕ) (parts : List Part) → From low parts → (tick : ℕ) → low ≤ tick → tick < run.table.ticks
      → entry_at run (timing_at (system_of model) task).core tick ≡ Some task → (part_at parts 0).from ≤ tick
  begins_by low parts are tick late below runs =
      let have = are.all tick late below runs in omega (arith, rises low parts are have.place have.within, have.from)

  -- the parts behind the first
  behind : (low : ℕ) (p : Part) (ps : List Part) → From low (p ∷ ps) → (k : ℕ) → k < length ps → p.to ≤ (part_at ps k).from
  behind low p ps are zero within = (are.in_order 0 (omega (arith, within))).in_order
  behind low p ps are (suc k) within = omega (
    arith,
    behind low p ps are k (omega (arith, within)),
    (are.each (suc k) (omega (arith, within))).some,
    (are.in_order (suc k) (omega (arith, within))).in_order,
  )

  in_tail : (p : Part) (ps : List Part) (tick place : ℕ) → p.to ≤ tick → place < length (p ∷ ps) → (part_at (p ∷ ps) place).from ≤ tick
      → tick < (part_at (p ∷ ps) place).to → HasPartAt ps tick
  in_tail p ps tick zero past within from to = absurd (omega (arith, past, to))
  in_tail p ps tick (suc k) past within from to = record { place = k; within = omega (arith, within); from = from; to = to }

  tail_from : (low : ℕ) (p : Part) (ps : List Part) → From low (p ∷ ps) → From p.to ps
  tail_from low p ps are = record {
    each = λ k h. are.each (suc k) (omega (arith, h));
    in_order = λ k h. are.in_order (suc k) (omega (arith, h));
    after = behind low p ps are;
    all = λ tick late below runs.
        let have = are.all tick (omega (arith, late, are.after 0 (omega arith), (are.each 0 (omega arith)).some)) below runs in
        in_tail p ps tick have.place late have.within have.from have.to;
  }

  -- ---- two lists of them

  module _ (low : ℕ) (p q : Part) (ps qs : List Part) (one : From low (p ∷ ps)) (other : From low (q ∷ qs)) where
    own : IsPart (system_of model) run task p
    own = one.each 0 (omega arith)

    also : IsPart (system_of model) run task q
    also = other.each 0 (omega arith)

    no_later : q.from ≤ p.from
    no_later = let at = runs_at p own p.from (omega arith) own.some in begins_by low (q ∷ qs) other p.from (one.after 0 (omega arith)) at.0 at.1

    -- where the first ends earlier than the other, the task goes on with the same runnable, and no deadline cuts it
    ends_no_earlier : p.from ≡ q.from → p.job ≡ q.job → p.place ≡ q.place → p.to < q.to → ⊥
    ends_no_earlier from job place earlier =
        let at = runs_at q also p.to (omega (arith, from, own.some)) earlier in
        let have = one.all p.to (omega (arith, own.some, one.after 0 (omega arith))) at.0 at.1 in
        let rest = in_tail p ps p.to have.place (omega arith) have.within have.from have.to in
        let some : 0 < length ps = omega (arith, rest.within) in
        let tail = tail_from low p ps one in
        let touch : p.to ≡ (part_at ps 0).from
        = omega (arith, begins_by p.to ps tail p.to (omega arith) at.0 at.1, behind low p ps one 0 some) in
        let next = tail.each 0 some in
        let does = next.executes p.to (omega (arith, touch)) (omega (arith, touch, next.some)) in
        let goes_on = also.executes p.to (omega (arith, from, own.some)) earlier in
        let same_job : p.job ≡ (part_at ps 0).job = job ∙ one_job q.job q.place (part_at ps 0).job (part_at ps 0).place p.to goes_on does in
        let same_place : p.place ≡ (part_at ps 0).place
        = place ∙ one_place q.job q.place (part_at ps 0).place p.to goes_on (subst (λ k. Does k (part_at ps 0).place p.to) (sym same_job ∙ job) does) in
        let due = (one.in_order 0 (omega (arith, some))).cut touch same_job same_place in
        let due_same = ap (due_in (system_of model) run task) job in
        elim also.one_side [
          | inl before ↦ omega (arith, before, due, due_same, earlier)
          | inr past ↦ omega (arith, past, due, due_same, from, own.some)
        ]

  first_same : (low : ℕ) (p q : Part) (ps qs : List Part) → From low (p ∷ ps) → From low (q ∷ qs) → p ≡ q
  first_same low p q ps qs one other =
      let from : p.from ≡ q.from = omega (arith, no_later low p q ps qs one other, no_later low q p qs ps other one) in
      let is = one.each 0 (omega arith) in
      let also = other.each 0 (omega arith) in
      let does = is.executes p.from (omega arith) is.some in
      let goes = also.executes p.from (omega (arith, from)) (omega (arith, from, also.some)) in
      let job : p.job ≡ q.job = one_job p.job p.place q.job q.place p.from does goes in
      let place : p.place ≡ q.place = one_place p.job p.place q.place p.from does (subst (λ k. Does k q.place p.from) (sym job) goes) in
      part_same p q job place from (not_less p.to q.to
      (ends_no_earlier low p q ps qs one other from job place)
      (ends_no_earlier low q p qs ps other one (sym from) (sym job) (sym place)))

  some_part : (low : ℕ) (p : Part) (ps : List Part) → From low (p ∷ ps) → From low [] → ⊥
  some_part low p ps one none =
      let is = one.each 0 (omega arith) in
      let at = runs_at p is p.from (omega arith) is.some in
      let have = none.all p.from (one.after 0 (omega arith)) at.0 at.1 in
      omega (arith, have.within)

  one_from : (low : ℕ) (ps qs : List Part) → From low ps → From low qs → ps ≡ qs
  one_from low [] [] one other = refl
  one_from low [] (q ∷ qs) one other = absurd (some_part low q qs other one)
  one_from low (p ∷ ps) [] one other = absurd (some_part low p ps one other)
  one_from low (p ∷ ps) (q ∷ qs) one other =
      let same = first_same low p q ps qs one other in
      let rest = one_from q.to ps qs (subst (λ (x : Part). From x.to ps) same (tail_from low p ps one)) (tail_from low q qs other) in
      ap (λ (x : Part). x ∷ ps) same ∙ ap (λ (xs : List Part). q ∷ xs) rest

  whole : (parts : List Part) → AreParts (system_of model) run task parts → From 0 parts
  whole parts are = record {
    each = are.each;
    in_order = are.in_order;
    after = λ k h. omega arith;
    all = λ tick late below runs. are.all tick below runs;
  }

  -- the parts of a task are unique
  pub one_parts : (ps qs : List Part) → AreParts (system_of model) run task ps → AreParts (system_of model) run task qs → ps ≡ qs
  one_parts ps qs one other = one_from 0 ps qs (whole ps one) (whole qs other)
