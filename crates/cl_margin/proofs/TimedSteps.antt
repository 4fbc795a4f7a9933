-- Times between two percentages: those of the first runnables of a task are at the new one, or those of the first tasks.
use Rattle.std.proofs.Common.{◌≡◌, ℕ, ◌+◌, ◌<◌, ◌≤◌, inl, inr, Bool, true, false, cond, ◌&&◌, nat_lt, List, length, refl, sym, ap, ◌∙◌, subst, arith}
use Rattle.std.specs.Prelude.{◌==◌}
use Rattle.std.proofs.lemmas.Bool.{cases_lt, cases_eq, eq-eqb, ne_eqb, eqb-true, lt-ltb, le-ltb}
use Rattle.cl_model.specs.{declared.{group.Step.Step, limits.TheConstants.MOST_TICKS, model.SystemModel.SystemModel, task.{RunnableDef.RunnableDef, TaskDef.TaskDef}}, ByNumber.task_at, Changes.with_range, Groups.IsStepOf, Ranges.IsInRange, Validity.IsValid}
use Rattle.cl_model.proofs.ListFacts.{both_pass}
use Rattle.cl_margin.specs.{declared.whose.Whose.TheVariants.{EveryTask, OneTask}, Grown.{percent_of, grown_greatest, grown_task, grown_by, grown}, Inner.Trials.with_percent}
use Rattle.cl_margin.proofs.TimedModels.{maps_within, runnable_in, timed_model, same_timed, step_timed, AreTimes, timed_valid, put, range_put, percent_times, grown_timed, times_of, in_range_of}

-- ---- tests of numbers

more_lt : (k count : ℕ) → (k ≡ count → ⊥) → nat_lt k count ≡ nat_lt k (count + 1)
more_lt k count apart = elim (cases_lt k count) [
  | inl lt ↦ lt-ltb k count lt ∙ sym (lt-ltb k (count + 1) (omega (arith, lt)))
  | inr past ↦ le-ltb k count past ∙ sym (le-ltb k (count + 1) (behind past))
]
  where
    behind : count ≤ k → count + 1 ≤ k
    behind past = elim (cases_lt count k) [
      | inl lt ↦ omega (arith, lt)
      | inr by ↦ absurd (apart (omega (arith, by, past)))
    ]

fails_behind : (a b : Bool) → b ≡ false → (a && b) ≡ false
fails_behind true b fails = fails
fails_behind false b fails = refl

-- ---- the first runnables of a task

module _ (model : SystemModel) (times : ℕ → ℕ → ℕ) (task percent : ℕ) where
  abbrev pub reached : (count : ℕ) → (i k : ℕ) → ℕ
  reached count i k = cond ((i == task) && nat_lt k count) (grown_greatest percent (runnable_in model i k)) (times i k)

  pub reached_none : timed_model model times ≡ timed_model model (reached 0)
  reached_none = same_timed model times (reached 0)
      (λ i k h g. sym (ap (λ b. cond b (grown_greatest percent (runnable_in model i k)) (times i k)) (fails_behind (i == task) (nat_lt k 0) (le-ltb k 0 (omega arith)))))

  module _ (count : ℕ) where
    abbrev time : ℕ
    time = grown_greatest percent (runnable_in model task count)

    one_more : (i k : ℕ) → put model (reached count) task count time i k ≡ reached (count + 1) i k
    one_more i k =
        let new = grown_greatest percent (runnable_in model i k) in
        let old = times i k in
        elim (cases_eq i task) [
          | inl same ↦
              ap (λ b. cond (b && (k == count)) time (cond (b && nat_lt k count) new old)) (eq-eqb i task same)
              ∙ elim (cases_eq k count) [
                | inl at ↦
                    ap (λ b. cond b time (cond (nat_lt k count) new old)) (eq-eqb k count at)
                    ∙ ap (λ j. grown_greatest percent (runnable_in model j count)) (sym same)
                    ∙ ap (λ j. grown_greatest percent (runnable_in model i j)) (sym at)
                    ∙ sym (ap (λ b. cond b new old) (lt-ltb k (count + 1) (omega (arith, at))))
                | inr off ↦
                    ap (λ b. cond b time (cond (nat_lt k count) new old)) (ne_eqb k count off)
                    ∙ ap (λ b. cond b new old) (more_lt k count off)
              ]
              ∙ sym (ap (λ b. cond (b && nat_lt k (count + 1)) new old) (eq-eqb i task same))
          | inr apart ↦
              ap (λ b. cond (b && (k == count)) time (cond (b && nat_lt k count) new old)) (ne_eqb i task apart)
              ∙ sym (ap (λ b. cond (b && nat_lt k (count + 1)) new old) (ne_eqb i task apart))
        ]

    -- one more is changed
    pub reached_more : task < length model.tasks → count < length (task_at model task).runnables
        → with_range (timed_model model (reached count)) (record { task = task; place = count }) (runnable_in model task count).least time
        ≡ timed_model model (reached (count + 1))
    reached_more h g = range_put model (reached count) task count time h g
        ∙ same_timed model (put model (reached count) task count time) (reached (count + 1)) (λ i k lt within. one_more i k)

    -- what holds of each time before, and of each that is changed, holds of each
    reached_has : (P : ℕ → Type 0) (i k : ℕ) → P (times i k) → (i ≡ task → P (grown_greatest percent (runnable_in model i k))) → P (reached count i k)
    reached_has P i k old new =
        let there : Bool = (i == task) && nat_lt k count in
        elim there as (λ b. there ≡ b → P (cond b (grown_greatest percent (runnable_in model i k)) (times i k))) [
          | true ↦ λ is. new (eqb-true i task (both_pass (i == task) (nat_lt k count) is).0)
          | false ↦ λ is. old
        ] refl

    pub times_reached : AreTimes model times → ((k : ℕ) → k < length (task_at model task).runnables → grown_greatest percent (runnable_in model task k) ≤ MOST_TICKS)
        → AreTimes model (reached count)
    times_reached are own = record {
      some = λ i k h g. reached_has (λ n. (runnable_in model i k).least ≤ n) i k (are.some i k h g) (λ same. omega arith);
      few = λ i k h g. reached_has (λ n. n ≤ MOST_TICKS) i k (are.few i k h g)
          (λ same. subst (λ j. k < length (task_at model j).runnables → grown_greatest percent (runnable_in model j k) ≤ MOST_TICKS) (sym same) (own k) g);
    }

-- the times of the task are at the percentage where all its runnables are
module _ (model : SystemModel) (percents : ℕ → ℕ) (task percent : ℕ) where
  abbrev made : ℕ → ℕ
  made = with_percent percents task percent

  all_there : (count : ℕ) → length (task_at model task).runnables ≤ count → (i k : ℕ) → k < length (task_at model i).runnables
      → reached model (percent_times model percents) task percent count i k ≡ percent_times model made i k
  all_there count all i k g =
      let new = grown_greatest percent (runnable_in model i k) in
      let old = grown_greatest (percents i) (runnable_in model i k) in
      elim (cases_eq i task) [
        | inl same ↦
            let within : k < count = omega (arith, g, all, ap (λ j. length (task_at model j).runnables) same) in
            ap (λ b. cond (b && nat_lt k count) new old) (eq-eqb i task same)
            ∙ ap (λ b. cond b new old) (lt-ltb k count within)
            ∙ sym (ap (λ b. grown_greatest (cond b percent (percents i)) (runnable_in model i k)) (eq-eqb i task same))
        | inr apart ↦
            ap (λ b. cond (b && nat_lt k count) new old) (ne_eqb i task apart)
            ∙ sym (ap (λ b. grown_greatest (cond b percent (percents i)) (runnable_in model i k)) (ne_eqb i task apart))
      ]

  pub reached_all : (count : ℕ) → length (task_at model task).runnables ≤ count
      → timed_model model (reached model (percent_times model percents) task percent count) ≡ grown_by model made
  reached_all count all =
      same_timed model (reached model (percent_times model percents) task percent count) (percent_times model made) (λ i k h g. all_there count all i k g)
      ∙ sym (grown_timed model made)

  -- what stands while the runnables are changed is valid
  pub reached_valid : (count : ℕ) → IsValid model → task < length model.tasks → IsInRange (grown_by model percents) → IsInRange (grown_by model made)
      → IsValid (timed_model model (reached model (percent_times model percents) task percent count))
  reached_valid count valid h before after =
      let own : (k : ℕ) → k < length (task_at model task).runnables → grown_greatest percent (runnable_in model task k) ≤ MOST_TICKS =
      λ k g. subst (λ n. grown_greatest n (runnable_in model task k) ≤ MOST_TICKS) (ap (λ b. cond b percent (percents task)) (eq-eqb task task refl))
      ((times_of model made after).few task k h g) in
      timed_valid model (reached model (percent_times model percents) task percent count) valid
      (times_reached model (percent_times model percents) task percent count (times_of model percents before) own)

  -- one more runnable is given its range at the percentage
  module _ (count : ℕ) (h : task < length model.tasks) (g : count < length (task_at model task).runnables)
      (current : SystemModel) (runnable : RunnableDef) (time : ℕ)
      (same : current ≡ timed_model model (reached model (percent_times model percents) task percent count))
      (is : runnable ≡ runnable_in model task count) (grown : time ≡ grown_greatest percent runnable) where
    abbrev step : Step
    step = record { task = task; place = count }

    pub range_more : with_range current step runnable.least time ≡ timed_model model (reached model (percent_times model percents) task percent (count + 1))
    range_more =
        ap (λ n. with_range current step runnable.least n) grown
        ∙ ap (λ (r : RunnableDef). with_range current step r.least (grown_greatest percent r)) is
        ∙ ap (λ (m : SystemModel). with_range m step (runnable_in model task count).least (grown_greatest percent (runnable_in model task count))) same
        ∙ reached_more model (percent_times model percents) task percent count h g

    pub is_step : IsStepOf current step
    is_step = subst (λ (m : SystemModel). IsStepOf m step) (sym same) (step_timed model (reached model (percent_times model percents) task percent count) task count h g)

    pub range_valid : IsValid model → IsInRange (grown_by model percents) → IsInRange (grown_by model made) → IsValid (with_range current step runnable.least time)
    range_valid valid before after = subst (λ (m : SystemModel). IsValid m) (sym range_more) (reached_valid (count + 1) valid h before after)

-- ---- the first tasks

module _ (model : SystemModel) where
  pub grown_agree : (one other : ℕ → ℕ) → ((i : ℕ) → i < length model.tasks → one i ≡ other i) → grown_by model one ≡ grown_by model other
  unfolding grown_by
  grown_agree one other same = ap (λ (tasks : List TaskDef). record model { tasks = tasks })
      (maps_within (grown_task model one) (grown_task model other) (length model.tasks)
      (λ i h. ap (λ n. grown_task model (λ _. n) i) (same i h)))

  -- of one task alone
  twice : (b : Bool) (x y z : ℕ) → cond b x (cond b y z) ≡ cond b x z
  twice true x y z = refl
  twice false x y z = refl

  pub one_put : (task now percent : ℕ) → grown_by model (with_percent (percent_of (OneTask task) now) task percent) ≡ grown model (OneTask task) percent
  one_put task now percent = grown_agree (with_percent (percent_of (OneTask task) now) task percent) (percent_of (OneTask task) percent)
      (λ i h. twice (i == task) percent now 100)

  module _ (now percent : ℕ) where
    -- the percentages where those of the first tasks are the new one
    abbrev pub risen : (count : ℕ) → (task : ℕ) → ℕ
    risen count task = cond (nat_lt task count) percent now

    pub risen_none : grown model EveryTask now ≡ grown_by model (risen 0)
    risen_none = grown_agree (λ _. now) (risen 0) (λ i h. sym (ap (λ b. cond b percent now) (le-ltb i 0 (omega arith))))

    pub risen_all : (count : ℕ) → length model.tasks ≤ count → grown_by model (risen count) ≡ grown model EveryTask percent
    risen_all count all = grown_agree (risen count) (λ _. percent) (λ i h. ap (λ b. cond b percent now) (lt-ltb i count (omega (arith, h, all))))

    pub risen_more : (count : ℕ) → grown_by model (with_percent (risen count) count percent) ≡ grown_by model (risen (count + 1))
    risen_more count = grown_agree (with_percent (risen count) count percent) (risen (count + 1))
        (λ i h. elim (cases_eq i count) [
          | inl same ↦
              ap (λ b. cond b percent (risen count i)) (eq-eqb i count same)
              ∙ sym (ap (λ b. cond b percent now) (lt-ltb i (count + 1) (omega (arith, same))))
          | inr apart ↦
              ap (λ b. cond b percent (risen count i)) (ne_eqb i count apart)
              ∙ ap (λ b. cond b percent now) (more_lt i count apart)
        ])

    pub risen_in_range : (count : ℕ) → IsValid model → IsInRange (grown model EveryTask now) → IsInRange (grown model EveryTask percent)
        → IsInRange (grown_by model (risen count))
    risen_in_range count valid before after = in_range_of model valid (risen count) (record {
      some = λ i k h g. omega arith;
      few = λ i k h g. elim (nat_lt i count) as (λ b. grown_greatest (cond b percent now) (runnable_in model i k) ≤ MOST_TICKS) [
        | true ↦ (times_of model (λ _. percent) after).few i k h g
        | false ↦ (times_of model (λ _. now) before).few i k h g
      ];
    })
