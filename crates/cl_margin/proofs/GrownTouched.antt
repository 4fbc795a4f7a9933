-- A task that the growing times of one task don't touch takes the same at each percentage: it isn't that task, that one
-- doesn't stand above it, and where it stands below it has no whole runnable that would hold the core.
use Rattle.std.proofs.Common.{◌≡◌, ℕ, ◌-◌, ◌<◌, ◌≤◌, inl, inr, Bool, true, false, cond, ◌&&◌, ◌||◌, nat_le, nat_lt, length, get_or, sym, ap, ◌∙◌, arith}
use Rattle.std.specs.Prelude.{◌==◌}
use Rattle.std.proofs.lemmas.Bool.{true≢false, cases_eq, eqb-true, eq-eqb, ne_eqb, ltb-true, leb-false, or_parts, false_from_ne_true}
use Rattle.std.proofs.lemmas.List.Folds.{list_any_at}
use Rattle.cl_model.specs.{declared.{group.Group.Group, model.SystemModel.SystemModel, task.{RunnableDef.RunnableDef, TaskDef.TaskDef}}, ByNumber.{task_at, core_of}}
use Rattle.cl_model.proofs.{Greatest.greatest_within, ListFacts.both_pass}
use Rattle.cl_runs.specs.{SystemOf.system_of, TaskTiming.timing_at}
use Rattle.cl_resp.specs.{Clear.greatest_through, LesserTimes.TakesNoMore, Question.longest_hold}
use Rattle.cl_tight.specs.LongerTimes.{IsNoLonger}
use Rattle.cl_margin.specs.{declared.whose.Whose.{Whose, TheVariants.{EveryTask, OneTask}}, Grown.{percent_of, grown_greatest, grown}, Inner.Touched.{has_whole, reaches, touches}}
use Rattle.cl_margin.proofs.{GrownSystem.grown_timing, GrownTimes.{timed, hold_at, hold_is, longest_rises, above_it, below_it, takes_where, through_where}}

-- a task with no whole runnable holds no core
no_hold : (model : SystemModel) (task : TaskDef) (percent : ℕ) → has_whole task ≡ false → longest_hold (timed model task percent) ≤ 0
no_hold model task percent none =
    let whole : RunnableDef → Bool = λ runnable. runnable.whole in
    omega (
      arith,
      hold_is model task percent,
      greatest_within (hold_at model task percent) task.runnables 0
          (λ k d lt. omega (
            arith,
            ap (λ b. cond b (grown_greatest percent (get_or task.runnables k d) - 1) 0)
                (false_from_ne_true (get_or task.runnables k d).whole (λ is. true≢false (sym (list_any_at whole task.runnables k d lt is) ∙ none))),
          )),
    )

-- a task that isn't the one is at 100 percent
apart_same : (one task : ℕ) → (task ≡ one → ⊥) → (less more : ℕ) → percent_of (OneTask one) less task ≤ percent_of (OneTask one) more task
apart_same one task apart less more = omega (arith, ap (λ b. cond b less 100) (ne_eqb task one apart), ap (λ b. cond b more 100) (ne_eqb task one apart))

module _ (model : SystemModel) (one task : ℕ) (out : reaches model one task ≡ false) where
  abbrev priority : ℕ → ℕ
  priority i = (task_at model i).priority

  -- on one core with that one, it has a higher priority, and nothing of that one runs whole
  on_core : core_of model task ≡ core_of model one → (priority one < priority task) × (has_whole (task_at model one) ≡ false)
  on_core same =
      let rest = nat_le (priority task) (priority one) || has_whole (task_at model one) in
      let parts = or_parts (nat_le (priority task) (priority one)) (has_whole (task_at model one))
      (sym (ap (λ b. b && rest) (eq-eqb (core_of model task) (core_of model one) same)) ∙ out) in
      (leb-false _ _ parts.0, parts.1)

  not_it : task ≡ one → ⊥
  not_it same = absurd (omega (arith, (on_core (ap (core_of model) same)).0, ap priority same))

  not_above : (j : ℕ) → above_it model (OneTask one) task j ≡ true → j ≡ one → ⊥
  not_above j is same =
      let parts = both_pass (core_of model j == core_of model task) (nat_lt (priority task) (priority j)) is in
      let higher = ltb-true _ _ parts.1 in
      absurd (omega (arith, higher, (on_core (sym (eqb-true _ _ parts.0) ∙ ap (core_of model) same)).0, ap priority same))

  none_held : (j : ℕ) → below_it model (OneTask one) task j ≡ true → j ≡ one → has_whole (task_at model j) ≡ false
  none_held j is same =
      let parts = both_pass (core_of model j == core_of model task) (nat_lt (priority j) (priority task)) is in
      ap (λ i. has_whole (task_at model i)) same ∙ (on_core (sym (eqb-true _ _ parts.0) ∙ ap (core_of model) same)).1

  module _ (h : task < length model.tasks) (less more : ℕ) where
    held_same : (j : ℕ) → below_it model (OneTask one) task j ≡ true
        → longest_hold (grown_timing model (OneTask one) less j) ≤ longest_hold (grown_timing model (OneTask one) more j)
    held_same j is = elim (cases_eq j one) [
      | inl same ↦ omega (arith, no_hold model (task_at model j) (percent_of (OneTask one) less j) (none_held j is same))
      | inr apart ↦ longest_rises model (task_at model j) (percent_of (OneTask one) less j) (percent_of (OneTask one) more j) (apart_same one j apart less more)
    ]

    out_of_reach : TakesNoMore (system_of (grown model (OneTask one) less)) (system_of (grown model (OneTask one) more)) task
    out_of_reach = takes_where model (OneTask one) task h less more
        (apart_same one task not_it less more)
        (λ j g is. held_same j is)
        (λ j g is. apart_same one j (not_above j is) less more)

-- the percentage of a task that isn't touched is the same
percent_apart : (model : SystemModel) (whose : Whose) (task : ℕ) → touches model whose task ≡ false → (less more : ℕ)
    → percent_of whose less task ≤ percent_of whose more task
percent_apart model EveryTask task out less more = absurd (true≢false out)
percent_apart model (OneTask one) task out less more = apart_same one task (not_it model one task out) less more

-- whatever the two percentages, such a task takes no more at the one than at the other
pub task_apart : (model : SystemModel) (whose : Whose) (one other task : ℕ) → task < length model.tasks → touches model whose task ≡ false
    → TakesNoMore (system_of (grown model whose one)) (system_of (grown model whose other)) task
task_apart model EveryTask one other task h out = absurd (true≢false out)
task_apart model (OneTask only) one other task h out = out_of_reach model only task out h one other

module _ (model : SystemModel) (whose : Whose) (one other : ℕ) where
  pub group_apart : (group : Group) → group.task < length model.tasks → touches model whose group.task ≡ false
      → IsNoLonger (system_of (grown model whose one)) (system_of (grown model whose other)) group
  group_apart group h out = record {
    task = task_apart model whose one other group.task h out;
    through = through_where model whose group.task h one other (percent_apart model whose group.task out one other) group.last;
  }

  -- so its runnables up to each take the same
  pub through_apart : (task : ℕ) → task < length model.tasks → touches model whose task ≡ false → (place : ℕ)
      → greatest_through (timing_at (system_of (grown model whose one)) task) place ≡ greatest_through (timing_at (system_of (grown model whose other)) task) place
  through_apart task h out place = omega (
    arith,
    through_where model whose task h one other (percent_apart model whose task out one other) place,
    through_where model whose task h other one (percent_apart model whose task out other one) place,
  )
