-- When the tasks of a run run, core by core.
use Rattle.std.proofs.Common.{◌≡◌, ℕ, ◌+◌, ◌<◌, ◌≤◌, ◌⊎◌, inl, inr, Option, Some, None, List, [], length, get_or, sym, ap, subst, ◌∙◌, arith}
use Rattle.std.proofs.lemmas.Bool.{cases_lt}
use Rattle.std.proofs.lemmas.List.{get_or_past}
use Rattle.cl_model.specs.declared.model.SystemModel.{SystemModel}
use Rattle.cl_runs.specs.{TaskTiming.timing_at, SystemOf.system_of, Run.{Run, core_entries, entry_at, IsEntryOf, IsInForm}}
use Rattle.cl_runs.proofs.ModelSystem.{cores_are}
use Rattle.cl_run_data.specs.{declared.stretches.Stretch.Stretch, Stretches.{entries_from, AreStretchesOf}}
use Rattle.cl_draw.specs.{declared.spans.Span.Span, Inner.Spans.{spans_at, AreSpans, AreEmpty, PutsCore}}

-- the core of a task
abbrev task_core : SystemModel → (task : ℕ) → ℕ
task_core model task = (timing_at (system_of model) task).core

-- the spans of the tasks of the first cores, and none of the others yet
pub record AreSpansUpTo (model : SystemModel) (run : Run) (n : ℕ) (spans : List (List Span)) : Type 0 where
  pub count : length spans ≡ length model.tasks
  pub put : (task : ℕ) → task < length model.tasks → task_core model task < n → AreSpans (core_entries run (task_core model task)) task (spans_at spans task)
  pub ahead : (task : ℕ) → task < length model.tasks → n ≤ task_core model task → spans_at spans task ≡ []

pub none_up_to : (model : SystemModel) (run : Run) (spans : List (List Span)) → AreEmpty (length model.tasks) spans → AreSpansUpTo model run 0 spans
none_up_to model run spans empty = record {
  count = empty.count;
  put = λ task known below. absurd (omega (arith, below));
  ahead = λ task known past. empty.empty task;
}

module _ (model : SystemModel) (run : Run) (form : IsInForm (system_of model) run) where
  -- a task runs on its core alone
  runs_on : (core : ℕ) → core < length model.cores → (task tick : ℕ) → (e : Option ℕ) → entry_at run core tick ≡ e → e ≡ Some task
      → (tick < run.table.ticks) ⊎ (run.table.ticks ≤ tick) → task_core model task ≡ core
  runs_on core known task tick e at runs (inl below) =
      (subst (IsEntryOf (system_of model) core) (at ∙ runs) (form.entries core tick (omega (arith, known, cores_are model)) below)).1
  runs_on core known task tick e at runs (inr past) =
      let none = get_or_past (core_entries run core) tick None (omega (arith, past, form.ticks core (omega (arith, known, cores_are model)))) in
      absurd (cc)

  module _ (core : ℕ) (known : core < length model.cores) (stretches : List Stretch) (of : AreStretchesOf (core_entries run core) stretches)
      (old new : List (List Span)) (up_to : AreSpansUpTo model run core old) (puts : PutsCore (entries_from 0 stretches) old new) where
    apart : (task : ℕ) → (task_core model task ≡ core → ⊥) → spans_at new task ≡ spans_at old task
    apart task other = puts.others task (λ tick runs.
        other (runs_on core known task tick (get_or (entries_from 0 stretches) tick None)
        (ap (λ (es : List (Option ℕ)). get_or es tick None) (sym of.entries_are)) runs (cases_lt tick run.table.ticks)))

    pub one_more_core : AreSpansUpTo model run (core + 1) new
    one_more_core = record {
      count = puts.count ∙ up_to.count;
      put = λ task is below. elim (cases_lt (task_core model task) core) [
        | inl before ↦ subst (AreSpans (core_entries run (task_core model task)) task)
            (sym (apart task (λ same. omega (arith, before, same)))) (up_to.put task is before)
        | inr not ↦
            let same : core ≡ task_core model task = omega (arith, not, below) in
            subst (λ c. AreSpans (core_entries run c) task (spans_at new task)) same
            (subst (λ (es : List (Option ℕ)). AreSpans es task (spans_at new task)) of.entries_are
            (puts.own task (omega (arith, is, up_to.count)) (up_to.ahead task is (omega (arith, same)))))
      ];
      ahead = λ task is past. apart task (λ same. omega (arith, past, same)) ∙ up_to.ahead task is (omega (arith, past));
    }
