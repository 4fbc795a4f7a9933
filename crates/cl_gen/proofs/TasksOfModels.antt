-- The timing of a task of a model, by what is read of the task.
use Rattle.std.proofs.Common.{◌≡◌, ℕ, ◌<◌, Bool, List, length, map, sym, ap, ◌∙◌}
use Rattle.cl_model.specs.{declared.{model.SystemModel.SystemModel, stimulus.StimulusKind.StimulusKind, task.RunnableDef.RunnableDef}, ByNumber.{task_at, core_of, stimulus_of}}
use Rattle.cl_runs.specs.{TaskTiming.{Timing, timing_at}, SystemOf.{range_of, system_of}}
use Rattle.cl_runs.proofs.ModelSystem.{timing_is, ranges_are}
use Rattle.cl_run_data.specs.Parts.{is_among}

module _ (model : SystemModel) (i : ℕ) (h : i < length model.tasks) where
  pub pattern_is : (pattern : StimulusKind) → pattern ≡ stimulus_of model i → pattern ≡ (timing_at (system_of model) i).pattern
  pattern_is pattern is = is ∙ ap (λ (t : Timing). t.pattern) (sym (timing_is model i h))

  pub ranges_of_slice : (runnables : List RunnableDef) → runnables ≡ (task_at model i).runnables
      → map range_of runnables ≡ (timing_at (system_of model) i).ranges
  ranges_of_slice runnables are = ap (map range_of) are ∙ sym (ranges_are model i h)

  -- whether its core is marked
  pub mark_is : (cores : List Bool) (core : ℕ) (mark is : Bool) → core ≡ core_of model i → mark ≡ is_among cores core → mark ≡ is
      → is_among cores (timing_at (system_of model) i).core ≡ is
  mark_is cores core mark is at among known =
      ap (λ (t : Timing). is_among cores t.core) (timing_is model i h) ∙ ap (is_among cores) (sym at) ∙ sym among ∙ known
