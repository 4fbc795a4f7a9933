-- Tasks above a task, and those that may block it, by their numbers.
use Rattle.std.proofs.Common.{◌≡◌, ℕ, ◌*◌, ◌<◌, Bool, true, false, cond, nat_le, nat_lt, [], length, refl, sym, ap, ◌∙◌}
use Rattle.std.specs.Prelude.{◌==◌, ◌&&◌}
use Rattle.std.proofs.lemmas.Bool.{eqb-true, eq-eqb}
use Rattle.cl_model.specs.{declared.{model.SystemModel.SystemModel, task.TaskDef.TaskDef, stimulus.StimulusKind.StimulusKind}, ByNumber.{task_at, core_of, stimulus_of, time_of}}
use Rattle.cl_runs.specs.{TaskTiming.{Timing, timing_at}, SystemOf.{timing_of, system_of}, Priorities.{is_above, may_block, is_below}, ExecutionTimes.greatest_execution}
use Rattle.cl_runs.proofs.ModelSystem.{timing_is}
use Rattle.cl_stim.specs.{AnyStimulus.{kind_of, as_stimulus}, Releases.most_releases}
use Rattle.cl_stim.proofs.StimulusKinds.{kind_of-as_stimulus}
use Rattle.cl_resp.proofs.Questions.{time_is}
use Rattle.cl_explain.specs.Parts.{jobs_above, time_above, taken_part, above_part}

and_same : (m n : ℕ) (x : Bool) → m ≡ n → x ≡ ((m == n) && x)
and_same m n x e = ap (λ b. b && x) (sym (eq-eqb m n e))

and_apart : (m n : ℕ) (x : Bool) → (m ≡ n → ⊥) → (m == n) ≡ ((m == n) && x)
and_apart m n x apart =
    elim (m == n) as (λ b. (b ≡ true → m ≡ n) → b ≡ (b && x)) [ true ↦ λ f. absurd (apart (f refl)) | false ↦ λ f. refl ] (eqb-true m n)

module _ (model : SystemModel) (task other : ℕ) (h : task < length model.tasks) (k : other < length model.tasks) where
  above_is : is_above (timing_at (system_of model) task) (timing_at (system_of model) other)
      ≡ ((core_of model other == core_of model task) && nat_lt (task_at model task).priority (task_at model other).priority)
  above_is =
      ap (λ (t : Timing). is_above t (timing_at (system_of model) other)) (timing_is model task h)
      ∙ ap (is_above (timing_of model (task_at model task))) (timing_is model other k)

  block_is : may_block (timing_at (system_of model) task) (timing_at (system_of model) other)
      ≡ ((core_of model other == core_of model task) && nat_le (task_at model other).priority (task_at model task).priority)
  block_is =
      ap (λ (t : Timing). may_block t (timing_at (system_of model) other)) (timing_is model task h)
      ∙ ap (may_block (timing_of model (task_at model task))) (timing_is model other k)

  below_is : is_below (timing_at (system_of model) task) (timing_at (system_of model) other)
      ≡ ((core_of model other == core_of model task) && nat_lt (task_at model other).priority (task_at model task).priority)
  below_is =
      ap (λ (t : Timing). is_below t (timing_at (system_of model) other)) (timing_is model task h)
      ∙ ap (is_below (timing_of model (task_at model task))) (timing_is model other k)

  module _ (there here : ℕ) (at_there : there ≡ core_of model other) (at_here : here ≡ core_of model task) where
    -- on one core
    pub above_here : (own higher : TaskDef) → there ≡ here → own ≡ task_at model task → higher ≡ task_at model other
        → nat_lt own.priority higher.priority ≡ is_above (timing_at (system_of model) task) (timing_at (system_of model) other)
    above_here own higher same a b =
        ap (λ (t : TaskDef). nat_lt t.priority higher.priority) a ∙ ap (λ (t : TaskDef). nat_lt (task_at model task).priority t.priority) b
        ∙ and_same (core_of model other) (core_of model task) _ (sym at_there ∙ same ∙ at_here) ∙ sym above_is

    pub block_here : (own lower : TaskDef) → there ≡ here → own ≡ task_at model task → lower ≡ task_at model other
        → nat_le lower.priority own.priority ≡ may_block (timing_at (system_of model) task) (timing_at (system_of model) other)
    block_here own lower same a b =
        ap (λ (t : TaskDef). nat_le lower.priority t.priority) a ∙ ap (λ (t : TaskDef). nat_le t.priority (task_at model task).priority) b
        ∙ and_same (core_of model other) (core_of model task) _ (sym at_there ∙ same ∙ at_here) ∙ sym block_is

    pub below_here : (own lower : TaskDef) → there ≡ here → own ≡ task_at model task → lower ≡ task_at model other
        → nat_lt lower.priority own.priority ≡ is_below (timing_at (system_of model) task) (timing_at (system_of model) other)
    below_here own lower same a b =
        ap (λ (t : TaskDef). nat_lt lower.priority t.priority) a ∙ ap (λ (t : TaskDef). nat_lt t.priority (task_at model task).priority) b
        ∙ and_same (core_of model other) (core_of model task) _ (sym at_there ∙ same ∙ at_here) ∙ sym below_is

    same_test : (there == here) ≡ (core_of model other == core_of model task)
    same_test = ap (λ n. n == here) at_there ∙ ap (λ n. core_of model other == n) at_here

    apart_there : (there ≡ here → ⊥) → core_of model other ≡ core_of model task → ⊥
    apart_there apart same = apart (at_there ∙ same ∙ sym at_here)

    -- on another
    pub above_apart : (there ≡ here → ⊥) → (there == here) ≡ is_above (timing_at (system_of model) task) (timing_at (system_of model) other)
    above_apart apart = same_test ∙ and_apart (core_of model other) (core_of model task) _ (apart_there apart) ∙ sym above_is

    pub block_apart : (there ≡ here → ⊥) → (there == here) ≡ may_block (timing_at (system_of model) task) (timing_at (system_of model) other)
    block_apart apart = same_test ∙ and_apart (core_of model other) (core_of model task) _ (apart_there apart) ∙ sym block_is

    pub below_apart : (there ≡ here → ⊥) → (there == here) ≡ is_below (timing_at (system_of model) task) (timing_at (system_of model) other)
    below_apart apart = same_test ∙ and_apart (core_of model other) (core_of model task) _ (apart_there apart) ∙ sym below_is

module _ (model : SystemModel) (other : ℕ) (k : other < length model.tasks) where
  -- the most jobs of a task in a window
  pub jobs_are : (width jobs : ℕ) (kind : StimulusKind) → kind ≡ stimulus_of model other → jobs ≡ most_releases (kind_of (as_stimulus kind)) width
      → jobs ≡ jobs_above width (timing_at (system_of model) other)
  jobs_are width jobs kind named is =
      is ∙ ap (λ (s : StimulusKind). most_releases s width) (kind_of-as_stimulus kind ∙ named ∙ sym (ap (λ (t : Timing). t.pattern) (timing_is model other k)))

  -- the line of what a task above takes
  pub taken_is : (task width jobs count time : ℕ) → jobs ≡ jobs_above width (timing_at (system_of model) other) → count ≡ jobs → time ≡ time_of model other
      → is_above (timing_at (system_of model) task) (timing_at (system_of model) other) ≡ true
      → taken_part model task other jobs (count * time) ≡ above_part model task width other
  taken_is task width jobs count time is counts times above =
      let timing = timing_at (system_of model) other in
      let most = jobs_above width timing in
      let own : time ≡ greatest_execution timing = times ∙ sym (ap greatest_execution (timing_is model other k) ∙ time_is model other) in
      ap (λ n. taken_part model task other jobs (n * time)) counts
      ∙ ap (λ n. taken_part model task other n (n * time)) is
      ∙ ap (λ n. taken_part model task other most (most * n)) own
      ∙ sym (ap (λ b. cond b (taken_part model task other most (time_above width timing)) []) above)
