-- Deadlines against distances and jitters after a change of when tasks run, and what is left to check of another deadline
-- and of another kind of a stimulus.
use Rattle.std.proofs.Common.{◌≡◌, ℕ, zero, suc, ◌+◌, ◌<◌, ◌≤◌, true, false, cond, List, [], ◌∷◌, ◌++◌, length, drop, get_or, set, refl, sym, ap, ◌∙◌, arith, nat_lt}
use Rattle.std.specs.Prelude.{Option, Some, unwrap_or, nat_le}
use Rattle.std.proofs.lemmas.List.{length-set, get_or-set_same, get_or-set_other}
use Rattle.cl_model.specs.{declared.{model.SystemModel.SystemModel, refusal.{Code.TheVariants.{M32, M33}, Refusal.Refusal}, stimulus.{StimulusDef.StimulusDef, StimulusKind.StimulusKind}, task.TaskDef.TaskDef, model_fault.ModelFault.ModelFault}, ByNumber.{no_task, task_at, stimulus_of}}
use Rattle.cl_model.specs.{Changes.{no_stimulus_def, stimulus_at, with_kind, with_deadline}, Named.kind_named, Refusals.{when, in_order, each_from, each}, Timing.{least_distance, greatest_jitter}, ValidNames.{offset_check, distance_check, burst_check, stimulus_checks}, ValidTasks.task_key}
use Rattle.cl_model.specs.{ValidTasks.{late_check, release_check, deadline_checks}, Validity.{IsValid, refusals_of}, Answers.IsFaultOf, NamedAlike.AreNamedAlike}
use Rattle.cl_model.specs.declared.place.Key.TheVariants as key
use Rattle.cl_model.proofs.{FirstRefusals.{all_checked, next_passes, next_refused}, NoRefusals.all_none, Refused.each_none, EachFacts.{each_alike, each_only}, PassedChecks.stimuli_pass, ChecksLeft.{times_checks, timing_check, task_passes, times_left_of}}
use Rattle.cl_edit.specs.{declared.pace.Retiming.Retiming, FewChecks.number_refusals, Inner.Paces.{with_retiming, IsRetimingOf, is_on, kind_after, pace_after, limit_checks, limits_on, all_limits_on}}
use Rattle.cl_edit.specs.declared.pace.Retiming.TheVariants as change
use Rattle.cl_edit.proofs.{TaskSetters.{map_set_same, task_times}, ChangedTasks.{kind_known, kind_after_change}, RetimedTasks.{kind_is, given_is}}

-- M32 and M33 of a task after a change
pub limits_are : (model : SystemModel) → IsValid model → (c : Retiming) → IsRetimingOf model c → (k : ℕ) → k < length model.tasks
    → (let task = task_at (with_retiming model c) k in let kind = kind_named (with_retiming model c) task.stimulus in in_order (late_check kind k task ∷ release_check kind k task ∷ []))
    ≡ limit_checks (pace_after model c k) k
limits_are model valid c is k known =
    let task = task_at (with_retiming model c) k in
    let kind = kind_after model c k in
    ap (λ o. in_order (late_check o k task ∷ release_check o k task ∷ [])) (kind_is model valid k known c is)
    ∙ ap (λ (given : Option ℕ). in_order (when (nat_lt (least_distance kind) (unwrap_or given (least_distance kind))) M32 (task_key k key.Deadline)
    ∷ when (nat_le (unwrap_or given (least_distance kind)) (greatest_jitter kind)) M33 (task_key k key.Stimulus) ∷ [])) (given_is model valid k known c is)

without_times : (late release times : List Refusal) → times ≡ [] → in_order (late ∷ release ∷ times ∷ []) ≡ in_order (late ∷ release ∷ [])
without_times late release times none = rw none refl

-- another deadline
pub deadline_left : (model : SystemModel) → IsValid model → (i : ℕ) (deadline : Option ℕ) → i < length model.tasks
    → refusals_of (with_deadline model i deadline) ≡ limit_checks (pace_after model (change.Deadline i deadline) i) i ++ deadline_checks (with_deadline model i deadline)
deadline_left model valid i deadline within =
    let c : Retiming = change.Deadline i deadline in
    let task : TaskDef = record (task_at model i) { deadline = deadline } in
    let kind = kind_named model task.stimulus in
    task_times model valid i within task refl refl
    ∙ ap (λ times. times ++ deadline_checks (with_deadline model i deadline))
    (without_times (late_check kind i task) (release_check kind i task) (times_checks i task) (task_passes model valid i within).times
    ∙ ap (λ (t : TaskDef). in_order (late_check (kind_named model t.stimulus) i t ∷ release_check (kind_named model t.stimulus) i t ∷ [])) (sym (get_or-set_same model.tasks i task no_task within))
    ∙ limits_are model valid c within i within)

-- ---- another kind of a stimulus

no_limits : (o : Option StimulusKind) (kind : Option StimulusKind) (k : ℕ) (task : TaskDef) → o ≡ kind → late_check kind k task ≡ [] → release_check kind k task ≡ [] → times_checks k task ≡ []
    → in_order (late_check o k task ∷ release_check o k task ∷ times_checks k task ∷ []) ≡ []
no_limits o kind k task same nl nr nt = three_none _ _ _ (ap (λ x. late_check x k task) same ∙ nl) (ap (λ x. release_check x k task) same ∙ nr) nt
  where
    three_none : (a b c : List Refusal) → a ≡ [] → b ≡ [] → c ≡ [] → in_order (a ∷ b ∷ c ∷ []) ≡ []
    three_none a b c na nb nc = rw (na, nb, nc) refl

module _ (model : SystemModel) (valid : IsValid model) (s : ℕ) (kind : StimulusKind) (within : s < length model.stimuli) where
  pub kind_alike : AreNamedAlike model (with_kind model s (λ _. kind))
  kind_alike = record {
    cores = refl;
    stimuli = map_set_same (λ (x : StimulusDef). x.name) model.stimuli s (record (stimulus_at model s) { kind = kind }) no_stimulus_def refl;
    labels = refl;
    tasks = refl;
    chains = refl;
    requirements = refl;
  }

  -- a check of each stimulus
  one_stimulus : (check : ℕ → StimulusDef → List Refusal) → each check model.stimuli ≡ []
      → each check (set model.stimuli s (record (stimulus_at model s) { kind = kind })) ≡ check s (record (stimulus_at model s) { kind = kind })
  one_stimulus check none =
      let it : StimulusDef = record (stimulus_at model s) { kind = kind } in
      each_only check (set model.stimuli s it) s no_stimulus_def (omega (arith, within, length-set model.stimuli s it))
      (λ k lt apart. ap (check k) (get_or-set_other model.stimuli s k it no_stimulus_def apart) ∙ each_none check model.stimuli k no_stimulus_def none (omega (arith, lt, length-set model.stimuli s it)))
      ∙ ap (check s) (get_or-set_same model.stimuli s it no_stimulus_def within)

  numbers_left : stimulus_checks (with_kind model s (λ _. kind)) ≡ number_refusals s kind
  unfolding stimulus_checks
  numbers_left =
      let parts = all_none (each offset_check model.stimuli ∷ each distance_check model.stimuli ∷ each burst_check model.stimuli ∷ []) (stimuli_pass model valid) in
      three_are _ _ _ _ _ _ (one_stimulus offset_check parts.0) (one_stimulus distance_check parts.1.0) (one_stimulus burst_check parts.1.1.0)
    where
      three_are : (a a' b b' c c' : List Refusal) → a ≡ a' → b ≡ b' → c ≡ c' → in_order (a ∷ b ∷ c ∷ []) ≡ in_order (a' ∷ b' ∷ c' ∷ [])
      three_are a a' b b' c c' e f g = rw (e, f, g) refl

  one_task : (k : ℕ) → k < length model.tasks → timing_check (with_kind model s (λ _. kind)) k (task_at model k) ≡ limits_on model (change.Kind s kind) s k
  one_task k known =
      let c : Retiming = change.Kind s kind in
      let task = task_at model k in
      let new : SystemModel = with_kind model s (λ _. kind) in
      let passes = task_passes model valid k known in
      elim (is_on model s k) as (λ b. is_on model s k ≡ b → timing_check new k task ≡ cond b (limit_checks (pace_after model c k) k) []) [
        | true ↦ λ e. without_times (late_check (kind_named new task.stimulus) k task) (release_check (kind_named new task.stimulus) k task) (times_checks k task) passes.times
            ∙ limits_are model valid c within k known
        | false ↦ λ e. no_limits (kind_named new task.stimulus) (kind_named model task.stimulus) k task
            (kind_after_change model valid k known s kind within ∙ ap (λ b. Some (cond b kind (stimulus_of model k))) e ∙ sym (kind_known model valid k known)) passes.late passes.release passes.times
      ] refl

  -- the numbers of the stimulus, the deadlines of its tasks, and deadlines against tasks above
  pub kind_left : refusals_of (with_kind model s (λ _. kind))
      ≡ number_refusals s kind ++ (each (λ k task. limits_on model (change.Kind s kind) s k) model.tasks ++ deadline_checks (with_kind model s (λ _. kind)))
  kind_left =
      let new : SystemModel = with_kind model s (λ _. kind) in
      times_left_of model new valid kind_alike refl
      ∙ ap (λ numbers. numbers ++ (each (timing_check new) model.tasks ++ deadline_checks new)) numbers_left
      ∙ ap (λ times. number_refusals s kind ++ (times ++ deadline_checks new))
      (each_alike (timing_check new) (λ k task. limits_on model (change.Kind s kind) s k) model.tasks model.tasks no_task no_task refl one_task)

-- ---- the loop over the tasks

default_here : (xs : List TaskDef) (i : ℕ) (d : TaskDef) → i < length xs → get_or xs i d ≡ get_or xs i (get_or xs i d)
default_here [] i d lt = absurd (omega arith)
default_here (x ∷ xs) zero d lt = refl
default_here (x ∷ xs) (suc i) d lt = default_here xs i d (omega arith)

module _ (model : SystemModel) (c : Retiming) (s n : ℕ) (within : n < length model.tasks) (so_far : all_limits_on model c s ≡ each_from n (λ k task. limits_on model c s k) (drop n model.tasks)) where
  -- the next task, where nothing is refused of it
  pub limits_pass : limits_on model c s n ≡ [] → all_limits_on model c s ≡ each_from (n + 1) (λ k task. limits_on model c s k) (drop (n + 1) model.tasks)
  limits_pass none = next_passes (λ k task. limits_on model c s k) model.tasks n (get_or model.tasks n no_task) within (default_here model.tasks n no_task within) so_far none

  -- and where something is
  pub limits_refuse : (e : ModelFault) → IsFaultOf (limits_on model c s n) e → IsFaultOf (all_limits_on model c s) e
  limits_refuse e is = next_refused (λ k task. limits_on model c s k) model.tasks n (get_or model.tasks n no_task) within (default_here model.tasks n no_task within) e so_far is

-- past the last task nothing is left
pub limits_end : (model : SystemModel) (c : Retiming) (s n : ℕ) → all_limits_on model c s ≡ each_from n (λ k task. limits_on model c s k) (drop n model.tasks) → length model.tasks ≤ n → all_limits_on model c s ≡ []
limits_end model c s n so_far past = all_checked (λ k task. limits_on model c s k) model.tasks n so_far past

pub ruleset each_limit = (limits_pass, limits_refuse, limits_end)
