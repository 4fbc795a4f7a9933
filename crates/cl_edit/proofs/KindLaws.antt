-- The few checks of another kind of a stimulus.
use Rattle.std.proofs.Common.{◌≡◌, ℕ, ◌<◌, Bool, true, false, cond, ◌&&◌, ◌||◌, List, [], ◌∷◌, ◌++◌, length, refl, sym, ap, ◌∙◌, nat_lt}
use Rattle.std.specs.Prelude.{Some, unwrap_or, nat_le}
use Rattle.std.specs.List.{list_any}
use Rattle.std.specs.Cmp.Lexicographic.{bytes_decides}
use Rattle.std.proofs.lemmas.List.{append-nil}
use Rattle.cl_model.specs.{declared.{model.SystemModel.SystemModel, refusal.{Code.TheVariants.{M32, M33, M42}, Refusal.Refusal}, stimulus.StimulusKind.StimulusKind, task.TaskDef.TaskDef}, ByNumber.{no_task, task_at, stimulus_of}, Changes.with_kind, Named.{same_name, tasks_on}}
use Rattle.cl_model.specs.{Refusals.{when, in_order}, Timing.{least_distance, greatest_jitter}, ValidTasks.{task_key, late_check, release_check, is_outpaced_by, deadline_check, deadline_checks}, Validity.{IsValid, refusals_of}}
use Rattle.cl_model.specs.declared.place.Key.TheVariants as key
use Rattle.cl_model.proofs.{ListFacts.{both_pass, both_true, same_tests}, EachFacts.each_alike}
use Rattle.cl_edit.specs.{declared.{pace.Retiming.Retiming, pairs.PairFault.TheVariants.Outpaced}, FewChecks.{is_on_stimulus, number_refusals, limit_refusals, kind_deadline_refusals, kind_refusals}, Inner.{Paces.{is_on, pace_after, limit_checks, limits_on, all_limits_on}, Pairs.IsPair}}
use Rattle.cl_edit.specs.Inner.Pairs.{is_refused}
use Rattle.cl_edit.specs.declared.pace.Retiming.TheVariants as change
use Rattle.cl_edit.proofs.{LimitChecks.kind_left, RefusedPairs.pair_touched, RefusedTasks.{any_among, among, pair_of}, RetimedTasks.change_known}

module _ (model : SystemModel) (valid : IsValid model) (s : ℕ) (kind : StimulusKind) (within : s < length model.stimuli) where
  one_limit : (k : ℕ) → limits_on model (change.Kind s kind) s k
      ≡ cond (is_on_stimulus model s (task_at model k)) (in_order (late_check (Some kind) k (task_at model k) ∷ release_check (Some kind) k (task_at model k) ∷ [])) []
  one_limit k =
      let task = task_at model k in
      let lists : StimulusKind → List Refusal = λ q. in_order (when (nat_lt (least_distance q) (unwrap_or task.deadline (least_distance q))) M32 (task_key k key.Deadline)
      ∷ when (nat_le (unwrap_or task.deadline (least_distance q)) (greatest_jitter q)) M33 (task_key k key.Stimulus) ∷ []) in
      elim (is_on model s k) as (λ b. is_on model s k ≡ b → cond b (limit_checks (pace_after model (change.Kind s kind) k) k) [] ≡ cond b (lists kind) []) [
        | true ↦ λ e. ap (λ b. lists (cond b kind (stimulus_of model k))) e
        | false ↦ λ e. refl
      ] refl

  limits_are_few : all_limits_on model (change.Kind s kind) s ≡ limit_refusals model s kind
  limits_are_few = each_alike _ _ model.tasks model.tasks no_task no_task refl (λ k lt. one_limit k)

  -- where M42 refuses a task, it or one above it names the stimulus
  touched_pair : (k : ℕ) → k < length model.tasks
      → is_refused Outpaced (with_kind model s (λ _. kind)) k
      ≡ list_any (λ other. (is_on_stimulus model s (task_at model k) || is_on_stimulus model s other) && is_outpaced_by (with_kind model s (λ _. kind)) (task_at model k) other) (tasks_on (task_at model k).core model.tasks)
  touched_pair k known =
      let c : Retiming = change.Kind s kind in
      let new : SystemModel = with_kind model s (λ _. kind) in
      let task = task_at model k in
      let own : TaskDef → Bool = λ other. same_name task.core other.core in
      let out : TaskDef → Bool = is_outpaced_by new task in
      let both : TaskDef → Bool = λ other. (is_on_stimulus model s task || is_on_stimulus model s other) && is_outpaced_by new task other in
      same_tests (list_any out (tasks_on task.core model.tasks)) (list_any both (tasks_on task.core model.tasks))
      (λ h.
      let a = among out own model.tasks no_task h in
      let pair : IsPair Outpaced new k a.place = pair_of new (change_known model valid c within) k a.place known a.within a.passes ((bytes_decides task.core (task_at model a.place).core).0 a.kept) in
      any_among both own model.tasks a.place no_task a.within a.kept
      (both_true (is_on_stimulus model s task || is_on_stimulus model s (task_at model a.place)) (out (task_at model a.place)) (pair_touched Outpaced model valid c within k a.place pair) a.passes))
      (λ h.
      let a = among both own model.tasks no_task h in
      any_among out own model.tasks a.place no_task a.within a.kept (both_pass (is_on_stimulus model s task || is_on_stimulus model s (task_at model a.place)) (out (task_at model a.place)) a.passes).1)

  deadlines_are_few : deadline_checks (with_kind model s (λ _. kind)) ≡ kind_deadline_refusals model s kind
  deadlines_are_few =
      each_alike (deadline_check (with_kind model s (λ _. kind))) _ model.tasks model.tasks no_task no_task refl (λ k lt. ap (λ b. when b M42 (task_key k key.Deadline)) (touched_pair k lt))

  pub kind_needs_few : refusals_of (with_kind model s (λ _. kind)) ≡ kind_refusals model s kind
  kind_needs_few =
      kind_left model valid s kind within
      ∙ ap (λ limits. number_refusals s kind ++ (limits ++ deadline_checks (with_kind model s (λ _. kind)))) limits_are_few
      ∙ ap (λ deadlines. number_refusals s kind ++ (limit_refusals model s kind ++ deadlines)) (deadlines_are_few ∙ sym (append-nil (kind_deadline_refusals model s kind)))
