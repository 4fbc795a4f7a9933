-- What the checks of a runnable of a valid model leave: its times are in order, its labels are known and apart, and
-- what it writes isn't written yet.
use Rattle.std.proofs.Common.{◌≡◌, ℕ, ◌<◌, ◌≤◌, false, List, [], ◌∷◌, ◌++◌, length, get_or, take, subst}
use Rattle.std.specs.Prelude.{All, Contains}
use Rattle.std.proofs.lemmas.Bool.{ltb-false}
use Rattle.cl_model.specs.{declared.{group.Step.Step, model.SystemModel.SystemModel, place.Place.Place, refusal.{Code.{Code, TheVariants.{M37, M38, M39}}, Refusal.Refusal}, task.RunnableDef.RunnableDef}, ByNumber.{no_task, task_at, runnable_at, no_runnable}, Groups.IsStepOf}
use Rattle.cl_model.specs.{KnownNames.HasKnownLabels, Named.{has_name, label_names, all_runnables, labels_written}, Place.{entry_of, at_key, at_sub, at_spot}, Refusals.each, ValidTasks.{naming_checks, label_check, writer_check, times_check, reads_check, writes_check, twice_check}}
use Rattle.cl_model.specs.{ValidTasks.{contest_check, runnable_checks, body_check, body_checks, count_check, task_check}, Validity.IsValid}
use Rattle.cl_model.specs.declared.place.Key.TheVariants as key
use Rattle.cl_model.specs.declared.place.Part.TheVariants as part
use Rattle.cl_model.proofs.{NamePlaces.known_stands, NamesApart.repeats_none, NoRefusals.{AllNone, all_none}, PassedChecks.tasks_pass, Refused.{when_none, unless_none, each_none}}

-- the labels that are written before runnable p of task i
abbrev written_before : SystemModel → ℕ → ℕ → List (List ℕ)
written_before model i p = labels_written (all_runnables (take i model.tasks)) ++ labels_written (take p (task_at model i).runnables)

abbrev runnable_lists : SystemModel → ℕ → ℕ → RunnableDef → List (List Refusal)
runnable_lists model i p runnable =
    let place = at_sub p (entry_of part.Task i) in
    times_check place runnable
    ∷ reads_check (label_names model) place runnable
    ∷ writes_check (label_names model) place runnable
    ∷ twice_check (at_key key.Reads place) runnable.reads
    ∷ twice_check (at_key key.Writes place) runnable.writes
    ∷ contest_check (written_before model i p) place runnable
    ∷ []

-- labels that are each known
each_known : (code : Code) (place : Place) (known labels : List (List ℕ)) → each (label_check code place known) labels ≡ [] → All (Contains known) labels
each_known code place known labels none k d lt = known_stands (get_or labels k d) known (unless_none _ _ _ (each_none (label_check code place known) labels k d none lt))

module _ (model : SystemModel) (valid : IsValid model) (i p : ℕ) (d : RunnableDef) (task : i < length model.tasks) (within : p < length (task_at model i).runnables) where
  -- M36 to M40 pass
  lists_pass : AllNone (runnable_lists model i p (get_or (task_at model i).runnables p d))
  unfolding task_check runnable_checks
  lists_pass =
      let known = label_names model in
      let written = labels_written (all_runnables (take i model.tasks)) in
      let place = entry_of part.Task i in
      let parts = all_none (naming_checks model i (task_at model i) ∷ body_checks known written place (task_at model i) ∷ count_check model i ∷ [])
      (each_none (task_check model) model.tasks i no_task (tasks_pass model valid) task) in
      all_none (runnable_lists model i p (get_or (task_at model i).runnables p d))
      (each_none (body_check known written place (task_at model i)) (task_at model i).runnables p d parts.1.0 within)

  pub times_in_order : (get_or (task_at model i).runnables p d).least ≤ (get_or (task_at model i).runnables p d).greatest
  times_in_order = ltb-false _ _ (when_none _ _ _ lists_pass.0)

module _ (model : SystemModel) (valid : IsValid model) (step : Step) (is : IsStepOf model step) where
  pub labels_known : HasKnownLabels model (runnable_at model step)
  labels_known =
      let none = lists_pass model valid step.task step.place no_runnable is.known is.place in
      let place = at_sub step.place (entry_of part.Task step.task) in
      record {
        reads = each_known M37 (at_key key.Reads place) (label_names model) (runnable_at model step).reads none.1.0;
        writes = each_known M38 (at_key key.Writes place) (label_names model) (runnable_at model step).writes none.1.1.0;
        reads_apart = repeats_none M39 (λ k. at_spot k (at_key key.Reads place)) (runnable_at model step).reads none.1.1.1.0;
        writes_apart = repeats_none M39 (λ k. at_spot k (at_key key.Writes place)) (runnable_at model step).writes none.1.1.1.1.0;
      }

  -- what it writes isn't written before
  pub label_not_written : (label : List ℕ) → Contains (runnable_at model step).writes label → has_name label (written_before model step.task step.place) ≡ false
  label_not_written label (k, lt, at) =
      let none = lists_pass model valid step.task step.place no_runnable is.known is.place in
      let written = written_before model step.task step.place in
      let check = writer_check (at_key key.Writes (at_sub step.place (entry_of part.Task step.task))) written in
      subst (λ name. has_name name written ≡ false) at (when_none _ _ _ (each_none check (runnable_at model step).writes k label none.1.1.1.1.1.0 lt))
