-- Edits that set one task but leave where it stands: its access, its deadline, or one of its runnables.
use Rattle.std.proofs.Common.{◌≡◌, ℕ, zero, suc, ◌<◌, Bool, List, [], ◌∷◌, ◌++◌, length, map, get_or, set, refl, sym, ap, ◌∙◌, arith, append_assoc}
use Rattle.std.specs.Prelude.{Option}
use Rattle.std.proofs.lemmas.List.{append-nil, map-set, length-set, get_or-set_same, get_or-set_other}
use Rattle.cl_model.specs.{declared.{group.Step.Step, model.SystemModel.SystemModel, refusal.{Code.TheVariants.M42, Refusal.Refusal}, task.{AccessKind.AccessKind, RunnableDef.RunnableDef, TaskDef.TaskDef}}, ByNumber.{no_task, no_runnable, task_at, runnable_at}, Groups.IsStepOf}
use Rattle.cl_model.specs.{Named.{kind_named, tasks_on}, Place.{entry_of, at_sub}, Refusals.{when, in_order, each}, ValidNames.stimulus_checks, ValidTasks.{task_key, times_check, late_check, release_check, deadline_check, deadline_checks}, Validity.{IsValid, refusals_of}}
use Rattle.cl_model.specs.{Changes.{with_range, with_whole, with_task, with_deadline, with_access}, NamedAlike.{named_runnable, named_task, AreNamedAlike}}
use Rattle.cl_model.specs.declared.place.Part.TheVariants as part
use Rattle.cl_model.specs.declared.place.Key.TheVariants as key
use Rattle.cl_model.proofs.{Refused.each_none, EachFacts.each_only, PassedChecks.stimuli_pass, ChecksLeft.{placed, on_core_same, outpaced_same, times_checks, timing_check, task_passes, deadline_none, times_left_of}}
use Rattle.cl_edit.specs.FewChecks.{range_refusals, deadline_refusals}

-- ---- lists

-- an item written over itself
set_own : {X : Type 0} (xs : List X) (i : ℕ) (d : X) → set xs i (get_or xs i d) ≡ xs
set_own [] i d = refl
set_own (x ∷ xs) zero d = refl
set_own (x ∷ xs) (suc i) d = ap (λ l. x ∷ l) (set_own xs i d)

-- what a change of one item leaves of it is left of all
pub map_set_same : {X Y : Type 0} (f : X → Y) (xs : List X) (i : ℕ) (x d : X) → f x ≡ f (get_or xs i d) → map f (set xs i x) ≡ map f xs
map_set_same f xs i x d same =
    map-set f xs i x ∙ ap (set (map f xs) i) same ∙ sym (map-set f xs i (get_or xs i d)) ∙ ap (map f) (set_own xs i d)

-- ---- one task

timing_parts : (late release times : List Refusal) → late ≡ [] → release ≡ [] → times ≡ [] → in_order (late ∷ release ∷ times ∷ []) ≡ []
timing_parts late release times nl nr nt = rw (nl, nr, nt) refl

module _ (model : SystemModel) (valid : IsValid model) (i : ℕ) (within : i < length model.tasks) (task : TaskDef) where
  task_alike : named_task task ≡ named_task (task_at model i) → AreNamedAlike model (with_task model i task)
  task_alike named = record { cores = refl; stimuli = refl; labels = refl; tasks = map_set_same named_task model.tasks i task no_task named; chains = refl; requirements = refl }

  other_stays : (k : ℕ) → k < length (set model.tasks i task) → (k ≡ i → ⊥) → timing_check model k (get_or (set model.tasks i task) k no_task) ≡ []
  other_stays k lt apart =
      let passes = task_passes model valid k (omega (arith, lt, length-set model.tasks i task)) in
      ap (timing_check model k) (get_or-set_other model.tasks i k task no_task apart)
      ∙ timing_parts (late_check (kind_named model (task_at model k).stimulus) k (task_at model k)) (release_check (kind_named model (task_at model k).stimulus) k (task_at model k))
      (times_checks k (task_at model k)) passes.late passes.release passes.times

  -- the task that is set alone is checked for its times, and all for their deadlines
  pub task_times : named_task task ≡ named_task (task_at model i) → placed task ≡ placed (task_at model i)
      → refusals_of (with_task model i task) ≡ timing_check model i task ++ deadline_checks (with_task model i task)
  unfolding stimulus_checks
  task_times named own =
      let new : SystemModel = with_task model i task in
      let long : i < length new.tasks = omega (arith, within, length-set model.tasks i task) in
      times_left_of model new valid (task_alike named) (map_set_same placed model.tasks i task no_task own)
      ∙ ap (λ stimuli. stimuli ++ (each (timing_check new) new.tasks ++ deadline_checks new)) (stimuli_pass model valid)
      ∙ ap (λ tasks. tasks ++ deadline_checks new) (each_only (timing_check new) new.tasks i no_task long other_stays ∙ ap (timing_check model i) (get_or-set_same model.tasks i task no_task within))

  -- and for its deadline
  pub task_set : named_task task ≡ named_task (task_at model i) → placed task ≡ placed (task_at model i) → refusals_of (with_task model i task) ≡ timing_check model i task ++ deadline_check model i task
  task_set named own =
      let new : SystemModel = with_task model i task in
      let same : map placed new.tasks ≡ map placed model.tasks = map_set_same placed model.tasks i task no_task own in
      let long : i < length new.tasks = omega (arith, within, length-set model.tasks i task) in
      task_times named own
      ∙ ap (λ deadlines. timing_check model i task ++ deadlines)
      (each_only (deadline_check new) new.tasks i no_task long
      (λ k lt apart.
      ap (deadline_check new k) (get_or-set_other model.tasks i k task no_task apart)
      ∙ ap (λ b. when b M42 (task_key k key.Deadline)) (outpaced_same model (task_at model k) (tasks_on (task_at model k).core new.tasks) (tasks_on (task_at model k).core model.tasks) (on_core_same (task_at model k).core new.tasks model.tasks same))
      ∙ deadline_none model valid k (omega (arith, lt, length-set model.tasks i task)))
      ∙ ap (deadline_check new i) (get_or-set_same model.tasks i task no_task within)
      ∙ ap (λ b. when b M42 (task_key i key.Deadline)) (outpaced_same model task (tasks_on task.core new.tasks) (tasks_on task.core model.tasks) (on_core_same task.core new.tasks model.tasks same)))

none_left : (late release times deadline : List Refusal) → late ≡ [] → release ≡ [] → times ≡ [] → deadline ≡ [] → in_order (late ∷ release ∷ times ∷ []) ++ deadline ≡ []
none_left late release times deadline nl nr nt nd = rw (nl, nr, nt, nd) refl

times_only : (late release times deadline : List Refusal) → late ≡ [] → release ≡ [] → deadline ≡ [] → in_order (late ∷ release ∷ times ∷ []) ++ deadline ≡ times
times_only late release times deadline nl nr nd = rw (nl, nr, nd) (simp append-nil)

deadline_only : (late release times deadline : List Refusal) → times ≡ [] → in_order (late ∷ release ∷ times ∷ []) ++ deadline ≡ in_order (late ∷ release ∷ deadline ∷ [])
deadline_only late release times deadline nt = rw nt (simp (append_assoc, append-nil))

module _ (model : SystemModel) (valid : IsValid model) (i : ℕ) (within : i < length model.tasks) where
  -- another kind of access is never refused
  pub access_needs_none : (access : AccessKind) → refusals_of (with_access model i access) ≡ []
  access_needs_none access =
      let task = task_at model i in
      let passes = task_passes model valid i within in
      task_set model valid i within (record task { access = access }) refl refl
      ∙ none_left (late_check (kind_named model task.stimulus) i task) (release_check (kind_named model task.stimulus) i task) (times_checks i task) (deadline_check model i task)
      passes.late passes.release passes.times (deadline_none model valid i within)

  -- another deadline
  pub deadline_needs_few : (deadline : Option ℕ) → refusals_of (with_deadline model i deadline) ≡ deadline_refusals model i deadline
  deadline_needs_few deadline =
      let task : TaskDef = record (task_at model i) { deadline = deadline } in
      let passes = task_passes model valid i within in
      task_set model valid i within task refl refl
      ∙ deadline_only (late_check (kind_named model task.stimulus) i task) (release_check (kind_named model task.stimulus) i task) (times_checks i (task_at model i)) (deadline_check model i task) passes.times

module _ (model : SystemModel) (valid : IsValid model) (step : Step) (is : IsStepOf model step) where
  -- the task with another runnable of the same name and labels
  runnable_set : (runnable : RunnableDef) → named_runnable runnable ≡ named_runnable (runnable_at model step)
      → refusals_of (with_task model step.task (record (task_at model step.task) { runnables = set (task_at model step.task).runnables step.place runnable }))
      ≡ times_check (at_sub step.place (entry_of part.Task step.task)) runnable
  runnable_set runnable named =
      let i = step.task in
      let before = task_at model i in
      let runnables = set before.runnables step.place runnable in
      let task : TaskDef = record before { runnables = runnables } in
      let passes = task_passes model valid i is.known in
      let times : ℕ → RunnableDef → List Refusal = λ p r. times_check (at_sub p (entry_of part.Task i)) r in
      let long : step.place < length runnables = omega (arith, is.place, length-set before.runnables step.place runnable) in
      task_set model valid i is.known task (ap (λ rs. record (named_task before) { runnables = rs }) (map_set_same named_runnable before.runnables step.place runnable no_runnable named)) refl
      ∙ times_only (late_check (kind_named model before.stimulus) i before) (release_check (kind_named model before.stimulus) i before) (times_checks i task) (deadline_check model i before)
      passes.late passes.release (deadline_none model valid i is.known)
      ∙ each_only times runnables step.place no_runnable long
      (λ p lt apart.
      ap (times p) (get_or-set_other before.runnables step.place p runnable no_runnable apart)
      ∙ each_none times before.runnables p no_runnable passes.times (omega (arith, lt, length-set before.runnables step.place runnable)))
      ∙ ap (times step.place) (get_or-set_same before.runnables step.place runnable no_runnable is.place)

  -- other execution times
  pub range_needs_few : (least greatest : ℕ) → refusals_of (with_range model step least greatest) ≡ range_refusals step least greatest
  range_needs_few least greatest = runnable_set (record (runnable_at model step) { least = least; greatest = greatest }) refl

  -- whether a runnable is whole is never refused
  pub whole_needs_none : (whole : Bool) → refusals_of (with_whole model step whole) ≡ []
  whole_needs_none whole =
      runnable_set (record (runnable_at model step) { whole = whole }) refl
      ∙ each_none (λ p r. times_check (at_sub p (entry_of part.Task step.task)) r) (task_at model step.task).runnables step.place no_runnable (task_passes model valid step.task is.known).times is.place
