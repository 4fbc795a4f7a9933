-- What is left to check of models that have the names and labels of a valid one.
use Rattle.std.proofs.Common.{◌≡◌, ℕ, ◌+◌, ◌<◌, Bool, true, false, cond, ◌&&◌, List, [], ◌∷◌, ◌++◌, length, take, map, get_or, refl, sym, ap, ◌∙◌, arith, append_assoc, nat_lt}
use Rattle.std.specs.Prelude.{Option, Some, None, is_some, slice_get, filter, ◌==◌}
use Rattle.std.specs.List.{list_any}
use Rattle.std.specs.Option.{option_map, option_and_then}
use Rattle.std.proofs.lemmas.List.{append-nil}
use Rattle.std.proofs.lemmas.Option.{slice_get-map}
use Rattle.cl_model.specs.declared.{limits.TheConstants.MOST_RUNNABLES_OF_MODEL, model.SystemModel.SystemModel, refusal.{Code.TheVariants.{M29, M30, M31, M35, M41}, Refusal.Refusal}, stimulus.StimulusDef.StimulusDef, task.{RunnableDef.RunnableDef, TaskDef.TaskDef}, place.Place.Place}
use Rattle.cl_model.specs.{ByNumber.{no_task, no_runnable}, Named.{same_name, has_name, index_of, core_names, stimulus_names, label_names, is_some_and, kind_named, tasks_on, all_runnables, labels_written}, NamedAlike.{named_runnable, named_task, AreNamedAlike}, Place.{entry_of, at_key}}
use Rattle.cl_model.specs.{Place.at_sub, Refusals.{when, unless, in_order, each}, ValidNames.{name_checks, stimulus_checks}, ValidTasks.{task_key, core_check, stimulus_check, priority_check, late_check, release_check, room_check, empty_check, naming_checks, times_check, reads_check}}
use Rattle.cl_model.specs.{ValidTasks.{writes_check, twice_check, contest_check, runnable_checks, body_check, body_checks, count_check, task_check, task_checks, spans_too_many, is_outpaced_by, deadline_check, deadline_checks}, Timing.deadline_under, Validity.{IsValid, refusals_of}}
use Rattle.cl_model.specs.Validity.{chain_check, requirement_check}
use Rattle.cl_model.specs.declared.place.Part.TheVariants as part
use Rattle.cl_model.specs.declared.place.Key.TheVariants as key
use Rattle.cl_model.proofs.{NoRefusals.all_none, PassedChecks.{names_pass, tasks_pass, deadlines_pass, chains_pass, requirements_pass}, Refused.each_none, ListFacts.list_any-map, EachFacts.each_alike, NamedAlike.{at_same, length_same, take_same, written_same, tasks_long, first_runnables}}
use Rattle.cl_model.proofs.NamedAlike.{own_same, names_stay, chains_stay, requirements_stay}

-- ---- the runnables of a task

-- M36 for each runnable of task i
abbrev pub times_checks : ℕ → TaskDef → List Refusal
times_checks i task = each (λ p runnable. times_check (at_sub p (entry_of part.Task i)) runnable) task.runnables

times_left : (times a b c d e : List Refusal) → a ≡ [] → b ≡ [] → c ≡ [] → d ≡ [] → e ≡ [] → in_order (times ∷ a ∷ b ∷ c ∷ d ∷ e ∷ []) ≡ times
times_left times a b c d e na nb nc nd ne = rw (na, nb, nc, nd, ne) (append-nil times)

-- a runnable with the labels of one that passes
runnable_left : (known written before : List (List ℕ)) (place : Place) (new old : RunnableDef) → written ≡ before → new.reads ≡ old.reads → new.writes ≡ old.writes
    → runnable_checks known before place old ≡ [] → runnable_checks known written place new ≡ times_check place new
unfolding runnable_checks
runnable_left known written before place new old same reads writes none =
    let parts = all_none (times_check place old ∷ reads_check known place old ∷ writes_check known place old ∷ twice_check (at_key key.Reads place) old.reads
    ∷ twice_check (at_key key.Writes place) old.writes ∷ contest_check before place old ∷ []) none in
    times_left (times_check place new) (reads_check known place new) (writes_check known place new) (twice_check (at_key key.Reads place) new.reads)
    (twice_check (at_key key.Writes place) new.writes) (contest_check written place new)
    (ap (λ names. reads_check known place (record new { reads = names })) reads ∙ parts.1.0)
    (ap (λ names. writes_check known place (record new { writes = names })) writes ∙ parts.1.1.0)
    (ap (twice_check (at_key key.Reads place)) reads ∙ parts.1.1.1.0)
    (ap (twice_check (at_key key.Writes place)) writes ∙ parts.1.1.1.1.0)
    (ap (λ w. contest_check w place new) same ∙ ap (λ names. contest_check before place (record new { writes = names })) writes ∙ parts.1.1.1.1.1.0)

bodies_left : (known written : List (List ℕ)) (i : ℕ) (new old : TaskDef) → map named_runnable new.runnables ≡ map named_runnable old.runnables
    → body_checks known written (entry_of part.Task i) old ≡ [] → body_checks known written (entry_of part.Task i) new ≡ times_checks i new
bodies_left known written i new old same none =
    each_alike (body_check known written (entry_of part.Task i) new) (λ p runnable. times_check (at_sub p (entry_of part.Task i)) runnable) new.runnables new.runnables no_runnable no_runnable refl
    (λ p lt.
    let named : named_runnable (get_or new.runnables p no_runnable) ≡ named_runnable (get_or old.runnables p no_runnable) = at_same named_runnable new.runnables old.runnables p no_runnable same lt in
    runnable_left known (written ++ labels_written (take p new.runnables)) (written ++ labels_written (take p old.runnables)) (at_sub p (entry_of part.Task i))
    (get_or new.runnables p no_runnable) (get_or old.runnables p no_runnable)
    (ap (λ w. written ++ w) (written_same (take p new.runnables) (take p old.runnables) (take_same named_runnable p new.runnables old.runnables same)))
    (ap (λ (r : RunnableDef). r.reads) named) (ap (λ (r : RunnableDef). r.writes) named)
    (each_none (body_check known written (entry_of part.Task i) old) old.runnables p no_runnable none (omega (arith, lt, length_same named_runnable new.runnables old.runnables same))))

-- ---- stimuli by name

some_map : {X Y : Type 0} (f : X → Y) (o : Option X) → is_some (option_map f o) ≡ is_some o
some_map f None = refl
some_map f (Some x) = refl

kind_some : (model : SystemModel) (name : List ℕ) → is_some (kind_named model name) ≡ is_some (option_and_then (slice_get (stimulus_names model)) (index_of name (stimulus_names model)))
kind_some model name = by (index_of name (stimulus_names model))
  where
    by : (o : Option ℕ) → is_some (option_map (λ (s : StimulusDef). s.kind) (option_and_then (slice_get model.stimuli) o)) ≡ is_some (option_and_then (slice_get (stimulus_names model)) o)
    by None = refl
    by (Some k) =
        some_map (λ (s : StimulusDef). s.kind) (slice_get model.stimuli k) ∙ sym (some_map (λ (s : StimulusDef). s.name) (slice_get model.stimuli k))
        ∙ ap is_some (sym (slice_get-map (λ (s : StimulusDef). s.name) model.stimuli k))

-- ---- what is left to check of a task

-- M29, M31 to M34 and M36
abbrev pub rest_check : SystemModel → ℕ → TaskDef → List Refusal
rest_check model i task =
    let kind = kind_named model task.stimulus in
    let earlier = tasks_on task.core (take i model.tasks) in
    in_order (core_check (core_names model) i task ∷ priority_check earlier i task ∷ late_check kind i task ∷ release_check kind i task ∷ room_check (length earlier) i ∷ times_checks i task ∷ [])

rest_left : (core stimulus priority late release room empty bodies times count : List Refusal) → stimulus ≡ [] → empty ≡ [] → bodies ≡ times → count ≡ []
    → in_order (in_order (core ∷ stimulus ∷ priority ∷ late ∷ release ∷ room ∷ empty ∷ []) ∷ bodies ∷ count ∷ []) ≡ in_order (core ∷ priority ∷ late ∷ release ∷ room ∷ times ∷ [])
rest_left core stimulus priority late release room empty bodies times count ns ne same nc = rw (ns, ne, same, nc) (simp (append_assoc, append-nil))

module _ (old new : SystemModel) (valid : IsValid old) (alike : AreNamedAlike old new) where
  task_left : (k : ℕ) → k < length new.tasks → task_check new k (get_or new.tasks k no_task) ≡ rest_check new k (get_or new.tasks k no_task)
  unfolding task_check naming_checks
  task_left k lt =
      let known : k < length old.tasks = omega (arith, lt, tasks_long old new alike) in
      let task = get_or new.tasks k no_task in
      let before = get_or old.tasks k no_task in
      let named : named_task task ≡ named_task before = own_same old new alike k no_task lt in
      let written : labels_written (all_runnables (take k new.tasks)) ≡ labels_written (all_runnables (take k old.tasks)) = written_same (all_runnables (take k new.tasks)) (all_runnables (take k old.tasks)) (first_runnables old new alike k) in
      let parts = all_none (naming_checks old k before ∷ body_checks (label_names old) (labels_written (all_runnables (take k old.tasks))) (entry_of part.Task k) before ∷ count_check old k ∷ [])
      (each_none (task_check old) old.tasks k no_task (tasks_pass old valid) known) in
      let kind = kind_named old before.stimulus in
      let earlier = tasks_on before.core (take k old.tasks) in
      let own = all_none (core_check (core_names old) k before ∷ stimulus_check kind k ∷ priority_check earlier k before ∷ late_check kind k before ∷ release_check kind k before ∷ room_check (length earlier) k ∷ empty_check k before ∷ []) parts.0 in
      rest_left (core_check (core_names new) k task) (stimulus_check (kind_named new task.stimulus) k) (priority_check (tasks_on task.core (take k new.tasks)) k task)
      (late_check (kind_named new task.stimulus) k task) (release_check (kind_named new task.stimulus) k task) (room_check (length (tasks_on task.core (take k new.tasks))) k) (empty_check k task)
      (body_checks (label_names new) (labels_written (all_runnables (take k new.tasks))) (entry_of part.Task k) task) (times_checks k task) (count_check new k)
      (ap (λ b. unless b M30 (task_key k key.Stimulus)) (kind_some new task.stimulus ∙ ap (λ names. is_some (option_and_then (slice_get names) (index_of task.stimulus names))) alike.stimuli
      ∙ ap (λ (t : TaskDef). is_some (option_and_then (slice_get (stimulus_names old)) (index_of t.stimulus (stimulus_names old)))) named ∙ sym (kind_some old before.stimulus))
      ∙ own.1.0)
      (ap (λ n. when (n == 0) M35 (entry_of part.Task k)) (length_same named_runnable task.runnables before.runnables (ap (λ (t : TaskDef). t.runnables) named)) ∙ own.1.1.1.1.1.1.0)
      (ap (λ labels. body_checks (map (λ label. label.name) labels) (labels_written (all_runnables (take k new.tasks))) (entry_of part.Task k) task) alike.labels
      ∙ ap (λ w. body_checks (label_names old) w (entry_of part.Task k) task) written
      ∙ bodies_left (label_names old) (labels_written (all_runnables (take k old.tasks))) k task before (ap (λ (t : TaskDef). t.runnables) named) parts.1.0)
      (ap (λ n. when (nat_lt MOST_RUNNABLES_OF_MODEL n) M41 (entry_of part.Task k)) (length_same named_runnable (all_runnables (take (k + 1) new.tasks)) (all_runnables (take (k + 1) old.tasks)) (first_runnables old new alike (k + 1)))
      ∙ parts.1.1.0)

  -- names, labels, runnables, chains and requirements pass as before
  pub refusals_left : refusals_of new ≡ stimulus_checks new ++ (each (rest_check new) new.tasks ++ deadline_checks new)
  unfolding refusals_of
  refusals_left =
      parts_left (name_checks new) (stimulus_checks new) (task_checks new) (each (rest_check new) new.tasks) (deadline_checks new) (each (chain_check new) new.chains) (each (requirement_check new) new.requirements)
      (names_stay old new alike ∙ names_pass old valid) (each_alike (task_check new) (rest_check new) new.tasks new.tasks no_task no_task refl task_left)
      (chains_stay old new alike ∙ chains_pass old valid) (requirements_stay old new alike ∙ requirements_pass old valid)
    where
      parts_left : (names stimuli tasks rest deadlines chains requirements : List Refusal) → names ≡ [] → tasks ≡ rest → chains ≡ [] → requirements ≡ []
          → in_order (names ∷ stimuli ∷ tasks ∷ deadlines ∷ chains ∷ requirements ∷ []) ≡ stimuli ++ (rest ++ deadlines)
      parts_left names stimuli tasks rest deadlines chains requirements nn same nc nr = rw (nn, same, nc, nr) (simp (append-nil))

-- ---- where the tasks stand

-- the core, the priority and the stimulus of a task
abbrev pub placed : TaskDef → List ℕ × ℕ × List ℕ
placed task = (task.core, task.priority, task.stimulus)

pub filter-map : {X Y : Type 0} (f : X → Y) (test : Y → Bool) (xs : List X) → filter test (map f xs) ≡ map f (filter (λ x. test (f x)) xs)
filter-map f test [] = refl
filter-map f test (x ∷ xs) =
    elim (test (f x)) as (λ b. cond b (f x ∷ filter test (map f xs)) (filter test (map f xs)) ≡ map f (cond b (x ∷ filter (λ y. test (f y)) xs) (filter (λ y. test (f y)) xs))) [
      | true ↦ ap (λ l. f x ∷ l) (filter-map f test xs)
      | false ↦ filter-map f test xs
    ]

-- the tasks of a core stand alike where all tasks do
pub on_core_same : (core : List ℕ) (xs ys : List TaskDef) → map placed xs ≡ map placed ys → map placed (tasks_on core xs) ≡ map placed (tasks_on core ys)
on_core_same core xs ys same =
    let test : List ℕ × ℕ × List ℕ → Bool = λ x. same_name core x.0 in
    sym (filter-map placed test xs) ∙ ap (filter test) same ∙ filter-map placed test ys

any_placed : (p : (List ℕ × ℕ × List ℕ) → Bool) (xs ys : List TaskDef) → map placed xs ≡ map placed ys → list_any (λ t. p (placed t)) xs ≡ list_any (λ t. p (placed t)) ys
any_placed p xs ys same = sym (list_any-map p placed xs) ∙ ap (list_any p) same ∙ list_any-map p placed ys

-- M31 and M34 see where tasks stand, and no more
priority_same : (k : ℕ) (new old : TaskDef) (xs ys : List TaskDef) → placed new ≡ placed old → map placed xs ≡ map placed ys → priority_check (tasks_on new.core xs) k new ≡ priority_check (tasks_on old.core ys) k old
priority_same k new old xs ys own same =
    ap (λ (x : List ℕ × ℕ × List ℕ). when (list_any (λ (other : TaskDef). other.priority == x.1) (tasks_on x.0 xs)) M31 (task_key k key.Priority)) own
    ∙ ap (λ b. when b M31 (task_key k key.Priority)) (any_placed (λ x. x.1 == old.priority) (tasks_on old.core xs) (tasks_on old.core ys) (on_core_same old.core xs ys same))

room_same : (k : ℕ) (new old : TaskDef) (xs ys : List TaskDef) → placed new ≡ placed old → map placed xs ≡ map placed ys → room_check (length (tasks_on new.core xs)) k ≡ room_check (length (tasks_on old.core ys)) k
room_same k new old xs ys own same =
    ap (λ (x : List ℕ × ℕ × List ℕ). room_check (length (tasks_on x.0 xs)) k) own
    ∙ ap (λ n. room_check n k) (length_same placed (tasks_on old.core xs) (tasks_on old.core ys) (on_core_same old.core xs ys same))

-- M42 sees of the other tasks where they stand, and no more
pub outpaced_same : (model : SystemModel) (task : TaskDef) (xs ys : List TaskDef) → map placed xs ≡ map placed ys → list_any (is_outpaced_by model task) xs ≡ list_any (is_outpaced_by model task) ys
outpaced_same model task xs ys same =
    any_placed (λ x. nat_lt task.priority x.1 && is_some_and (kind_named model task.stimulus) (λ kind. is_some_and (kind_named model x.2) (spans_too_many (deadline_under kind task)))) xs ys same

-- ---- what a valid model passes

alike_self : (model : SystemModel) → AreNamedAlike model model
alike_self model = record { cores = refl; stimuli = refl; labels = refl; tasks = refl; chains = refl; requirements = refl }

module _ (model : SystemModel) (valid : IsValid model) (k : ℕ) (lt : k < length model.tasks) where
  rest_none : rest_check model k (get_or model.tasks k no_task) ≡ []
  rest_none = sym (task_left model model valid (alike_self model) k lt) ∙ each_none (task_check model) model.tasks k no_task (tasks_pass model valid) lt

  pub deadline_none : deadline_check model k (get_or model.tasks k no_task) ≡ []
  deadline_none = each_none (deadline_check model) model.tasks k no_task (deadlines_pass model valid) lt

-- M32, M33 and M36 of task i
abbrev pub timing_check : SystemModel → ℕ → TaskDef → List Refusal
timing_check model i task =
    in_order (late_check (kind_named model task.stimulus) i task ∷ release_check (kind_named model task.stimulus) i task ∷ times_checks i task ∷ [])

-- the parts of what is left of a task that passes
pub record TaskPasses (model : SystemModel) (k : ℕ) (task : TaskDef) : Type 0 where
  pub core : core_check (core_names model) k task ≡ []
  pub priority : priority_check (tasks_on task.core (take k model.tasks)) k task ≡ []
  pub late : late_check (kind_named model task.stimulus) k task ≡ []
  pub release : release_check (kind_named model task.stimulus) k task ≡ []
  pub room : room_check (length (tasks_on task.core (take k model.tasks))) k ≡ []
  pub times : times_checks k task ≡ []

pub task_passes : (model : SystemModel) → IsValid model → (k : ℕ) → k < length model.tasks → TaskPasses model k (get_or model.tasks k no_task)
task_passes model valid k lt =
    let task = get_or model.tasks k no_task in
    let kind = kind_named model task.stimulus in
    let earlier = tasks_on task.core (take k model.tasks) in
    let parts = all_none (core_check (core_names model) k task ∷ priority_check earlier k task ∷ late_check kind k task ∷ release_check kind k task ∷ room_check (length earlier) k ∷ times_checks k task ∷ [])
    (rest_none model valid k lt) in
    record { core = parts.0; priority = parts.1.0; late = parts.1.1.0; release = parts.1.1.1.0; room = parts.1.1.1.1.0; times = parts.1.1.1.1.1.0 }

-- ---- where the tasks stand as before

timing_left : (core priority late release room times : List Refusal) → core ≡ [] → priority ≡ [] → room ≡ [] → in_order (core ∷ priority ∷ late ∷ release ∷ room ∷ times ∷ []) ≡ in_order (late ∷ release ∷ times ∷ [])
timing_left core priority late release room times nc np nr = rw (nc, np, nr) refl

module _ (old new : SystemModel) (valid : IsValid old) (alike : AreNamedAlike old new) (same : map placed new.tasks ≡ map placed old.tasks) where
  place_left : (k : ℕ) → k < length new.tasks → rest_check new k (get_or new.tasks k no_task) ≡ timing_check new k (get_or new.tasks k no_task)
  place_left k lt =
      let known : k < length old.tasks = omega (arith, lt, tasks_long old new alike) in
      let task = get_or new.tasks k no_task in
      let before = get_or old.tasks k no_task in
      let own : placed task ≡ placed before = at_same placed new.tasks old.tasks k no_task same lt in
      let first : map placed (take k new.tasks) ≡ map placed (take k old.tasks) = take_same placed k new.tasks old.tasks same in
      let passes = task_passes old valid k known in
      timing_left (core_check (core_names new) k task) (priority_check (tasks_on task.core (take k new.tasks)) k task) (late_check (kind_named new task.stimulus) k task)
      (release_check (kind_named new task.stimulus) k task) (room_check (length (tasks_on task.core (take k new.tasks))) k) (times_checks k task)
      (ap (λ cores. core_check (map (λ core. core.name) cores) k task) alike.cores ∙ ap (λ (x : List ℕ × ℕ × List ℕ). unless (has_name x.0 (core_names old)) M29 (task_key k key.Core)) own ∙ passes.core)
      (priority_same k task before (take k new.tasks) (take k old.tasks) own first ∙ passes.priority)
      (room_same k task before (take k new.tasks) (take k old.tasks) own first ∙ passes.room)

  -- stimuli, times and deadlines are left to check
  pub times_left_of : refusals_of new ≡ stimulus_checks new ++ (each (timing_check new) new.tasks ++ deadline_checks new)
  times_left_of =
      refusals_left old new valid alike
      ∙ ap (λ tasks. stimulus_checks new ++ (tasks ++ deadline_checks new)) (each_alike (rest_check new) (timing_check new) new.tasks new.tasks no_task no_task refl place_left)
