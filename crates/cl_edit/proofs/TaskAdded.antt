-- A valid model with one more task: what is refused of it.
use Rattle.std.proofs.Common.{◌≡◌, ℕ, ◌+◌, ◌<◌, Bool, true, false, not, ◌&&◌, ◌||◌, List, [], ◌∷◌, ◌++◌, length, get_or, take, refl, sym, ap, ◌∙◌, append_assoc, arith, nat_lt}
use Rattle.std.specs.Prelude.{Option, Some, None, slice_get, unwrap_or}
use Rattle.std.specs.List.{list_any}
use Rattle.std.specs.Option.{option_and_then}
use Rattle.std.proofs.lemmas.Grind.{flat_map-append}
use Rattle.std.proofs.lemmas.List.{append-nil, length-map, length-append, map-append, take-append-le, take_at, get_or_append_left}
use Rattle.std.proofs.lemmas.List.Folds.{list_any-append}
use Rattle.std.proofs.lemmas.Option.{slice_get-get_or, slice_get_within, get_or_from_slice_get}
use Rattle.cl_model.specs.declared.{chain.ChainDef.ChainDef, limits.TheConstants.MOST_RUNNABLES_OF_MODEL, model.SystemModel.SystemModel, place.Place.Place, refusal.{Code.TheVariants.{M23, M24, M41, M42, M44, M45}, Refusal.Refusal}, task.{RunnableDef.RunnableDef, TaskDef.TaskDef}}
use Rattle.cl_model.specs.{Named.{same_name, has_name, index_of, is_some_and, core_names, label_names, task_names, kind_named, runnable_names, runnable_named, tasks_on, all_runnables, labels_written}, ByNumber.no_runnable, Place.{entry_of, at_key, at_sub, at_spot}, Refusals.when}
use Rattle.cl_model.specs.{Refusals.{in_order, each}, ValidNames.{section_repeats, runnable_repeats, repeats, stimulus_checks}, ValidTasks.{task_key, core_check, stimulus_check, priority_check, late_check, release_check, room_check, empty_check, naming_checks, body_checks, task_check}}
use Rattle.cl_model.specs.{ValidTasks.{task_checks, is_outpaced_by, deadline_check, deadline_checks}, Validity.{IsValid, step_of, step_check, hop_check, chain_check, refusals_of}, Changes.with_new_task}
use Rattle.cl_model.specs.declared.place.Part.TheVariants as part
use Rattle.cl_model.specs.declared.place.Key.TheVariants as key
use Rattle.cl_model.proofs.{NamePlaces.{known_place, found_below}, NamesApart.{tasks_apart, runnables_pass}, NoRefusals.{all_none, none_in_order}, PassedChecks.{stimuli_pass, tasks_pass, deadlines_pass, chains_pass, requirements_pass}, Refused.{when_none, unless_none, each_none}}
use Rattle.cl_edit.specs.FewListChecks.{new_task_name_check, new_runnables_check, below_new_check, new_task_checks}
use Rattle.cl_edit.proofs.{CheckParts.{name_parts, task_names_left, names_tasks_deadlines_left, chain_lists}, EachChecked.{each_more, each_same, each_moves, unless_true}, NameChecks.{apart_pass, repeats_more, known_longer, index_longer}, TaskLists.list_any-filter}

-- M29 to M41 of task i, of which these stand in front, and these up to it
abbrev pub checks_among : SystemModel → (earlier upto : List TaskDef) → ℕ → TaskDef → List Refusal
checks_among model earlier upto i task =
    let kind = kind_named model task.stimulus in
    let on_core = tasks_on task.core earlier in
    in_order (in_order (core_check (core_names model) i task ∷ stimulus_check kind i ∷ priority_check on_core i task ∷ late_check kind i task ∷ release_check kind i task
    ∷ room_check (length on_core) i ∷ empty_check i task ∷ [])
    ∷ body_checks (label_names model) (labels_written (all_runnables earlier)) (entry_of part.Task i) task
    ∷ when (nat_lt MOST_RUNNABLES_OF_MODEL (length (all_runnables upto))) M41 (entry_of part.Task i)
    ∷ [])

pub checks_are : (model : SystemModel) (i : ℕ) (task : TaskDef) → task_check model i task ≡ checks_among model (take i model.tasks) (take (i + 1) model.tasks) i task
unfolding task_check naming_checks
checks_are model i task = refl

pub or_none : (b : Bool) → (b || false) ≡ b
or_none true = refl
or_none false = refl

five : (a b c d e : List Refusal) → (a ++ b) ++ (c ++ (d ++ e)) ≡ a ++ (b ++ (c ++ (d ++ (e ++ []))))
five a b c d e = append_assoc a b (c ++ (d ++ e)) ∙ ap (λ l. a ++ (b ++ (c ++ (d ++ l)))) (sym (append-nil e))

module _ (model : SystemModel) (valid : IsValid model) (task : TaskDef) where
  abbrev changed : SystemModel
  changed = with_new_task model task

  abbrev tasks : List TaskDef
  tasks = model.tasks ++ task ∷ []

  -- ---- names

  names_new : section_repeats M23 part.Task (task_names changed) ≡ new_task_name_check model task
  names_new =
      let names : List (List ℕ) = task_names model in
      let place : ℕ → Place = λ i. at_key key.Name (entry_of part.Task i) in
      ap (section_repeats M23 part.Task) (map-append (λ (t : TaskDef). t.name) model.tasks (task ∷ []))
      ∙ repeats_more M23 place [] names task.name
      ∙ ap (λ l. l ++ when (has_name task.name names) M23 (place (length names))) (apart_pass M23 place names (tasks_apart model valid))
      ∙ ap (λ n. when (has_name task.name names) M23 (place n)) (length-map model.tasks (λ (t : TaskDef). t.name))

  runnables_new : each (runnable_repeats tasks) tasks ≡ new_runnables_check model task
  runnables_new =
      let place : ℕ → Place = λ p. at_key key.Name (at_sub p (entry_of part.Task (length model.tasks))) in
      each_more (runnable_repeats tasks) model.tasks task
      ∙ ap (λ l. l ++ runnable_repeats tasks (length model.tasks) task)
      (each_same (runnable_repeats tasks) (runnable_repeats model.tasks) model.tasks
      (λ k d lt.
      ap (λ (earlier : List TaskDef). repeats M24 (λ p. at_key key.Name (at_sub p (entry_of part.Task k))) (runnable_names (all_runnables earlier)) (runnable_names (get_or model.tasks k d).runnables))
      (take-append-le k model.tasks (task ∷ []) (omega (arith, lt))))
      ∙ runnables_pass model valid)
      ∙ ap (λ (earlier : List TaskDef). repeats M24 place (runnable_names (all_runnables earlier)) (runnable_names task.runnables)) (take_at model.tasks (task ∷ []) (length model.tasks) refl)

  -- ---- tasks

  task_stays : (k : ℕ) (d : TaskDef) → k < length model.tasks → task_check changed k (get_or model.tasks k d) ≡ task_check model k (get_or model.tasks k d)
  task_stays k d lt =
      let own : TaskDef = get_or model.tasks k d in
      checks_are changed k own
      ∙ ap (λ (earlier : List TaskDef). checks_among model earlier (take (k + 1) tasks) k own) (take-append-le k model.tasks (task ∷ []) (omega (arith, lt)))
      ∙ ap (λ (upto : List TaskDef). checks_among model (take k model.tasks) upto k own) (take-append-le (k + 1) model.tasks (task ∷ []) (omega (arith, lt)))
      ∙ sym (checks_are model k own)

  tasks_new : task_checks changed ≡ task_check changed (length model.tasks) task
  tasks_new =
      each_more (task_check changed) model.tasks task
      ∙ ap (λ l. l ++ task_check changed (length model.tasks) task) (each_same (task_check changed) (task_check model) model.tasks task_stays ∙ tasks_pass model valid)

  -- ---- deadlines

  deadline_new : (k : ℕ) (d : TaskDef) → k < length model.tasks → deadline_check changed k (get_or model.tasks k d) ≡ below_new_check model task k (get_or model.tasks k d)
  deadline_new k d lt =
      let own : TaskDef = get_or model.tasks k d in
      let outpaced : TaskDef → Bool = is_outpaced_by model own in
      let on_core : TaskDef → Bool = λ other. same_name own.core other.core in
      let before : list_any (λ other. on_core other && outpaced other) model.tasks ≡ false
      = sym (list_any-filter outpaced on_core model.tasks) ∙ when_none _ _ _ (each_none (deadline_check model) model.tasks k d (deadlines_pass model valid) lt) in
      ap (λ b. when b M42 (task_key k key.Deadline))
      (list_any-filter outpaced on_core tasks ∙ list_any-append (λ other. on_core other && outpaced other) model.tasks (task ∷ [])
      ∙ ap (λ b. b || ((on_core task && outpaced task) || false)) before ∙ or_none (on_core task && outpaced task))

  deadlines_new : deadline_checks changed ≡ each (below_new_check model task) model.tasks ++ deadline_check changed (length model.tasks) task
  deadlines_new =
      each_more (deadline_check changed) model.tasks task
      ∙ ap (λ l. l ++ deadline_check changed (length model.tasks) task) (each_same (deadline_check changed) (below_new_check model task) model.tasks deadline_new)

  -- ---- chains

  all_more : all_runnables tasks ≡ all_runnables model.tasks ++ task.runnables
  all_more = flat_map-append (λ (t : TaskDef). t.runnables) model.tasks (task ∷ []) ∙ ap (λ l. all_runnables model.tasks ++ l) (append-nil task.runnables)

  names_more : runnable_names (all_runnables tasks) ≡ runnable_names (all_runnables model.tasks) ++ runnable_names task.runnables
  names_more = ap runnable_names all_more ∙ map-append (λ (r : RunnableDef). r.name) (all_runnables model.tasks) task.runnables

  runnable_stays : (name : List ℕ) → has_name name (runnable_names (all_runnables model.tasks)) ≡ true → runnable_named changed name ≡ runnable_named model name
  runnable_stays name known =
      let all : List RunnableDef = all_runnables model.tasks in
      let k : ℕ = unwrap_or (index_of name (runnable_names all)) 0 in
      let found = known_place name (runnable_names all) known in
      let within : k < length all = omega (arith, found_below name (runnable_names all) k found, length-map all (λ (r : RunnableDef). r.name)) in
      let longer : k < length (all ++ task.runnables) = omega (arith, within, length-append all task.runnables) in
      ap (λ runnables. option_and_then (slice_get runnables) (index_of name (runnable_names runnables))) all_more
      ∙ ap (λ names. option_and_then (slice_get (all ++ task.runnables)) (index_of name names)) (map-append (λ (r : RunnableDef). r.name) all task.runnables)
      ∙ ap (option_and_then (slice_get (all ++ task.runnables))) (index_longer name (runnable_names all) (runnable_names task.runnables) k found)
      ∙ slice_get-get_or (all ++ task.runnables) k no_runnable longer
      ∙ ap Some (get_or_append_left all task.runnables no_runnable k within)
      ∙ sym (ap (option_and_then (slice_get all)) found ∙ slice_get-get_or all k no_runnable within)

  module _ (chain : ChainDef) (place : Place) (steps : each (step_check model place) chain.runnables ≡ []) where
    step_stays : (k : ℕ) → step_of changed chain k ≡ step_of model chain k
    step_stays k = by (slice_get chain.runnables k) refl
      where
        by : (name : Option (List ℕ)) → slice_get chain.runnables k ≡ name → step_of changed chain k ≡ step_of model chain k
        by None is = ap (option_and_then (runnable_named changed)) is ∙ sym (ap (option_and_then (runnable_named model)) is)
        by (Some name) is =
            let within = slice_get_within chain.runnables k name is in
            let at = get_or_from_slice_get chain.runnables k name name is in
            let known = ap (λ n. has_name n (runnable_names (all_runnables model.tasks))) (sym at) ∙ unless_none _ _ _ (each_none (step_check model place) chain.runnables k name steps within) in
            ap (option_and_then (runnable_named changed)) is ∙ runnable_stays name known ∙ sym (ap (option_and_then (runnable_named model)) is)

    hop_stays : (labels : Place) (k : ℕ) (label : List ℕ) → hop_check model chain labels k label ≡ [] → hop_check changed chain labels k label ≡ []
    hop_stays labels k label none =
        ap (λ step. when (is_some_and step (λ (writer : RunnableDef). not (has_name label writer.writes))
        || is_some_and (step_of changed chain (k + 1)) (λ (reader : RunnableDef). not (has_name label reader.reads))) M45 (at_spot k labels)) (step_stays k)
        ∙ ap (λ step. when (is_some_and (step_of model chain k) (λ (writer : RunnableDef). not (has_name label writer.writes))
        || is_some_and step (λ (reader : RunnableDef). not (has_name label reader.reads))) M45 (at_spot k labels)) (step_stays (k + 1))
        ∙ none

  chain_stays : (c : ℕ) (chain : ChainDef) → chain_check model c chain ≡ [] → chain_check changed c chain ≡ []
  unfolding chain_check
  chain_stays c chain none =
      let parts = all_none (chain_lists model c chain) none in
      let steps : Place = at_key key.Runnables (entry_of part.Chain c) in
      let labels : Place = at_key key.Labels (entry_of part.Chain c) in
      none_in_order (chain_lists changed c chain) (
        parts.0,
        (
          each_moves (step_check model steps) (step_check changed steps) chain.runnables
              (λ k name none. unless_true _ M44 (at_spot k steps) (ap (has_name name) names_more ∙ known_longer name _ (runnable_names task.runnables) (unless_none _ _ _ none))) parts.1.0,
          (each_moves (hop_check model chain labels) (hop_check changed chain labels) chain.labels (hop_stays chain steps parts.1.0 labels) parts.1.1.0, tt),
        ),
      )

  -- ---- the whole model

  stimuli_none : stimulus_checks changed ≡ []
  unfolding stimulus_checks
  stimuli_none = stimuli_pass model valid

  pub new_task_refused : refusals_of changed ≡ new_task_checks model task
  new_task_refused =
      let parts = name_parts model valid in
      names_tasks_deadlines_left changed stimuli_none (each_moves (chain_check model) (chain_check changed) model.chains chain_stays (chains_pass model valid)) (requirements_pass model valid)
      ∙ ap (λ l. l ++ (task_checks changed ++ deadline_checks changed)) (task_names_left changed parts.0 parts.1.0 parts.1.1.0 parts.1.1.1.1.1.0 parts.1.1.1.1.1.1.0)
      ∙ ap (λ l. (l ++ each (runnable_repeats tasks) tasks) ++ (task_checks changed ++ deadline_checks changed)) names_new
      ∙ ap (λ l. (new_task_name_check model task ++ l) ++ (task_checks changed ++ deadline_checks changed)) runnables_new
      ∙ ap (λ l. (new_task_name_check model task ++ new_runnables_check model task) ++ (l ++ deadline_checks changed)) tasks_new
      ∙ ap (λ l. (new_task_name_check model task ++ new_runnables_check model task) ++ (task_check changed (length model.tasks) task ++ l)) deadlines_new
      ∙ five (new_task_name_check model task) (new_runnables_check model task) (task_check changed (length model.tasks) task) (each (below_new_check model task) model.tasks) (deadline_check changed (length model.tasks) task)
