-- A valid model without one of its tasks: what is refused of it.
use Rattle.std.proofs.Common.{◌≡◌, ℕ, ◌+◌, ◌<◌, Bool, true, false, ◌&&◌, List, [], ◌∷◌, ◌++◌, length, get_or, take, sym, ap, ◌∙◌, arith}
use Rattle.std.specs.Prelude.{◌==◌}
use Rattle.std.specs.List.{list_any, remove}
use Rattle.std.specs.Cmp.Lexicographic.{bytes_decides}
use Rattle.std.proofs.lemmas.Bool.{or_parts, or_from, ne_eqb, le-ltb}
use Rattle.std.proofs.lemmas.List.{length-map}
use Rattle.std.proofs.lemmas.List.Folds.{list_any-append}
use Rattle.cl_model.specs.{declared.{limits.TheConstants.MOST_RUNNABLES_OF_MODEL, model.SystemModel.SystemModel, place.Place.Place, refusal.Code.TheVariants.{M23, M24, M31, M34, M37, M38, M39, M40, M41, M42}, task.{RunnableDef.RunnableDef, TaskDef.TaskDef}}, ByNumber.no_task}
use Rattle.cl_model.specs.{Named.{same_name, has_name, core_names, label_names, task_names, kind_named, runnable_names, tasks_on, all_runnables, labels_written}, Place.{entry_of, at_key, at_sub, at_spot}, Refusals.each, ValidNames.{section_repeats, repeat_check, runnable_repeats}}
use Rattle.cl_model.specs.{ValidNames.{stimulus_checks, name_checks}, ValidTasks.{core_check, stimulus_check, priority_check, late_check, release_check, room_check, empty_check, naming_checks, label_check, writer_check, times_check, reads_check, writes_check, twice_check, contest_check}}
use Rattle.cl_model.specs.{ValidTasks.{runnable_checks, body_check, body_checks, count_check, task_check, task_checks, is_outpaced_by, deadline_check, deadline_checks}, Validity.{IsValid, refusals_of}, Changes.without_task}
use Rattle.cl_model.specs.declared.place.Part.TheVariants as part
use Rattle.cl_model.specs.declared.place.Key.TheVariants as key
use Rattle.cl_model.proofs.{NamesApart.{tasks_apart, runnables_pass}, NoRefusals.{all_none, none_in_order}, PassedChecks.{stimuli_pass, tasks_pass, deadlines_pass, requirements_pass}, Refused.each_none, ValidTasks.few_runnables, Removals.{StoodAt, stood_at, apart_removed}}
use Rattle.cl_edit.specs.FewListChecks.{dropped_task_checks}
use Rattle.cl_edit.proofs.{CheckParts.{name_parts, none_of_names, chains_left}, EachChecked.{none_of_each, each_moves, when_moves, unless_moves, when_false, when_fewer}, NameChecks.{apart_pass, map-remove}, StepsLeft.chains_without, TaskLists.{list_any-filter, name_among, written_among}}
use Rattle.cl_edit.proofs.TaskLists.{none_left, fewer_taken, fewer_left, filter_left, filter_front, few_on_core}

module _ (model : SystemModel) (valid : IsValid model) (t : ℕ) (known : t < length model.tasks) where
  abbrev left : SystemModel
  left = without_task model t

  abbrev tasks : List TaskDef
  tasks = remove model.tasks t

  -- ---- names

  names_apart : section_repeats M23 part.Task (task_names left) ≡ []
  names_apart =
      ap (section_repeats M23 part.Task) (map-remove (λ (task : TaskDef). task.name) model.tasks t)
      ∙ apart_pass M23 (λ i. at_key key.Name (entry_of part.Task i)) (remove (task_names model) t)
      (apart_removed (task_names model) t (omega (arith, known, length-map model.tasks (λ (task : TaskDef). task.name))) (tasks_apart model valid))

  module _ (k : ℕ) (d : TaskDef) (k_lt : k < length tasks) where
    stood : StoodAt model.tasks t k d
    stood = stood_at model.tasks t k d known k_lt

    -- what no runnable in front passes
    names_fewer : (name : List ℕ) → has_name name (runnable_names (all_runnables (take stood.at model.tasks))) ≡ false → has_name name (runnable_names (all_runnables (take k tasks))) ≡ false
    names_fewer name none =
        name_among name (take k tasks)
        ∙ stood.fewer (λ (task : TaskDef). has_name name (runnable_names task.runnables)) (sym (name_among name (take stood.at model.tasks)) ∙ none)

    written_fewer : (label : List ℕ) → has_name label (labels_written (all_runnables (take stood.at model.tasks))) ≡ false → has_name label (labels_written (all_runnables (take k tasks))) ≡ false
    written_fewer label none =
        written_among label (take k tasks)
        ∙ stood.fewer (λ (task : TaskDef). list_any (λ (r : RunnableDef). has_name label r.writes) task.runnables) (sym (written_among label (take stood.at model.tasks)) ∙ none)

    -- the same with names behind
    longer_fewer : (name : List ℕ) (one other more : List (List ℕ)) → (has_name name one ≡ false → has_name name other ≡ false)
        → has_name name (one ++ more) ≡ false → has_name name (other ++ more) ≡ false
    longer_fewer name one other more fewer none =
        let parts = or_parts (has_name name one) (has_name name more) (sym (list_any-append (same_name name) one more) ∙ none) in
        list_any-append (same_name name) other more ∙ or_from (has_name name other) (has_name name more) (fewer parts.0) parts.1

    -- M24
    runnables_stay : (task : TaskDef) → runnable_repeats model.tasks stood.at task ≡ [] → runnable_repeats tasks k task ≡ []
    runnables_stay task none =
        let one : List (List ℕ) = runnable_names (all_runnables (take stood.at model.tasks)) in
        let other : List (List ℕ) = runnable_names (all_runnables (take k tasks)) in
        let names : List (List ℕ) = runnable_names task.runnables in
        each_moves (repeat_check M24 (λ p. at_key key.Name (at_sub p (entry_of part.Task stood.at))) one names)
        (repeat_check M24 (λ p. at_key key.Name (at_sub p (entry_of part.Task k))) other names) names
        (λ p name. when_fewer (has_name name (one ++ take p names)) (has_name name (other ++ take p names)) M24 _ _ (longer_fewer name one other (take p names) (names_fewer name))) none

    -- ---- M29 to M35

    priority_stays : (task : TaskDef) → priority_check (tasks_on task.core (take stood.at model.tasks)) stood.at task ≡ [] → priority_check (tasks_on task.core (take k tasks)) k task ≡ []
    priority_stays task none =
        let same : TaskDef → Bool = λ other. other.priority == task.priority in
        let on_core : TaskDef → Bool = λ other. same_name task.core other.core in
        when_fewer _ _ M31 _ _
        (λ none. list_any-filter same on_core (take k tasks) ∙ stood.fewer (λ other. on_core other && same other) (sym (list_any-filter same on_core (take stood.at model.tasks)) ∙ none)) none

    room_stays : (task : TaskDef) → same_name task.core (get_or tasks k d).core ≡ true → room_check (length (tasks_on task.core (take k tasks))) k ≡ []
    room_stays task on_core =
        let front = filter_front (λ (other : TaskDef). same_name task.core other.core) tasks k d k_lt on_core in
        let fewer = filter_left (λ (other : TaskDef). same_name task.core other.core) model.tasks t known in
        let few = few_on_core model valid task.core in
        when_false _ M34 _ (ne_eqb _ _ (λ full. omega (arith, front, fewer, few, full)))

    naming_stays : (task : TaskDef) → same_name task.core (get_or tasks k d).core ≡ true → naming_checks model stood.at task ≡ [] → naming_checks left k task ≡ []
    unfolding naming_checks
    naming_stays task on_core none =
        let kind = kind_named model task.stimulus in
        let earlier : List TaskDef = tasks_on task.core (take stood.at model.tasks) in
        let now : List TaskDef = tasks_on task.core (take k tasks) in
        let parts = all_none (core_check (core_names model) stood.at task ∷ stimulus_check kind stood.at ∷ priority_check earlier stood.at task ∷ late_check kind stood.at task
        ∷ release_check kind stood.at task ∷ room_check (length earlier) stood.at ∷ empty_check stood.at task ∷ []) none in
        none_in_order (core_check (core_names model) k task ∷ stimulus_check kind k ∷ priority_check now k task ∷ late_check kind k task
        ∷ release_check kind k task ∷ room_check (length now) k ∷ empty_check k task ∷ []) (
          unless_moves _ _ _ _ parts.0,
          (
            unless_moves _ _ _ _ parts.1.0,
            (
              priority_stays task parts.1.1.0,
              (
                when_moves _ _ _ _ parts.1.1.1.0,
                (
                  when_moves _ _ _ _ parts.1.1.1.1.0,
                  (room_stays task on_core, (when_moves _ _ _ _ parts.1.1.1.1.1.1.0, tt)),
                ),
              ),
            ),
          ),
        )

    -- ---- M36 to M41

    abbrev written_then : List (List ℕ)
    written_then = labels_written (all_runnables (take stood.at model.tasks))

    abbrev written_now : List (List ℕ)
    written_now = labels_written (all_runnables (take k tasks))

    runnable_stays : (task : TaskDef) (p : ℕ) (runnable : RunnableDef) → body_check (label_names model) written_then (entry_of part.Task stood.at) task p runnable ≡ []
        → body_check (label_names left) written_now (entry_of part.Task k) task p runnable ≡ []
    unfolding runnable_checks
    runnable_stays task p runnable none =
        let labels : List (List ℕ) = label_names model in
        let more : List (List ℕ) = labels_written (take p task.runnables) in
        let one : Place = at_sub p (entry_of part.Task stood.at) in
        let other : Place = at_sub p (entry_of part.Task k) in
        let parts = all_none (times_check one runnable ∷ reads_check labels one runnable ∷ writes_check labels one runnable ∷ twice_check (at_key key.Reads one) runnable.reads
        ∷ twice_check (at_key key.Writes one) runnable.writes ∷ contest_check (written_then ++ more) one runnable ∷ []) none in
        none_in_order (times_check other runnable ∷ reads_check labels other runnable ∷ writes_check labels other runnable ∷ twice_check (at_key key.Reads other) runnable.reads
        ∷ twice_check (at_key key.Writes other) runnable.writes ∷ contest_check (written_now ++ more) other runnable ∷ []) (
          when_moves _ _ _ _ parts.0,
          (
            each_moves (label_check M37 (at_key key.Reads one) labels) (label_check M37 (at_key key.Reads other) labels) runnable.reads (λ n label. unless_moves _ _ _ _) parts.1.0,
            (
              each_moves (label_check M38 (at_key key.Writes one) labels) (label_check M38 (at_key key.Writes other) labels) runnable.writes (λ n label. unless_moves _ _ _ _) parts.1.1.0,
              (
                each_moves (repeat_check M39 (λ n. at_spot n (at_key key.Reads one)) [] runnable.reads) (repeat_check M39 (λ n. at_spot n (at_key key.Reads other)) [] runnable.reads) runnable.reads
                    (λ n label. when_moves _ _ _ _) parts.1.1.1.0,
                (
                  each_moves (repeat_check M39 (λ n. at_spot n (at_key key.Writes one)) [] runnable.writes) (repeat_check M39 (λ n. at_spot n (at_key key.Writes other)) [] runnable.writes) runnable.writes
                      (λ n label. when_moves _ _ _ _) parts.1.1.1.1.0,
                  (
                    each_moves (writer_check (at_key key.Writes one) (written_then ++ more)) (writer_check (at_key key.Writes other) (written_now ++ more)) runnable.writes
                        (λ n label. when_fewer (has_name label (written_then ++ more)) (has_name label (written_now ++ more)) M40 _ _ (longer_fewer label written_then written_now more (written_fewer label)))
                        parts.1.1.1.1.1.0,
                    tt,
                  ),
                ),
              ),
            ),
          ),
        )

    body_stays : (task : TaskDef) → body_checks (label_names model) written_then (entry_of part.Task stood.at) task ≡ [] → body_checks (label_names left) written_now (entry_of part.Task k) task ≡ []
    body_stays task none =
        each_moves (body_check (label_names model) written_then (entry_of part.Task stood.at) task) (body_check (label_names left) written_now (entry_of part.Task k) task) task.runnables
        (runnable_stays task) none

    count_stays : count_check left k ≡ []
    count_stays =
        let taken = fewer_taken tasks (k + 1) in
        let fewer = fewer_left model.tasks t known in
        let few = few_runnables model valid in
        when_false _ M41 _ (le-ltb MOST_RUNNABLES_OF_MODEL (length (all_runnables (take (k + 1) tasks))) (omega (arith, taken, fewer, few)))

    task_stays : (task : TaskDef) → same_name task.core (get_or tasks k d).core ≡ true → task_check model stood.at task ≡ [] → task_check left k task ≡ []
    unfolding task_check
    task_stays task on_core none =
        let parts = all_none (naming_checks model stood.at task ∷ body_checks (label_names model) written_then (entry_of part.Task stood.at) task ∷ count_check model stood.at ∷ []) none in
        none_in_order (naming_checks left k task ∷ body_checks (label_names left) written_now (entry_of part.Task k) task ∷ count_check left k ∷ [])
        (naming_stays task on_core parts.0, (body_stays task parts.1.0, (count_stays, tt)))

    -- ---- M42

    deadline_stays : (task : TaskDef) → deadline_check model stood.at task ≡ [] → deadline_check left k task ≡ []
    deadline_stays task none =
        let outpaced : TaskDef → Bool = is_outpaced_by model task in
        let on_core : TaskDef → Bool = λ other. same_name task.core other.core in
        when_fewer (list_any outpaced (tasks_on task.core model.tasks)) _ M42 _ _
        (λ none. list_any-filter outpaced on_core tasks ∙ none_left (λ other. on_core other && outpaced other) model.tasks t no_task known (sym (list_any-filter outpaced on_core model.tasks) ∙ none)) none

  runnables_none : each (runnable_repeats tasks) tasks ≡ []
  runnables_none =
      none_of_each (runnable_repeats tasks) tasks
      (λ k d k_lt.
      let was = stood k d k_lt in
      ap (runnable_repeats tasks k) was.same ∙ runnables_stay k d k_lt (get_or model.tasks was.at d) (each_none (runnable_repeats model.tasks) model.tasks was.at d (runnables_pass model valid) was.within))

  tasks_none : task_checks left ≡ []
  tasks_none =
      none_of_each (task_check left) tasks
      (λ k d k_lt.
      let was = stood k d k_lt in
      let task = get_or model.tasks was.at d in
      ap (task_check left k) was.same
      ∙ task_stays k d k_lt task ((bytes_decides _ _).1 (ap (λ (other : TaskDef). other.core) (sym was.same))) (each_none (task_check model) model.tasks was.at d (tasks_pass model valid) was.within))

  deadlines_none : deadline_checks left ≡ []
  deadlines_none =
      none_of_each (deadline_check left) tasks
      (λ k d k_lt.
      let was = stood k d k_lt in
      ap (deadline_check left k) was.same ∙ deadline_stays k d k_lt (get_or model.tasks was.at d) (each_none (deadline_check model) model.tasks was.at d (deadlines_pass model valid) was.within))

  stimuli_none : stimulus_checks left ≡ []
  unfolding stimulus_checks
  stimuli_none = stimuli_pass model valid

  names_none : name_checks left ≡ []
  names_none =
      let parts = name_parts model valid in
      none_of_names left parts.0 parts.1.0 parts.1.1.0 names_apart runnables_none parts.1.1.1.1.1.0 parts.1.1.1.1.1.1.0

  pub dropped_task_refused : refusals_of left ≡ dropped_task_checks model t
  dropped_task_refused = chains_left left names_none stimuli_none tasks_none deadlines_none (requirements_pass model valid) ∙ chains_without model valid t known
