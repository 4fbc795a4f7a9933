-- The tasks of a generated model are refused nothing.
use Rattle.std.proofs.Common.{◌≡◌, ℕ, zero, suc, ◌+◌, ◌-◌, ◌*◌, ◌/◌, ◌%◌, ◌<◌, ◌≤◌, ◌^◌, true, false, Some, Option, List, [], ◌∷◌, ◌++◌, length, take, map, refl, sym, ap, ◌∙◌, arith}
use Rattle.std.specs.Prelude.{codes, ◌==◌, nat_lt, nat_le, is_some, slice_index}
use Rattle.std.specs.Cmp.Lexicographic.{bytes_decides}
use Rattle.std.specs.Int.{div_ceil}
use Rattle.std.specs.List.{range_with_len, list_any, filter}
use Rattle.std.proofs.lemmas.Bool.{and_right, ne_eqb, le-ltb, lt-leb, false_from_ne_true}
use Rattle.std.proofs.lemmas.Grind.{div_ceil_times}
use Rattle.std.proofs.lemmas.List.{append-nil}
use Rattle.std.proofs.lemmas.List.FromFn.{take-map-range_with_len, map-range_with_len_more, length-map-range_with_len}
use Rattle.cl_model.specs.declared.{limits.TheConstants.{MOST_TASKS, MOST_TASKS_OF_CORE, MOST_RUNNABLES_OF_MODEL, MOST_DISTANCES}, place.Place.Place, refusal.Code.{Code, TheVariants.{M29, M30, M31, M32, M33, M34, M36, M37, M38, M40, M41, M42}}, stimulus.StimulusKind.StimulusKind}
use Rattle.cl_model.specs.{declared.{stimulus.StimulusKind.TheVariants.Periodic, task.TaskDef.TaskDef}, Named.{same_name, has_name, is_some_and, core_names, label_names, kind_named, tasks_on, all_runnables, labels_written}, Place.{entry_of, at_key, at_sub, at_spot}, Refusals.each}
use Rattle.cl_model.specs.{Timing.{least_distance, greatest_jitter, deadline_under}, ValidTasks.{task_key, core_check, stimulus_check, priority_check, late_check, release_check, room_check, empty_check, naming_checks, label_check, times_check, reads_check, writes_check, twice_check}}
use Rattle.cl_model.specs.ValidTasks.{contest_check, runnable_checks, body_checks, count_check, task_check, task_checks, is_outpaced_by, spans_too_many, deadline_check, deadline_checks}
use Rattle.cl_model.specs.declared.place.Part.TheVariants as part
use Rattle.cl_model.specs.declared.place.Key.TheVariants as key
use Rattle.cl_model.proofs.NoRefusals.{none_in_order}
use Rattle.cl_gen.specs.{Words.draw, Generated.{numbered, label_name, labels_read, periods, drawn_stimulus, generated_runnable, generated_task, model_of_words}}
use Rattle.cl_gen.proofs.{ApartNames.numbered_apart, GeneratedParts.{tasks_are, core_names_are, label_names_are, first_runnables, first_labels}, GeneratedSections.{labels_apart_below, period_least, period_greatest, kind_is}, PassingChecks.{not_refused, passed_by, each_mapped, among}}
use Rattle.cl_gen.proofs.{PassingChecks.{fresh, none_of_mapped, few_let_through}, Words.{draw_least, draw_greatest}}

-- the number of a task's stimulus
pub stimulus_below : (word : ℕ → ℕ) (i : ℕ) → drawn_stimulus word i < 9
unfolding drawn_stimulus
stimulus_below word i = omega (arith, draw_greatest 0 8 (word (6 * i)) (omega arith))

-- tasks of one core have one quotient
core_number_is : (i j : ℕ) → i < 2 ^ 32 → j < 2 ^ 32 → same_name (numbered (codes "c") (i / 16)) (numbered (codes "c") (j / 16)) ≡ true → i / 16 ≡ j / 16
core_number_is i j i_fits j_fits same = numbered_apart (codes "c") (i / 16) (j / 16) (omega arith) (omega arith)
    ((bytes_decides (numbered (codes "c") (i / 16)) (numbered (codes "c") (j / 16))).0 same)

-- ---- a task and what it names

module _ (word : ℕ → ℕ) (n : ℕ) (few : n ≤ MOST_TASKS) where
  -- the earlier tasks of its core
  earlier_are : (i : ℕ) → i < n → tasks_on (generated_task word i).core (take i (model_of_words word n).tasks)
      ≡ filter (λ (t : TaskDef). same_name (generated_task word i).core t.core) (map (generated_task word) (range_with_len 0 i))
  earlier_are i lt = ap (λ ts. tasks_on (generated_task word i).core (take i ts)) (tasks_are word n)
      ∙ ap (tasks_on (generated_task word i).core) (take-map-range_with_len (generated_task word) 0 n i (omega arith))

  kind_of_task : (i : ℕ) → kind_named (model_of_words word n) (generated_task word i).stimulus
      ≡ Some (Periodic (slice_index periods (drawn_stimulus word i)) 0 0)
  unfolding generated_task
  kind_of_task i = kind_is word n (drawn_stimulus word i) (stimulus_below word i)

  core_passes : (i : ℕ) → i < n → core_check (core_names (model_of_words word n)) i (generated_task word i) ≡ []
  unfolding generated_task
  core_passes i lt = passed_by _ M29 (task_key i key.Core) (ap (has_name (numbered (codes "c") (i / 16))) (core_names_are word n)
      ∙ among (numbered (codes "c")) (div_ceil n 16) 0 (i / 16) (omega arith) (omega (arith, (div_ceil_times n 16 (omega arith)).0)))

  priority_differs : (i j : ℕ) → i < n → j < i → same_name (generated_task word i).core (generated_task word j).core ≡ true
      → ((generated_task word j).priority == (generated_task word i).priority) ≡ false
  unfolding generated_task
  priority_differs i j lt before same = ne_eqb _ _ (λ e. omega (arith, e, core_number_is i j (omega arith) (omega arith) same))

  priority_passes : (i : ℕ) → i < n → priority_check (tasks_on (generated_task word i).core (take i (model_of_words word n).tasks)) i (generated_task word i) ≡ []
  priority_passes i lt =
      let test = λ (other : TaskDef). other.priority == (generated_task word i).priority in
      not_refused _ M31 (task_key i key.Priority) (ap (list_any test) (earlier_are i lt)
      ∙ none_of_mapped test (λ (t : TaskDef). same_name (generated_task word i).core t.core) (generated_task word) i 0
      (λ j from before same. priority_differs i j lt (omega arith) same))

  room_passes : (i : ℕ) → i < n → room_check (length (tasks_on (generated_task word i).core (take i (model_of_words word n).tasks))) i ≡ []
  unfolding generated_task
  room_passes i lt =
      let sieve = λ (t : TaskDef). same_name (numbered (codes "c") (i / 16)) t.core in
      let count : length (filter sieve (map (generated_task word) (range_with_len 0 i))) ≤ 0 + i - 16 * (i / 16)
      = few_let_through sieve (generated_task word) i 0 (16 * (i / 16)) (omega arith)
      (λ j before. false_from_ne_true _ (λ same. omega (arith, core_number_is i j (omega arith) (omega arith) same))) in
      not_refused _ M34 (task_key i key.Core) (ne_eqb _ MOST_TASKS_OF_CORE (λ e. omega (arith, e, ap length (earlier_are i lt), count)))

  pub naming_passes : (i : ℕ) → i < n → naming_checks (model_of_words word n) i (generated_task word i) ≡ []
  unfolding naming_checks generated_task
  naming_passes i lt =
      let model = model_of_words word n in
      let task = generated_task word i in
      let period = slice_index periods (drawn_stimulus word i) in
      let kind = kind_named model task.stimulus in
      let earlier = tasks_on task.core (take i model.tasks) in
      let is : kind ≡ Some (Periodic period 0 0) = kind_of_task i in
      none_in_order
      (core_check (core_names model) i task ∷ stimulus_check kind i ∷ priority_check earlier i task ∷ late_check kind i task ∷ release_check kind i task
      ∷ room_check (length earlier) i ∷ empty_check i task ∷ []) (
        core_passes i lt,
        (
          passed_by (is_some kind) M30 (task_key i key.Stimulus) (ap is_some is),
          (
            priority_passes i lt,
            (
              not_refused _ M32 (task_key i key.Deadline) (ap (λ (k : Option StimulusKind). is_some_and k (λ kind. nat_lt (least_distance kind) (deadline_under kind task))) is
                  ∙ le-ltb period period (omega arith)),
              (
                not_refused _ M33 (task_key i key.Stimulus) (ap (λ (k : Option StimulusKind). is_some_and k (λ kind. nat_le (deadline_under kind task) (greatest_jitter kind))) is
                    ∙ lt-leb period 0 (omega (arith, period_least (drawn_stimulus word i) (stimulus_below word i)))),
                (room_passes i lt, (refl, tt)),
              ),
            ),
          ),
        ),
      )

-- ---- a runnable

-- its least time doesn't exceed its greatest
pub times_ordered : (word : ℕ → ℕ) (k : ℕ) → (generated_runnable word k).least ≤ (generated_runnable word k).greatest
unfolding generated_runnable
times_ordered word k =
    let period = slice_index periods (drawn_stimulus word (k / 2)) in
    let greatest_word = word (6 * (k / 2) + 2 + 2 * (k % 2)) in
    draw_greatest 1 (draw 1 (period / 32) greatest_word) (word (6 * (k / 2) + 2 + 2 * (k % 2) + 1)) (draw_least 1 (period / 32) greatest_word)

known_reads : (code : Code) (place : Place) (n k : ℕ) → k < n → each (label_check code place (map label_name (range_with_len 0 n))) (labels_read k) ≡ []
known_reads code place n zero lt = refl
known_reads code place n (suc k) lt = ap (λ list. list ++ [])
    (passed_by (has_name (label_name k) (map label_name (range_with_len 0 n))) code (at_spot 0 place) (among label_name n 0 k (omega arith) (omega arith)))

known_writes : (code : Code) (place : Place) (n k : ℕ) → k < n → each (label_check code place (map label_name (range_with_len 0 n))) (label_name k ∷ []) ≡ []
known_writes code place n k lt = ap (λ list. list ++ [])
    (passed_by (has_name (label_name k) (map label_name (range_with_len 0 n))) code (at_spot 0 place) (among label_name n 0 k (omega arith) (omega arith)))

once_read : (place : Place) (k : ℕ) → twice_check place (labels_read k) ≡ []
once_read place zero = refl
once_read place (suc k) = refl

module _ (word : ℕ → ℕ) (n : ℕ) (few : n ≤ MOST_TASKS) where
  -- runnable k, where the labels before its own are written
  runnable_passes : (k : ℕ) (known written : List (List ℕ)) (place : Place) → k < 2 * n → known ≡ map label_name (range_with_len 0 (2 * n))
      → written ≡ map label_name (range_with_len 0 k) → runnable_checks known written place (generated_runnable word k) ≡ []
  unfolding runnable_checks generated_runnable
  runnable_passes k known written place lt are are_written =
      let runnable = generated_runnable word k in
      none_in_order
      (times_check place runnable ∷ reads_check known place runnable ∷ writes_check known place runnable ∷ twice_check (at_key key.Reads place) runnable.reads
      ∷ twice_check (at_key key.Writes place) runnable.writes ∷ contest_check written place runnable ∷ []) (
        not_refused _ M36 (at_key key.Greatest place) (le-ltb _ _ (times_ordered word k)),
        (
          ap (λ names. each (label_check M37 (at_key key.Reads place) names) (labels_read k)) are ∙ known_reads M37 (at_key key.Reads place) (2 * n) k lt,
          (
            ap (λ names. each (label_check M38 (at_key key.Writes place) names) (label_name k ∷ [])) are ∙ known_writes M38 (at_key key.Writes place) (2 * n) k lt,
            (
              once_read (at_key key.Reads place) k,
              (
                refl,
                (
                  ap (λ list. list ++ [])
                      (not_refused (has_name (label_name k) written) M40 (at_spot 0 (at_key key.Writes place))
                      (ap (has_name (label_name k)) are_written ∙ fresh label_name (2 * n) k (labels_apart_below (2 * n) (omega arith)) lt)),
                  tt,
                ),
              ),
            ),
          ),
        ),
      )

  bodies_pass : (i : ℕ) (place : Place) → i < n
      → body_checks (label_names (model_of_words word n)) (labels_written (all_runnables (take i (model_of_words word n).tasks))) place (generated_task word i) ≡ []
  unfolding generated_task generated_runnable
  bodies_pass i place lt =
      let known = label_names (model_of_words word n) in
      let written = labels_written (all_runnables (take i (model_of_words word n).tasks)) in
      let one = generated_runnable word (2 * i) in
      let other = generated_runnable word (2 * i + 1) in
      let before : written ≡ map label_name (range_with_len 0 (2 * i)) = first_labels word n i (omega arith) in
      ap (λ list. list ++ (runnable_checks known (written ++ label_name (2 * i) ∷ []) (at_sub 1 place) other ++ []))
      (runnable_passes (2 * i) known (written ++ []) (at_sub 0 place) (omega arith) (label_names_are word n) (append-nil written ∙ before))
      ∙ ap (λ list. list ++ [])
      (runnable_passes (2 * i + 1) known (written ++ label_name (2 * i) ∷ []) (at_sub 1 place) (omega arith) (label_names_are word n)
      (ap (λ ls. ls ++ label_name (2 * i) ∷ []) before ∙ sym (map-range_with_len_more label_name 0 (2 * i) (2 * i) (omega arith))))

  count_passes : (i : ℕ) → i < n → count_check (model_of_words word n) i ≡ []
  count_passes i lt =
      let count = length (all_runnables (take (i + 1) (model_of_words word n).tasks)) in
      let long : count ≡ 2 * (i + 1) = ap length (first_runnables word n (i + 1) (omega arith)) ∙ length-map-range_with_len (generated_runnable word) 0 (2 * (i + 1)) in
      not_refused (nat_lt MOST_RUNNABLES_OF_MODEL count) M41 (entry_of part.Task i) (le-ltb MOST_RUNNABLES_OF_MODEL count (omega (arith, long)))

  -- ---- all tasks

  task_passes : (i : ℕ) → i < n → task_check (model_of_words word n) i (generated_task word i) ≡ []
  unfolding task_check
  task_passes i lt =
      let model = model_of_words word n in
      none_in_order
      (naming_checks model i (generated_task word i)
      ∷ body_checks (label_names model) (labels_written (all_runnables (take i model.tasks))) (entry_of part.Task i) (generated_task word i)
      ∷ count_check model i ∷ [])
      (naming_passes word n few i lt, (bodies_pass i (entry_of part.Task i) lt, (count_passes i lt, tt)))

  pub tasks_pass : task_checks (model_of_words word n) ≡ []
  tasks_pass = ap (each (task_check (model_of_words word n))) (tasks_are word n) ∙ each_mapped (task_check (model_of_words word n)) (generated_task word) n task_passes

  -- ---- deadlines

  deadline_is : (i period : ℕ) → deadline_under (Periodic period 0 0) (generated_task word i) ≡ period
  unfolding generated_task
  deadline_is i period = refl

  spans_few : (i j : ℕ) → is_outpaced_by (model_of_words word n) (generated_task word i) (generated_task word j) ≡ false
  spans_few i j =
      let model = model_of_words word n in
      let task = generated_task word i in
      let other = generated_task word j in
      let own = slice_index periods (drawn_stimulus word i) in
      let above = slice_index periods (drawn_stimulus word j) in
      and_right _ _
      (ap (λ (k : Option StimulusKind). is_some_and k (λ kind. is_some_and (kind_named model other.stimulus) (spans_too_many (deadline_under kind task)))) (kind_of_task word n few i)
      ∙ ap (λ (k : Option StimulusKind). is_some_and k (spans_too_many (deadline_under (Periodic own 0 0) task))) (kind_of_task word n few j)
      ∙ le-ltb (MOST_DISTANCES * above) _ (omega (
        arith,
        deadline_is i own,
        period_greatest (drawn_stimulus word i) (stimulus_below word i),
        period_least (drawn_stimulus word j) (stimulus_below word j),
      )))

  deadline_passes : (i : ℕ) → i < n → deadline_check (model_of_words word n) i (generated_task word i) ≡ []
  deadline_passes i lt =
      let model = model_of_words word n in
      let test = is_outpaced_by model (generated_task word i) in
      not_refused _ M42 (task_key i key.Deadline)
      (ap (λ ts. list_any test (tasks_on (generated_task word i).core ts)) (tasks_are word n)
      ∙ none_of_mapped test (λ (t : TaskDef). same_name (generated_task word i).core t.core) (generated_task word) n 0 (λ j from below same. spans_few i j))

  pub deadlines_pass : deadline_checks (model_of_words word n) ≡ []
  deadlines_pass = ap (each (deadline_check (model_of_words word n))) (tasks_are word n) ∙ each_mapped (deadline_check (model_of_words word n)) (generated_task word) n deadline_passes
