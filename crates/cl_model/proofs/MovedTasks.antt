-- What stands beside a valid model in which a task is on another core.
use Rattle.std.proofs.Common.{◌≡◌, ◌≢◌, ℕ, zero, suc, ◌+◌, ◌-◌, ◌<◌, ◌≤◌, Bool, true, false, cond, nat_lt, List, [], ◌∷◌, ◌++◌, length, get_or, set, map, refl, sym, ap, ◌∙◌, arith}
use Rattle.std.specs.Prelude.{unwrap_or, filter, All, insert, remove, Some, ◌==◌}
use Rattle.std.specs.List.{range_with_len}
use Rattle.std.proofs.lemmas.Bool.{eqb-true, eq-eqb, false_from_ne_true, lt-ltb, ltb-true}
use Rattle.std.proofs.lemmas.List.{length-append, length-set, get_or-set_same, get_or-set_other, map-set, length-map}
use Rattle.std.proofs.lemmas.List.Edits.{insert-append_right, remove-append_right}
use Rattle.std.proofs.lemmas.List.Elements.{All-cons, All-filter, filter-append}
use Rattle.std.proofs.lemmas.List.FromFn.{length-range_with_len, get_or-range_with_len, length-map-range_with_len, get_or-map-range_with_len}
use Rattle.std.proofs.lemmas.List.Sums.{sum_by-cons}
use Rattle.std.proofs.Math.Seq.{map-set_same}
use Rattle.cl_model.specs.{declared.{look_ups.TaskTables.TaskTables, model.{CoreDef.CoreDef, SystemModel.SystemModel}, task.TaskDef.TaskDef, valid_model.ValidModel.TheInside.Inside}, Named.{has_name, index_of, core_names}, ByNumber.{no_task, task_at, core_number, core_of, stimulus_number}}
use Rattle.cl_model.specs.{ByNumber.{greatest_time, tasks_of_core_below, tasks_of_core}, Changes.with_place, Inner.LookUps.{AreTaskTablesOf, place_among, beside, IsListed, lists_without, lists_with, TaskMoved, HasItsLookUps}, Validity.IsValid}
use Rattle.cl_model.proofs.{CoreTasks.{put_at, below_known, number_kept}, NamePlaces.found_below, NamesKnown.{core_known, core_within}, KeptLookUps.{names_in, steps_stay, groups_stay}}

-- ---- lists of numbers that rise

-- a range around one of its numbers
range_around : (a m k n j : ℕ) → n ≡ m + suc k → j ≡ a + m → range_with_len a n ≡ range_with_len a m ++ j ∷ range_with_len (j + 1) k
range_around a zero k n j count at =
    let n_is : n ≡ suc k = omega arith in
    let j_is : j ≡ a = omega arith in
    rw (n_is, j_is) refl
range_around a (suc m) k n j count at =
    let n_is : n ≡ suc (m + suc k) = omega arith in
    rw n_is (ap (λ numbers. a ∷ numbers) (range_around (a + 1) m k (m + suc k) j refl (omega arith)))

-- two tests that agree on a range keep the same of it
pub filter_range : (p q : ℕ → Bool) (a n : ℕ) → ((i : ℕ) → a ≤ i → i < a + n → p i ≡ q i) → filter p (range_with_len a n) ≡ filter q (range_with_len a n)
filter_range p q a zero same = refl
filter_range p q a (suc n) same =
    ap (λ b. cond b (a ∷ filter p (range_with_len (a + 1) n)) (filter p (range_with_len (a + 1) n))) (same a (omega arith) (omega arith))
    ∙ ap (λ numbers. cond (q a) (a ∷ numbers) numbers) (filter_range p q (a + 1) n (λ i from to. same i (omega arith) (omega arith)))

-- the place of a number among others that rise
place_behind : (t : ℕ) (below above : List ℕ) → All (λ i. i < t) below → All (λ i. t ≤ i) above → place_among (below ++ above) t ≡ length below
place_behind t [] [] under over = refl
place_behind t [] (x ∷ above) under over =
    let here : t ≤ x = over 0 x (omega arith) in
    let no : nat_lt x t ≡ false = false_from_ne_true _ (λ yes. omega (arith, here, ltb-true x t yes)) in
    let rest : place_among above t ≡ 0 = place_behind t [] above under (λ k d lt. over (suc k) d (omega arith)) in
    let none : 0 + place_among above t ≡ 0 = omega (arith, rest) in
    sum_by-cons (λ i. cond (nat_lt i t) 1 0) x above ∙ ap (λ b. cond b 1 0 + place_among above t) no ∙ none
place_behind t (x ∷ below) above under over =
    let here : x < t = under 0 x (omega arith) in
    let rest : place_among (below ++ above) t ≡ length below = place_behind t below above (λ k d lt. under (suc k) d (omega arith)) over in
    let more : 1 + place_among (below ++ above) t ≡ suc (length below) = omega (arith, rest) in
    sum_by-cons (λ i. cond (nat_lt i t) 1 0) x (below ++ above) ∙ ap (λ b. cond b 1 0 + place_among (below ++ above) t) (lt-ltb x t here) ∙ more

-- ---- the tasks of a core around one task

-- the numbers of the tasks of a core behind task t
abbrev pub above : SystemModel → (t core : ℕ) → List ℕ
above model t core = filter (λ i. core_of model i == core) (range_with_len (t + 1) (length model.tasks - (t + 1)))

-- those of the others
abbrev pub others : SystemModel → (t core : ℕ) → List ℕ
others model t core = tasks_of_core_below model t core ++ above model t core

above_known : (model : SystemModel) (t core : ℕ) → All (λ i. t ≤ i) (above model t core)
above_known model t core =
    All-filter (λ i. core_of model i == core) (λ i. t ≤ i) (range_with_len (t + 1) (length model.tasks - (t + 1)))
    (λ k d lt.
    let within : k < length model.tasks - (t + 1) = omega (arith, lt, length-range_with_len (t + 1) (length model.tasks - (t + 1))) in
    omega (arith, within, get_or-range_with_len (t + 1) (length model.tasks - (t + 1)) k d within))

around : (model : SystemModel) (t core : ℕ) → t < length model.tasks
    → tasks_of_core model core ≡ tasks_of_core_below model t core ++ cond (core_of model t == core) (t ∷ above model t core) (above model t core)
around model t core lt =
    let on_core : ℕ → Bool = λ i. core_of model i == core in
    ap (filter on_core) (range_around 0 t (length model.tasks - (t + 1)) (length model.tasks) t (omega arith) (omega arith))
    ∙ filter-append on_core (range_with_len 0 t) (t ∷ range_with_len (t + 1) (length model.tasks - (t + 1)))

pub with_it : (model : SystemModel) (t core : ℕ) → t < length model.tasks → core_of model t ≡ core → tasks_of_core model core ≡ tasks_of_core_below model t core ++ t ∷ above model t core
with_it model t core lt same =
    around model t core lt ∙ ap (λ b. tasks_of_core_below model t core ++ cond b (t ∷ above model t core) (above model t core)) (eq-eqb (core_of model t) core same)

pub without_it : (model : SystemModel) (t core : ℕ) → t < length model.tasks → core_of model t ≢ core → tasks_of_core model core ≡ others model t core
without_it model t core lt apart =
    around model t core lt
    ∙ ap (λ b. tasks_of_core_below model t core ++ cond b (t ∷ above model t core) (above model t core)) (false_from_ne_true _ (λ yes. apart (eqb-true (core_of model t) core yes)))

-- its place among the tasks of its core
pub own_place : (model : SystemModel) (t core : ℕ) → t < length model.tasks → core_of model t ≡ core → place_among (tasks_of_core model core) t ≡ length (tasks_of_core_below model t core)
own_place model t core lt same =
    ap (λ tasks. place_among tasks t) (with_it model t core lt same)
    ∙ place_behind t (tasks_of_core_below model t core) (t ∷ above model t core) (below_known model t core)
    (All-cons (λ i. t ≤ i) t (above model t core) (omega arith) (above_known model t core))

-- taken out of them
pub taken_out : (model : SystemModel) (t core : ℕ) → t < length model.tasks → core_of model t ≡ core → remove (tasks_of_core model core) (place_among (tasks_of_core model core) t) ≡ others model t core
taken_out model t core lt same =
    let below = tasks_of_core_below model t core in
    let none : length below - length below ≡ 0 = omega arith in
    ap (remove (tasks_of_core model core)) (own_place model t core lt same)
    ∙ ap (λ tasks. remove tasks (length below)) (with_it model t core lt same)
    ∙ remove-append_right below (t ∷ above model t core) (length below) (length below) refl (omega arith)
    ∙ ap (λ k. below ++ remove (t ∷ above model t core) k) none

-- put in among the others
pub put_in : (model : SystemModel) (t core : ℕ) → insert (others model t core) (place_among (others model t core) t) t ≡ tasks_of_core_below model t core ++ t ∷ above model t core
put_in model t core =
    let below = tasks_of_core_below model t core in
    let none : length below - length below ≡ 0 = omega arith in
    ap (λ k. insert (others model t core) k t) (place_behind t below (above model t core) (below_known model t core) (above_known model t core))
    ∙ insert-append_right below (above model t core) (length below) (length below) t refl (omega arith)
    ∙ ap (λ k. below ++ insert (above model t core) k t) none

-- ---- without the task

-- the lists of the other tasks of each core
abbrev pub lists_of_others : SystemModel → (t : ℕ) → List (List ℕ)
lists_of_others model t = map (others model t) (range_with_len 0 (length model.cores))

module _ (model : SystemModel) (valid : IsValid model) (t : ℕ) (lt : t < length model.tasks) where
  without_lists : (lists : List (List ℕ)) → lists ≡ map (tasks_of_core model) (range_with_len 0 (length model.cores))
      → set lists (core_of model t) (remove (get_or lists (core_of model t) []) (place_among (get_or lists (core_of model t) []) t)) ≡ lists_of_others model t
  without_lists lists is =
      let a = core_of model t in
      let cores = length model.cores in
      let f = tasks_of_core model in
      let within : core_of model t < length model.cores = core_within model valid t lt in
      let here : get_or lists (core_of model t) [] ≡ tasks_of_core model (core_of model t)
      = ap (λ ls. get_or ls a []) is ∙ get_or-map-range_with_len f 0 cores a a [] within (omega arith) in
      ap (λ ls. set ls a (remove (get_or lists a []) (place_among (get_or lists a []) t))) is
      ∙ ap (λ tasks. set (map f (range_with_len 0 cores)) a (remove tasks (place_among tasks t))) here
      ∙ ap (set (map f (range_with_len 0 cores)) a) (taken_out model t a lt refl)
      ∙ put_at f (others model t) cores a within (λ k k_lt apart. sym (without_it model t k lt (λ same. apart (sym same))))

  -- the tables of tasks
  module _ (old : TaskTables) (are : AreTaskTablesOf model old) where
    pub kept_core : get_or old.cores.items t 0 ≡ core_of model t
    kept_core = number_kept model old.cores.items t are.cores lt

    its_list : beside old t ≡ tasks_of_core model (core_of model t)
    its_list =
        ap (λ c. get_or old.on_cores.items c []) kept_core ∙ ap (λ ls. get_or ls (core_of model t) []) are.on_cores
        ∙ get_or-map-range_with_len (tasks_of_core model) 0 (length model.cores) (core_of model t) (core_of model t) [] (core_within model valid t lt) (omega arith)

    pub is_listed : IsListed old t
    is_listed =
        let below = tasks_of_core_below model t (core_of model t) in
        let place : place_among (beside old t) t ≡ length (tasks_of_core_below model t (core_of model t))
        = ap (λ tasks. place_among tasks t) its_list ∙ own_place model t (core_of model t) lt refl in
        let count : length (beside old t) ≡ length (tasks_of_core_below model t (core_of model t) ++ t ∷ above model t (core_of model t))
        = ap length (its_list ∙ with_it model t (core_of model t) lt refl) in
        record {
          core = omega (arith, kept_core, core_within model valid t lt, ap length are.on_cores, length-map-range_with_len (tasks_of_core model) 0 (length model.cores));
          place = omega (arith, place, count, length-append below (t ∷ above model t (core_of model t)));
        }

    pub lists_out : lists_without old t ≡ lists_of_others model t
    lists_out =
        ap (λ c. set old.on_cores.items c (remove (get_or old.on_cores.items c []) (place_among (get_or old.on_cores.items c []) t))) kept_core ∙ without_lists old.on_cores.items are.on_cores

-- ---- a task on another core

module _ (model : SystemModel) (valid : IsValid model) (t : ℕ) (lt : t < length model.tasks) (core : List ℕ) (priority number : ℕ) (found : index_of core (core_names model) ≡ Some number) where
  abbrev placed : TaskDef
  placed = record (task_at model t) { core = core; priority = priority }

  abbrev changed : SystemModel
  changed = with_place model t core priority

  same_count : length changed.tasks ≡ length model.tasks
  same_count = length-set model.tasks t placed

  still_known : t < length changed.tasks
  still_known = omega (arith, lt, same_count)

  new_number : core_number model placed ≡ number
  new_number = ap (λ o. unwrap_or o 0) found

  its_core : core_of changed t ≡ number
  its_core = ap (core_number model) (get_or-set_same model.tasks t placed no_task lt) ∙ new_number

  core_of_other : (i : ℕ) → i ≢ t → core_of changed i ≡ core_of model i
  core_of_other i apart = ap (core_number model) (get_or-set_other model.tasks t i placed no_task apart)

  below_same : (k : ℕ) → tasks_of_core_below changed t k ≡ tasks_of_core_below model t k
  below_same k =
      filter_range (λ i. core_of changed i == k) (λ i. core_of model i == k) 0 t
      (λ i from to. let apart : i ≢ t = omega arith in ap (λ c. c == k) (core_of_other i apart))

  above_same : (k : ℕ) → above changed t k ≡ above model t k
  above_same k =
      ap (λ n. filter (λ i. core_of changed i == k) (range_with_len (t + 1) (n - (t + 1)))) same_count
      ∙ filter_range (λ i. core_of changed i == k) (λ i. core_of model i == k) (t + 1) (length model.tasks - (t + 1))
      (λ i from to. let apart : i ≢ t = omega arith in ap (λ c. c == k) (core_of_other i apart))

  on_new : tasks_of_core changed number ≡ tasks_of_core_below model t number ++ t ∷ above model t number
  on_new =
      with_it changed t number still_known its_core ∙ ap (λ tasks. tasks ++ t ∷ above changed t number) (below_same number)
      ∙ ap (λ tasks. tasks_of_core_below model t number ++ t ∷ tasks) (above_same number)

  on_other : (k : ℕ) → k ≢ number → tasks_of_core changed k ≡ others model t k
  on_other k apart =
      without_it changed t k still_known (λ same. apart (sym same ∙ its_core)) ∙ ap (λ tasks. tasks ++ above changed t k) (below_same k)
      ∙ ap (λ tasks. tasks_of_core_below model t k ++ tasks) (above_same k)

  with_lists : (lists : List (List ℕ)) → lists ≡ lists_of_others model t → lists_with lists t number ≡ map (tasks_of_core changed) (range_with_len 0 (length model.cores))
  with_lists lists is =
      let cores = length model.cores in
      let g = others model t in
      let within : number < length model.cores = omega (arith, found_below core (core_names model) number found, length-map model.cores (λ (c : CoreDef). c.name)) in
      let here : get_or lists number [] ≡ others model t number
      = ap (λ ls. get_or ls number []) is ∙ get_or-map-range_with_len g 0 cores number number [] within (omega arith) in
      ap (λ ls. set ls number (insert (get_or lists number []) (place_among (get_or lists number []) t) t)) is
      ∙ ap (λ tasks. set (lists_of_others model t) number (insert tasks (place_among tasks t) t)) here
      ∙ ap (set (lists_of_others model t) number) (put_in model t number ∙ sym on_new)
      ∙ put_at g (tasks_of_core changed) cores number within (λ k k_lt apart. on_other k apart)

  -- the tables of tasks
  module _ (old : TaskTables) (are : AreTaskTablesOf model old) where
    pub core_listed : number < length old.on_cores.items
    core_listed =
        omega (
          arith,
          found_below core (core_names model) number found,
          length-map model.cores (λ (c : CoreDef). c.name),
          ap length are.on_cores,
          length-map-range_with_len (tasks_of_core model) 0 (length model.cores),
        )

    moved : (new : TaskTables) → TaskMoved t number old new → AreTaskTablesOf changed new
    moved new is =
        record {
          cores =
              is.cores ∙ ap (λ numbers. set numbers t number) are.cores ∙ ap (set (map (core_number model) model.tasks) t) (sym new_number)
              ∙ sym (map-set (core_number model) model.tasks t placed);
          stimuli = ap (λ kept. kept.items) is.stimuli ∙ are.stimuli ∙ sym (map-set_same (λ (task : TaskDef). stimulus_number model task.stimulus) model.tasks t placed no_task refl);
          times = ap (λ kept. kept.items) is.times ∙ are.times ∙ sym (map-set_same greatest_time model.tasks t placed no_task refl);
          on_cores = is.on_cores ∙ with_lists (lists_without old t) (lists_out model valid t lt old are);
        }

-- ---- valid models

module _ (old : Inside) (has : HasItsLookUps old) (t : ℕ) (lt : t < length old.model.tasks) (core : List ℕ) (priority : ℕ) (valid : IsValid (with_place old.model t core priority)) where
  -- the new core is known
  pub core_is_there : has_name core (core_names old.model) ≡ true
  core_is_there =
      let placed : TaskDef = record (task_at old.model t) { core = core; priority = priority } in
      let here : get_or (set old.model.tasks t placed) t no_task ≡ placed = get_or-set_same old.model.tasks t placed no_task lt in
      ap (λ (task : TaskDef). has_name task.core (core_names old.model)) (sym here)
      ∙ core_known (with_place old.model t core priority) valid t no_task (omega (arith, lt, length-set old.model.tasks t placed))

  module _ (number : ℕ) (found : Some number ≡ index_of core old.look_ups.names.cores) where
    there : index_of core (core_names old.model) ≡ Some number
    there = ap (index_of core) (sym has.look_ups.names.cores) ∙ sym found

    pub core_stands : number < length old.look_ups.tasks.on_cores.items
    core_stands = core_listed old.model has.valid t lt core priority number there old.look_ups.tasks has.look_ups.tasks

    pub task_stands : IsListed old.look_ups.tasks t
    task_stands = is_listed old.model has.valid t lt old.look_ups.tasks has.look_ups.tasks

    -- the tables of the model with the task on the new core
    pub place_stands : (tables : TaskTables) → TaskMoved t number old.look_ups.tasks tables
        → HasItsLookUps (record { model = with_place old.model t core priority; look_ups = record old.look_ups { tasks = tables } })
    place_stands tables is =
        let model = old.model in
        let placed : TaskDef = record (task_at old.model t) { core = core; priority = priority } in
        let new = with_place model t core priority in
        let runnables = map-set_same names_in model.tasks t placed no_task refl in
        record {
          valid = valid;
          look_ups = record {
            names = record {
              cores = has.look_ups.names.cores;
              stimuli = has.look_ups.names.stimuli;
              tasks = has.look_ups.names.tasks ∙ sym (map-set_same (λ (task : TaskDef). task.name) model.tasks t placed no_task refl);
              chains = has.look_ups.names.chains;
              requirements = has.look_ups.names.requirements;
            };
            tasks = moved model has.valid t lt core priority number there old.look_ups.tasks has.look_ups.tasks tables is;
            steps = steps_stay model new runnables old.look_ups.steps has.look_ups.steps;
            groups = has.look_ups.groups ∙ groups_stay model new runnables refl;
          };
        }
