-- The tasks of the cores of a valid model. Times are in ticks.
use Rattle.std.proofs.Common.{◌≡◌, ◌≢◌, ℕ, zero, suc, ◌+◌, ◌*◌, ◌<◌, ◌≤◌, Bool, true, false, cond, inl, inr, ◌&&◌, ◌||◌, List, [], ◌∷◌, ◌++◌, length, get_or, set, take, map, refl, sym, ap, ◌∙◌, arith, nat_lt, nat_eq, replicate}
use Rattle.std.specs.Prelude.{unwrap_or, filter, All, ◌==◌}
use Rattle.std.specs.List.{list_any, range_with_len}
use Rattle.std.specs.Cmp.Lexicographic.{bytes_decides}
use Rattle.std.proofs.lemmas.Bool.{cases_order, ltb-false, eqb-true, eqb-false, eq-eqb, lt-ltb, cond-true, cond_both, or_right, false≢true, false_from_ne_true}
use Rattle.std.proofs.lemmas.List.{append-nil, length_push, get_or-map, get_or-take, length-take-le, length-set, get_or-set_same, get_or-set_other, map-id, same_lists}
use Rattle.std.proofs.lemmas.List.Elements.{All-filter}
use Rattle.std.proofs.lemmas.List.Filters.{length-filter_more}
use Rattle.std.proofs.lemmas.List.FromFn.{length-range_with_len, get_or-range_with_len, length-map-range_with_len, get_or-map-range_with_len, filter_of_map_range_with_len_more}
use Rattle.std.proofs.lemmas.Simd.{splat_is_map}
use Rattle.cl_model.specs.{declared.{limits.TheConstants.{MOST_DISTANCES, MOST_TASKS_OF_CORE}, model.SystemModel.SystemModel, task.TaskDef.TaskDef}, Named.{same_name, index_of, is_some_and, core_names, kind_named, tasks_on}, ByNumber.{no_stimulus, no_task, task_at, core_number, core_of}}
use Rattle.cl_model.specs.{ByNumber.{stimulus_of, deadline_of, jitter_of, tasks_of_core_below, tasks_of_core}, Timing.{least_distance, deadline_under}, ValidTasks.{spans_too_many, is_outpaced_by, deadline_check}, Validity.IsValid}
use Rattle.cl_model.proofs.{NamePlaces.known_named, Refused.{when_none, each_none}, NamesKnown.{core_known, stimulus_known}, PassedChecks.deadlines_pass, ValidTasks.{some_fails, other_priorities, room_left}, ListFacts.same_tests}

-- ---- the lists of the tasks of each core

-- one more task
pub below_more : (model : SystemModel) (n core : ℕ) → tasks_of_core_below model (n + 1) core ≡ tasks_of_core_below model n core ++ cond (core_of model n == core) (n ∷ []) []
below_more model n core =
    let on_core : ℕ → Bool = λ i. core_of model i == core in
    ap (filter on_core) (sym (map-id (range_with_len 0 (n + 1)))) ∙ filter_of_map_range_with_len_more on_core (λ i. i) 0 n n (omega arith)
    ∙ ap (λ l. filter on_core l ++ cond (on_core n) (n ∷ []) []) (map-id (range_with_len 0 n))

-- each is a task
pub below_known : (model : SystemModel) (n core : ℕ) → All (λ i. i < n) (tasks_of_core_below model n core)
below_known model n core =
    All-filter (λ i. core_of model i == core) (λ i. i < n) (range_with_len 0 n)
    (λ k d lt.
    let within : k < n = omega (arith, lt, length-range_with_len 0 n) in
    omega (arith, within, get_or-range_with_len 0 n k d within))

-- what is put at one place of a list by numbers
pub put_at : (f f' : ℕ → List ℕ) (n core : ℕ) → core < n → ((k : ℕ) → k < n → k ≢ core → f' k ≡ f k) → set (map f (range_with_len 0 n)) core (f' core) ≡ map f' (range_with_len 0 n)
put_at f f' n core lt others =
    let long : length (set (map f (range_with_len 0 n)) core (f' core)) ≡ n = length-set (map f (range_with_len 0 n)) core (f' core) ∙ length-map-range_with_len f 0 n in
    same_lists (set (map f (range_with_len 0 n)) core (f' core)) (map f' (range_with_len 0 n)) (long ∙ sym (length-map-range_with_len f' 0 n))
    (λ k d k_lt.
    let within : k < n = omega (arith, k_lt, long) in
    let core_within : core < length (map f (range_with_len 0 n)) = omega (arith, lt, length-map-range_with_len f 0 n) in
    elim (nat_eq k core) as (λ b. nat_eq k core ≡ b → get_or (set (map f (range_with_len 0 n)) core (f' core)) k d ≡ get_or (map f' (range_with_len 0 n)) k d) [
      | true ↦ λ e.
          let same : k ≡ core = eqb-true k core e in
          ap (λ m. get_or (set (map f (range_with_len 0 n)) core (f' core)) m d) same ∙ get_or-set_same (map f (range_with_len 0 n)) core (f' core) d core_within
          ∙ sym (get_or-map-range_with_len f' 0 n k core d within (omega arith))
      | false ↦ λ e.
          let apart : k ≢ core = eqb-false k core e in
          get_or-set_other (map f (range_with_len 0 n)) core k (f' core) d apart ∙ get_or-map-range_with_len f 0 n k k d within (omega arith)
          ∙ sym (others k within apart) ∙ sym (get_or-map-range_with_len f' 0 n k k d within (omega arith))
    ] refl)

-- no task is on any core yet
pub none_yet : (model : SystemModel) (cores : ℕ) (lists : List (List ℕ)) → lists ≡ replicate cores [] → lists ≡ map (tasks_of_core_below model 0) (range_with_len 0 cores)
none_yet model cores lists new = new ∙ splat_is_map (range_with_len 0 cores) cores [] (length-range_with_len 0 cores)

-- one more task is on its core
pub lists_more : (model : SystemModel) (cores n core : ℕ) (old new : List (List ℕ)) → core < cores → core ≡ core_of model n
    → old ≡ map (tasks_of_core_below model n) (range_with_len 0 cores) → new ≡ set old core (get_or old core [] ++ n ∷ [])
    → new ≡ map (tasks_of_core_below model (n + 1)) (range_with_len 0 cores)
lists_more model cores n core old new lt on_core so_far put =
    let f = tasks_of_core_below model n in
    let own : get_or old core [] ++ n ∷ [] ≡ tasks_of_core_below model (n + 1) core
    = ap (λ l. get_or l core [] ++ n ∷ []) so_far ∙ ap (λ l. l ++ n ∷ []) (get_or-map-range_with_len f 0 cores core core [] lt (omega arith))
    ∙ ap (λ b. f core ++ cond b (n ∷ []) []) (sym (eq-eqb (core_of model n) core (sym on_core))) ∙ sym (below_more model n core) in
    put ∙ ap (λ l. set l core (get_or old core [] ++ n ∷ [])) so_far ∙ ap (set (map f (range_with_len 0 cores)) core) own
    ∙ put_at f (tasks_of_core_below model (n + 1)) cores core lt
    (λ k k_lt apart.
    let other : (core_of model n == k) ≡ false = false_from_ne_true _ (λ same. apart (sym (eqb-true (core_of model n) k same) ∙ sym on_core)) in
    below_more model n k ∙ ap (λ b. f k ++ cond b (n ∷ []) []) other ∙ append-nil (f k))

-- the number that is kept for a task is that of a core
pub number_kept : (model : SystemModel) (numbers : List ℕ) (i : ℕ) → numbers ≡ map (core_number model) model.tasks → i < length model.tasks → get_or numbers i 0 ≡ core_of model i
number_kept model numbers i kept lt = ap (λ ns. get_or ns i 0) kept ∙ get_or-map (core_number model) model.tasks i no_task 0 lt

-- what is kept for a core is found
pub tasks_kept : (model : SystemModel) (lists : List (List ℕ)) (cores core : ℕ) (list : List ℕ) → lists ≡ map (tasks_of_core model) (range_with_len 0 cores) → core < cores → list ≡ get_or lists core list → list ≡ tasks_of_core model core
tasks_kept model lists cores core list kept lt at = at ∙ ap (λ ls. get_or ls core list) kept ∙ get_or-map-range_with_len (tasks_of_core model) 0 cores core core list lt (omega arith)

-- ---- names of cores

-- what passes one test and another is among those that pass the one
any_among : {X : Type 0} (p q : X → Bool) (xs : List X) (i : ℕ) (d : X) → i < length xs → q (get_or xs i d) ≡ true → p (get_or xs i d) ≡ true
    → list_any p (filter q xs) ≡ true
any_among p q [] i d lt is_q is_p = absurd (omega arith)
any_among p q (x ∷ xs) zero d lt is_q is_p =
    ap (list_any p) (cond-true (q x) (x ∷ filter q xs) (filter q xs) is_q) ∙ ap (λ b. b || list_any p (filter q xs)) is_p
any_among p q (x ∷ xs) (suc i) d lt is_q is_p =
    cond_both (q x) (x ∷ filter q xs) (filter q xs) (λ ys. list_any p ys ≡ true)
    (λ _. or_right (p x) (list_any p (filter q xs)) (any_among p q xs i d (omega arith) is_q is_p))
    (λ _. any_among p q xs i d (omega arith) is_q is_p)

added : (xs : List ℕ) (b : Bool) (n : ℕ) → length (xs ++ cond b (n ∷ []) []) ≡ length xs + cond b 1 0
added xs true n = length_push xs n
added xs false n = omega (arith, ap length (append-nil xs))

and_right : (a b : Bool) → a ≡ true → (a && b) ≡ false → b ≡ false
and_right true b is h = h
and_right false b is h = cc

module _ (model : SystemModel) (valid : IsValid model) where
  -- tasks of one core name it alike
  names_same : (i j : ℕ) → i < length model.tasks → j < length model.tasks → core_of model i ≡ core_of model j → (task_at model j).core ≡ (task_at model i).core
  names_same i j hi hj same =
      sym (known_named _ (core_names model) (core_known model valid j no_task hj)) ∙ ap (λ n. get_or (core_names model) n []) (sym same)
      ∙ known_named _ (core_names model) (core_known model valid i no_task hi)

  same_core : (i j : ℕ) → i < length model.tasks → j < length model.tasks → (core_of model i == core_of model j) ≡ same_name (task_at model j).core (task_at model i).core
  same_core i j hi hj =
      same_tests (core_of model i == core_of model j) (same_name (task_at model j).core (task_at model i).core)
      (λ e. (bytes_decides (task_at model j).core (task_at model i).core).1 (names_same i j hi hj (eqb-true (core_of model i) (core_of model j) e)))
      (λ e. eq-eqb (core_of model i) (core_of model j)
      (ap (λ name. unwrap_or (index_of name (core_names model)) 0) (sym ((bytes_decides (task_at model j).core (task_at model i).core).0 e))))

  -- ---- priorities

  -- a later task of a core has another priority
  apart : (i j : ℕ) → i < j → j < length model.tasks → core_of model i ≡ core_of model j → (task_at model i).priority ≡ (task_at model j).priority → ⊥
  apart i j before h cores priorities =
      let task = task_at model j in
      let earlier : get_or (take j model.tasks) i no_task ≡ task_at model i = get_or-take j model.tasks i no_task before in
      let on_core : same_name task.core (get_or (take j model.tasks) i no_task).core ≡ true
      = (bytes_decides task.core (get_or (take j model.tasks) i no_task).core).1
      (names_same i j (omega arith) h cores ∙ sym (ap (λ (t : TaskDef). t.core) earlier)) in
      let alike : ((get_or (take j model.tasks) i no_task).priority == task.priority) ≡ true
      = eq-eqb _ _ (ap (λ (t : TaskDef). t.priority) earlier ∙ priorities) in
      let in_front : i < length (take j model.tasks) = omega (arith, before, length-take-le j model.tasks (omega arith)) in
      false≢true (sym (other_priorities model valid j h)
      ∙ any_among (λ (other : TaskDef). other.priority == task.priority) (λ (other : TaskDef). same_name task.core other.core)
      (take j model.tasks) i no_task in_front on_core alike)

  -- tasks of one core have different priorities
  pub priorities_differ : (i j : ℕ) → i < length model.tasks → j < length model.tasks → core_of model i ≡ core_of model j
      → (task_at model i).priority ≡ (task_at model j).priority → i ≡ j
  priorities_differ i j hi hj cores priorities =
      elim (cases_order i j) [
        | inl same ↦ same
        | inr different ↦ elim different [
          | inl before ↦ absurd (apart i j before hj cores priorities)
          | inr after ↦ absurd (apart j i after hi (sym cores) (sym priorities))
        ]
      ]

  -- ---- how many tasks a core has

  -- the tasks of the core of task n among the first m, by number and by name
  counts : (n m : ℕ) → n < length model.tasks → m ≤ n → length (tasks_of_core_below model m (core_of model n)) ≡ length (tasks_on (task_at model n).core (take m model.tasks))
  counts n zero h le = refl
  counts n (suc m) h le =
      let known : m < length model.tasks = omega arith in
      let more : suc m ≡ m + 1 = omega arith in
      let on_core : TaskDef → Bool = λ task. same_name (task_at model n).core task.core in
      ap (λ k. length (tasks_of_core_below model k (core_of model n))) more ∙ ap length (below_more model m (core_of model n))
      ∙ added (tasks_of_core_below model m (core_of model n)) (core_of model m == core_of model n) m
      ∙ ap (λ k. k + cond (core_of model m == core_of model n) 1 0) (counts n m h (omega arith))
      ∙ ap (λ b. length (tasks_on (task_at model n).core (take m model.tasks)) + cond b 1 0) (same_core m n known h)
      ∙ sym (ap (λ k. length (tasks_on (task_at model n).core (take k model.tasks))) more ∙ length-filter_more on_core model.tasks m no_task known)

  few_below : (n core : ℕ) → n ≤ length model.tasks → length (tasks_of_core_below model n core) ≤ MOST_TASKS_OF_CORE
  few_below zero core le = omega arith
  few_below (suc n) core le =
      let known : n < length model.tasks = omega arith in
      let before = few_below n core (omega arith) in
      let more : suc n ≡ n + 1 = omega arith in
      let count : length (tasks_of_core_below model (suc n) core) ≡ length (tasks_of_core_below model n core) + cond (core_of model n == core) 1 0
      = ap (λ k. length (tasks_of_core_below model k core)) more ∙ ap length (below_more model n core) ∙ added (tasks_of_core_below model n core) (core_of model n == core) n in
      elim (core_of model n == core) as (λ b. (core_of model n == core) ≡ b → length (tasks_of_core_below model (suc n) core) ≡ length (tasks_of_core_below model n core) + cond b 1 0
      → length (tasks_of_core_below model (suc n) core) ≤ MOST_TASKS_OF_CORE) [
        | true ↦ λ e is.
            let same : core_of model n ≡ core = eqb-true (core_of model n) core e in
            let here : length (tasks_of_core_below model n core) ≡ length (tasks_on (task_at model n).core (take n model.tasks))
            = ap (λ k. length (tasks_of_core_below model n k)) (sym same) ∙ counts n n known (omega arith) in
            let room : length (tasks_of_core_below model n core) ≡ MOST_TASKS_OF_CORE → ⊥ = λ full. room_left model valid n known (sym here ∙ full) in
            omega (arith, before, is, room)
        | false ↦ λ e is. omega (arith, before, is)
      ] refl count

  pub few_tasks : (core : ℕ) → length (tasks_of_core model core) ≤ MOST_TASKS_OF_CORE
  few_tasks core = few_below (length model.tasks) core (omega arith)

  -- ---- deadlines

  -- a deadline spans few least distances of a task of its core with a higher priority
  pub few_distances : (i j : ℕ) → i < length model.tasks → j < length model.tasks → core_of model i ≡ core_of model j → (task_at model i).priority < (task_at model j).priority
      → deadline_of model i + jitter_of model j ≤ MOST_DISTANCES * least_distance (stimulus_of model j)
  few_distances i j hi hj cores above =
      let task = task_at model i in
      let none : list_any (is_outpaced_by model task) (tasks_on task.core model.tasks) ≡ false
      = when_none _ _ _ (each_none (deadline_check model) model.tasks i no_task (deadlines_pass model valid) hi) in
      let on_core : same_name task.core (task_at model j).core ≡ true = (bytes_decides task.core (task_at model j).core).1 (names_same j i hj hi (sym cores)) in
      let kept : is_outpaced_by model task (task_at model j) ≡ false
      = false_from_ne_true _ (λ outpaced. false≢true (sym none ∙ any_among (is_outpaced_by model task) (λ (other : TaskDef). same_name task.core other.core) model.tasks j no_task hj on_core outpaced)) in
      let rest = and_right (nat_lt task.priority (task_at model j).priority)
      (is_some_and (kind_named model task.stimulus) (λ kind. is_some_and (kind_named model (task_at model j).stimulus) (spans_too_many (deadline_under kind task))))
      (lt-ltb _ _ above) kept in
      let own = some_fails (kind_named model task.stimulus) (λ kind. is_some_and (kind_named model (task_at model j).stimulus) (spans_too_many (deadline_under kind task))) no_stimulus
      (stimulus_known model valid i no_task hi) rest in
      let other = some_fails (kind_named model (task_at model j).stimulus) (spans_too_many (deadline_of model i)) no_stimulus (stimulus_known model valid j no_task hj) own in
      ltb-false _ _ other
