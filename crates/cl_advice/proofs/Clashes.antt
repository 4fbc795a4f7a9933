-- What an entry clashes with stands before it.
use Rattle.std.proofs.Common.{◌≡◌, ℕ, suc, ◌+◌, ◌<◌, Bool, true, false, ◌&&◌, ◌||◌, ◌==◌, cond, List, [], ◌∷◌, ◌++◌, length, get_or, take, drop, Contains, Option, Some, None, refl, sym, ap, subst, ◌∙◌, arith, append_assoc}
use Rattle.std.specs.List.{list_any, find}
use Rattle.std.specs.Option.{option_or}
use Rattle.std.specs.Prelude.{IsSomeAnd}
use Rattle.std.proofs.lemmas.Grind.{flat_map-append}
use Rattle.std.proofs.lemmas.List.{take-append-drop, at_drop_more}
use Rattle.std.proofs.lemmas.List.Folds.{find-append, list_any-append}
use Rattle.cl_model.specs.{declared.{model.SystemModel.SystemModel, task.{RunnableDef.RunnableDef, TaskDef.TaskDef}}, Named.{same_name, has_name, tasks_on, all_runnables, labels_written}}
use Rattle.cl_model.proofs.ListFacts.{list_any-flat_map}
use Rattle.cl_advice.specs.With.{shares_priority, rival_of, writer_of}

-- ---- what is found first

later : {X : Type 0} (x : X) (xs : List X) (o : Option X) → IsSomeAnd o (Contains xs) → IsSomeAnd o (Contains (x ∷ xs))
later x xs None h = h
later x xs (Some y) h = (suc h.0, omega (arith, h.1), h.2)

one_or_later : {X : Type 0} (test : X → Bool) (x : X) (xs : List X) (t : Bool) → (t || list_any test xs) ≡ true
    → (list_any test xs ≡ true → IsSomeAnd (find test xs) (Contains xs)) → IsSomeAnd (cond t (Some x) (find test xs)) (Contains (x ∷ xs))
one_or_later test x xs true h rest = (0, omega arith, refl)
one_or_later test x xs false h rest = later x xs (find test xs) (rest h)

-- where an element passes, one of the list is found
any_found : {X : Type 0} (test : X → Bool) (xs : List X) → list_any test xs ≡ true → IsSomeAnd (find test xs) (Contains xs)
any_found test [] h = absurd cc
any_found test (x ∷ xs) h = one_or_later test x xs (test x) h (any_found test xs)

first_stays : {X : Type 0} (P : X → Type 0) (first other : Option X) → IsSomeAnd first P → IsSomeAnd (option_or first other) P
first_stays P None other h = absurd h
first_stays P (Some x) other h = h

-- and it is found first where others stand behind them
found_in_front : {X : Type 0} (test : X → Bool) (front back : List X) → list_any test front ≡ true → IsSomeAnd (find test (front ++ back)) (Contains front)
found_in_front test front back h = rw (find-append test front back) (first_stays (Contains front) (find test front) (find test back) (any_found test front h))

-- ---- tasks

split_test : (test : TaskDef → Bool) (task : TaskDef) (tasks : List TaskDef) (s : Bool) → list_any test (cond s (task ∷ tasks) tasks) ≡ ((s && test task) || list_any test tasks)
split_test test task tasks true = refl
split_test test task tasks false = refl

any_shares : (task : TaskDef) (tasks : List TaskDef)
    → list_any (λ (other : TaskDef). other.priority == task.priority) (tasks_on task.core tasks) ≡ list_any (shares_priority task) tasks
any_shares task [] = refl
any_shares task (other ∷ tasks) =
    split_test (λ (one : TaskDef). one.priority == task.priority) other (tasks_on task.core tasks) (same_name task.core other.core)
    ∙ ap (λ b. shares_priority task other || b) (any_shares task tasks)

pub rival_is_earlier : (model : SystemModel) (i : ℕ) (task : TaskDef)
    → list_any (λ other. other.priority == task.priority) (tasks_on task.core (take i model.tasks)) ≡ true → IsSomeAnd (rival_of model task) (Contains (take i model.tasks))
rival_is_earlier model i task h =
    subst (λ (tasks : List TaskDef). IsSomeAnd (find (shares_priority task) tasks) (Contains (take i model.tasks))) (take-append-drop i model.tasks)
    (found_in_front (shares_priority task) (take i model.tasks) (drop i model.tasks) (sym (any_shares task (take i model.tasks)) ∙ h))

-- ---- runnables

-- whether a runnable writes a label
abbrev pub writes_label : List ℕ → RunnableDef → Bool
writes_label label runnable = has_name label runnable.writes

any_writes : (label : List ℕ) (before own : List RunnableDef)
    → has_name label (labels_written before ++ labels_written own) ≡ list_any (writes_label label) (before ++ own)
any_writes label before own =
    list_any-append (same_name label) (labels_written before) (labels_written own)
    ∙ rw (list_any-flat_map (same_name label) (λ (runnable : RunnableDef). runnable.writes) before, list_any-flat_map (same_name label) (λ (runnable : RunnableDef). runnable.writes) own)
    (sym (list_any-append (writes_label label) before own))

-- all runnables are those before place p of task i, and others
runnables_cut : (tasks : List TaskDef) (i p : ℕ) (task : TaskDef) → i < length tasks → task ≡ get_or tasks i task
    → (all_runnables (take i tasks) ++ take p task.runnables) ++ (drop p task.runnables ++ all_runnables (drop (i + 1) tasks)) ≡ all_runnables tasks
runnables_cut tasks i p task lt is =
    let before : List RunnableDef = all_runnables (take i tasks) in
    let behind : List RunnableDef = all_runnables (drop (i + 1) tasks) in
    let own : take p task.runnables ++ (drop p task.runnables ++ behind) ≡ task.runnables ++ behind =
    sym (append_assoc (take p task.runnables) (drop p task.runnables) behind) ∙ ap (λ (rs : List RunnableDef). rs ++ behind) (take-append-drop p task.runnables) in
    let rest : task.runnables ++ behind ≡ all_runnables (drop i tasks) =
    ap (λ (t : TaskDef). t.runnables ++ behind) is ∙ sym (at_drop_more (λ (left : List TaskDef). all_runnables left) tasks i task lt) in
    append_assoc before (take p task.runnables) (drop p task.runnables ++ behind)
    ∙ ap (λ (rs : List RunnableDef). before ++ rs) (own ∙ rest)
    ∙ sym (flat_map-append (λ (t : TaskDef). t.runnables) (take i tasks) (drop i tasks))
    ∙ ap (λ (ts : List TaskDef). all_runnables ts) (take-append-drop i tasks)

pub writer_is_earlier : (model : SystemModel) (i p : ℕ) (task : TaskDef) (label : List ℕ) → i < length model.tasks → task ≡ get_or model.tasks i task
    → has_name label (labels_written (all_runnables (take i model.tasks)) ++ labels_written (take p task.runnables)) ≡ true
    → IsSomeAnd (writer_of model label) (Contains (all_runnables (take i model.tasks) ++ take p task.runnables))
writer_is_earlier model i p task label lt is h =
    let before : List RunnableDef = all_runnables (take i model.tasks) ++ take p task.runnables in
    subst (λ (runnables : List RunnableDef). IsSomeAnd (find (writes_label label) runnables) (Contains before)) (runnables_cut model.tasks i p task lt is)
    (found_in_front (writes_label label) before (drop p task.runnables ++ all_runnables (drop (i + 1) model.tasks))
    (sym (any_writes label (all_runnables (take i model.tasks)) (take p task.runnables)) ∙ h))
