-- The names of the runnables of tasks, one task after another.
use Rattle.std.proofs.Common.{◌≡◌, ℕ, zero, suc, ◌+◌, ◌<◌, ◌≤◌, List, [], ◌∷◌, ◌++◌, length, get_or, take, refl, sym, ap, ◌∙◌, subst, arith}
use Rattle.std.proofs.lemmas.List.{take_more, take_all, get_or_default, append-nil, map-append}
use Rattle.std.proofs.lemmas.Grind.{flat_map-append}
use Rattle.cl_model.specs.declared.place.Key.TheVariants as key
use Rattle.cl_model.specs.declared.place.Part.TheVariants as part
use Rattle.cl_model.specs.{declared.{refusal.Code.TheVariants.M24, task.{TaskDef.TaskDef, RunnableDef.RunnableDef}, model.SystemModel.SystemModel}, ByNumber.no_task, Named.{runnable_names, all_runnables}, NameSets.{AreDistinctNames, AreNew}, Place.{entry_of, at_key, at_sub}, Refusals.each}
use Rattle.cl_model.specs.{ValidNames.{repeat_check, runnable_repeats}, Validity.IsValid}
use Rattle.cl_model.proofs.{NamePlaces.apart_behind, NamesApart.runnables_pass, Refused.{when_none, each_none}}

-- the runnables of one more task
pub runnables_more : (tasks : List TaskDef) (i : ℕ) (task : TaskDef) → i < length tasks → task ≡ get_or tasks i task → all_runnables (take (i + 1) tasks) ≡ all_runnables (take i tasks) ++ task.runnables
runnables_more tasks i task lt is =
    ap all_runnables (take_more tasks i task lt) ∙ flat_map-append (λ t. t.runnables) (take i tasks) (get_or tasks i task ∷ [])
    ∙ ap (λ l. all_runnables (take i tasks) ++ l) (append-nil (get_or tasks i task).runnables) ∙ ap (λ t. all_runnables (take i tasks) ++ t.runnables) (sym is)

-- their names
pub runnable_names_more : (tasks : List TaskDef) (i : ℕ) (task : TaskDef) (body : List RunnableDef) (old new : List (List ℕ))
    → i < length tasks → task ≡ get_or tasks i task → body ≡ task.runnables
    → old ≡ runnable_names (all_runnables (take i tasks)) → new ≡ old ++ runnable_names body
    → new ≡ runnable_names (all_runnables (take (i + 1) tasks))
runnable_names_more tasks i task body old new lt is same so_far added =
    added ∙ ap (λ o. o ++ runnable_names body) so_far ∙ ap (λ b. runnable_names (all_runnables (take i tasks)) ++ runnable_names b) same
    ∙ sym (ap runnable_names (runnables_more tasks i task lt is) ∙ map-append (λ r. r.name) (all_runnables (take i tasks)) task.runnables)

-- where M24 passes, the names of a task are new behind those of the tasks before it
pub runnables_are_new : (tasks : List TaskDef) → each (runnable_repeats tasks) tasks ≡ [] → (i : ℕ) (d : TaskDef) → i < length tasks → AreNew (runnable_names (all_runnables (take i tasks))) (runnable_names (get_or tasks i d).runnables)
runnables_are_new tasks none i d lt n n_lt =
    let names = runnable_names (get_or tasks i d).runnables in
    let before = runnable_names (all_runnables (take i tasks)) in
    let place : ℕ → _ = λ p. at_key key.Name (at_sub p (entry_of part.Task i)) in
    when_none _ _ _ (each_none (repeat_check M24 place before names) names n [] (each_none (runnable_repeats tasks) tasks i d none lt) n_lt)

pub runnables_new : (tasks : List TaskDef) (i : ℕ) (task : TaskDef) (body : List RunnableDef) (before : List (List ℕ)) → each (runnable_repeats tasks) tasks ≡ [] → i < length tasks → task ≡ get_or tasks i task → body ≡ task.runnables
    → before ≡ runnable_names (all_runnables (take i tasks)) → AreNew before (runnable_names body)
runnables_new tasks i task body before none lt is same so_far =
    let here : body ≡ (get_or tasks i task).runnables = same ∙ ap (λ t. t.runnables) is in
    rw (so_far, here) (runnables_are_new tasks none i task lt)

-- the names of the runnables of the first tasks are apart
apart_below : (tasks : List TaskDef) → each (runnable_repeats tasks) tasks ≡ [] → (n : ℕ) → n ≤ length tasks → AreDistinctNames (runnable_names (all_runnables (take n tasks)))
apart_below tasks none zero le = λ k within. absurd (omega arith)
apart_below tasks none (suc n) le =
    let d : TaskDef = no_task in
    let task = get_or tasks n d in
    let more : n + 1 ≡ suc n = omega arith in
    let behind : AreDistinctNames (runnable_names (all_runnables (take n tasks)) ++ runnable_names task.runnables)
    = apart_behind _ _ (apart_below tasks none n (omega arith)) (runnables_are_new tasks none n d (omega arith)) in
    let joined = runnable_names_more tasks n (get_or tasks n d) task.runnables (runnable_names (all_runnables (take n tasks))) _ (omega arith) (get_or_default tasks n d task (omega arith)) refl refl refl in
    subst AreDistinctNames (joined ∙ ap (λ m. runnable_names (all_runnables (take m tasks))) more) behind

pub runnables_apart : (model : SystemModel) → IsValid model → AreDistinctNames (runnable_names (all_runnables model.tasks))
runnables_apart model valid =
    subst (λ tasks. AreDistinctNames (runnable_names (all_runnables tasks))) (take_all (length model.tasks) model.tasks (omega arith))
    (apart_below model.tasks (runnables_pass model valid) (length model.tasks) (omega arith))
