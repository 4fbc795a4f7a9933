-- The checks of tasks over shares are those of the model, and what one more task takes of its core.
use Rattle.std.proofs.Common.{◌≡◌, ◌≢◌, ℕ, ◌+◌, ◌<◌, Bool, true, false, cond, ◌&&◌, List, [], ◌∷◌, ◌++◌, length, get_or, set, take, map, Some, refl, sym, ap, ◌∙◌, arith}
use Rattle.std.specs.Prelude.{replicate, nat_lt, nat_eq}
use Rattle.std.specs.List.{list_any}
use Rattle.std.proofs.lemmas.List.{take_more, map-append, append-nil, get_or-map, same_lists, get_or-set_other, get_or-set_same, length-set}
use Rattle.std.proofs.lemmas.List.Elements.{filter-append}
use Rattle.std.proofs.lemmas.Simd.{splat_is_map}
use Rattle.std.proofs.Math.ListN.{length-map}
use Rattle.cl_model.specs.{declared.{model.SystemModel.SystemModel, stimulus.StimulusKind.StimulusKind, task.TaskDef.TaskDef, place.Place.Place, refusal.Code.TheVariants.{M31, M42}}, Named.{same_name, is_some_and, index_of, core_names, kind_named, tasks_on}, NameSets.AreDistinctNames}
use Rattle.cl_model.specs.{Timing.deadline_under, ValidTasks.{task_key, core_check, stimulus_check, priority_check, room_check, naming_checks, spans_too_many, is_outpaced_by, deadline_check}, Refusals.when}
use Rattle.cl_model.specs.declared.place.Key.TheVariants as key
use Rattle.std.proofs.lemmas.Cmp.{nat_list_eq_equiv}
use borrow.Author.Tests.{eqb-true, eqb-false}
use Rattle.cl_model.proofs.ListFacts.{list_any-map}
use Rattle.cl_valid.specs.{declared.shares.Share.Share, Inner.{Tables.{share_of, shares_on, shares_by_core}, TasksByShare.{share_priority_check, share_checks, outpaces}}}
use Rattle.cl_valid.proofs.NamesByPlace.{place_is, places_differ}

-- no tasks, on each core
pub no_shares : (model : SystemModel) (cores : ℕ) → cores ≡ length (core_names model) → replicate cores [] ≡ shares_by_core model []
no_shares model cores same = splat_is_map (core_names model) cores [] (sym same)

-- the shares of the core that a task names
pub shares_at : (model : SystemModel) (tasks : List TaskDef) (name : List ℕ) (core : ℕ) (by_core : List (List Share)) (found : List Share)
    → by_core ≡ shares_by_core model tasks → index_of name (core_names model) ≡ Some core
    → found ≡ get_or by_core core [] → found ≡ shares_on model tasks name
shares_at model tasks name core by_core found kept place is =
    let p = place_is name (core_names model) core place in
    is ∙ ap (λ g. get_or g core []) kept ∙ get_or-map (shares_on model tasks) (core_names model) core [] [] p.0 ∙ ap (shares_on model tasks) (sym p.1)

-- M29 to M35 of a task, over the shares of its core
priority_is : (model : SystemModel) (tasks : List TaskDef) (i : ℕ) (task : TaskDef) → share_priority_check (map (share_of model) tasks) i task ≡ priority_check tasks i task
priority_is model tasks i task =
    ap (λ b. when b M31 (task_key i key.Priority)) (list_any-map (λ (other : Share). nat_eq other.priority task.priority) (share_of model) tasks)

room_is : (model : SystemModel) (tasks : List TaskDef) (i : ℕ) → room_check (length (map (share_of model) tasks)) i ≡ room_check (length tasks) i
room_is model tasks i = ap (λ n. room_check n i) (length-map tasks (share_of model))

pub naming_is : (model : SystemModel) (i : ℕ) (task : TaskDef) (kind : StimulusKind) (found : List Share) → found ≡ shares_on model (take i model.tasks) task.core → kind_named model task.stimulus ≡ Some kind
    → naming_checks model i task ≡ core_check (core_names model) i task ++ (stimulus_check (kind_named model task.stimulus) i ++ share_checks found kind i task)
unfolding naming_checks
naming_is model i task kind found is known =
    let earlier = tasks_on task.core (take i model.tasks) in
    rw (is, known, priority_is model earlier i task, room_is model earlier i) refl

-- M42 over shares
pub outpaced_is : (model : SystemModel) (tasks : List TaskDef) (task : TaskDef) (kind : StimulusKind) (found : List Share) → found ≡ map (share_of model) tasks
    → kind_named model task.stimulus ≡ Some kind
    → list_any (outpaces task.priority (deadline_under kind task)) found ≡ list_any (is_outpaced_by model task) tasks
outpaced_is model tasks task kind found is known =
    ap (list_any (outpaces task.priority (deadline_under kind task))) is ∙ list_any-map (outpaces task.priority (deadline_under kind task)) (share_of model) tasks
    ∙ ap (λ o. list_any (λ other. nat_lt task.priority other.priority && is_some_and o (λ own. is_some_and (kind_named model other.stimulus) (spans_too_many (deadline_under own task)))) tasks) (sym known)

-- M42 for a task, over the shares of its core
pub deadline_is : (model : SystemModel) (i : ℕ) (task : TaskDef) (core : ℕ) (kind : StimulusKind) (by_core : List (List Share)) (found : List Share) (deadline : ℕ) (late : Bool) (place : Place)
    → by_core ≡ shares_by_core model model.tasks → index_of task.core (core_names model) ≡ Some core
    → kind_named model task.stimulus ≡ Some kind → found ≡ get_or by_core core []
    → deadline ≡ deadline_under kind task → late ≡ list_any (outpaces task.priority deadline) found
    → place ≡ task_key i key.Deadline → when late M42 place ≡ deadline_check model i task
deadline_is model i task core kind by_core found deadline late place kept at_core known is due tested here =
    let shares = shares_at model model.tasks task.core core by_core found kept at_core is in
    let test : late ≡ list_any (is_outpaced_by model task) (tasks_on task.core model.tasks) =
    tested ∙ ap (λ n. list_any (outpaces task.priority n) found) due ∙ outpaced_is model (tasks_on task.core model.tasks) task kind found shares known in
    ap (λ b. when b M42 place) test ∙ ap (when (list_any (is_outpaced_by model task) (tasks_on task.core model.tasks)) M42) here

-- ---- one more task

one_more : (model : SystemModel) (tasks : List TaskDef) (i : ℕ) (task : TaskDef) (core : List ℕ) → i < length tasks → task ≡ get_or tasks i task → tasks_on core (take (i + 1) tasks) ≡ tasks_on core (take i tasks) ++ cond (same_name core task.core) (task ∷ []) []
one_more model tasks i task core lt is =
    ap (tasks_on core) (take_more tasks i task lt) ∙ filter-append (λ t. same_name core t.core) (take i tasks) (get_or tasks i task ∷ [])
    ∙ ap (λ t. tasks_on core (take i tasks) ++ cond (same_name core t.core) (t ∷ []) []) (sym is)

-- the core that the task names has it too
named_more : (model : SystemModel) (tasks : List TaskDef) (i : ℕ) (task : TaskDef) (core : List ℕ) → i < length tasks
    → task ≡ get_or tasks i task → same_name core task.core ≡ true
    → shares_on model (take (i + 1) tasks) core ≡ shares_on model (take i tasks) core ++ share_of model task ∷ []
named_more model tasks i task core lt is same =
    ap (map (share_of model)) (one_more model tasks i task core lt is ∙ ap (λ b. tasks_on core (take i tasks) ++ cond b (task ∷ []) []) same) ∙ map-append (share_of model) (tasks_on core (take i tasks)) (task ∷ [])

-- another core has what it had
other_more : (model : SystemModel) (tasks : List TaskDef) (i : ℕ) (task : TaskDef) (core : List ℕ) → i < length tasks → task ≡ get_or tasks i task → same_name core task.core ≡ false → shares_on model (take (i + 1) tasks) core ≡ shares_on model (take i tasks) core
other_more model tasks i task core lt is other =
    ap (map (share_of model)) (one_more model tasks i task core lt is ∙ ap (λ b. tasks_on core (take i tasks) ++ cond b (task ∷ []) []) other ∙ append-nil (tasks_on core (take i tasks)))

-- what is put at one place of a list of names
put_at : (f f' : List ℕ → List Share) (names : List (List ℕ)) (core : ℕ) → core < length names → ((k : ℕ) → k < length names → k ≢ core → f' (get_or names k []) ≡ f (get_or names k [])) → set (map f names) core (f' (get_or names core [])) ≡ map f' names
put_at f f' names core lt others =
    same_lists (set (map f names) core (f' (get_or names core []))) (map f' names)
    (length-set (map f names) core (f' (get_or names core [])) ∙ length-map names f ∙ sym (length-map names f'))
    (λ k d k_lt.
    let l : length (set (map f names) core (f' (get_or names core []))) ≡ length names = length-set (map f names) core (f' (get_or names core [])) ∙ length-map names f in
    let within : k < length names = omega (arith, k_lt, l) in
    let long : core < length (map f names) = omega (arith, lt, length-map names f) in
    elim (nat_eq k core) as (λ b. nat_eq k core ≡ b → get_or (set (map f names) core (f' (get_or names core []))) k d ≡ get_or (map f' names) k d) [
      | true ↦ λ e.
          let same : k ≡ core = eqb-true k core e in
          ap (λ n. get_or (set (map f names) core (f' (get_or names core []))) n d) same ∙ get_or-set_same (map f names) core (f' (get_or names core [])) d long
          ∙ sym (ap (λ n. get_or (map f' names) n d) same ∙ get_or-map f' names core [] d lt)
      | false ↦ λ e.
          let apart : k ≢ core = eqb-false k core e in
          get_or-set_other (map f names) core k (f' (get_or names core [])) d apart ∙ get_or-map f names k [] d within
          ∙ sym (others k within apart) ∙ sym (get_or-map f' names k [] d within)
    ] refl)

-- the shares of each core with one more task
pub shares_more : (model : SystemModel) (tasks : List TaskDef) (i : ℕ) (task : TaskDef) (core : ℕ) (names : List (List ℕ)) (old new : List (List Share)) → AreDistinctNames names → i < length tasks → task ≡ get_or tasks i task → index_of task.core names ≡ Some core
    → old ≡ map (shares_on model (take i tasks)) names → new ≡ set old core (get_or old core [] ++ share_of model task ∷ []) → new ≡ map (shares_on model (take (i + 1) tasks)) names
shares_more model tasks i task core names old new apart lt is place kept put =
    let p = place_is task.core names core place in
    let name : List ℕ = get_or names core [] in
    let own : same_name name task.core ≡ true = ap (same_name name) p.1 ∙ nat_list_eq_equiv.refl name in
    let value : get_or old core [] ++ share_of model task ∷ [] ≡ shares_on model (take (i + 1) tasks) name =
    ap (λ g. get_or g core [] ++ share_of model task ∷ []) kept ∙ ap (λ l. l ++ share_of model task ∷ []) (get_or-map (shares_on model (take i tasks)) names core [] [] p.0)
    ∙ sym (named_more model tasks i task name lt is own) in
    put ∙ ap (λ g. set g core (get_or old core [] ++ share_of model task ∷ [])) kept ∙ ap (set (map (shares_on model (take i tasks)) names) core) value
    ∙ put_at (shares_on model (take i tasks)) (shares_on model (take (i + 1) tasks)) names core p.0
    (λ k k_lt ne. other_more model tasks i task (get_or names k []) lt is (ap (same_name (get_or names k [])) p.1 ∙ places_differ names core k apart p.0 k_lt (λ e. ne (sym e))))
