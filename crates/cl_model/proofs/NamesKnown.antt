-- The names that tasks and chains of a valid model name are known.
use Rattle.std.proofs.Common.{◌≡◌, ℕ, ◌+◌, ◌<◌, true, List, [], length, get_or, refl, sym, subst, ap, ◌∙◌, arith}
use Rattle.std.specs.Prelude.{Option, Some, None, is_some, slice_get, unwrap_or, All}
use Rattle.std.specs.Option.{option_map, option_and_then}
use Rattle.cl_model.specs.{declared.{chain.ChainDef.ChainDef, model.SystemModel.SystemModel, stimulus.StimulusKind.StimulusKind, task.TaskDef.TaskDef}, Place.{entry_of, at_key}, Named.{has_name, index_of, core_names, stimulus_names, kind_named, runnable_names, all_runnables}}
use Rattle.cl_model.specs.{ByNumber.{no_stimulus, no_task, task_at, core_of, stimulus_number, stimulus_of}, Changes.stimulus_at, Refusals.each, ValidTasks.{naming_checks, task_checks}, Validity.{IsValid, lengths_check, step_check, chain_check}}
use Rattle.cl_model.specs.declared.place.Part.TheVariants as part
use Rattle.std.proofs.lemmas.Bool.{eqb-true}
use Rattle.std.proofs.lemmas.Option.{slice_get-get_or}
use Rattle.std.proofs.lemmas.List.{get_or_default}
use Rattle.std.proofs.Math.ListN.{length-map}
use Rattle.cl_model.proofs.{NamePlaces.{place_within, found_below}, Refused.{none_before, none_behind, unless_none, each_none}, PassedChecks.{tasks_pass, chains_pass, naming_passes}}
use Rattle.cl_model.specs.declared.place.Key.TheVariants as key

-- a chain has one label fewer than steps
pub chain_lengths : (model : SystemModel) → IsValid model → (i : ℕ) (d : ChainDef) → i < length model.chains
    → length (get_or model.chains i d).labels + 1 ≡ length (get_or model.chains i d).runnables
unfolding chain_check
chain_lengths model valid i d lt =
    eqb-true _ _ (unless_none _ _ _ (none_before _ _ (each_none (chain_check model) model.chains i d (chains_pass model valid) lt)))

-- the steps of a chain are known
pub steps_known : (model : SystemModel) → IsValid model → (i : ℕ) (d : ChainDef) → i < length model.chains
    → All (λ name. has_name name (runnable_names (all_runnables model.tasks)) ≡ true) (get_or model.chains i d).runnables
unfolding chain_check
steps_known model valid i d lt k e k_lt =
    let chain = get_or model.chains i d in
    let place = at_key key.Runnables (entry_of part.Chain i) in
    let checks = none_behind (lengths_check i chain) _ (each_none (chain_check model) model.chains i d (chains_pass model valid) lt) in
    unless_none _ _ _ (each_none (step_check model place) chain.runnables k e (none_before (each (step_check model place) chain.runnables) _ checks) k_lt)

-- the core and the stimulus of a task are known
pub core_is_known : (model : SystemModel) → task_checks model ≡ [] → (i : ℕ) (d : TaskDef) → i < length model.tasks → has_name (get_or model.tasks i d).core (core_names model) ≡ true
unfolding naming_checks
core_is_known model none i d lt = unless_none _ _ _ (none_before _ _ (naming_passes model none i d lt))

pub stimulus_is_known : (model : SystemModel) → task_checks model ≡ [] → (i : ℕ) (d : TaskDef) → i < length model.tasks → is_some (kind_named model (get_or model.tasks i d).stimulus) ≡ true
unfolding naming_checks
stimulus_is_known model none i d lt = unless_none _ _ _ (none_before _ _ (none_behind _ _ (naming_passes model none i d lt)))

pub core_known : (model : SystemModel) → IsValid model → (i : ℕ) (d : TaskDef) → i < length model.tasks → has_name (get_or model.tasks i d).core (core_names model) ≡ true
core_known model valid = core_is_known model (tasks_pass model valid)

pub stimulus_known : (model : SystemModel) → IsValid model → (i : ℕ) (d : TaskDef) → i < length model.tasks → is_some (kind_named model (get_or model.tasks i d).stimulus) ≡ true
stimulus_known model valid = stimulus_is_known model (tasks_pass model valid)

-- ---- the same at a task that stands in the list

pub core_known_at : (model : SystemModel) → IsValid model → (tasks : List TaskDef) (i : ℕ) (task : TaskDef) → tasks ≡ model.tasks → i < length tasks → task ≡ get_or tasks i task → has_name task.core (core_names model) ≡ true
core_known_at model valid tasks i task same lt at =
    let e : task ≡ get_or model.tasks i task = at ∙ ap (λ ts. get_or ts i task) same in
    ap (λ t. has_name t.core (core_names model)) e ∙ core_known model valid i task (rw same at lt)

pub stimulus_missing : (model : SystemModel) → IsValid model → (tasks : List TaskDef) (i : ℕ) (task : TaskDef) (found : Option StimulusKind) → tasks ≡ model.tasks → i < length tasks → task ≡ get_or tasks i task → found ≡ kind_named model task.stimulus → found ≡ None → ⊥
stimulus_missing model valid tasks i task found same lt at is none =
    let e : task ≡ get_or model.tasks i task = at ∙ ap (λ ts. get_or ts i task) same in
    let f : is_some {T = StimulusKind} None ≡ true =
    ap is_some (sym none ∙ is) ∙ ap (λ t. is_some (kind_named model t.stimulus)) e ∙ stimulus_known model valid i task (rw same at lt) in
    cc

pub core_within : (model : SystemModel) → IsValid model → (i : ℕ) → i < length model.tasks → core_of model i < length model.cores
core_within model valid i lt =
    omega (arith, place_within (get_or model.tasks i no_task).core (core_names model) (core_known model valid i no_task lt), length-map model.cores (λ core. core.name))

-- ---- the kind of a stimulus by its number

-- the kind that a name stands for is that of its number
pub kind_there : (model : SystemModel) (name : List ℕ) (s : ℕ) → index_of name (stimulus_names model) ≡ Some s → kind_named model name ≡ Some (stimulus_at model s).kind
kind_there model name s e =
    let within : s < length (stimulus_names model) = found_below name (stimulus_names model) s e in
    let short : s < length model.stimuli = subst (λ n. s < n) (length-map model.stimuli (λ stimulus. stimulus.name)) within in
    ap (λ o. option_map (λ stimulus. stimulus.kind) (option_and_then (slice_get model.stimuli) o)) e
    ∙ ap (option_map (λ stimulus. stimulus.kind)) (slice_get-get_or model.stimuli s _ short)

-- a task of a valid model names a stimulus that has a number
pub stimulus_unnumbered : (model : SystemModel) → IsValid model → (tasks : List TaskDef) (i : ℕ) (task : TaskDef) (names : List (List ℕ)) (number : Option ℕ) → tasks ≡ model.tasks → i < length tasks → task ≡ get_or tasks i task
    → names ≡ stimulus_names model → number ≡ index_of task.stimulus names → number ≡ None → ⊥
stimulus_unnumbered model valid tasks i task names number same lt at is numbered none =
    let nowhere : index_of task.stimulus (stimulus_names model) ≡ None = ap (index_of task.stimulus) (sym is) ∙ sym numbered ∙ none in
    stimulus_missing model valid tasks i task (kind_named model task.stimulus) same lt at refl
    (ap (λ o. option_map (λ stimulus. stimulus.kind) (option_and_then (slice_get model.stimuli) o)) nowhere)

-- the kind of the stimulus of a task of a valid model is that of its number
pub stimulus_numbered : (model : SystemModel) → IsValid model → (i : ℕ) → i < length model.tasks
    → (stimulus_number model (task_at model i).stimulus < length model.stimuli) × (stimulus_of model i ≡ (stimulus_at model (stimulus_number model (task_at model i).stimulus)).kind)
stimulus_numbered model valid i lt =
    let name = (task_at model i).stimulus in
    elim (index_of name (stimulus_names model)) as (λ o. index_of name (stimulus_names model) ≡ o → (unwrap_or o 0 < length model.stimuli) × (stimulus_of model i ≡ (stimulus_at model (unwrap_or o 0)).kind)) [
      | None ↦ λ e. absurd (stimulus_unnumbered model valid model.tasks i (task_at model i) (stimulus_names model) None refl lt (get_or_default model.tasks i no_task _ lt) refl (sym e) refl)
      | Some s ↦ λ e.
          (omega (arith, found_below name (stimulus_names model) s e, length-map model.stimuli (λ stimulus. stimulus.name)), ap (λ o. unwrap_or o no_stimulus) (kind_there model name s e))
    ] refl
