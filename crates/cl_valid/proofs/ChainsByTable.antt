-- The checks of chains over tables are those of the model.
use Rattle.std.proofs.Common.{◌≡◌, ℕ, ◌+◌, not, ◌||◌, List, [], ◌++◌, map, Option, Some, None, refl, sym, ap, ◌∙◌}
use Rattle.std.specs.Prelude.{slice_get}
use Rattle.std.specs.Option.{option_map, option_and_then}
use Rattle.std.proofs.lemmas.Option.{slice_get-map}
use Rattle.cl_model.specs.{declared.{chain.ChainDef.ChainDef, model.SystemModel.SystemModel, place.Place.Place, refusal.Code.TheVariants.M45, task.RunnableDef.RunnableDef}, Named.{has_name, is_some_and, index_of, entry_named, runnable_names, all_runnables}, Place.{entry_of, at_key}}
use Rattle.cl_model.specs.{Place.at_spot, Refusals.{when, each}, Validity.{lengths_check, step_of, misses_label, hop_check, chain_check}}
use Rattle.cl_model.specs.declared.place.Part.TheVariants as part
use Rattle.cl_model.specs.declared.place.Key.TheVariants as key
use Rattle.cl_model.proofs.Refused.{each_same}
use Rattle.cl_valid.specs.{declared.{runnables.LabelUse.LabelUse, names.Names.Names}, Inner.{ChainsByTable.{AreNumbersOf, use_of_number, number_hop_check, use_of_step, misses_use, use_hop_check, known_steps_check, use_hops_check, use_chain_check}, Tables.{names_of, use_of, uses_of}}}

found_is : {X Y : Type 0} (h : X → Y) (xs : List X) (q : Option ℕ) → option_and_then (slice_get (map h xs)) q ≡ option_map h (option_and_then (slice_get xs) q)
found_is h xs None = refl
found_is h xs (Some i) = slice_get-map h xs i

step_from : (all : List RunnableDef) (name : Option (List ℕ)) → option_and_then (λ n. entry_named n (runnable_names all) (map use_of all)) name ≡ option_map use_of (option_and_then (λ n. entry_named n (runnable_names all) all) name)
step_from all None = refl
step_from all (Some n) = found_is use_of all (index_of n (runnable_names all))

writes_is : (label : List ℕ) (step : Option RunnableDef) → is_some_and (option_map use_of step) (λ writer. not (has_name label writer.writes)) ≡ is_some_and step (λ writer. not (has_name label writer.writes))
writes_is label None = refl
writes_is label (Some r) = refl

reads_is : (label : List ℕ) (step : Option RunnableDef) → is_some_and (option_map use_of step) (λ reader. not (has_name label reader.reads)) ≡ is_some_and step (λ reader. not (has_name label reader.reads))
reads_is label None = refl
reads_is label (Some r) = refl

number_is : (runnables : List (List ℕ)) (uses : List LabelUse) (number : Option ℕ) (name : Option (List ℕ))
    → option_map (λ n. Some n) number ≡ option_map (λ n. index_of n runnables) name
    → option_and_then (slice_get uses) number ≡ option_and_then (λ n. entry_named n runnables uses) name
number_is runnables uses None None same = refl
number_is runnables uses None (Some n) same = cc
number_is runnables uses (Some k) None same = cc
number_is runnables uses (Some k) (Some n) same = ap (option_and_then (slice_get uses)) (let e : Some k ≡ index_of n runnables = cc in e)

-- what a step reads and writes is found by its number
step_by_number : (runnables : List (List ℕ)) (uses : List LabelUse) (chain : ChainDef) (numbers : List ℕ) (k : ℕ)
    → AreNumbersOf runnables chain.runnables numbers → use_of_number uses numbers k ≡ use_of_step runnables uses chain k
step_by_number runnables uses chain numbers k are =
    number_is runnables uses (slice_get numbers k) (slice_get chain.runnables k)
    (sym (slice_get-map (λ n. Some n) numbers k) ∙ ap (λ l. slice_get l k) are ∙ slice_get-map (λ n. index_of n runnables) chain.runnables k)

-- M45 by the numbers of the steps
pub hops_by_number : (runnables : List (List ℕ)) (uses : List LabelUse) (chain : ChainDef) (numbers : List ℕ) (place : Place)
    → AreNumbersOf runnables chain.runnables numbers
    → each (number_hop_check uses numbers place) chain.labels ≡ each (use_hop_check runnables uses chain place) chain.labels
unfolding use_hop_check number_hop_check
hops_by_number runnables uses chain numbers place are =
    each_same 0 (number_hop_check uses numbers place) (use_hop_check runnables uses chain place) chain.labels
    (λ k label. rw (step_by_number runnables uses chain numbers k are, step_by_number runnables uses chain numbers (k + 1) are) refl)

misses_is : (model : SystemModel) (chain : ChainDef) (k : ℕ) (label : List ℕ)
    → misses_use (use_of_step (runnable_names (all_runnables model.tasks)) (map use_of (all_runnables model.tasks)) chain k)
    (use_of_step (runnable_names (all_runnables model.tasks)) (map use_of (all_runnables model.tasks)) chain (k + 1)) label
    ≡ misses_label model chain k label
misses_is model chain k label =
    let all : List RunnableDef = all_runnables model.tasks in
    let here = step_from all (slice_get chain.runnables k) in
    let next = step_from all (slice_get chain.runnables (k + 1)) in
    let first : is_some_and (use_of_step (runnable_names all) (map use_of all) chain k) (λ w. not (has_name label w.writes)) ≡ is_some_and (step_of model chain k) (λ w. not (has_name label w.writes)) =
    ap (λ s. is_some_and s (λ w. not (has_name label w.writes))) here ∙ writes_is label (step_of model chain k) in
    let second : is_some_and (use_of_step (runnable_names all) (map use_of all) chain (k + 1)) (λ r. not (has_name label r.reads)) ≡ is_some_and (step_of model chain (k + 1)) (λ r. not (has_name label r.reads)) =
    ap (λ s. is_some_and s (λ r. not (has_name label r.reads))) next ∙ reads_is label (step_of model chain (k + 1)) in
    ap (λ b. b || is_some_and (use_of_step (runnable_names all) (map use_of all) chain (k + 1)) (λ r. not (has_name label r.reads))) first
    ∙ ap (λ b. is_some_and (step_of model chain k) (λ w. not (has_name label w.writes)) || b) second

-- M43 to M45 of a chain
chain_is : (model : SystemModel) (i : ℕ) (chain : ChainDef) → use_chain_check (runnable_names (all_runnables model.tasks)) (uses_of (all_runnables model.tasks)) i chain ≡ chain_check model i chain
unfolding chain_check use_chain_check use_hop_check
chain_is model i chain =
    let all : List RunnableDef = all_runnables model.tasks in
    let place : Place = at_key key.Labels (entry_of part.Chain i) in
    let hops : use_hops_check (runnable_names all) (uses_of all) i chain ≡ each (hop_check model chain place) chain.labels =
    each_same 0 (use_hop_check (runnable_names all) (uses_of all) chain place) (hop_check model chain place) chain.labels
    (λ k label. ap (λ b. when b M45 (at_spot k place)) (misses_is model chain k label)) in
    ap (λ l. lengths_check i chain ++ (known_steps_check (runnable_names all) i chain ++ (l ++ []))) hops

-- M43 to M45 of each chain
pub chains_are : (model : SystemModel) (names : Names) (uses : List LabelUse) → names ≡ names_of model → uses ≡ uses_of (all_runnables model.tasks)
    → each (use_chain_check names.runnables uses) model.chains ≡ each (chain_check model) model.chains
chains_are model names uses named used =
    rw (named, used) (each_same 0 (use_chain_check (runnable_names (all_runnables model.tasks)) (uses_of (all_runnables model.tasks))) (chain_check model) model.chains (chain_is model))
