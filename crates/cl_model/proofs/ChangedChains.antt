-- What stands beside a valid model with one chain more, or one fewer.
use Rattle.std.proofs.Common.{◌≡◌, ℕ, ◌-◌, ◌<◌, true, false, List, [], ◌∷◌, ◌++◌, length, get_or, take, map, refl, sym, subst, ap, ◌∙◌, arith}
use Rattle.std.specs.Prelude.{All, cond, remove}
use Rattle.indexmap.proofs.SetLemmas.{map-remove}
use Rattle.std.proofs.lemmas.List.{length-map, map-append, length_push, get_or-append_right, take-append-le, take_all}
use Rattle.cl_model.specs.{declared.{chain.ChainDef.ChainDef, look_ups.LookUps.LookUps, model.SystemModel.SystemModel}, ByNumber.no_chain, Changes.{with_new_chain, without_chain}, Groups.{groups, groups_of}, Named.{has_name, chain_names}, NameSets.{names_with, AreDistinctNames}}
use Rattle.cl_model.specs.{Inner.{LookUps.{AreNamesOf, AreLookUpsOf, HasItsLookUps, ChainAdded, ChainDropped}, StepTable.step_in}, Validity.IsValid}
use Rattle.cl_model.proofs.{GroupFacts.groups_found, NamesApart.chains_apart, NamesKnown.steps_known}

-- the last item of a list
pub last_at : {X : Type 0} (xs : List X) (x d : X) → get_or (xs ++ x ∷ []) (length xs) d ≡ x
last_at xs x d =
    let none : length xs - length xs ≡ 0 = omega arith in
    get_or-append_right xs (x ∷ []) (length xs) (length xs) d refl (omega arith) ∙ ap (λ k. get_or (x ∷ []) k d) none

-- the last of names that are apart is none of the others, so it is put behind them
pub last_is_added : (names : List (List ℕ)) (name : List ℕ) → AreDistinctNames (names ++ name ∷ []) → names_with name names ≡ names ++ name ∷ []
last_is_added names name apart =
    let here : get_or (names ++ name ∷ []) (length names) [] ≡ name = last_at names name [] in
    let others : take (length names) (names ++ name ∷ []) ≡ names = take-append-le (length names) names (name ∷ []) (omega arith) ∙ take_all (length names) names (omega arith) in
    let new : has_name name names ≡ false
    = ap (λ n. has_name n names) (sym here) ∙ ap (has_name (get_or (names ++ name ∷ []) (length names) [])) (sym others) ∙ apart (length names) (omega (arith, length_push names name)) in
    ap (λ b. cond b names (names ++ name ∷ [])) new

-- the steps of the new chain are known
pub new_steps_known : (model : SystemModel) (chain : ChainDef) → IsValid (with_new_chain model chain) → (look_ups : LookUps) → AreLookUpsOf model look_ups → All (λ name. has_name name look_ups.steps.names ≡ true) chain.runnables
new_steps_known model chain valid look_ups are =
    let new = with_new_chain model chain in
    let known = steps_known new valid (length model.chains) no_chain (omega (arith, length_push model.chains chain)) in
    rw (are.steps.names, ← last_at model.chains chain no_chain) known

-- the tables of the model with the chain
added : (model : SystemModel) (chain : ChainDef) → IsValid (with_new_chain model chain) → (old new : LookUps) → AreLookUpsOf model old → ChainAdded chain old new → AreLookUpsOf (with_new_chain model chain) new
unfolding groups_of
added model chain valid old new are is =
    let changed = with_new_chain model chain in
    let name_of : ChainDef → List ℕ = λ c. c.name in
    let joined : chain_names changed ≡ chain_names model ++ chain.name ∷ [] = map-append name_of model.chains (chain ∷ []) in
    let made = groups_found model old.steps are.steps chain (new_steps_known model chain valid old are) in
    record {
      names = subst (AreNamesOf changed) (sym is.names) (record {
        cores = are.names.cores;
        stimuli = are.names.stimuli;
        tasks = are.names.tasks;
        chains =
            ap (names_with chain.name) are.names.chains ∙ last_is_added (chain_names model) chain.name (subst AreDistinctNames joined (chains_apart changed valid)) ∙ sym joined;
        requirements = are.names.requirements;
      });
      tasks = rw is.tasks (record { cores = are.tasks.cores; stimuli = are.tasks.stimuli; times = are.tasks.times; on_cores = are.tasks.on_cores });
      steps = rw is.steps are.steps;
      groups =
          is.groups ∙ ap (λ lists. lists ++ groups (map (step_in old.steps) chain.runnables) ∷ []) are.groups ∙ ap (λ made. map (groups_of model) model.chains ++ made ∷ []) made
          ∙ sym (map-append (groups_of changed) model.chains (chain ∷ []));
    }

-- and beside it
pub chain_added : (model : SystemModel) (chain : ChainDef) → IsValid (with_new_chain model chain) → (old new : LookUps) → AreLookUpsOf model old → ChainAdded chain old new
    → HasItsLookUps (record { model = with_new_chain model chain; look_ups = new })
chain_added model chain valid old new are is = record { valid = valid; look_ups = added model chain valid old new are is }

-- ---- without a chain

dropped : (model : SystemModel) (c : ℕ) (old new : LookUps) → AreLookUpsOf model old → ChainDropped c old new → AreLookUpsOf (without_chain model c) new
unfolding groups_of
dropped model c old new are is =
    record {
      names = subst (AreNamesOf (without_chain model c)) (sym is.names) (record {
        cores = are.names.cores;
        stimuli = are.names.stimuli;
        tasks = are.names.tasks;
        chains = ap (λ names. remove names c) are.names.chains ∙ sym (map-remove (λ (chain : ChainDef). chain.name) model.chains c);
        requirements = are.names.requirements;
      });
      tasks = rw is.tasks (record { cores = are.tasks.cores; stimuli = are.tasks.stimuli; times = are.tasks.times; on_cores = are.tasks.on_cores });
      steps = rw is.steps are.steps;
      groups = is.groups ∙ ap (λ lists. remove lists c) are.groups ∙ sym (map-remove (groups_of (without_chain model c)) model.chains c);
    }

-- what is kept for a chain is there
pub chain_kept : (model : SystemModel) (look_ups : LookUps) → AreLookUpsOf model look_ups → (c : ℕ) → c < length model.chains → c < length look_ups.groups.items
chain_kept model look_ups are c within = omega (arith, within, ap length are.groups, length-map model.chains (groups_of model))

pub chain_dropped : (model : SystemModel) (c : ℕ) → IsValid (without_chain model c) → (old new : LookUps) → AreLookUpsOf model old → ChainDropped c old new
    → HasItsLookUps (record { model = without_chain model c; look_ups = new })
chain_dropped model c valid old new are is = record { valid = valid; look_ups = dropped model c old new are is }
