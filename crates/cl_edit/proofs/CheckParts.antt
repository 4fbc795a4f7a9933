-- The refusals of a model by their parts, and which parts are left where the others refuse nothing.
use Rattle.std.proofs.Common.{◌≡◌, ℕ, List, [], ◌∷◌, ◌++◌, refl, ap}
use Rattle.std.proofs.lemmas.List.{append-nil}
use Rattle.cl_model.specs.{declared.{chain.ChainDef.ChainDef, model.SystemModel.SystemModel, refusal.{Code.TheVariants.{M20, M21, M22, M23, M25, M26}, Refusal.Refusal}}, Named.{core_names, stimulus_names, label_names, task_names, chain_names, requirement_names}, Place.{entry_of, at_key}}
use Rattle.cl_model.specs.{Refusals.each, ValidNames.{section_repeats, runnable_repeats, name_checks, stimulus_checks}, ValidTasks.{task_checks, deadline_checks}, Validity.{IsValid, lengths_check, step_check, hop_check, chain_check, requirement_check, refusals_of}}
use Rattle.cl_model.specs.declared.place.Part.TheVariants as part
use Rattle.cl_model.specs.declared.place.Key.TheVariants as key
use Rattle.cl_model.proofs.{NoRefusals.{AllNone, all_none, none_in_order}, PassedChecks.names_pass}
use Rattle.cl_edit.proofs.EachChecked.{when_moves, unless_moves, each_moves}

-- ---- names

-- M20 to M26, one by one
abbrev pub name_lists : SystemModel → List (List Refusal)
name_lists model =
    section_repeats M20 part.Core (core_names model)
    ∷ section_repeats M21 part.Stimulus (stimulus_names model)
    ∷ section_repeats M22 part.Label (label_names model)
    ∷ section_repeats M23 part.Task (task_names model)
    ∷ each (runnable_repeats model.tasks) model.tasks
    ∷ section_repeats M25 part.Chain (chain_names model)
    ∷ section_repeats M26 part.Requirement (requirement_names model)
    ∷ []

pub name_parts : (model : SystemModel) → IsValid model → AllNone (name_lists model)
unfolding name_checks
name_parts model valid = all_none (name_lists model) (names_pass model valid)

-- ---- chains

-- M43 to M45 of chain i, one by one
abbrev pub chain_lists : SystemModel → ℕ → ChainDef → List (List Refusal)
chain_lists model i chain =
    lengths_check i chain
    ∷ each (step_check model (at_key key.Runnables (entry_of part.Chain i))) chain.runnables
    ∷ each (hop_check model chain (at_key key.Labels (entry_of part.Chain i))) chain.labels
    ∷ []

-- a chain that isn't refused isn't under another number
pub chain_moves : (model : SystemModel) (i j : ℕ) (chain : ChainDef) → chain_check model i chain ≡ [] → chain_check model j chain ≡ []
unfolding chain_check
chain_moves model i j chain none =
    let parts = all_none (chain_lists model i chain) none in
    none_in_order (chain_lists model j chain) (
      unless_moves _ _ _ _ parts.0,
      (
        each_moves (step_check model (at_key key.Runnables (entry_of part.Chain i))) (step_check model (at_key key.Runnables (entry_of part.Chain j))) chain.runnables (λ k name. unless_moves _ _ _ _) parts.1.0,
        (each_moves (hop_check model chain (at_key key.Labels (entry_of part.Chain i))) (hop_check model chain (at_key key.Labels (entry_of part.Chain j))) chain.labels (λ k label. when_moves _ _ _ _) parts.1.1.0, tt),
      ),
    )

-- ---- the whole model

-- of seven lists where one is left
only_sixth : (a b c d e f g : List Refusal) → a ≡ [] → b ≡ [] → c ≡ [] → d ≡ [] → e ≡ [] → g ≡ [] → a ++ (b ++ (c ++ (d ++ (e ++ (f ++ (g ++ [])))))) ≡ f
only_sixth a b c d e f g a_is b_is c_is d_is e_is g_is = rw (a_is, b_is, c_is, d_is, e_is, g_is) (append-nil f)

pub none_of_names : (model : SystemModel) → section_repeats M20 part.Core (core_names model) ≡ [] → section_repeats M21 part.Stimulus (stimulus_names model) ≡ []
    → section_repeats M22 part.Label (label_names model) ≡ [] → section_repeats M23 part.Task (task_names model) ≡ [] → each (runnable_repeats model.tasks) model.tasks ≡ []
    → section_repeats M25 part.Chain (chain_names model) ≡ [] → section_repeats M26 part.Requirement (requirement_names model) ≡ [] → name_checks model ≡ []
unfolding name_checks
none_of_names model a b c d e f g = none_in_order (name_lists model) (a, (b, (c, (d, (e, (f, (g, tt)))))))

-- M25 alone
pub chain_names_left : (model : SystemModel) → section_repeats M20 part.Core (core_names model) ≡ [] → section_repeats M21 part.Stimulus (stimulus_names model) ≡ []
    → section_repeats M22 part.Label (label_names model) ≡ [] → section_repeats M23 part.Task (task_names model) ≡ [] → each (runnable_repeats model.tasks) model.tasks ≡ []
    → section_repeats M26 part.Requirement (requirement_names model) ≡ [] → name_checks model ≡ section_repeats M25 part.Chain (chain_names model)
unfolding name_checks
chain_names_left model a b c d e g = only_sixth _ _ _ _ _ (section_repeats M25 part.Chain (chain_names model)) _ a b c d e g

-- names and chains alone
two_left : (n s t d c r : List Refusal) → s ≡ [] → t ≡ [] → d ≡ [] → r ≡ [] → n ++ (s ++ (t ++ (d ++ (c ++ (r ++ []))))) ≡ n ++ (c ++ [])
two_left n s t d c r s_is t_is d_is r_is = rw (s_is, t_is, d_is, r_is) refl

pub names_and_chains_left : (model : SystemModel) → stimulus_checks model ≡ [] → task_checks model ≡ [] → deadline_checks model ≡ [] → each (requirement_check model) model.requirements ≡ []
    → refusals_of model ≡ name_checks model ++ (each (chain_check model) model.chains ++ [])
unfolding refusals_of
names_and_chains_left model s t d r = two_left (name_checks model) _ _ _ (each (chain_check model) model.chains) _ s t d r

-- requirements alone
last_left : (n s t d c r : List Refusal) → n ≡ [] → s ≡ [] → t ≡ [] → d ≡ [] → c ≡ [] → n ++ (s ++ (t ++ (d ++ (c ++ (r ++ []))))) ≡ r
last_left n s t d c r n_is s_is t_is d_is c_is = rw (n_is, s_is, t_is, d_is, c_is) (append-nil r)

pub requirements_left : (model : SystemModel) → name_checks model ≡ [] → stimulus_checks model ≡ [] → task_checks model ≡ [] → deadline_checks model ≡ [] → each (chain_check model) model.chains ≡ []
    → refusals_of model ≡ each (requirement_check model) model.requirements
unfolding refusals_of
requirements_left model n s t d c = last_left _ _ _ _ _ (each (requirement_check model) model.requirements) n s t d c

-- chains alone
chains_last : (n s t d c r : List Refusal) → n ≡ [] → s ≡ [] → t ≡ [] → d ≡ [] → r ≡ [] → n ++ (s ++ (t ++ (d ++ (c ++ (r ++ []))))) ≡ c
chains_last n s t d c r n_is s_is t_is d_is r_is = rw (n_is, s_is, t_is, d_is, r_is) (append-nil c)

pub chains_left : (model : SystemModel) → name_checks model ≡ [] → stimulus_checks model ≡ [] → task_checks model ≡ [] → deadline_checks model ≡ [] → each (requirement_check model) model.requirements ≡ []
    → refusals_of model ≡ each (chain_check model) model.chains
unfolding refusals_of
chains_left model n s t d r = chains_last _ _ _ _ (each (chain_check model) model.chains) _ n s t d r

-- names, tasks and deadlines alone
three_left : (n s t d c r : List Refusal) → s ≡ [] → c ≡ [] → r ≡ [] → n ++ (s ++ (t ++ (d ++ (c ++ (r ++ []))))) ≡ n ++ (t ++ d)
three_left n s t d c r s_is c_is r_is = rw (s_is, c_is, r_is) (ap (λ l. n ++ (t ++ l)) (append-nil d))

pub names_tasks_deadlines_left : (model : SystemModel) → stimulus_checks model ≡ [] → each (chain_check model) model.chains ≡ [] → each (requirement_check model) model.requirements ≡ []
    → refusals_of model ≡ name_checks model ++ (task_checks model ++ deadline_checks model)
unfolding refusals_of
names_tasks_deadlines_left model s c r = three_left (name_checks model) _ (task_checks model) (deadline_checks model) _ _ s c r

-- M23 and M24 alone
two_middle : (a b c d e f g : List Refusal) → a ≡ [] → b ≡ [] → c ≡ [] → f ≡ [] → g ≡ [] → a ++ (b ++ (c ++ (d ++ (e ++ (f ++ (g ++ [])))))) ≡ d ++ e
two_middle a b c d e f g a_is b_is c_is f_is g_is = rw (a_is, b_is, c_is, f_is, g_is) (ap (λ l. d ++ l) (append-nil e))

pub task_names_left : (model : SystemModel) → section_repeats M20 part.Core (core_names model) ≡ [] → section_repeats M21 part.Stimulus (stimulus_names model) ≡ []
    → section_repeats M22 part.Label (label_names model) ≡ [] → section_repeats M25 part.Chain (chain_names model) ≡ [] → section_repeats M26 part.Requirement (requirement_names model) ≡ []
    → name_checks model ≡ section_repeats M23 part.Task (task_names model) ++ each (runnable_repeats model.tasks) model.tasks
unfolding name_checks
task_names_left model a b c f g = two_middle _ _ _ (section_repeats M23 part.Task (task_names model)) (each (runnable_repeats model.tasks) model.tasks) _ _ a b c f g
