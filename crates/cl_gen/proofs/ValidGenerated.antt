-- A generated model is valid, whatever the words.
use Rattle.std.proofs.Common.{◌≡◌, ℕ, ◌≤◌, [], ◌∷◌, refl}
use Rattle.cl_model.specs.{declared.limits.TheConstants.MOST_TASKS, Refusals.each, ValidNames.{name_checks, stimulus_checks}, ValidTasks.{task_checks, deadline_checks}, Validity.{chain_check, requirement_check, refusals_of, IsValid}}
use Rattle.cl_model.proofs.NoRefusals.{none_in_order}
use Rattle.cl_gen.specs.Generated.{generated_chain, model_of_words}
use Rattle.cl_gen.proofs.{GeneratedChains.chain_passes, GeneratedRanges.in_range, GeneratedSections.{names_pass, stimuli_pass}, GeneratedTasks.{tasks_pass, deadlines_pass}, PassingChecks.each_mapped}

module _ (word : ℕ → ℕ) (n : ℕ) (few : n ≤ MOST_TASKS) where
  chains_pass : each (chain_check (model_of_words word n)) (model_of_words word n).chains ≡ []
  unfolding model_of_words
  chains_pass = each_mapped (chain_check (model_of_words word n)) generated_chain _ (chain_passes word n few)

  no_requirement : each (requirement_check (model_of_words word n)) (model_of_words word n).requirements ≡ []
  unfolding model_of_words
  no_requirement = refl

  nothing_refused : refusals_of (model_of_words word n) ≡ []
  unfolding refusals_of
  nothing_refused =
      let model = model_of_words word n in
      none_in_order
      (name_checks model ∷ stimulus_checks model ∷ task_checks model ∷ deadline_checks model ∷ each (chain_check model) model.chains
      ∷ each (requirement_check model) model.requirements ∷ [])
      (names_pass word n few, (stimuli_pass word n, (tasks_pass word n few, (deadlines_pass word n few, (chains_pass, (no_requirement, tt))))))

  pub words_valid : IsValid (model_of_words word n)
  words_valid = record { in_range = in_range word n few; accepted = nothing_refused }
