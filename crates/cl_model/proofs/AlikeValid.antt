-- A model that has the names and labels of a valid one is valid where all but these passes.
use Rattle.std.proofs.Common.{◌≡◌, [], ◌∷◌, ◌∙◌}
use Rattle.std.specs.Prelude.{◌↔◌}
use Rattle.cl_model.specs.{declared.model.SystemModel.SystemModel, NamedAlike.{AreNamedAlike, PassesButNames}, Refusals.each, ValidNames.{name_checks, stimulus_checks}, ValidTasks.{task_checks, deadline_checks}, Validity.{IsValid, chain_check, requirement_check, refusals_of}}
use Rattle.cl_model.proofs.{NamedAlike.{names_stay, chains_stay, requirements_stay}, NoRefusals.none_in_order, PassedChecks.{names_pass, stimuli_pass, tasks_pass, deadlines_pass, chains_pass, requirements_pass}}

module _ (old new : SystemModel) (valid : IsValid old) (alike : AreNamedAlike old new) where
  accepted : PassesButNames new → refusals_of new ≡ []
  unfolding refusals_of
  accepted passes =
      none_in_order (name_checks new ∷ stimulus_checks new ∷ task_checks new ∷ deadline_checks new ∷ each (chain_check new) new.chains ∷ each (requirement_check new) new.requirements ∷ []) (
        names_stay old new alike ∙ names_pass old valid,
        (
          passes.stimuli,
          (
            passes.tasks,
            (
              passes.deadlines,
              (chains_stay old new alike ∙ chains_pass old valid, (requirements_stay old new alike ∙ requirements_pass old valid, tt)),
            ),
          ),
        ),
      )

  pub valid_alike : IsValid new ↔ PassesButNames new
  valid_alike = (
    λ is. record { in_range = is.in_range; stimuli = stimuli_pass new is; tasks = tasks_pass new is; deadlines = deadlines_pass new is },
    λ passes. record { in_range = passes.in_range; accepted = accepted passes },
  )
