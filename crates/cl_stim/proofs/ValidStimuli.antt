-- The stimuli of the tasks of a valid model.
use Rattle.std.proofs.Common.{ℕ, ◌<◌, length}
use Rattle.cl_model.specs.{declared.model.SystemModel.SystemModel, ByNumber.stimulus_of, Validity.IsValid}
use Rattle.cl_model.proofs.ValidTasks.{kind_in_range, kind_ordered}
use Rattle.cl_stim.specs.Stimulus.{IsStimulus}

pub has_stimulus : (model : SystemModel) → IsValid model → (i : ℕ) → i < length model.tasks → IsStimulus (stimulus_of model i)
has_stimulus model valid i h = (kind_in_range model valid i h, kind_ordered model valid i h)
