-- What an edit does to the kind of a stimulus.
use Rattle.std.specs.Prelude.{Bool, false}
use Rattle.cl_model.specs.{declared.stimulus.StimulusKind.StimulusKind, Kinds.is_periodic, Changes.{with_period, with_offset, with_jitter, with_distances, with_burst}}
use Rattle.cl_edit.specs.{declared.edit.Edit.{Edit, TheVariants.{Period, Offset, Jitter, Distances, Burst}}, Edited.{is_sporadic, is_burst, has_offset}}

-- whether it sets this kind
abbrev pub sets : Edit → StimulusKind → Bool
sets (Period stimulus period) kind = is_periodic kind
sets (Offset stimulus offset) kind = has_offset kind
sets (Jitter stimulus jitter) kind = is_periodic kind
sets (Distances stimulus least greatest) kind = is_sporadic kind
sets (Burst stimulus period count distance) kind = is_burst kind
sets _ kind = false

-- the kind with the numbers of the edit
abbrev pub with_numbers : Edit → StimulusKind → StimulusKind
with_numbers (Period stimulus period) kind = with_period period kind
with_numbers (Offset stimulus offset) kind = with_offset offset kind
with_numbers (Jitter stimulus jitter) kind = with_jitter jitter kind
with_numbers (Distances stimulus least greatest) kind = with_distances least greatest kind
with_numbers (Burst stimulus period count distance) kind = with_burst period count distance kind
with_numbers _ kind = kind
