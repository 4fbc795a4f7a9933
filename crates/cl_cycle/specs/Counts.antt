-- How many jobs of a phase arrive from a moment on. Times are in ticks, and may lie before 0.
use Rattle.std.specs.Prelude.{ℕ, ℤ, pos, ◌+ℤ◌, count_by, unwrap_or}
use Rattle.std.specs.List.{range_with_len}
use Rattle.cl_model.specs.declared.stimulus.StimulusKind.{StimulusKind}
use Rattle.cl_stim.specs.{declared.phase.Phase.Phase, Phase.{phase_of, arrives_at}}

-- the number of arrivals in the `width` ticks from a moment on
unfoldable pub arrivals_from : Phase → (from : ℤ) → (width : ℕ) → ℕ
arrivals_from phase from width =
    count_by (λ ticks. arrives_at phase (from +ℤ pos ticks)) (range_with_len 0 width)

-- an arrival at each moment
abbrev pub each_moment : Phase
each_moment = record { period = 1; offset = 0; count = 1; distance = 1 }

-- when jobs of a stimulus can arrive: at its phase, or at any moment where its arrivals aren't fixed
abbrev pub arrivals_of : StimulusKind → Phase
arrivals_of kind = unwrap_or (phase_of kind) each_moment
