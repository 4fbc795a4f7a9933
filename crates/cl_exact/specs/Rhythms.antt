-- What the exact lengths of a chain depend on.
use Rattle.std.specs.Prelude.{ℕ, List, map}
use Rattle.cl_model.specs.declared.{group.Group.Group, stimulus.StimulusKind.StimulusKind, task.AccessKind.AccessKind}
use Rattle.cl_runs.specs.TaskTiming.{System, timing_at}

-- how the jobs of a group arrive, how they access labels, and how long after their arrival they are due
pub record Rhythm : Type 0 where
  pub pattern : StimulusKind
  pub access : AccessKind
  pub deadline : ℕ

abbrev pub rhythm_of : System → Group → Rhythm
rhythm_of system group =
    let timing = timing_at system group.task in
    record { pattern = timing.pattern; access = timing.access; deadline = timing.deadline }

-- the rhythms of the groups of a chain, first to last
abbrev pub rhythms : System → List Group → List Rhythm
rhythms system groups = map (rhythm_of system) groups
