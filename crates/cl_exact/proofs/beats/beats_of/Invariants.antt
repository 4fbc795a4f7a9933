use Rattle.std.proofs.Common.{◌<◌}
use Rattle.cl_model.specs.Validity.{IsValid}
use Rattle.cl_runs.specs.SystemOf.{system_of}
use Rattle.cl_exact.proofs.ModelBeats.{AreFirstBeats}
use Rattle.cl_exact.proofs.beats.beats_of.Given as goal

-- the beats of the groups so far; and the beat of a group says that the model is valid
abbrev pub invariant-loop-group : goal.invariant-loop-group
invariant-loop-group l = record {
  beats : AreFirstBeats (system_of l.model) l.groups l.group-index l.beats.items;
  valid : 0 < l.group-index → IsValid l.model;
}
