use Rattle.std.proofs.Common.{◌≡◌, ℕ, ◌<◌, false, pos, take}
use Rattle.std.specs.Prelude.{All}
use Rattle.cl_stim.specs.Phase.{arrives_at}
use Rattle.cl_lead.specs.declared.sure.SureTask.{SureTask}
use Rattle.cl_lead.proofs.sure.SureWork.last_beginning.Given as goal

-- between the moment and the other neither the job arrives nor one of the tasks so far
abbrev pub invariant-loop-above : goal.invariant-loop-above
invariant-loop-above l = record {
  before : l.last < l.until;
  other : (between : ℕ) → l.last < between → between < l.until → between ≡ l.arrival → ⊥;
  none : (between : ℕ) → l.last < between → between < l.until
      → All (λ (above : SureTask). arrives_at above.phase (pos between) ≡ false) (take l.above-index l.self.above.items);
}
