use Rattle.std.proofs.Common.{◌≡◌, length, drop}
use Rattle.cl_model.specs.Changes.{with_priorities}
use Rattle.cl_model.proofs.model.SystemModel.set_priorities.Given as goal

-- the priorities from here on make the model that all of them make, and each task is still there
abbrev pub invariant-loop-it : goal.invariant-loop-it
invariant-loop-it l = record {
  others : with_priorities l.self (drop l.it-index l.priorities) ≡ with_priorities l.fn.self l.priorities;
  tasks : length l.self.tasks ≡ length l.fn.self.tasks;
}
