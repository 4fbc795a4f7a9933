use Rattle.std.proofs.Common.{◌≡◌, ℕ, List, take}
use Rattle.std.specs.Prelude.{◌||◌}
use Rattle.cl_model.specs.Named.{has_name}
use Rattle.cl_explain.proofs.labels.add_all.Given as goal

abbrev pub invariant-loop-name : goal.invariant-loop-name
invariant-loop-name l = (name : List ℕ) → has_name name l.set ≡ (has_name name l.initial.set || has_name name (take l.name-index l.names))
