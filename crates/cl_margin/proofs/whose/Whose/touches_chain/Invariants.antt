use Rattle.std.proofs.Common.{◌≡◌, false, take}
use Rattle.std.specs.List.{list_any}
use Rattle.cl_model.specs.declared.group.Group.{Group}
use Rattle.cl_margin.specs.Inner.Touched.{touches}
use Rattle.cl_margin.proofs.whose.Whose.touches_chain.Given as goal

-- no task of the groups so far is touched
abbrev pub invariant-loop-group : goal.invariant-loop-group
invariant-loop-group l = list_any (λ (group : Group). touches l.model l.self group.task) (take l.group-index l.group-items) ≡ false
