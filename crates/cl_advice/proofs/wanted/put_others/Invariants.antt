use Rattle.std.proofs.Common.{◌≡◌, ◌++◌, take}
use Rattle.std.specs.List.{flat_map}
use Rattle.std.specs.Prelude.{codes}
use Rattle.cl_model.specs.Place.{key_text}
use Rattle.cl_advice.proofs.wanted.put_others.Given as goal

-- the keys so far stand there
abbrev pub invariant-loop-key : goal.invariant-loop-key
invariant-loop-key l = l.text ≡ l.initial.text ++ flat_map (λ key. codes ", " ++ key_text key) (take l.key-index l.keys)
