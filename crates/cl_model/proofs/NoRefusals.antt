-- Lists of checks that refuse nothing, by their parts.
use Rattle.std.proofs.Common.{◌≡◌, List, [], ◌∷◌, ◌++◌, refl, ap, ◌∙◌}
use Rattle.cl_model.specs.{declared.refusal.Refusal.Refusal, Refusals.in_order}
use Rattle.cl_model.proofs.Refused.{none_before, none_behind}

-- none in each of the lists
abbrev pub AllNone : List (List Refusal) → Type 0
AllNone [] = Unit {0}
AllNone (checks ∷ others) = (checks ≡ []) × AllNone others

pub all_none : (lists : List (List Refusal)) → in_order lists ≡ [] → AllNone lists
all_none [] none = tt
all_none (checks ∷ others) none = (none_before checks (in_order others) none, all_none others (none_behind checks (in_order others) none))

pub none_in_order : (lists : List (List Refusal)) → AllNone lists → in_order lists ≡ []
none_in_order [] none = refl
none_in_order (checks ∷ others) none = ap (λ list. list ++ in_order others) none.0 ∙ none_in_order others none.1
