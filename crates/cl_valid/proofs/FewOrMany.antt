-- Labels of which few are in a list, or many in a set.
use Rattle.std.proofs.Common.{◌≡◌, ℕ, ◌||◌, List, ◌++◌}
use Rattle.std.proofs.lemmas.List.Folds.{list_any-append}
use Rattle.cl_model.specs.Named.{same_name, has_name}

-- a label is there where it is among the few or among the many
pub in_either : (label : List ℕ) (few many : List (List ℕ)) → has_name label (few ++ many) ≡ (has_name label few || has_name label many)
in_either label few many = list_any-append (same_name label) few many
