-- Numbers of runnables that have been found: none at first, later those that were kept, and none of a task that was
-- forgotten.
use Rattle.std.proofs.Common.{◌≡◌, ℕ, Option, Some, None, List, [], get_or, ap, ◌∙◌}
use Rattle.std.specs.Prelude.{All, IfSome, slice_get}
use Rattle.std.proofs.lemmas.Option.{get_or_from_slice_get}
use Rattle.cl_tight.specs.{declared.found.FoundNumbers.FoundNumbers, Found.{number_found, AreFoundNumbersOf}}

-- none of the numbers of a task has been found
abbrev pub NoneIsFound : List (Option ℕ) → Type 0
NoneIsFound numbers = All (λ (number : Option ℕ). number ≡ None) numbers

-- what stands at a place of the list of a task is what has been found there
pub number_kept : (found : FoundNumbers) (task place : ℕ) (numbers : List (Option ℕ)) (number : Option ℕ)
    → slice_get found.by_task task ≡ Some numbers → slice_get numbers place ≡ Some number → number_found found task place ≡ number
number_kept found task place numbers number of_task at_place =
    ap (λ list. get_or list place None) (get_or_from_slice_get found.by_task task numbers [] of_task)
    ∙ get_or_from_slice_get numbers place number None at_place

-- so it is the one of its runnable
pub found_number_is : (number_of : (task place : ℕ) → ℕ) (found : FoundNumbers) → AreFoundNumbersOf number_of found → (task place : ℕ) (number : Option ℕ)
    → number_found found task place ≡ number → IfSome number (λ number. number ≡ number_of task place)
found_number_is number_of found are task place (Some number) at = are task place number at
found_number_is number_of found are task place None at = tt

-- ---- numbers that are forgotten
