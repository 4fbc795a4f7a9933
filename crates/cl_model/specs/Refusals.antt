-- Lists of refusals. A check gives a refusal or nothing, and the first refusal in a list of checks answers.
use Rattle.std.specs.Prelude.{ℕ, ◌+◌, Bool, if◌then◌else◌, List, [], ◌∷◌, ◌++◌, Option, Some, None, Result, Ok, Err}
use Rattle.cl_model.specs.declared.{place.Place.Place, refusal.{Code.Code, Refusal.Refusal}}

-- a refusal
abbrev pub refuse : Code → Place → List Refusal
refuse code place = record { code = code; place = place } ∷ []

-- a refusal where the test passes
abbrev pub when : Bool → Code → Place → List Refusal
when test code place = if test then refuse code place else []

-- a refusal, unless the test passes
abbrev pub unless : Bool → Code → Place → List Refusal
unless test code place = if test then [] else refuse code place

-- one list of checks after another
abbrev pub in_order : List (List Refusal) → List Refusal
in_order [] = []
in_order (checks ∷ others) = checks ++ in_order others

-- the checks of each item, where the first has the number n
abbrev pub each_from : {X : Type 0} → ℕ → (ℕ → X → List Refusal) → List X → List Refusal
each_from n check [] = []
each_from n check (item ∷ items) = check n item ++ each_from (n + 1) check items

-- the checks of each item by its number, counted from 0
abbrev pub each : {X : Type 0} → (ℕ → X → List Refusal) → List X → List Refusal
each check items = each_from 0 check items

-- the first refusal, if there is one
abbrev pub first : List Refusal → Option Refusal
first [] = None
first (refusal ∷ others) = Some refusal

-- the first refusal, or the meaning where there is none
abbrev pub answer : {X : Type 0} → List Refusal → X → Result X Refusal
answer [] meaning = Ok meaning
answer (refusal ∷ others) meaning = Err refusal
