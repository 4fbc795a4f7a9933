-- Lists of refusals, by their first and by their parts.
use Rattle.std.proofs.Common.{◌≡◌, ℕ, zero, suc, ◌+◌, ◌<◌, Bool, true, false, List, [], ◌∷◌, ◌++◌, length, get_or, Some, None, refl, ap, ◌∙◌, arith}
use Rattle.cl_model.specs.{declared.{place.Place.Place, refusal.{Code.Code, Refusal.Refusal}}, Refusals.{when, unless, each_from, each, first}}

-- the first of a list is the first of it with more behind it
pub first_with_more : (a b : List Refusal) (r : Refusal) → first a ≡ Some r → first (a ++ b) ≡ Some r
first_with_more [] b r h = cc
first_with_more (x ∷ a) b r h = h

-- a list without a first refusal is empty
pub none_refused : (refusals : List Refusal) → first refusals ≡ None → refusals ≡ []
none_refused [] none = refl
none_refused (refusal ∷ refusals) none = absurd cc

-- of two lists that together are empty each is
pub none_before : (a b : List Refusal) → a ++ b ≡ [] → a ≡ []
none_before [] b h = refl
none_before (x ∷ a) b h = cc

pub none_behind : (a b : List Refusal) → a ++ b ≡ [] → b ≡ []
none_behind [] b h = h
none_behind (x ∷ a) b h = cc

-- what a check asks where it refuses nothing
pub when_none : (test : Bool) (code : Code) (place : Place) → when test code place ≡ [] → test ≡ false
when_none true code place h = cc
when_none false code place h = refl

pub unless_none : (test : Bool) (code : Code) (place : Place) → unless test code place ≡ [] → test ≡ true
unless_none true code place h = refl
unless_none false code place h = cc

-- where all items together are refused nothing, each by itself is
each_from_none : {X : Type 0} (n : ℕ) (check : ℕ → X → List Refusal) (items : List X) (i j : ℕ) (d : X) → j ≡ n + i → each_from n check items ≡ [] → i < length items → check j (get_or items i d) ≡ []
each_from_none n check [] i j d at none lt = absurd (omega arith)
each_from_none n check (x ∷ items) zero j d at none lt =
    let e : j ≡ n = omega arith in
    rw e (none_before (check n x) (each_from (n + 1) check items) none)
each_from_none n check (x ∷ items) (suc i) j d at none lt =
    each_from_none (n + 1) check items i j d (omega arith) (none_behind (check n x) (each_from (n + 1) check items) none) (omega arith)

pub each_none : {X : Type 0} (check : ℕ → X → List Refusal) (items : List X) (i : ℕ) (d : X) → each check items ≡ [] → i < length items → check i (get_or items i d) ≡ []
each_none check items i d none lt = each_from_none 0 check items i i d (omega arith) none lt

-- checks that refuse the same of each item refuse the same of all
pub each_same : {X : Type 0} (n : ℕ) (f g : ℕ → X → List Refusal) (items : List X) → ((k : ℕ) (x : X) → f k x ≡ g k x) → each_from n f items ≡ each_from n g items
each_same n f g [] same = refl
each_same n f g (x ∷ items) same = ap (λ l. l ++ each_from (n + 1) f items) (same n x) ∙ ap (λ l. g n x ++ l) (each_same (n + 1) f g items same)
