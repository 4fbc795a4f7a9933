-- Checks of each item of a list: what they refuse where items are added or checks are changed.
use Rattle.std.proofs.Common.{◌≡◌, ℕ, ◌+◌, ◌<◌, Bool, true, false, not, List, [], ◌∷◌, ◌++◌, length, get_or, refl, sym, ap, ◌∙◌, append_assoc, arith}
use Rattle.std.proofs.lemmas.List.{append-nil}
use Rattle.cl_model.specs.{declared.{place.Place.Place, refusal.{Code.Code, Refusal.Refusal}}, Refusals.{when, unless, each_from, each}}
use Rattle.cl_model.proofs.{Refused.{none_before, none_behind, when_none}, EachFacts.{each_alike, each_nothing}}

-- ---- one item more

each_from_more : {X : Type 0} (n : ℕ) (check : ℕ → X → List Refusal) (items : List X) (x : X) (k : ℕ) → k ≡ n + length items
    → each_from n check (items ++ x ∷ []) ≡ each_from n check items ++ check k x
each_from_more n check [] x k is =
    let here : n ≡ k = omega arith in
    append-nil (check n x) ∙ ap (λ m. check m x) here
each_from_more n check (y ∷ items) x k is =
    ap (λ l. check n y ++ l) (each_from_more (n + 1) check items x k (omega arith))
    ∙ sym (append_assoc (check n y) (each_from (n + 1) check items) (check k x))

pub each_more : {X : Type 0} (check : ℕ → X → List Refusal) (items : List X) (x : X) → each check (items ++ x ∷ []) ≡ each check items ++ check (length items) x
each_more check items x = each_from_more 0 check items x (length items) (omega arith)

-- ---- checks item by item

-- checks that refuse the same of each item of a list refuse the same of all
pub each_same : {X : Type 0} (f g : ℕ → X → List Refusal) (items : List X)
    → ((k : ℕ) (d : X) → k < length items → f k (get_or items k d) ≡ g k (get_or items k d)) → each f items ≡ each g items
each_same f g [] same = refl
each_same f g (x ∷ items) same = each_alike f g (x ∷ items) (x ∷ items) x x refl (λ k lt. same k x lt)

-- where nothing is refused of each item, nothing is of all
pub none_of_each : {X : Type 0} (check : ℕ → X → List Refusal) (items : List X)
    → ((k : ℕ) (d : X) → k < length items → check k (get_or items k d) ≡ []) → each check items ≡ []
none_of_each check [] none = refl
none_of_each check (x ∷ items) none = each_nothing check (x ∷ items) x (λ k lt. none k x lt)

-- ---- checks at another place

each_from_moves : {X : Type 0} (n : ℕ) (f g : ℕ → X → List Refusal) (items : List X) → ((k : ℕ) (x : X) → f k x ≡ [] → g k x ≡ [])
    → each_from n f items ≡ [] → each_from n g items ≡ []
each_from_moves n f g [] moves none = refl
each_from_moves n f g (x ∷ items) moves none =
    ap (λ l. l ++ each_from (n + 1) g items) (moves n x (none_before (f n x) (each_from (n + 1) f items) none))
    ∙ each_from_moves (n + 1) f g items moves (none_behind (f n x) (each_from (n + 1) f items) none)

-- where one check refuses nothing of an item, the other doesn't, so neither does of all
pub each_moves : {X : Type 0} (f g : ℕ → X → List Refusal) (items : List X) → ((k : ℕ) (x : X) → f k x ≡ [] → g k x ≡ [])
    → each f items ≡ [] → each g items ≡ []
each_moves f g items moves none = each_from_moves 0 f g items moves none

pub when_moves : (test : Bool) (code : Code) (one other : Place) → when test code one ≡ [] → when test code other ≡ []
when_moves true code one other none = absurd cc
when_moves false code one other none = refl

pub unless_moves : (test : Bool) (code : Code) (one other : Place) → unless test code one ≡ [] → unless test code other ≡ []
unless_moves true code one other none = refl
unless_moves false code one other none = absurd cc

-- a test that fails refuses nothing, and one that passes
pub when_false : (test : Bool) (code : Code) (place : Place) → test ≡ false → when test code place ≡ []
when_false test code place fails = rw fails refl

pub unless_true : (test : Bool) (code : Code) (place : Place) → test ≡ true → unless test code place ≡ []
unless_true test code place passes = rw passes refl

pub unless_not : (test : Bool) (code : Code) (place : Place) → unless (not test) code place ≡ when test code place
unless_not true code place = refl
unless_not false code place = refl

-- a test that fails less often refuses no more
pub when_fewer : (one other : Bool) (code : Code) (here there : Place) → (one ≡ false → other ≡ false) → when one code here ≡ [] → when other code there ≡ []
when_fewer one other code here there fewer none = when_false other code there (fewer (when_none one code here none))
