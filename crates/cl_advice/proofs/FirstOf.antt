-- What holds of all items holds of the one that is found.
use Rattle.std.proofs.Common.{◌≡◌, Bool, true, false, cond, List, [], ◌∷◌, Some, subst}
use Rattle.std.specs.Prelude.{All, find}
use Rattle.std.proofs.lemmas.List.Elements.{All-head, All-tail}

one_item : {X : Type 0} (x y : X) → Some x ≡ Some y → x ≡ y
one_item x y same = cc

pub all_found : {X : Type 0} (P : X → Type 0) (p : X → Bool) (xs : List X) (x : X) → All P xs → find p xs ≡ Some x → P x
all_found P p [] x all is = absurd cc
all_found P p (y ∷ xs) x all is = elim (p y) as (λ b. cond b (Some y) (find p xs) ≡ Some x → P x) [
  | true ↦ λ here. subst P (one_item y x here) (All-head P y xs all)
  | false ↦ λ later. all_found P p xs x (All-tail P y xs all) later
] is
