-- Sums of hops, one group after the other.
use Rattle.std.proofs.Common.{◌≡◌, ℕ, ℤ, ◌+◌, ◌*◌, ◌^◌, ◌<◌, List, [], ◌∷◌, ◌++◌, length, get_or, take, refl, sym, ap, ◌∙◌, arith}
use Rattle.std.specs.Prelude.{◌+ℤ◌}
use Rattle.std.proofs.lemmas.Int.{ints}
use Rattle.std.proofs.lemmas.List.{take_more}
use Rattle.cl_stim.specs.Integers.{IsIntegerWithin}
use Rattle.cl_hop.specs.{declared.{group_timing.GroupTiming.GroupTiming, sums.Sums.Sums}, Hops.{forward_hop, backward_hop, hops}, Bounds.last_of, Sums.{sums_with, sums_of}}

-- a sum with one more group
hops_more : (hop : GroupTiming → GroupTiming → ℤ) (first : GroupTiming) (groups : List GroupTiming) (next : GroupTiming)
    → hops hop first (groups ++ next ∷ []) ≡ hops hop first groups +ℤ hop (last_of first groups) next
hops_more hop first [] next = omega (arith, ints)
hops_more hop first (group ∷ groups) next = omega (arith, ints, hops_more hop group groups next)

last_more : (first : GroupTiming) (groups : List GroupTiming) (next : GroupTiming) → last_of first (groups ++ next ∷ []) ≡ next
last_more first [] next = refl
last_more first (group ∷ groups) next = last_more group groups next

pub same_sums : (l last : GroupTiming) (f forward b backward : ℤ) → l ≡ last → f ≡ forward → b ≡ backward
    → ◌≡◌ {A = Sums} (record { last = l; forward = f; backward = b }) (record { last = last; forward = forward; backward = backward })
same_sums l last f forward b backward e g h = cc

-- the sums with one more group
sums_more : (first : GroupTiming) (groups : List GroupTiming) (next : GroupTiming) → sums_with (sums_of first groups) next ≡ sums_of first (groups ++ next ∷ [])
sums_more first groups next =
    same_sums next _ _ _ _ _ (sym (last_more first groups next)) (sym (hops_more forward_hop first groups next)) (sym (hops_more backward_hop first groups next))

-- those of the first so many groups, with the next one
pub more_sums : (first : GroupTiming) (groups : List GroupTiming) (count : ℕ) (old new : Sums) (next : GroupTiming)
    → old ≡ sums_of first (take count groups) → count < length groups → next ≡ get_or groups count next → new ≡ sums_with old next
    → new ≡ sums_of first (take (count + 1) groups)
more_sums first groups count old new next was within is added =
    added ∙ ap (λ (sums : Sums). sums_with sums next) was ∙ sums_more first (take count groups) next
    ∙ ap (sums_of first) (ap (λ (g : GroupTiming). take count groups ++ g ∷ []) is ∙ sym (take_more groups count next within))

-- a sum stays as near as its hops let it
pub nearer : (place : ℕ) (sum hop : ℤ) → IsIntegerWithin (place * 2 ^ 65) sum → IsIntegerWithin (2 ^ 65) hop → IsIntegerWithin ((place + 1) * 2 ^ 65) (sum +ℤ hop)
nearer place sum hop near next = (omega (arith, ints, near.0, next.0), omega (arith, ints, near.1, next.1))
