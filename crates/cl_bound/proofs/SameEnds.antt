-- Bounds depend on the ends of groups and on the lags of hops alone.
use Rattle.std.proofs.Common.{◌≡◌, ℤ, pos, List, [], ◌∷◌, refl, ap, ◌∙◌}
use Rattle.std.specs.Prelude.{◌+ℤ◌, ◌-ℤ◌, nat_abs, map}
use Rattle.cl_model.specs.declared.group.Group.{Group}
use Rattle.cl_runs.specs.TaskTiming.{System}
use Rattle.cl_hop.specs.{declared.group_timing.GroupTiming.GroupTiming, Hops.{lag, forward_hop, backward_hop, hops}, Bounds.{last_of, greatest_reaction, greatest_reduced, greatest_age, greatest_delay, Lengths}, Ends.{Ends, ends_of, lags_from, lags}}
use Rattle.cl_bound.specs.Bounds.{settled_timings, bounds_of}

-- where a kind of hop is told by the ends of its two groups and by its lag, so is the sum of such hops
same_hops : (kind : GroupTiming → GroupTiming → ℤ)
    → ((w r v s : GroupTiming) → ends_of w ≡ ends_of v → ends_of r ≡ ends_of s → lag w r ≡ lag v s → kind w r ≡ kind v s)
    → (x y : GroupTiming) (xs ys : List GroupTiming) → ends_of x ≡ ends_of y → map ends_of xs ≡ map ends_of ys → lags_from x xs ≡ lags_from y ys
    → hops kind x xs ≡ hops kind y ys
same_hops kind told x y [] [] first rest same = refl
same_hops kind told x y [] (s ∷ ys) first rest same = absurd cc
same_hops kind told x y (r ∷ xs) [] first rest same = absurd cc
same_hops kind told x y (r ∷ xs) (s ∷ ys) first rest same =
    let next : ends_of r ≡ ends_of s = cc in
    let here : lag x r ≡ lag y s = cc in
    let told_here = told x r y s first next here in
    let later_ends : map ends_of xs ≡ map ends_of ys = cc in
    let later_lags : lags_from r xs ≡ lags_from s ys = cc in
    let later = same_hops kind told r s xs ys next later_ends later_lags in
    cc

forward_told : (w r v s : GroupTiming) → ends_of w ≡ ends_of v → ends_of r ≡ ends_of s → lag w r ≡ lag v s → forward_hop w r ≡ forward_hop v s
forward_told w r v s writers readers lags =
    let distance = ap (λ (ends : Ends). ends.distance) readers in
    ap (λ n. (pos n -ℤ pos 1) +ℤ lag w r) distance ∙ ap (λ z. (pos s.distance -ℤ pos 1) +ℤ z) lags

backward_told : (w r v s : GroupTiming) → ends_of w ≡ ends_of v → ends_of r ≡ ends_of s → lag w r ≡ lag v s → backward_hop w r ≡ backward_hop v s
backward_told w r v s writers readers lags =
    let distance = ap (λ (ends : Ends). ends.distance) writers in
    ap (λ n. (pos n -ℤ pos 1) +ℤ lag w r) distance ∙ ap (λ z. (pos v.distance -ℤ pos 1) +ℤ z) lags

same_last : (x y : GroupTiming) (xs ys : List GroupTiming) → ends_of x ≡ ends_of y → map ends_of xs ≡ map ends_of ys
    → ends_of (last_of x xs) ≡ ends_of (last_of y ys)
same_last x y [] [] first rest = first
same_last x y [] (s ∷ ys) first rest = absurd cc
same_last x y (r ∷ xs) [] first rest = absurd cc
same_last x y (r ∷ xs) (s ∷ ys) first rest =
    let next : ends_of r ≡ ends_of s = cc in
    let later : map ends_of xs ≡ map ends_of ys = cc in
    same_last r s xs ys next later

record SameSums (xs ys : List GroupTiming) : Type 0 where
  reaction : greatest_reaction xs ≡ greatest_reaction ys
  age : greatest_age xs ≡ greatest_age ys
  reduced : greatest_reduced xs ≡ greatest_reduced ys
  delay : greatest_delay xs ≡ greatest_delay ys

same_sums : (xs ys : List GroupTiming) → map ends_of xs ≡ map ends_of ys → lags xs ≡ lags ys → SameSums xs ys
same_sums [] [] all same = record { reaction = refl; age = refl; reduced = refl; delay = refl }
same_sums [] (y ∷ ys) all same = absurd cc
same_sums (x ∷ xs) [] all same = absurd cc
same_sums (x ∷ xs) (y ∷ ys) all same =
    let first : ends_of x ≡ ends_of y = cc in
    let rest : map ends_of xs ≡ map ends_of ys = cc in
    let forward = same_hops forward_hop forward_told x y xs ys first rest same in
    let backward = same_hops backward_hop backward_told x y xs ys first rest same in
    let distances = ap (λ (ends : Ends). ends.distance) first in
    let reads = ap (λ (ends : Ends). ends.read) first in
    let last = same_last x y xs ys first rest in
    let last_write = ap (λ (ends : Ends). ends.write) last in
    let last_distance = ap (λ (ends : Ends). ends.distance) last in
    record { reaction = cc; age = cc; reduced = cc; delay = cc }

same_lengths : (r a d l reaction age reduced delay : ℤ) → r ≡ reaction → a ≡ age → d ≡ reduced → l ≡ delay
    → ◌≡◌ {A = Lengths} (record { reaction = nat_abs r; age = nat_abs a; reduced = nat_abs d; delay = nat_abs l })
    (record { reaction = nat_abs reaction; age = nat_abs age; reduced = nat_abs reduced; delay = nat_abs delay })
same_lengths r a d l reaction age reduced delay e f g h = cc

pub same_bounds : (one other : System) (groups others : List Group) → map ends_of (settled_timings one groups) ≡ map ends_of (settled_timings other others)
    → lags (settled_timings one groups) ≡ lags (settled_timings other others) → bounds_of one groups ≡ bounds_of other others
unfolding bounds_of
same_bounds one other groups others ends same =
    let sums = same_sums (settled_timings one groups) (settled_timings other others) ends same in
    same_lengths _ _ _ _ _ _ _ _ sums.reaction sums.age sums.reduced sums.delay
