-- The sums over all of some groups of a valid model are their bounds.
use Rattle.std.proofs.Common.{◌≡◌, ℕ, ℤ, pos, ◌-◌, ◌*◌, ◌<◌, ◌≤◌, List, [], ◌∷◌, length, get_or, take, drop, map, refl, sym, ap, ◌∙◌, arith}
use Rattle.std.specs.Prelude.{All}
use Rattle.std.proofs.lemmas.Int.{ints}
use Rattle.std.proofs.lemmas.List.{take_all, length-drop}
use Rattle.std.proofs.Math.ListN.{length-map}
use Rattle.cl_model.specs.{declared.{limits.TheConstants.{MOST_TICKS, MOST_STEPS}, model.SystemModel.SystemModel, group.Group.Group}, Groups.{IsGroupOf, no_group}, Validity.IsValid}
use Rattle.cl_runs.specs.SystemOf.{system_of}
use Rattle.cl_runs.proofs.ModelSystem.{system_sound}
use Rattle.cl_hop.specs.{declared.{group_timing.GroupTiming.GroupTiming, sums.Sums.Sums}, Bounds.{Lengths, greatest_reaction, greatest_age, greatest_reduced, greatest_delay, AreBoundsOf}, Sums.{IsBound, sums_of, HaveBounds, AreBoundsIn}}
use Rattle.cl_hop.proofs.ModelGroups.{distance_near}
use Rattle.cl_bound.specs.{Answers.{answers_of, NoneIsLate}, Bounds.{settled_timing, settled_timings, bounds_of}, SettledChains.{IsSettledChain, AreWithin}}
use Rattle.cl_bound.proofs.{ModelGroups.settled_chain, SettledChains.{settled_sums, AreLimited, limited, reaction_positive, age_positive, reduced_positive, delay_positive}}

-- a list that isn't empty, by its first item and the rest
first_and_rest : (groups : List Group) → 0 < length groups → groups ≡ get_or groups 0 no_group ∷ drop 1 groups
first_and_rest [] some = absurd (omega (arith, some))
first_and_rest (group ∷ groups) some = refl

-- the sums up to the last group are those of all
pub all_sums : (timing : Group → GroupTiming) (first : GroupTiming) (groups : List Group) (count : ℕ) (sums : Sums)
    → sums ≡ sums_of first (take count (map timing groups)) → length groups ≤ count → sums ≡ sums_of first (map timing groups)
all_sums timing first groups count sums are whole =
    are ∙ ap (sums_of first) (take_all count (map timing groups) (omega (arith, whole, length-map groups timing)))

-- what stands past the first group is all that is left
pub rest_is : (groups : List Group) → take (length groups - 1) (drop 1 groups) ≡ drop 1 groups
rest_is groups = take_all (length groups - 1) (drop 1 groups) (omega (arith, length-drop 1 groups))

-- a bound that is positive and small enough
bounded : (n count : ℕ) (z : ℤ) → pos n ≡ z → 1 ≤ n → n ≤ 2 * count * MOST_TICKS → count ≤ MOST_STEPS → IsBound z
bounded n count z is some small few =
    let top : n ≤ 2 * MOST_STEPS * MOST_TICKS = omega (arith, small, few) in
    (omega (arith, ints, is, some), omega (arith, ints, is, top))

module _ (model : SystemModel) (valid : IsValid model) (groups : List Group) (some : 0 < length groups) (few : length groups ≤ MOST_STEPS)
    (of_tasks : All (IsGroupOf model) groups) (timely : NoneIsLate (answers_of (system_of model)) groups) where
  -- they are a settled chain, and near
  pub is_settled : IsSettledChain (system_of model) groups
  is_settled = settled_chain model groups of_tasks timely

  are_near : AreWithin (system_of model) MOST_TICKS groups
  are_near i d h = distance_near model valid _ (get_or groups i d) (of_tasks i d h).known

  most : AreLimited (system_of model) groups MOST_TICKS
  most = limited (system_of model) (system_sound model valid) groups is_settled MOST_TICKS are_near

  abbrev pub first : GroupTiming
  first = settled_timing (system_of model) (get_or groups 0 no_group)

  abbrev pub sums : Sums
  sums = sums_of first (settled_timings (system_of model) (drop 1 groups))

  -- the sums of the first group and the rest are those of all
  split : settled_timings (system_of model) groups ≡ first ∷ settled_timings (system_of model) (drop 1 groups)
  split = ap (settled_timings (system_of model)) (first_and_rest groups some)

  abbrev bounds : Lengths
  bounds = bounds_of (system_of model) groups

  are_sums : AreBoundsOf (settled_timings (system_of model) groups) bounds
  are_sums = settled_sums (system_of model) (system_sound model valid) groups is_settled

  -- each of them is a bound
  pub have_bounds : HaveBounds first sums
  have_bounds = record {
    reaction = bounded bounds.reaction _ _ (are_sums.reaction ∙ ap greatest_reaction split)
        (reaction_positive (system_of model) (system_sound model valid) groups is_settled some) most.reaction few;
    age = bounded bounds.age _ _ (are_sums.age ∙ ap greatest_age split)
        (age_positive (system_of model) (system_sound model valid) groups is_settled some) most.age few;
    reduced = bounded bounds.reduced _ _ (are_sums.reduced ∙ ap greatest_reduced split)
        (reduced_positive (system_of model) (system_sound model valid) groups is_settled some) most.reduced few;
    delay = bounded bounds.delay _ _ (are_sums.delay ∙ ap greatest_delay split)
        (delay_positive (system_of model) (system_sound model valid) groups is_settled some) most.delay few;
  }

  -- bounds that are these sums are those of the groups
  pub bounds_are : (found : Lengths) → AreBoundsIn first sums found → AreBoundsOf (settled_timings (system_of model) groups) found
  bounds_are found are = record {
    reaction = are.reaction ∙ sym (ap greatest_reaction split);
    age = are.age ∙ sym (ap greatest_age split);
    reduced = are.reduced ∙ sym (ap greatest_reduced split);
    delay = are.delay ∙ sym (ap greatest_delay split);
  }
