-- The bounds of front parts of groups of a valid model: the parts that begin with the first group.
use Rattle.std.proofs.Common.{◌≡◌, ℕ, ◌+◌, ◌-◌, ◌<◌, ◌≤◌, false, List, length, get_or, take, drop, sym, ap, subst, ◌∙◌, arith, inl, inr}
use Rattle.std.specs.Prelude.{All, slice_index, slice_set}
use Rattle.std.specs.List.{take-map}
use Rattle.std.proofs.lemmas.Bool.{cases_lt}
use Rattle.std.proofs.lemmas.List.{drop-take, length-take, length-drop, get_or-drop, get_or-take, get_or-set_same, get_or-set_other}
use Rattle.std.proofs.lemmas.List.Elements.{All-take}
use Rattle.std.proofs.Math.ListN.{length-map}
use Rattle.std.proofs.lemmas.List.{get_or-map}
use Rattle.cl_model.specs.{declared.{limits.TheConstants.MOST_STEPS, model.SystemModel.SystemModel, group.Group.Group}, Groups.{IsGroupOf, no_group}, Validity.IsValid}
use Rattle.cl_runs.specs.{TaskTiming.System, SystemOf.system_of}
use Rattle.cl_hop.specs.{declared.{group_timing.GroupTiming.GroupTiming, sums.Sums.Sums}, Bounds.Lengths, Sums.{sums_with, sums_of, HaveBounds, AreBoundsIn}}
use Rattle.cl_hop.proofs.LoopSums.{more_sums}
use Rattle.cl_bound.specs.{Answers.{answers_of, answer_at, is_late, NoneIsLate}, Bounds.{settled_timing, settled_timings, bounds_of}}
use Rattle.cl_bound.proofs.{BoundSums.{have_bounds, bounds_are}, SettledChains.only_bounds}

module _ (model : SystemModel) (valid : IsValid model) (groups : List Group) (few : length groups ≤ MOST_STEPS)
    (of_tasks : All (IsGroupOf model) groups) (timely : NoneIsLate (answers_of (system_of model)) groups) where
  abbrev system : System
  system = system_of model

  abbrev first : GroupTiming
  first = settled_timing system (get_or groups 0 no_group)

  abbrev rest : List GroupTiming
  rest = settled_timings system (drop 1 groups)

  module _ (place : ℕ) (within : place < length groups) where
    part : List Group
    part = take (place + 1) groups

    part_length : length part ≡ place + 1
    unfolding part
    part_length = omega (arith, length-take (place + 1) groups, within)

    part_of_tasks : All (IsGroupOf model) part
    unfolding part
    part_of_tasks = All-take (IsGroupOf model) (place + 1) groups of_tasks

    part_timely : NoneIsLate (answers_of (system_of model)) part
    unfolding part
    part_timely = All-take (λ (group : Group). is_late (answer_at (answers_of (system_of model)) group.task) ≡ false) (place + 1) groups timely

    abbrev part_sums : Sums
    part_sums = sums_of (settled_timing system (get_or part 0 no_group)) (settled_timings system (drop 1 part))

    part_first : settled_timing system (get_or part 0 no_group) ≡ first
    unfolding part
    part_first = ap (settled_timing system) (get_or-take (place + 1) groups 0 no_group (omega arith))

    -- the sums up to a place are those of the part up to it
    sums_up_to : sums_of first (take place rest) ≡ part_sums
    unfolding part
    sums_up_to =
        let one : 1 + place ≡ place + 1 = omega arith in
        let after : take place rest ≡ settled_timings system (drop 1 part) =
        take-map (settled_timing system) place (drop 1 groups)
        ∙ ap (settled_timings system) (sym (drop-take 1 place groups) ∙ ap (λ n. drop 1 (take n groups)) one) in
        ap (sums_of first) after ∙ ap (λ (timing : GroupTiming). sums_of timing (settled_timings system (drop 1 part))) (sym part_first)

    -- they have bounds, and these are the bounds of the part
    pub front_have : (timing : GroupTiming) → timing ≡ first → (sums : Sums) → sums ≡ sums_of timing (take place rest) → HaveBounds timing sums
    front_have timing is_first sums are =
        let of_part : HaveBounds (settled_timing system (get_or part 0 no_group)) part_sums =
        have_bounds model valid part (omega (arith, part_length)) (omega (arith, part_length, few, within)) part_of_tasks part_timely in
        let same : sums ≡ part_sums = are ∙ ap (λ (t : GroupTiming). sums_of t (take place rest)) is_first ∙ sums_up_to in
        subst (λ (s : Sums). HaveBounds timing s) (sym same) (subst (λ (t : GroupTiming). HaveBounds t part_sums) (part_first ∙ sym is_first) of_part)

    pub front_bound : (timing : GroupTiming) → timing ≡ first → (sums : Sums) → sums ≡ sums_of timing (take place rest) → (found : Lengths)
        → AreBoundsIn timing sums found → found.reaction ≡ (bounds_of system (take (place + 1) groups)).reaction
    unfolding part
    front_bound timing is_first sums are found is =
        let same : sums ≡ part_sums = are ∙ ap (λ (t : GroupTiming). sums_of t (take place rest)) is_first ∙ sums_up_to in
        let of_part : AreBoundsIn (settled_timing system (get_or part 0 no_group)) part_sums found =
        subst (λ (t : GroupTiming). AreBoundsIn t part_sums found) (is_first ∙ sym part_first) (subst (λ (s : Sums). AreBoundsIn timing s found) same is) in
        ap (λ (bounds : Lengths). bounds.reaction) (only_bounds system part found
        (bounds_are model valid part (omega (arith, part_length)) (omega (arith, part_length, few, within)) part_of_tasks part_timely found of_part))

  -- the sums up to the next place
  pub front_more : (timing : GroupTiming) (place : ℕ) → 1 ≤ place → place < length groups → (old new : Sums) → old ≡ sums_of timing (take (place - 1) rest)
      → (next : GroupTiming) → next ≡ settled_timing system (get_or groups place no_group) → new ≡ sums_with old next
      → new ≡ sums_of timing (take place rest)
  front_more timing place some within old new was next is added =
      let before : place - 1 + 1 ≡ place = omega (arith, some) in
      let after : 1 + (place - 1) ≡ place = omega (arith, some) in
      let many : place - 1 < length (drop 1 groups) = omega (arith, some, within, length-drop 1 groups) in
      let at : get_or (drop 1 groups) (place - 1) no_group ≡ get_or groups place no_group =
      get_or-drop 1 groups (place - 1) no_group ∙ ap (λ n. get_or groups n no_group) after in
      let here : next ≡ get_or rest (place - 1) next = is ∙ ap (settled_timing system) (sym at)
      ∙ sym (get_or-map (settled_timing system) (drop 1 groups) (place - 1) no_group next many) in
      more_sums timing rest (place - 1) old new next was (omega (arith, many, length-map (drop 1 groups) (settled_timing system))) here added
      ∙ ap (λ n. sums_of timing (take n rest)) before

-- one number more
pub more_numbers : (f : ℕ → ℕ) (numbers : List ℕ) (place number : ℕ) → place < length numbers
    → ((i : ℕ) → i < place → slice_index numbers i ≡ f i) → number ≡ f place
    → (i : ℕ) → i < place + 1 → slice_index (slice_set numbers place number) i ≡ f i
more_numbers f numbers place number room before is i below =
    elim (cases_lt i place) [
      | inl earlier ↦ get_or-set_other numbers place i number 0 (λ same. omega (arith, earlier, same)) ∙ before i earlier
      | inr later ↦
          let same : place ≡ i = omega (arith, later, below) in
          subst (λ n. slice_index (slice_set numbers place number) n ≡ f n) same (get_or-set_same numbers place number 0 room ∙ is)
    ]
