-- The exact reactions of front parts, from the greatest reactions of their beats.
use Rattle.std.proofs.Common.{◌≡◌, ℕ, zero, suc, ◌+◌, ◌<◌, ◌≤◌, true, false, Option, Some, None, List, length, take, take-take, sym, ap, subst, ◌∙◌, arith}
use Rattle.std.specs.Prelude.{All, MatchOption}
use Rattle.std.proofs.lemmas.Bool.{true≢false}
use Rattle.std.proofs.lemmas.List.{get_or-take, length-take}
use Rattle.std.proofs.lemmas.List.Elements.{All-take}
use Rattle.cl_model.specs.{declared.{group.Group.Group, limits.TheConstants.MOST_STEPS, model.SystemModel.SystemModel}, Groups.{no_group, group_at, IsGroupOf}, Validity.IsValid}
use Rattle.cl_runs.specs.{TaskTiming.{System, timing_at}, SystemOf.system_of}
use Rattle.cl_exact.specs.{declared.beat.Beat.Beat, TimedPeriodic.{is_timed_periodic_task, are_timed_periodic}, Hyperperiod.{IsWithinLimit, IsPastLimit}, ExactReactions.{HasNoExactReaction, IsReactionOf}, Inner.{Beats.{IsBeatOf, AreBeatsOf, beat_in}, Fronts.IsGreatestSteady}}
use Rattle.cl_exact.specs.Inner.Fronts.{IsReactionOfBeats}
use Rattle.cl_exact.proofs.{ModelBeats.{AreTimedGroups, task_passes, nothing_fails, passes_more}, ModelExact.groups_have_lengths, ExactOnce.within_or_past, FrontParts.{front_beat, front_length, front_beats, steady_is_exact}}

-- ---- front parts of groups

group_take : (groups : List Group) (size place : ℕ) → place < size → group_at (take size groups) place ≡ group_at groups place
group_take groups size place below = get_or-take size groups place no_group below

front_of : (system : System) (groups : List Group) (beats : List Beat) (size : ℕ) → AreBeatsOf system groups beats → 1 ≤ size
    → size ≤ length groups → AreBeatsOf system (take size groups) (take size beats)
front_of system groups beats size of some within =
    let fits : size ≤ length beats = omega (arith, within, of.as_many) in
    record {
      are_beats = front_beats beats size of.are_beats some fits;
      as_many = omega (arith, front_length beats size fits, length-take size groups, within);
      each = λ place below.
          let there : place < size = omega (arith, below, length-take size groups) in
          subst (λ (group : Group). IsBeatOf (timing_at system group.task) (beat_in (take size beats) place)) (sym (group_take groups size place there))
          (subst (IsBeatOf (timing_at system (group_at groups place).task)) (sym (front_beat beats size place there))
          (of.each place (omega (arith, there, within))));
    }

-- where the tasks of groups are all timed and periodic, so are those of a front part
front_timed : (system : System) (groups : List Group) (size : ℕ) → are_timed_periodic system groups ≡ true → size ≤ length groups
    → are_timed_periodic system (take size groups) ≡ true
front_timed system groups zero all within = nothing_fails system
front_timed system groups (suc size) all within =
    let here : size < length groups = omega (arith, within) in
    let one : size + 1 ≡ suc size = omega arith in
    subst (λ n. are_timed_periodic system (take n groups) ≡ true) one
    (passes_more system groups size here (front_timed system groups size all (omega (arith, within))) (task_passes system groups size all here))

-- ---- what is found of them

found_of : (model : SystemModel) → IsValid model → (groups : List Group) → AreTimedGroups model groups → (beats : List Beat)
    → AreBeatsOf (system_of model) groups beats → (found : Option ℕ)
    → MatchOption found (IsPastLimit (system_of model) groups) (λ reaction. IsWithinLimit (system_of model) groups × IsGreatestSteady beats reaction)
    → IsReactionOf (system_of model) groups found
found_of model valid groups are beats of (Some reaction) (within, steady) =
    let has = groups_have_lengths model valid groups are in
    record {
      timed = are.timed_periodic;
      within = within;
      exact = has.exact;
      are_exact = has.are;
      reaction_is = steady_is_exact (system_of model) groups beats of reaction steady has.exact has.are;
    }
found_of model valid groups are beats of None past = λ timed within. within_or_past (system_of model) groups within past

module _ (model : SystemModel) (groups : List Group) (few : length groups ≤ MOST_STEPS) (of_tasks : All (IsGroupOf model) groups) (count : ℕ)
    (within : count ≤ length groups) where
  -- a front part of the first groups, whose tasks are all timed and periodic
  pub front_found : IsValid model → are_timed_periodic (system_of model) (take count groups) ≡ true → (beats : List Beat)
      → AreBeatsOf (system_of model) (take count groups) beats → (place : ℕ) → place < count → (found : Option ℕ)
      → IsReactionOfBeats (take (place + 1) beats) found → IsReactionOf (system_of model) (take (place + 1) groups) found
  front_found valid timed beats of place below found is =
      let system : System = system_of model in
      let size : ℕ = place + 1 in
      let fits : size ≤ length (take count groups) = omega (arith, below, within, length-take count groups) in
      let same : take size (take count groups) ≡ take size groups = take-take size count groups (omega (arith, below)) in
      let part = front_of system (take count groups) beats size of (omega arith) fits in
      let part_of : AreBeatsOf system (take size groups) (take size beats) = subst (λ list. AreBeatsOf system list (take size beats)) same part in
      let are : AreTimedGroups model (take size groups) = record {
        some = omega (arith, length-take size groups, below, within);
        few = omega (arith, length-take size groups, below, few);
        of_tasks = All-take (IsGroupOf model) size groups of_tasks;
        timed_periodic = subst (λ list. are_timed_periodic system list ≡ true) same (front_timed system (take count groups) size timed fits);
      } in
      found_of model valid (take size groups) are (take size beats) part_of found (is system (take size groups) part_of)

  -- a longer one
  pub front_other : (count < length groups → is_timed_periodic_task (timing_at (system_of model) (group_at groups count).task) ≡ false)
      → (place : ℕ) → count ≤ place → place < length groups → HasNoExactReaction (system_of model) (take (place + 1) groups)
  front_other other place after below timed _ =
      let there : count < place + 1 = omega (arith, after) in
      let passes = task_passes (system_of model) (take (place + 1) groups) count timed (omega (arith, there, length-take (place + 1) groups, below)) in
      let same = ap (λ (group : Group). is_timed_periodic_task (timing_at (system_of model) group.task)) (group_take groups (place + 1) count there) in
      absurd (true≢false (sym passes ∙ same ∙ other (omega (arith, after, below))))
