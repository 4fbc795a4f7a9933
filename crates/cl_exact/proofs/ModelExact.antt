-- The exact lengths of groups of a valid model whose tasks are all timed and periodic: there are some, and they are
-- tied.
use Rattle.std.proofs.Common.{◌≡◌, ℕ, zero, suc, ◌+◌, ◌-◌, ◌<◌, ◌≤◌, true, List, [], ◌∷◌, ◌++◌, length, refl, subst, arith, inl, inr}
use Rattle.std.specs.Prelude.{slice_index}
use Rattle.cl_model.specs.{declared.{model.SystemModel.SystemModel, group.Group.Group, stimulus.StimulusKind.{StimulusKind, TheVariants.{Periodic, Sporadic, Burst}}}, ByNumber.{stimulus_of, deadline_of}, Groups.{no_group, group_at, groups_at}, Validity.IsValid, Kinds.is_periodic}
use Rattle.cl_runs.specs.{TaskTiming.System, SystemOf.system_of}
use Rattle.cl_exact.specs.{declared.{beat.Beat.Beat, scan.Greatest.Greatest, witness.Witness.Witness}, TimedPeriodic.is_timed_periodic_chain, ExactLengths.{Witnesses, AreExactLengths}, Ties.{AreTied, HasExactLengths}, Inner.Beats.{AreBeatsOf, beat_in, read_at, write_at, first_reader}}
use Rattle.cl_exact.specs.Inner.{Beats.{forward_job, forward_start, forward_end}, Scans.IsGreatestOf, Walks.{start_up_of, IsLatestSecond}, Found.{last_beat, IsGreatestReaction, age_of, IsOldest, IsForwardWitness, IsAgeWitness, IsSameUpTo}}
use Rattle.cl_exact.proofs.{ExactOnce.exact_unique, ModelBeats.{AreTimedGroups, timed_chain, task_passes, is_of_period, beat_is_of, beat_in_range, AreFirstBeats, no_beats, beats_more, all_beats}, PeriodFacts.{least_of_none, has_least, last_period}, ReactionAge.complete_after}
use Rattle.cl_exact.proofs.{Shifts.{turns_of, some_turns, greatest_over_all}, StartUps.{steady_late, begun_complete, last_steady_late}, Oldest.oldest_is, FoundExact.{reaction_exact, age_exact, reduced_exact}, WholeScan.{period_in_age, same_lengths}, Existence.{has_forward, has_backward}}
use Rattle.cl_exact.proofs.Existence.{has_greatest, has_first, has_latest}

-- ---- the beats of groups

kind_numbers : (kind : StimulusKind) → is_periodic kind ≡ true → (period offset jitter : ℕ) × (kind ≡ Periodic period offset jitter)
kind_numbers (Periodic period offset jitter) passes = (period, offset, jitter, refl)
kind_numbers (Sporadic least greatest) passes = cc
kind_numbers (Burst period offset count distance) passes = cc

module _ (model : SystemModel) (valid : IsValid model) (groups : List Group) (are : AreTimedGroups model groups) where
  abbrev system : System
  system = system_of model

  first_beats : (count : ℕ) → count ≤ length groups → (beats : List Beat) × AreFirstBeats system groups count beats
  first_beats zero within = ([], no_beats system groups)
  first_beats (suc count) within =
      let rest = first_beats count (omega (arith, within)) in
      let here : count < length groups = omega (arith, within) in
      let i : ℕ = (group_at groups count).task in
      let known = (are.of_tasks count no_group here).known in
      let kind = kind_numbers (stimulus_of model i) (is_of_period model i known (task_passes system groups count are.timed_periodic here)) in
      let beat : Beat = record { offset = kind.1; period = kind.0; deadline = deadline_of model i } in
      let one : count + 1 ≡ suc count = omega arith in (
        rest.0 ++ beat ∷ [],
        subst (λ n. AreFirstBeats system groups n (rest.0 ++ beat ∷ [])) one
            (beats_more system groups count rest.0 beat rest.1
            (beat_is_of model i kind.0 kind.1 kind.2 (deadline_of model i) known kind.3 refl)
            (beat_in_range model valid i kind.0 kind.1 kind.2 (deadline_of model i) known kind.3 refl)),
      )

  pub has_beats : (beats : List Beat) × AreBeatsOf system groups beats
  has_beats =
      let found = first_beats (length groups) (omega arith) in
      (found.0, all_beats system groups are.some are.few found.0 found.1)

-- ---- their exact lengths

-- what is had of groups of these beats, with how it is tied
record HasTiedLengths (system : System) (groups : List Group) : Type 0 where
  exact : Witnesses
  are : AreExactLengths system groups exact
  tied : AreTied system groups exact

module _ (system : System) (groups : List Group) (beats : List Beat) (of : AreBeatsOf system groups beats) where
  found : (latest first count : ℕ) → IsLatestSecond beats latest → first ≡ first_reader (beat_in beats 0) latest → 0 < count
      → (greatest : Greatest) → IsGreatestOf beats first count greatest → IsGreatestReaction beats count greatest.reaction
      → (last : ℕ) → IsOldest beats greatest.reaction last → HasTiedLengths system groups
  found latest first count is_latest first_is some greatest scanned all last oldest =
      let forward = has_forward beats greatest.job in
      let backward = has_backward beats of.are_beats last oldest.late in
      let reaction : Witness = record {
        length = forward_end beats greatest.job - forward_start beats greatest.job;
        from = forward_start beats greatest.job;
        to = forward_end beats greatest.job;
        jobs = forward.0;
      } in
      let is_reaction : IsForwardWitness beats greatest.job reaction = record { jobs = forward.1; from = refl; to = refl; length = refl } in
      let age : Witness = record {
        length = age_of beats last backward.0;
        from = read_at (beat_in beats 0) (slice_index backward.0 0);
        to = write_at (last_beat beats) (last + 1);
        jobs = backward.0;
      } in
      let is_age : IsAgeWitness beats last age = record { jobs = backward.1; from = refl; to = refl; length = refl } in
      let reduced : Witness = record {
        length = age.length - (last_beat beats).period;
        from = age.from;
        to = age.to - (last_beat beats).period;
        jobs = age.jobs;
      } in
      let same : IsSameUpTo age (last_beat beats).period reduced = record { jobs = refl; from = refl; to = refl; length = refl } in
      record {
        exact = record { reaction = reaction; age = age; reduced = reduced };
        are = record {
          reaction = reaction_exact system groups beats of latest first is_latest first_is count greatest reaction some scanned all is_reaction;
          age = age_exact system groups beats of count greatest.reaction last all oldest age is_age;
          reduced = reduced_exact system groups beats of count greatest.reaction last all oldest age is_age reduced same;
        };
        tied = record {
          equal = same_lengths beats greatest.job last greatest.reaction reaction age is_reaction is_age (scanned.attained some)
              (oldest.has backward.0 backward.1);
          shorter = omega (arith, last_period system groups beats of, period_in_age beats of.are_beats last age is_age);
          same_jobs = refl;
        };
      }

  lengths_of_beats : HasTiedLengths system groups
  lengths_of_beats =
      let are = of.are_beats in
      let least = has_least beats are (length beats) 0 1 (omega arith) (least_of_none beats) in
      let latest = has_latest beats in
      let first : ℕ = first_reader (beat_in beats 0) latest.0 in
      let complete = begun_complete beats are first latest.0 latest.1 (steady_late beats are first latest.0 refl) in
      let count : ℕ = turns_of beats are least.0 least.1.multiple 0 in
      let some = some_turns beats are least.0 least.1.multiple least.1.some in
      let greatest = has_greatest beats first count in
      let all = greatest_over_all beats are least.0 least.1.multiple least.1.some first greatest.0 complete greatest.1 in
      let start : ℕ = first_reader (last_beat beats) (start_up_of beats) in
      let walk = has_backward beats are start (last_steady_late beats are start refl) in
      let next : ℕ = slice_index walk.0 0 + 1 in
      elim (has_first beats next count greatest.0.reaction) [
        | inl none ↦ absurd (all.everywhere next (complete_after beats are start walk.0 walk.1 next (omega arith)) none)
        | inr first_with ↦
            found latest.0 first count latest.1 refl some greatest.0 greatest.1 all
            (forward_job beats first_with.0 (length beats - 1) - 1)
            (oldest_is beats are count greatest.0.reaction all start walk.0 refl walk.1 first_with.0 first_with.1)
      ]

module _ (model : SystemModel) (valid : IsValid model) (groups : List Group) (are : AreTimedGroups model groups) where
  had : HasTiedLengths (system_of model) groups
  had =
      let beats = has_beats model valid groups are in
      lengths_of_beats (system_of model) groups beats.0 beats.1

  -- groups of a valid model whose tasks are all timed and periodic have exact lengths
  pub groups_have_lengths : HasExactLengths (system_of model) groups
  groups_have_lengths = record { exact = had.exact; are = had.are }

  -- and whatever they are, they are tied
  pub groups_are_tied : (exact : Witnesses) → AreExactLengths (system_of model) groups exact → AreTied (system_of model) groups exact
  groups_are_tied exact are_exact =
      subst (AreTied (system_of model) groups) (exact_unique (system_of model) groups had.exact exact had.are are_exact) had.tied

-- so has a chain
pub lengths_exist : (model : SystemModel) → IsValid model → (chain : ℕ) → chain < length model.chains
    → is_timed_periodic_chain model chain ≡ true → HasExactLengths (system_of model) (groups_at model chain)
lengths_exist model valid chain within timed = groups_have_lengths model valid (groups_at model chain) (timed_chain model valid chain within timed)

pub lengths_tied : (model : SystemModel) → IsValid model → (chain : ℕ) → chain < length model.chains
    → is_timed_periodic_chain model chain ≡ true → (exact : Witnesses) → AreExactLengths (system_of model) (groups_at model chain) exact
    → AreTied (system_of model) (groups_at model chain) exact
lengths_tied model valid chain within timed = groups_are_tied model valid (groups_at model chain) (timed_chain model valid chain within timed)
