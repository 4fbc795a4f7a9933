-- Groups whose tasks are all timed and periodic are within the limit, with exact lengths, or past it.
use Rattle.std.proofs.Common.{◌≡◌, ◌⊎◌, ℕ, ◌<◌, true, List, length, inl, inr, arith}
use Rattle.std.proofs.lemmas.Bool.{cases_lt}
use Rattle.cl_model.specs.{declared.{group.Group.Group, model.SystemModel.SystemModel}, Groups.groups_at, Validity.IsValid}
use Rattle.cl_runs.specs.{TaskTiming.System, SystemOf.system_of}
use Rattle.cl_exact.specs.{declared.beat.Beat.Beat, TimedPeriodic.is_timed_periodic_chain, Hyperperiod.{hyper_limit, IsWithinLimit, IsPastLimit}, ExactLengths.{Witnesses, AreExactLengths}, Inner.Beats.AreBeatsOf}
use Rattle.cl_exact.proofs.{PeriodFacts.{least_of_none, has_least, is_hyperperiod}, ModelBeats.{AreTimedGroups, timed_chain}, ModelExact.{has_beats, groups_have_lengths}}

-- groups of these beats are within the limit or past it
limit_of_beats : (system : System) (groups : List Group) (beats : List Beat) → AreBeatsOf system groups beats
    → IsWithinLimit system groups ⊎ IsPastLimit system groups
limit_of_beats system groups beats of =
    let least = has_least beats of.are_beats (length beats) 0 1 (omega arith) (least_of_none beats) in
    let is = is_hyperperiod system groups beats least.0 of least.1 in
    elim (cases_lt (hyper_limit system groups) least.0) [
      | inl past ↦ inr (record { hyperperiod = least.0; is_hyperperiod = is; past = past })
      | inr within ↦ inl (record { hyperperiod = least.0; is_hyperperiod = is; within = within })
    ]

module _ (model : SystemModel) (valid : IsValid model) (groups : List Group) (are : AreTimedGroups model groups) where
  -- so are those of a valid model
  pub groups_within_or_past : IsWithinLimit (system_of model) groups ⊎ IsPastLimit (system_of model) groups
  groups_within_or_past =
      let beats = has_beats model valid groups are in
      limit_of_beats (system_of model) groups beats.0 beats.1

  -- and within the limit they have exact lengths, as they have past it
  pub exact_of_groups_exist : ((exact : Witnesses) × AreExactLengths (system_of model) groups exact × IsWithinLimit (system_of model) groups)
      ⊎ IsPastLimit (system_of model) groups
  exact_of_groups_exist =
      let had = groups_have_lengths model valid groups are in
      elim groups_within_or_past [
        | inl within_limit ↦ inl (had.exact, had.are, within_limit)
        | inr past ↦ inr past
      ]

-- so is each chain of a valid model
pub within_or_past_limit : (model : SystemModel) → IsValid model → (chain : ℕ) → chain < length model.chains
    → is_timed_periodic_chain model chain ≡ true
    → IsWithinLimit (system_of model) (groups_at model chain) ⊎ IsPastLimit (system_of model) (groups_at model chain)
within_or_past_limit model valid chain within timed = groups_within_or_past model valid (groups_at model chain) (timed_chain model valid chain within timed)

pub exact_lengths_exist : (model : SystemModel) → IsValid model → (chain : ℕ) → chain < length model.chains → is_timed_periodic_chain model chain ≡ true
    → ((exact : Witnesses) × AreExactLengths (system_of model) (groups_at model chain) exact × IsWithinLimit (system_of model) (groups_at model chain))
    ⊎ IsPastLimit (system_of model) (groups_at model chain)
exact_lengths_exist model valid chain within timed = exact_of_groups_exist model valid (groups_at model chain) (timed_chain model valid chain within timed)
