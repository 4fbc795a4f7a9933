-- The groups of a settled timed chain, and the groups of a valid model that are such.
use Rattle.std.proofs.Common.{◌≡◌, ℕ, true, List, refl, sym, arith}
use Rattle.std.specs.Prelude.{slice_index_or, All}
use Rattle.std.specs.List.{AllPass}
use Rattle.std.proofs.lemmas.Bool.{and_parts, true≢false}
use Rattle.std.proofs.lemmas.List.Elements.{All-weaker}
use Rattle.std.proofs.lemmas.List.Sums.{AllPass-from_list_all}
use Rattle.cl_model.specs.{declared.{group.Group.Group, model.SystemModel.SystemModel, stimulus.StimulusKind.{StimulusKind, TheVariants.{Periodic, Sporadic, Burst}}, task.AccessKind.{AccessKind, TheVariants.{Explicit, Implicit, Timed}}}, Groups.{groups_at, IsGroupOf}}
use Rattle.cl_model.specs.{Timing.{least_distance, greatest_jitter}, Validity.IsValid, Kinds.{is_timed, is_periodic}}
use Rattle.cl_model.proofs.GroupFacts.{groups_at_are}
use Rattle.cl_runs.specs.{TaskTiming.{Timing, System, timing_at}, Pattern.first_least, SystemOf.system_of, MomentOrder.AreGroupsOf}
use Rattle.cl_runs.proofs.ModelSystem.{range_count_is}
use Rattle.cl_exact.specs.{TimedPeriodic.{is_timed_periodic_task, are_timed_periodic, is_timed_periodic_chain}, RunPromises.{HaveResponses, HasItsRunnables, IsSettledTimedChain}}
use Rattle.cl_exact.proofs.RunMoments.{IsIdealGroup}

timed_kind : (access : AccessKind) → is_timed access ≡ true → access ≡ Timed
timed_kind Explicit is = absurd (true≢false (sym is))
timed_kind Implicit is = absurd (true≢false (sym is))
timed_kind Timed is = refl

periodic_kind : (kind : StimulusKind) → is_periodic kind ≡ true → kind ≡ Periodic (least_distance kind) (first_least kind) (greatest_jitter kind)
periodic_kind (Periodic period offset jitter) is = refl
periodic_kind (Sporadic least greatest) is = absurd (true≢false (sym is))
periodic_kind (Burst period offset count distance) is = absurd (true≢false (sym is))

module _ (system : System) (groups : List Group) (chain : IsSettledTimedChain system groups) where
  is_timed_task : AllPass (λ (group : Group). is_timed_periodic_task (timing_at system group.task)) groups
  unfolding are_timed_periodic
  is_timed_task = AllPass-from_list_all (λ (group : Group). is_timed_periodic_task (timing_at system group.task)) groups chain.timed

  -- each group of a settled timed chain is one of a periodic, timed and timely task
  pub ideal_groups : All (IsIdealGroup system) groups
  ideal_groups i d h =
      let timing : Timing = timing_at system (slice_index_or groups i d).task in
      let (timed, periodic) = and_parts (is_timed timing.access) (is_periodic timing.pattern) (is_timed_task i d h) in
      let settled = chain.settled i d h in
      let runnables = chain.runnables i d h in
      record {
        task = record {
          periodic = periodic_kind timing.pattern periodic;
          timed = timed_kind timing.access timed;
          response = settled.response;
          timely = settled.timely;
        };
        first = runnables.first;
        last = runnables.last;
      }

  pub groups_of_system : AreGroupsOf system groups
  groups_of_system i d h = (chain.settled i d h).timely.is_task

-- ---- groups of a model

has_its_runnables : (model : SystemModel) (group : Group) → IsGroupOf model group → HasItsRunnables (system_of model) group
has_its_runnables model group is =
    let same = range_count_is model group.task is.known in
    record { first = omega (arith, same, is.ordered, is.within); last = omega (arith, same, is.within) }

-- groups of a model whose tasks are all timed and periodic, and none of them late, are a settled timed chain
pub settled_timed_groups : (model : SystemModel) (groups : List Group) → All (IsGroupOf model) groups → are_timed_periodic (system_of model) groups ≡ true
    → HaveResponses (system_of model) groups → IsSettledTimedChain (system_of model) groups
settled_timed_groups model groups of_tasks timed settled = record {
  runnables = All-weaker (IsGroupOf model) (HasItsRunnables (system_of model)) (has_its_runnables model) groups of_tasks;
  timed = timed;
  settled = settled;
}

-- so are those of a chain of a valid model
pub settled_timed_chain : (model : SystemModel) → IsValid model → (chain : ℕ) → is_timed_periodic_chain model chain ≡ true
    → HaveResponses (system_of model) (groups_at model chain) → IsSettledTimedChain (system_of model) (groups_at model chain)
settled_timed_chain model valid chain = settled_timed_groups model (groups_at model chain) (groups_at_are model valid chain)
