-- Groups whose timings always hold have complete chains of each kind in each legal run that is long enough, so in some
-- legal run.
use Rattle.std.proofs.Common.{ℕ, ◌+◌, ◌<◌, ◌≤◌, List, length, arith}
use Rattle.std.specs.Prelude.{All}
use Rattle.cl_model.specs.{declared.{chain.LengthKind.{LengthKind, TheVariants.{Reaction, Age, Reduced}}, group.Group.Group}, Groups.{no_group, group_at}}
use Rattle.cl_runs.specs.{TaskTiming.{System, IsSound}, Run.Run, Legal.IsLegal, RunChains.run_moments}
use Rattle.cl_runs.proofs.{ChainsOrdered.{forward_ordered, age_ordered, reduced_ordered}, Extension.some_legal, OrderedMoments.run_in_order}
use Rattle.cl_hop.specs.{Timings.AlwaysKeeps, declared.group_timing.GroupTiming.GroupTiming}
use Rattle.cl_hop.proofs.ChainBounds.{AreAlwaysKept}
use Rattle.cl_phase.specs.CompleteChains.{HasChainOfKind, HasCompleteChains}
use Rattle.cl_phase.proofs.{JobsInTime.AllKeepUp, ForwardExists.{forward_ticks, has_forward_chain}, BackwardExists.{backward_ticks, has_age_chain, has_reduced_chain}, KeptInTime.{latest_write, keeps_up, kept_read_first}}

-- how long a run has to last for complete chains of each kind
pub enough_ticks : System → (timing : Group → GroupTiming) → List Group → ℕ
enough_ticks system timing groups =
    forward_ticks (latest_write system timing) groups + backward_ticks (latest_write system timing) groups

module _ (system : System) (sound : IsSound system) (timing : Group → GroupTiming) (groups : List Group) (some : 0 < length groups)
    (keep : AreAlwaysKept system timing groups) where
  module _ (run : Run) (legal : IsLegal system run) (long : enough_ticks system timing groups ≤ run.table.ticks) where
    all_keep_up : AllKeepUp (run_moments system run) run.table.ticks (latest_write system timing) groups
    all_keep_up i h = keeps_up system sound run legal timing (group_at groups i) (keep i h)

    long_forward : forward_ticks (latest_write system timing) groups ≤ run.table.ticks
    unfolding enough_ticks
    long_forward = omega (arith, long)

    long_backward : backward_ticks (latest_write system timing) groups ≤ run.table.ticks
    unfolding enough_ticks
    long_backward = omega (arith, long)

    -- each legal run that is long enough has a complete chain of each kind
    pub long_runs_have_chains : (kind : LengthKind) → HasChainOfKind system run groups kind
    long_runs_have_chains Reaction =
        let has = has_forward_chain (run_moments system run) (run_in_order system sound run legal) run.table.ticks (latest_write system timing)
        groups some all_keep_up long_forward in
        record {
          chain = has.0;
          complete = has.1;
          lasts = omega (
            arith,
            forward_ordered (run_moments system run) groups (run_in_order system sound run legal groups)
                (kept_read_first system sound run legal timing groups keep) has.0 has.1,
          );
        }
    long_runs_have_chains Age =
        let has = has_age_chain (run_moments system run) (run_in_order system sound run legal) run.table.ticks (latest_write system timing)
        groups some all_keep_up long_backward in
        record {
          chain = has.0;
          complete = has.1;
          lasts = omega (
            arith,
            age_ordered (run_moments system run) groups (run_in_order system sound run legal groups)
                (kept_read_first system sound run legal timing groups keep) has.0 has.1,
          );
        }
    long_runs_have_chains Reduced =
        let has = has_reduced_chain (run_moments system run) (run_in_order system sound run legal) run.table.ticks (latest_write system timing)
        groups some all_keep_up long_backward in
        record {
          chain = has.0;
          complete = has.1;
          lasts = omega (
            arith,
            reduced_ordered (run_moments system run) groups (run_in_order system sound run legal groups)
                (kept_read_first system sound run legal timing groups keep) has.0 has.1,
          );
        }

-- so does some legal run
pub has_complete_chains : (system : System) → IsSound system → (timing : Group → GroupTiming) (groups : List Group) → 0 < length groups
    → All (λ (group : Group). AlwaysKeeps system group (timing group)) groups → HasCompleteChains system groups
has_complete_chains system sound timing groups some keep =
    let (run, end, legal) = some_legal system sound (enough_ticks system timing groups) in
    record {
      run = run;
      legal = legal;
      each = long_runs_have_chains system sound timing groups some (λ place h. keep place no_group h) run legal (omega (arith, end));
    }
