-- What is shown of a longest reaction, stop by stop.
use Rattle.std.proofs.Common.{◌≡◌, ℕ, ◌<◌, List, length, sym, subst}
use Rattle.std.specs.Prelude.{slice_index}
use Rattle.cl_model.specs.{declared.group.Group.Group, Groups.group_at}
use Rattle.cl_runs.specs.{TaskTiming.System, Run.Run, Moments.Writes, Chains.{Moments, JobChain, HasWritten, IsForwardChain}, RunChains.run_moments}
use Rattle.cl_draw.specs.{declared.stops.Stop.Stop, Reactions.{IsStop, no_drawn_stop}}
use Rattle.cl_draw.proofs.FirstItems.{AreFirst}

-- a job that has written
pub written_at : (system : System) (run : Run) (group : Group) (job : ℕ) → HasWritten (run_moments system run) group job
    → (t : ℕ) × Writes system run group.task job group.last t
unfolding run_moments
written_at system run group job has = (has.write, has.writes)

-- the stops of the first groups
abbrev pub AreStopsBelow : Moments → List Group → (jobs : List ℕ) → (n : ℕ) → List Stop → Type 0
AreStopsBelow moments groups jobs n stops = AreFirst (λ i (stop : Stop). IsStop moments (group_at groups i) (slice_index jobs i) stop) no_drawn_stop n stops

-- the job of a group of a complete forward chain has written
pub written_here : (system : System) (run : Run) (groups : List Group) (chain : JobChain) → IsForwardChain (run_moments system run) groups chain
    → (i : ℕ) → i < length groups → (group : Group) → group ≡ group_at groups i → (jobs : List ℕ) → jobs ≡ chain.jobs
    → (t : ℕ) × Writes system run group.task (slice_index jobs i) group.last t
written_here system run groups chain complete i within group is_group jobs same = written_at system run group (slice_index jobs i)
    (subst (λ (g : Group). HasWritten (run_moments system run) g (slice_index jobs i)) (sym is_group)
    (subst (λ (js : List ℕ). HasWritten (run_moments system run) (group_at groups i) (slice_index js i)) (sym same) (complete.written i within)))

-- its stop
pub stop_here : (moments : Moments) (groups : List Group) (chain_jobs : List ℕ) (i : ℕ) (group : Group) → group ≡ group_at groups i → (jobs : List ℕ) → jobs ≡ chain_jobs
    → (stop : Stop) → IsStop moments group (slice_index jobs i) stop → IsStop moments (group_at groups i) (slice_index chain_jobs i) stop
stop_here moments groups chain_jobs i group is_group jobs same stop is =
    subst (λ (g : Group). IsStop moments g (slice_index chain_jobs i) stop) is_group
    (subst (λ (js : List ℕ). IsStop moments group (slice_index js i) stop) same is)
