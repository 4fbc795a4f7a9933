-- Each forward chain that counts has the length of one in the first hyperperiod of them.
use Rattle.std.proofs.Common.{◌≡◌, ℕ, suc, ◌+◌, ◌-◌, ◌*◌, ◌%◌, ◌<◌, ◌≤◌, true, List, length, refl, sym, ap, subst, ◌∙◌, arith}
use Rattle.std.specs.Int.{◌∣◌}
use Rattle.cl_model.specs.{declared.{model.SystemModel.SystemModel, group.Group.Group}, Groups.{no_group, groups_at}, Validity.IsValid}
use Rattle.cl_runs.specs.{TaskTiming.System, SystemOf.system_of, Chains.{JobChain, first_job}}
use Rattle.cl_exact.specs.{declared.beat.Beat.Beat, TimedPeriodic.is_timed_periodic_chain, Hyperperiod.IsMultipleOfPeriods, ExactLengths.IsSteadyForward, Turns.HasEarlyTwin, Inner.Beats.{AreBeatsOf, beat_in, read_at, first_reader, forward_start, forward_end, reaction_of}}
use Rattle.cl_exact.specs.Inner.Periods.{IsMultipleOfFirst}
use Rattle.cl_exact.proofs.{BeatFacts.reads_rise, PeriodFacts.period_is, Shifts.{turns_of, whole_turns, complete_rises, same_turn, rest_below}, StartUps.{steady_late, begun_complete}, FixedMoments.{reads_at, reads_is, forward_length, forward_made}, FoundExact.{begun, steady_first}}
use Rattle.cl_exact.proofs.{Existence.{has_forward, has_latest}, ModelBeats.timed_chain, ModelExact.has_beats}

-- a common multiple of the periods of the groups is one of those of the beats
multiple_of_beats : (system : System) (groups : List Group) (beats : List Beat) (ticks : ℕ) → AreBeatsOf system groups beats
    → IsMultipleOfPeriods system groups ticks → IsMultipleOfFirst beats (length beats) ticks
multiple_of_beats system groups beats ticks of multiple place _ there =
    let within : place < length groups = omega (arith, there, of.as_many) in
    subst (λ n. n ∣ ticks) (period_is system groups beats place of within) (multiple place no_group within)

twin_of : (system : System) (groups : List Group) (beats : List Beat) → AreBeatsOf system groups beats → (ticks : ℕ) → 1 ≤ ticks
    → IsMultipleOfPeriods system groups ticks → (chain : JobChain) → IsSteadyForward system groups chain
    → HasEarlyTwin (IsSteadyForward system groups) ticks chain
twin_of system groups beats of ticks some multiple chain steady =
    let are = of.are_beats in
    let by_beats = multiple_of_beats system groups beats ticks of multiple in
    let latest = has_latest beats in
    let beat = beat_in beats 0 in
    let first : ℕ = first_reader beat latest.0 in
    let late = steady_late beats are first latest.0 refl in
    let complete = begun_complete beats are first latest.0 latest.1 late in
    let turns : ℕ = turns_of beats are ticks by_beats 0 in
    let from = steady_first system groups beats of latest.0 first latest.1 refl chain steady in
    let rest : ℕ = (first_job chain - first) % turns in
    let below : rest < turns = rest_below beats are ticks by_beats some (first_job chain - first) in
    let job : ℕ = first + rest in
    let job_complete = complete_rises beats are ticks by_beats first job (omega arith) complete in
    let forward = has_forward beats job in
    let whole : turns * beat.period ≡ ticks = whole_turns beats are ticks by_beats 0 are.some in
    let made = forward_made system groups beats of job forward.0 forward.1 job_complete in
    let twin : JobChain = record { from = forward_start beats job; to = forward_end beats job; jobs = forward.0 } in
    let job_is : first_job twin ≡ job = forward.1.each 0 are.some in
    let some_group : 0 < length groups = omega (arith, of.as_many, are.some) in
    record {
      twin = twin;
      is_chain = record {
        is_chain = made;
        read = read_at beat (first_job twin);
        reads = reads_at system groups beats of 0 (first_job twin) some_group;
        steady = begun system groups beats of latest.0 (read_at beat (first_job twin)) latest.1
            (omega (arith, late, ap (read_at beat) job_is, reads_rise beat first job (omega arith)));
      };
      same = forward_length system groups beats of twin made ∙ ap (reaction_of beats) job_is
          ∙ same_turn beats are ticks by_beats some first (first_job chain) from complete
          ∙ sym (forward_length system groups beats of chain steady.is_chain);
      early = λ other is.
          let start = reads_is system groups beats of 0 (first_job other - 1) other.from some_group is.is_chain.from in
          let not_before = steady_first system groups beats of latest.0 first latest.1 refl other is in
          let first_some : 1 ≤ first = complete 0 are.some in
          let later : read_at beat (first - 1 + turns) ≡ read_at beat (first - 1) + ticks = omega (arith, whole) in
          let here : job - 1 < first - 1 + turns = omega (arith, below, first_some) in
          let near : read_at beat (suc (job - 1)) ≤ read_at beat (first - 1 + turns) = reads_rise beat (suc (job - 1)) (first - 1 + turns) here in
          let up : read_at beat (suc (job - 1)) ≡ read_at beat (job - 1) + beat.period = omega arith in
          omega (
            arith,
            start,
            reads_rise beat (first - 1) (first_job other - 1) (omega (arith, not_before)),
            later,
            near,
            up,
            (are.each 0 are.some).some_period,
          );
    }

-- so it is for each chain of a valid model
pub forward_twins : (model : SystemModel) → IsValid model → (chain : ℕ) → chain < length model.chains
    → is_timed_periodic_chain model chain ≡ true → (ticks : ℕ) → 1 ≤ ticks
    → IsMultipleOfPeriods (system_of model) (groups_at model chain) ticks → (jobs : JobChain) → IsSteadyForward (system_of model) (groups_at model chain) jobs
    → HasEarlyTwin (IsSteadyForward (system_of model) (groups_at model chain)) ticks jobs
forward_twins model valid chain within timed ticks some multiple =
    let beats = has_beats model valid (groups_at model chain) (timed_chain model valid chain within timed) in
    twin_of (system_of model) (groups_at model chain) beats.0 beats.1 ticks some multiple
