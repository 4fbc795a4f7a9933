-- Of the groups of a chain of a sound system, the bounds by walks from each that keeps its phase are the longest that
-- walks from its arrivals last, wherever these lie; so all of them give the same bounds, the tight ones.
use Rattle.std.proofs.Common.{◌≡◌, ℕ, ◌<◌, ◌≤◌, List, [], length, sym, ap, subst, ◌∙◌, arith, inl, inr}
use Rattle.std.specs.Prelude.{ℤ, pos, negsuc, ◌≤ℤ◌, All}
use Rattle.cl_model.specs.{declared.group.Group.Group, Holds.greatest_by}
use Rattle.cl_runs.specs.TaskTiming.{System, IsSound}
use Rattle.cl_stim.specs.{declared.phase.Phase.Phase, Phase.{IsPhase, IsArrivalOf}}
use Rattle.cl_stim.proofs.PhaseSteps.{first_arrives, first_after, first_before, last_arrives, last_before, last_after}
use Rattle.cl_hop.specs.{declared.group_timing.GroupTiming.GroupTiming, Timings.IsGroupOfTask}
use Rattle.cl_phase.specs.{declared.{pace.Pace.TheVariants.Kept, stop.Stop.Stop}, Pace.{IsPace, first_from, last_by}, Walks.pace_at, TightBounds.{stops_of, hyperperiod_in, slowest, starts, ticks_or_none, length_from, reduced_from, delay_from, bounds_from, span_of, last_write}}
use Rattle.cl_phase.specs.TightBounds.{tight_bounds}
use Rattle.cl_phase.proofs.{StartFacts.{start_within, start_reached}, SlowestFacts.{slowest_within, slowest_is_kept}, StopFacts.{length_stops, stop_is_pace, stops_step, stops_come_round, stops_hyperperiod}, WalkStarts.{AreStops, IsArrivalAt, length_bounded, reduced_bounded}}
use Rattle.cl_phase.proofs.{DelayWalks.delay_bounded, PhaseAnswers.LeadsTo, EachPhase.{IsGreatestOver, AreOverAll, each_phase}}

-- the steps of a kept phase lead to its arrivals
pub kept_leads : (phase : Phase) → IsPhase phase → LeadsTo (IsArrivalOf phase) (Kept phase)
unfolding first_from last_by
kept_leads phase is = record {
  first_arrives = first_arrives phase is;
  first_after = first_after phase is;
  first_least = first_before phase is;
  last_arrives = last_arrives phase is;
  last_before = last_before phase is;
  last_greatest = last_after phase is;
}

-- a number that some ticks are is that integer, where it isn't 0
ticks_are : (length : ℤ) (number : ℕ) → 1 ≤ number → ticks_or_none length ≡ number → length ≡ pos number
ticks_are (pos ticks) number some is = ap pos is
ticks_are (negsuc lacking) number some is = absurd (omega (arith, some, is))

-- so the greatest over all starts, where it bounds all arrivals, is the greatest over them
over_starts : (phase : Phase) → IsPhase phase → (ticks : ℕ) (value : ℤ → ℤ) (greatest : ℕ)
    → greatest ≡ greatest_by (λ arrival. ticks_or_none (value (pos arrival))) (starts (Kept phase) ticks)
    → ((arrival : ℤ) → IsArrivalOf phase arrival → value arrival ≤ℤ pos greatest) → IsGreatestOver (IsArrivalOf phase) value greatest
over_starts phase is ticks value greatest same above = record {
  above = above;
  attained = λ some. elim (start_reached phase is ticks (λ arrival. ticks_or_none (value (pos arrival)))) [
    | inl reached ↦ record {
      arrival = pos reached.at;
      arrives = reached.holds.arrives;
      is = ticks_are (value (pos reached.at)) greatest some (reached.is ∙ sym same);
    }
    | inr none ↦ absurd (omega (arith, some, same, none))
  ];
}

module _ (system : System) (sound : IsSound system) (timing : Group → GroupTiming) (groups : List Group) (all : All (IsGroupOfTask system) groups) where
  abbrev stops : List Stop
  stops = stops_of system timing groups

  module _ (place : ℕ) (phase : Phase) (within : place < length stops) (keeps : pace_at stops place ≡ Kept phase) where
    in_groups : (other : ℕ) → other < length stops → other < length groups
    in_groups other below = omega (arith, below, length_stops system timing groups [])

    is_phase : IsPhase phase
    is_phase = subst IsPace keeps (stop_is_pace system timing sound groups all [] place (in_groups place within))

    are_stops : AreStops stops place
    are_stops = record {
      is_place = within;
      stepped = λ other below. stops_step system timing sound groups all [] other (in_groups other below);
      some_tick = stops_hyperperiod system timing sound groups all [];
      round = λ other below. stops_come_round system timing sound groups all [] other (in_groups other below);
      start = inl (phase, keeps);
      taken = λ (other : Phase) keeps_other number moment below arrives.
          start_within other (subst IsPace keeps_other (stop_is_pace system timing sound groups all [] place (in_groups place within)))
          (hyperperiod_in stops) number moment (record { within = below; arrives = arrives });
    }

    arrives_there : (arrival : ℤ) → IsArrivalOf phase arrival → IsArrivalAt (pace_at stops place) arrival
    arrives_there arrival arrives = subst (λ pace. IsArrivalAt pace arrival) (sym keeps) arrives

    reaction_is : (span : ℤ) (write : ℕ) → (bounds_from stops span write place).reaction
        ≡ greatest_by (λ arrival. ticks_or_none (length_from stops span place (pos arrival))) (starts (Kept phase) (hyperperiod_in stops))
    unfolding bounds_from
    reaction_is span write =
        ap (λ pace. greatest_by (λ arrival. ticks_or_none (length_from stops span place (pos arrival))) (starts pace (hyperperiod_in stops))) keeps

    reduced_is : (span : ℤ) (write : ℕ) → (bounds_from stops span write place).reduced
        ≡ greatest_by (λ arrival. ticks_or_none (reduced_from stops span place (pos arrival))) (starts (Kept phase) (hyperperiod_in stops))
    unfolding bounds_from
    reduced_is span write =
        ap (λ pace. greatest_by (λ arrival. ticks_or_none (reduced_from stops span place (pos arrival))) (starts pace (hyperperiod_in stops))) keeps

    delay_is : (span : ℤ) (write : ℕ) → (bounds_from stops span write place).delay
        ≡ greatest_by (λ arrival. ticks_or_none (delay_from stops write place (pos arrival))) (starts (Kept phase) (hyperperiod_in stops))
    unfolding bounds_from
    delay_is span write =
        ap (λ pace. greatest_by (λ arrival. ticks_or_none (delay_from stops write place (pos arrival))) (starts pace (hyperperiod_in stops))) keeps

    pub over_all : (span : ℤ) (write : ℕ) → AreOverAll stops span write place (IsArrivalOf phase)
    over_all span write = record {
      within = within;
      leads = subst (LeadsTo (IsArrivalOf phase)) (sym keeps) (kept_leads phase is_phase);
      lengths = over_starts phase is_phase (hyperperiod_in stops) (length_from stops span place) (bounds_from stops span write place).reaction (reaction_is span write)
          (λ arrival arrives. length_bounded stops place are_stops span write arrival (arrives_there arrival arrives));
      reduced = over_starts phase is_phase (hyperperiod_in stops) (reduced_from stops span place) (bounds_from stops span write place).reduced (reduced_is span write)
          (λ arrival arrives. reduced_bounded stops place are_stops span write arrival (arrives_there arrival arrives));
      delays = over_starts phase is_phase (hyperperiod_in stops) (delay_from stops write place) (bounds_from stops span write place).delay (delay_is span write)
          (λ arrival arrives. delay_bounded stops place are_stops span write arrival (arrives_there arrival arrives));
    }

  -- each group that keeps its phase gives the tight bounds
  pub phases_agree : (place : ℕ) → place < length groups → (phase : Phase) → pace_at stops place ≡ Kept phase
      → bounds_from stops (span_of timing groups) (last_write timing groups) place ≡ tight_bounds system timing groups
  unfolding tight_bounds
  phases_agree place within phase keeps =
      let here : place < length stops = omega (arith, within, length_stops system timing groups []) in
      let slow = slowest_is_kept stops place phase here keeps in
      let span = span_of timing groups in
      let write = last_write timing groups in
      each_phase stops (λ other below. stops_step system timing sound groups all [] other (omega (arith, below, length_stops system timing groups []))) span write
      place (slowest stops) (IsArrivalOf phase) (IsArrivalOf slow.phase) (over_all place phase here keeps span write)
      (over_all (slowest stops) slow.phase (slowest_within stops (omega (arith, here))) slow.keeps span write)
