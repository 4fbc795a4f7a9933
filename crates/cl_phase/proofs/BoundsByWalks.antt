-- The longest walks are the tight bounds. Times are in ticks.
use Rattle.std.proofs.Common.{◌≡◌, ℕ, List, refl, ap, ◌∙◌}
use Rattle.cl_model.specs.declared.group.Group.{Group}
use Rattle.cl_runs.specs.TaskTiming.{System}
use Rattle.cl_hop.specs.declared.group_timing.GroupTiming.{GroupTiming}
use Rattle.cl_phase.specs.{declared.{stop.Stop.Stop, walk.{Ends.Ends, Longest.Longest}}, Walks.pace_at, TightBounds.{hyperperiod_in, starts, bounds_from, slowest, stops_of, span_of, last_write, tight_bounds}, Inner.Longest.{span_between, longest_walk, bounds_by}}

bounds_from_place : (stops : List Stop) (ends : Ends) (place : ℕ)
    → bounds_by (longest_walk stops ends place (starts (pace_at stops place) (hyperperiod_in stops))) ≡ bounds_from stops (span_between ends) ends.write place
unfolding bounds_from
bounds_from_place stops ends place = refl

module _ (system : System) (timing : Group → GroupTiming) (groups : List Group) (stops : List Stop) (ends : Ends) (place ticks : ℕ) (longest : Longest)
    (stops_are : stops ≡ stops_of system timing groups) (place_is : place ≡ slowest stops) (ticks_is : ticks ≡ hyperperiod_in stops)
    (is : longest ≡ longest_walk stops ends place (starts (pace_at stops place) ticks)) where
  pub bounds_by_walks : span_between ends ≡ span_of timing groups → ends.write ≡ last_write timing groups
      → bounds_by longest ≡ tight_bounds system timing groups
  unfolding tight_bounds
  bounds_by_walks span_is write_is =
      ap bounds_by (is ∙ ap (λ n. longest_walk stops ends place (starts (pace_at stops place) n)) ticks_is)
      ∙ bounds_from_place stops ends place
      ∙ ap (bounds_from stops (span_between ends) ends.write) place_is
      ∙ ap (λ z. bounds_from stops z ends.write (slowest stops)) span_is
      ∙ ap (λ n. bounds_from stops (span_of timing groups) n (slowest stops)) write_is
      ∙ ap (λ (s : List Stop). bounds_from s (span_of timing groups) (last_write timing groups) (slowest s)) stops_are
