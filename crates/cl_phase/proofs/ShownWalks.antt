-- The walk that is shown, from its pieces.
use Rattle.std.proofs.Common.{◌≡◌, ℕ, ℤ, pos, List, ap, ◌∙◌}
use Rattle.cl_model.specs.declared.{chain.{LengthKind.TheVariants.Reaction, RequirementKind.{RequirementKind, TheVariants.Length}}, group.Group.Group}
use Rattle.cl_runs.specs.TaskTiming.{System}
use Rattle.cl_hop.specs.declared.group_timing.GroupTiming.{GroupTiming}
use Rattle.cl_phase.specs.{declared.{stop.Stop.Stop, walked.Walked.Walked}, Walks.pace_at, TightBounds.{stops_of, span_of, last_write, slowest, hyperperiod_in, starts}, Walked.{start_among, walk_start, missed, taken, walked_of}}

same_walk : (place place' : ℕ) (miss miss' take take' : List ℤ) → place ≡ place' → miss ≡ miss' → take ≡ take'
    → ◌≡◌ {A = Walked} (record { place = place; missed = miss; taken = take }) (record { place = place'; missed = miss'; taken = take' })
same_walk place place' miss miss' take take' e f g = cc

-- where the walk starts, from what code knows of the chain
pub start_is_there : (kind : RequirementKind) (stops all : List Stop) (span whole : ℤ) (write last place ticks bound : ℕ)
    → stops ≡ all → span ≡ whole → write ≡ last → place ≡ slowest stops → ticks ≡ hyperperiod_in stops
    → pos (start_among kind stops span write place bound (starts (pace_at stops place) ticks)) ≡ pos (walk_start kind all whole last (slowest all) bound)
start_is_there kind stops all span whole write last place ticks bound stops_are span_is write_is place_is ticks_are =
    let from : List Stop → ℤ → ℕ → ℕ → ℕ → ℤ = λ s n w p t. pos (start_among kind s n w p bound (starts (pace_at s p) t)) in
    ap (λ s. from s span write place ticks) stops_are ∙ ap (λ n. from all n write place ticks) span_is ∙ ap (λ w. from all whole w place ticks) write_is
    ∙ ap (λ p. from all whole last p ticks) (place_is ∙ ap slowest stops_are) ∙ ap (from all whole last (slowest all)) (ticks_are ∙ ap hyperperiod_in stops_are)

pub walk_is : (system : System) (timing : Group → GroupTiming) (groups : List Group) (reaction : ℕ) (stops : List Stop) (span : ℤ) (write place ticks : ℕ) (start : ℤ) (miss take : List ℤ)
    → stops ≡ stops_of system timing groups → span ≡ span_of timing groups → write ≡ last_write timing groups
    → place ≡ slowest stops → ticks ≡ hyperperiod_in stops
    → start ≡ pos (start_among (Length Reaction) stops span write place reaction (starts (pace_at stops place) ticks))
    → miss ≡ missed stops place start → take ≡ taken stops place start
    → ◌≡◌ {A = Walked} (record { place = place; missed = miss; taken = take }) (walked_of system timing groups reaction)
unfolding walked_of
walk_is system timing groups reaction stops span write place ticks start miss take stops_are span_is write_is place_is ticks_are start_is missed_are taken_are =
    let all = stops_of system timing groups in
    let here : place ≡ slowest all = place_is ∙ ap slowest stops_are in
    let begins = start_is ∙ start_is_there (Length Reaction) stops all span (span_of timing groups) write (last_write timing groups) place ticks reaction
    stops_are span_is write_is place_is ticks_are in
    same_walk _ _ _ _ _ _ here
    (missed_are ∙ ap (λ s. missed s place start) stops_are ∙ ap (λ p. missed all p start) here ∙ ap (missed all (slowest all)) begins)
    (taken_are ∙ ap (λ s. taken s place start) stops_are ∙ ap (λ p. taken all p start) here ∙ ap (taken all (slowest all)) begins)
