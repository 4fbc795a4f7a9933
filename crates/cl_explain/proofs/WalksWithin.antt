-- The walk that is shown has an arrival for each group of its chain.
use Rattle.std.proofs.Common.{◌≡◌, ℕ, ◌+◌, ◌-◌, ◌<◌, ◌≤◌, pos, ℤ, List, [], ◌++◌, length, map, sym, ap, ◌∙◌, subst, codes, arith}
use Rattle.std.proofs.lemmas.List.{append_assoc}
use Rattle.std.proofs.lemmas.List.FromFn.{length-map-range_with_len}
use Rattle.cl_model.specs.{declared.{model.SystemModel.SystemModel, limits.TheConstants.MOST_STEPS, chain.{LengthKind.TheVariants.Reaction, RequirementKind.TheVariants.Length}, group.Group.Group}, Groups.groups_at, Validity.IsValid}
use Rattle.cl_model.proofs.GroupFacts.{groups_at_some, groups_at_few}
use Rattle.cl_runs.specs.SystemOf.{system_of}
use Rattle.cl_hop.specs.declared.group_timing.GroupTiming.{GroupTiming}
use Rattle.cl_phase.specs.{declared.walked.Walked.Walked, Pace.previous, Walks.{pace_at, last_place, onward, back}, TightBounds.{stops_of, span_of, last_write, slowest}, Walked.{walk_start, missed, taken, walked_of}}
use Rattle.cl_phase.proofs.{SlowestFacts.slowest_within, StopFacts.length_stops}
use Rattle.cl_tight.specs.TightTimings.{tight_timing}
use Rattle.cl_explain.specs.Explanation.{arrival_lines, walk_lines}

-- the walk that is found of the groups of a chain, from what is known of each, is that of the chain
pub its_walk : (model : SystemModel) (chain : ℕ) (timings : List GroupTiming) (groups : List Group) (reaction : ℕ) (walk : Walked)
    → groups ≡ groups_at model chain → timings ≡ map (tight_timing (system_of model)) (groups_at model chain)
    → ((timing : Group → GroupTiming) → timings ≡ map timing groups → walk ≡ walked_of (system_of model) timing groups reaction)
    → walk ≡ walked_of (system_of model) (tight_timing (system_of model)) (groups_at model chain) reaction
its_walk model chain timings groups reaction walk same are found =
    let timing = tight_timing (system_of model) in
    found timing (are ∙ ap (map timing) (sym same)) ∙ ap (λ (g : List Group). walked_of (system_of model) timing g reaction) same

-- of so many groups, which are few
pub record IsWithin (groups : ℕ) (walk : Walked) : Type 0 where
  pub few : groups ≤ MOST_STEPS
  pub place : walk.place < groups
  pub missed : length walk.missed ≤ groups
  pub taken : walk.place + length walk.taken ≤ groups

module _ (model : SystemModel) (valid : IsValid model) (chain : ℕ) (h : chain < length model.chains) (reaction : ℕ) where
  shown_within : IsWithin (length (groups_at model chain)) (walked_of (system_of model) (tight_timing (system_of model)) (groups_at model chain) reaction)
  unfolding walked_of missed taken
  shown_within =
      let system = system_of model in
      let groups = groups_at model chain in
      let stops = stops_of system (tight_timing system) groups in
      let place = slowest stops in
      let start = pos (walk_start (Length Reaction) stops (span_of (tight_timing system) groups) (last_write (tight_timing system) groups) place reaction) in
      let count : length stops ≡ length groups = length_stops system (tight_timing system) groups [] in
      let some = groups_at_some model valid chain h in
      let within : place < length stops = slowest_within stops (omega (arith, count, some)) in
      record {
        few = groups_at_few model valid chain h;
        place = omega (arith, within, count);
        missed = omega (arith, within, count, length-map-range_with_len (λ group. back stops place (previous (pace_at stops place) start) (place - group)) 0 (place + 1));
        taken = omega (arith, within, count, length-map-range_with_len (onward stops place start) 0 (last_place stops - place + 1));
      }

  pub walk_within : (walk : Walked) → walk ≡ walked_of (system_of model) (tight_timing (system_of model)) (groups_at model chain) reaction → IsWithin (length (groups_at model chain)) walk
  walk_within walk is = subst (IsWithin (length (groups_at model chain))) (sym is) shown_within

-- its lines
pub walk_lines_are : (model : SystemModel) (chain reaction : ℕ) (walk : Walked) → walk ≡ walked_of (system_of model) (tight_timing (system_of model)) (groups_at model chain) reaction
    → (miss take : List ℤ) → miss ≡ walk.missed → take ≡ walk.taken → (t0 t1 t2 : List ℕ)
    → t1 ≡ t0 ++ arrival_lines (codes "missed ") model chain 0 miss → t2 ≡ t1 ++ arrival_lines (codes "taken ") model chain walk.place take
    → t2 ≡ t0 ++ walk_lines model chain reaction
unfolding walk_lines
walk_lines_are model chain reaction walk is miss take miss_is take_is t0 t1 t2 h1 h2 =
    let lines : Walked → List ℕ = λ w. arrival_lines (codes "missed ") model chain 0 w.missed ++ arrival_lines (codes "taken ") model chain w.place w.taken in
    h2 ∙ ap (λ (t : List ℕ). t ++ arrival_lines (codes "taken ") model chain walk.place take) h1
    ∙ append_assoc t0 (arrival_lines (codes "missed ") model chain 0 miss) (arrival_lines (codes "taken ") model chain walk.place take)
    ∙ ap (λ (list : List ℤ). t0 ++ (arrival_lines (codes "missed ") model chain 0 list ++ arrival_lines (codes "taken ") model chain walk.place take)) miss_is
    ∙ ap (λ (list : List ℤ). t0 ++ (arrival_lines (codes "missed ") model chain 0 walk.missed ++ arrival_lines (codes "taken ") model chain walk.place list)) take_is
    ∙ ap (λ (w : Walked). t0 ++ lines w) is
