-- Groups that read no earlier and write no later have hops that are no greater, and so chains of them have no greater bounds.
use Rattle.std.proofs.Common.{◌≡◌, ℕ, ℤ, pos, ◌≤◌, Bool, true, false, cond, List, [], ◌∷◌, map, refl, sym, ap, ◌∙◌, subst, arith}
use Rattle.std.specs.Prelude.{◌+ℤ◌, ◌-ℤ◌, ◌≤ℤ◌, ◌==◌, All}
use Rattle.std.proofs.lemmas.Int.{ints}
use Rattle.std.proofs.lemmas.List.Elements.{All-head, All-tail}
use Rattle.cl_model.specs.declared.group.Group.{Group}
use Rattle.cl_runs.specs.TaskTiming.{System, timing_at}
use Rattle.cl_comm.specs.Windows.{spot_at}
use Rattle.cl_comm.proofs.Responses.{reads_stay, ends_rise}
use Rattle.cl_hop.specs.{declared.group_timing.GroupTiming.GroupTiming, Bounds.{last_of, greatest_reaction, greatest_reduced, greatest_age, greatest_delay, Lengths, AreBoundsOf}, Hops.{group_timing, saves, lag, hop, forward_hop, backward_hop, hops}, NoGreater.{StaysWithin, AreNoGreater}}

-- a group of a task whose response is no greater reads and writes within the window of the greater one
pub stays_within : (system : System) (responses others : ℕ → ℕ) (group : Group) → responses group.task ≤ others group.task
    → StaysWithin (group_timing system responses group) (group_timing system others group)
unfolding group_timing
stays_within system responses others group le =
    let timing = timing_at system group.task in
    record {
      task = refl;
      core = refl;
      priority = refl;
      is_timed = refl;
      jitter = refl;
      distance = refl;
      read = omega (arith, reads_stay timing.access (spot_at timing group.first) (responses group.task) (others group.task));
      write = ends_rise timing.access (spot_at timing group.last) (responses group.task) (others group.task) le;
    }

-- ---- hops

-- a lag by what it depends on
lag_by : (same saved : Bool) (jitter write read : ℕ) → ℤ
lag_by same saved jitter write read = cond same (pos 1) (cond saved (pos jitter -ℤ pos read) (pos write -ℤ pos read))

lag_rises : (same saved : Bool) (jitter less more later earlier : ℕ) → less ≤ more → earlier ≤ later
    → lag_by same saved jitter less later ≤ℤ lag_by same saved jitter more earlier
unfolding lag_by
lag_rises true saved jitter less more later earlier le ge = omega (arith, ints)
lag_rises false true jitter less more later earlier le ge = omega (arith, ints, ge)
lag_rises false false jitter less more later earlier le ge = omega (arith, ints, le, ge)

saves_same : (writer reader a b : GroupTiming) → StaysWithin writer a → StaysWithin reader b → saves writer reader ≡ saves a b
saves_same writer reader a b w r =
    let core = w.core in
    let priority = w.priority in
    let timed = w.is_timed in
    let other_core = r.core in
    let other_priority = r.priority in
    let other_timed = r.is_timed in
    cc

-- where the writer and the reader of a hop stay within their windows, its lag is no greater, and neither is the hop
pub lag_no_greater : (writer reader a b : GroupTiming) → StaysWithin writer a → StaysWithin reader b → lag writer reader ≤ℤ lag a b
unfolding lag_by
lag_no_greater writer reader a b w r =
    let task : (writer.task == reader.task) ≡ (a.task == b.task) =
    ap (λ n. n == reader.task) w.task ∙ ap (λ n. a.task == n) r.task in
    subst (λ z. z ≤ℤ lag a b)
    (ap (λ same. lag_by same (saves a b) a.jitter writer.write reader.read) (sym task)
    ∙ ap (λ saved. lag_by (writer.task == reader.task) saved a.jitter writer.write reader.read) (sym (saves_same writer reader a b w r))
    ∙ ap (λ n. lag_by (writer.task == reader.task) (saves writer reader) n writer.write reader.read) (sym w.jitter))
    (lag_rises (a.task == b.task) (saves a b) a.jitter writer.write a.write reader.read b.read w.write r.read)

over_distance : (distance : ℕ) (less more : ℤ) → less ≤ℤ more → ((pos distance -ℤ pos 1) +ℤ less) ≤ℤ ((pos distance -ℤ pos 1) +ℤ more)
over_distance distance less more le = omega (arith, ints, le)

hop_no_greater : (distance : ℕ) (writer reader a b : GroupTiming) → StaysWithin writer a → StaysWithin reader b
    → hop distance writer reader ≤ℤ hop distance a b
hop_no_greater distance writer reader a b w r =
    over_distance distance (lag writer reader) (lag a b) (lag_no_greater writer reader a b w r)

forward_no_greater : (writer reader a b : GroupTiming) → StaysWithin writer a → StaysWithin reader b
    → forward_hop writer reader ≤ℤ forward_hop a b
forward_no_greater writer reader a b w r =
    subst (λ d. hop d writer reader ≤ℤ forward_hop a b) (sym r.distance) (hop_no_greater b.distance writer reader a b w r)

backward_no_greater : (writer reader a b : GroupTiming) → StaysWithin writer a → StaysWithin reader b
    → backward_hop writer reader ≤ℤ backward_hop a b
backward_no_greater writer reader a b w r =
    subst (λ d. hop d writer reader ≤ℤ backward_hop a b) (sym w.distance) (hop_no_greater a.distance writer reader a b w r)

-- ---- sums along the groups of a chain

module _ (timing other : Group → GroupTiming) where
  abbrev StaysThere : Group → Type 0
  StaysThere group = StaysWithin (timing group) (other group)

  hops_no_greater : (f : GroupTiming → GroupTiming → ℤ)
      → ((writer reader a b : GroupTiming) → StaysWithin writer a → StaysWithin reader b → f writer reader ≤ℤ f a b)
      → (first : Group) (groups : List Group) → StaysThere first → All StaysThere groups
      → hops f (timing first) (map timing groups) ≤ℤ hops f (other first) (map other groups)
  hops_no_greater f rises first [] is all = omega (arith, ints)
  hops_no_greater f rises first (next ∷ groups) is all =
      let here = All-head StaysThere next groups all in
      let step = rises (timing first) (timing next) (other first) (other next) is here in
      let rest = hops_no_greater f rises next groups here (All-tail StaysThere next groups all) in
      omega (arith, ints, step, rest)

  pub last_stays : (first : Group) (groups : List Group) → StaysThere first → All StaysThere groups
      → StaysWithin (last_of (timing first) (map timing groups)) (last_of (other first) (map other groups))
  last_stays first [] is all = is
  last_stays first (next ∷ groups) is all = last_stays next groups (All-head StaysThere next groups all) (All-tail StaysThere next groups all)

  reaction_no_greater : (groups : List Group) → All StaysThere groups → greatest_reaction (map timing groups) ≤ℤ greatest_reaction (map other groups)
  reaction_no_greater [] all = omega (arith, ints)
  reaction_no_greater (first ∷ groups) all =
      let is = All-head StaysThere first groups all in
      let rest = All-tail StaysThere first groups all in
      let last = last_stays first groups is rest in
      omega (arith, ints, is.distance, is.read, hops_no_greater forward_hop forward_no_greater first groups is rest, last.write)

  reduced_no_greater : (groups : List Group) → All StaysThere groups → greatest_reduced (map timing groups) ≤ℤ greatest_reduced (map other groups)
  reduced_no_greater [] all = omega (arith, ints)
  reduced_no_greater (first ∷ groups) all =
      let is = All-head StaysThere first groups all in
      let rest = All-tail StaysThere first groups all in
      let last = last_stays first groups is rest in
      omega (arith, ints, is.read, hops_no_greater backward_hop backward_no_greater first groups is rest, last.write)

  age_no_greater : (groups : List Group) → All StaysThere groups → greatest_age (map timing groups) ≤ℤ greatest_age (map other groups)
  age_no_greater [] all = omega (arith, ints)
  age_no_greater (first ∷ groups) all =
      let is = All-head StaysThere first groups all in
      let rest = All-tail StaysThere first groups all in
      let last = last_stays first groups is rest in
      omega (arith, ints, reduced_no_greater (first ∷ groups) all, last.distance)

  delay_no_greater : (groups : List Group) → All StaysThere groups → greatest_delay (map timing groups) ≤ℤ greatest_delay (map other groups)
  delay_no_greater [] all = omega (arith, ints)
  delay_no_greater (first ∷ groups) all =
      let is = All-head StaysThere first groups all in
      let rest = All-tail StaysThere first groups all in
      let last = last_stays first groups is rest in
      omega (arith, ints, hops_no_greater forward_hop forward_no_greater first groups is rest, last.write)

-- where groups stay within the windows of others, no bound of a chain of them is greater
pub bounds_no_greater : (timing other : Group → GroupTiming) (groups : List Group)
    → All (λ (group : Group). StaysWithin (timing group) (other group)) groups
    → (bounds others : Lengths) → AreBoundsOf (map timing groups) bounds → AreBoundsOf (map other groups) others → AreNoGreater bounds others
bounds_no_greater timing other groups all bounds others are are_others = record {
  reaction = omega (arith, ints, are.reaction, are_others.reaction, reaction_no_greater timing other groups all);
  age = omega (arith, ints, are.age, are_others.age, age_no_greater timing other groups all);
  reduced = omega (arith, ints, are.reduced, are_others.reduced, reduced_no_greater timing other groups all);
  delay = omega (arith, ints, are.delay, are_others.delay, delay_no_greater timing other groups all);
}
