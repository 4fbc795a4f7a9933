-- In a legal run, the bounds by walks are at least as long as from the first group's earlier job to the last group's
-- later one, for any two jobs of each group, one after the other, that are linked by lags.
use Rattle.std.proofs.Common.{◌≡◌, ℕ, ℤ, pos, suc, ◌-◌, ◌<◌, inl, inr, List, [], ◌∷◌, length, ap, ◌∙◌, arith}
use Rattle.std.specs.Prelude.{◌+ℤ◌, ◌-ℤ◌, ◌≤ℤ◌, ◌⊎◌}
use Rattle.std.proofs.lemmas.Int.{ints}
use Rattle.cl_model.specs.{declared.group.Group.Group, Groups.group_at}
use Rattle.cl_runs.specs.{TaskTiming.System, Table.job_at, Run.{Run, jobs_of}, Legal.IsLegal, Chains.{first_group, last_group}}
use Rattle.cl_hop.specs.{Hops.lag, declared.group_timing.GroupTiming.GroupTiming}
use Rattle.cl_hop.proofs.AlongChains.{last_timing}
use Rattle.cl_phase.specs.{declared.stop.Stop.Stop, Pace.AreNeighbours, Walks.{pace_at, lag_at, last_place}, TightBounds.{span_of, length_from, reduced_from, bounds_from}}
use Rattle.cl_phase.proofs.{Walking.{KeepsPhase, AreLinkedJobs, length_covers, reduced_covers}, WalkStarts.{AreStops, IsArrivalAt, after_arrives, length_bounded, age_bounded, reduced_bounded}}

-- when a job of the group of a place arrives
abbrev pub arrival_in : Run → List Group → (place job : ℕ) → ℕ
arrival_in run groups place job = (job_at (jobs_of run (group_at groups place).task) job).arrival

-- the lag of the hop from the group of a place to the next
abbrev pub lag_between : (timing : Group → GroupTiming) → List Group → (place : ℕ) → ℤ
lag_between timing groups place =
    lag (timing (group_at groups place)) (timing (group_at groups (suc place)))

-- stops are those of groups of a system: one a group, with the lags of their hops, and in each legal run neighbouring
-- jobs of a group arrive as its pace says
pub record AreStopsOf (system : System) (timing : Group → GroupTiming) (groups : List Group) (stops : List Stop) : Type 0 where
  pub as_many : length stops ≡ length groups
  pub lags : (place : ℕ) → suc place < length groups → lag_at stops place ≡ lag_between timing groups place
  pub neighbours : (run : Run) → IsLegal system run → (place job : ℕ) → place < length groups
      → suc job < length (jobs_of run (group_at groups place).task)
      → AreNeighbours (pace_at stops place) (pos (arrival_in run groups place job)) (pos (arrival_in run groups place (suc job)))

-- the span of groups, by their first and last
pub span_is : (timing : Group → GroupTiming) (groups : List Group) → 0 < length groups
    → span_of timing groups
    ≡ (pos (timing (last_group groups)).write -ℤ pos (timing (first_group groups)).read)
span_is timing [] some = absurd (omega (arith, some))
span_is timing (first ∷ later) some =
    let place : length later ≡ length (first ∷ later) - 1 = omega arith in
    ap (λ (t : GroupTiming). pos t.write -ℤ pos (timing first).read)
    (last_timing timing first later
    ∙ ap (λ n. timing (group_at (first ∷ later) n)) place)

through : (a b c : ℤ) → a ≤ℤ b → b ≤ℤ c → a ≤ℤ c
through a b c h k = omega (arith, ints, h, k)

pub follows : (before after lag other : ℤ) → other ≡ lag → (before +ℤ pos 1) ≤ℤ (after +ℤ lag) → (before +ℤ pos 1) ≤ℤ (after +ℤ other)
follows before after lag other same h = omega (arith, ints, same, h)

-- of each group a job of the run that isn't the last one, with its next job less than the lag before the next group's
pub record AreMissedJobs (timing : Group → GroupTiming) (groups : List Group) (run : Run) (jobs : ℕ → ℕ) : Type 0 where
  pub in_table : (place : ℕ) → place < length groups → suc (jobs place) < length (jobs_of run (group_at groups place).task)
  pub missed : (place : ℕ) → suc place < length groups
      → (pos (arrival_in run groups (suc place) (jobs (suc place))) +ℤ pos 1)
      ≤ℤ (pos (arrival_in run groups place (suc (jobs place))) +ℤ lag_between timing groups place)

module _ (system : System) (timing : Group → GroupTiming) (groups : List Group) (stops : List Stop) (of : AreStopsOf system timing groups stops)
    (place : ℕ) (are : AreStops stops place) (span : ℤ) (write : ℕ) (run : Run) (legal : IsLegal system run) (jobs : ℕ → ℕ)
    (missed : AreMissedJobs timing groups run jobs) where
  abbrev before : ℕ → ℤ
  before other = pos (arrival_in run groups other (jobs other))

  abbrev after : ℕ → ℤ
  after other = pos (arrival_in run groups other (suc (jobs other)))

  linked_jobs : AreLinkedJobs stops before after
  linked_jobs = record {
    neighbours = λ other h.
        let within : other < length groups = omega (arith, h, of.as_many) in
        of.neighbours run legal other (jobs other) within (missed.in_table other within);
    linked = λ other h.
        let within : suc other < length groups = omega (arith, h, of.as_many) in
        follows (before (suc other)) (after other) _ (lag_at stops other) (of.lags other within) (missed.missed other within);
  }

  keeps_or_first : (KeepsPhase stops place) ⊎ (place ≡ 0)
  keeps_or_first = elim are.start [
    | inl kept ↦ inl kept
    | inr none ↦ inr none.0
  ]

  arrives : IsArrivalAt (pace_at stops place) (after place)
  arrives = after_arrives (pace_at stops place) (before place) (after place) (linked_jobs.neighbours place are.is_place)

  -- to the later job
  pub reaction_covers : ((after (last_place stops) -ℤ before 0) +ℤ span) ≤ℤ pos (bounds_from stops span write place).reaction
  reaction_covers = through _ (length_from stops span place (after place)) _
      (length_covers stops are.stepped before after linked_jobs place are.is_place span) (length_bounded stops place are span write (after place) arrives)

  pub age_covers : ((after (last_place stops) -ℤ before 0) +ℤ span) ≤ℤ pos (bounds_from stops span write place).age
  age_covers = through _ (length_from stops span place (after place)) _
      (length_covers stops are.stepped before after linked_jobs place are.is_place span) (age_bounded stops place are span write (after place) arrives)

  -- to the earlier job
  pub reduced_covers_jobs : ((before (last_place stops) -ℤ before 0) +ℤ span) ≤ℤ pos (bounds_from stops span write place).reduced
  reduced_covers_jobs = through _ (reduced_from stops span place (after place)) _
      (reduced_covers stops are.stepped before after linked_jobs place are.is_place span keeps_or_first)
      (reduced_bounded stops place are span write (after place) arrives)
