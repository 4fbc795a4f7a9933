-- A legal run goes on to one in which, after the jobs of a backward chain, each group's next one has written.
use Rattle.std.proofs.Common.{◌≡◌, ℕ, zero, suc, ◌+◌, ◌-◌, ◌<◌, ◌≤◌, inl, inr, List, [], ◌∷◌, length, subst, arith}
use Rattle.std.specs.Prelude.{slice_index}
use Rattle.std.proofs.lemmas.Bool.{cases_lt}
use Rattle.cl_model.specs.{declared.group.Group.Group, Groups.group_at, Timing.greatest_distance}
use Rattle.cl_runs.specs.{TaskTiming.{System, timing_at, IsSound}, Run.{Run, jobs_of}, Legal.IsLegal, Moments.Writes, GoesOn.GoesOn, Chains.{Moments, HasWritten, AreBackwardLinks, last_group}, RunChains.run_moments}
use Rattle.cl_runs.proofs.Extension.{extension}
use Rattle.cl_hop.specs.declared.group_timing.GroupTiming.{GroupTiming}
use Rattle.cl_hop.proofs.{LaterRuns.{next_in_table, next_writes}, ChainBounds.AreAlwaysKept}

-- how long after a job has arrived the next one of its group has written
abbrev room_of : System → (timing : Group → GroupTiming) → Group → ℕ
room_of system timing group = greatest_distance (timing_at system group.task).pattern + (timing group).write

abbrev room : System → (timing : Group → GroupTiming) → List Group → ℕ
room system timing [] = 0
room system timing (group ∷ groups) = room_of system timing group + room system timing groups

room_holds : (system : System) (timing : Group → GroupTiming) (groups : List Group) (place : ℕ) → place < length groups
    → room_of system timing (group_at groups place) ≤ room system timing groups
room_holds system timing [] place h = absurd (omega (arith, h))
room_holds system timing (group ∷ groups) zero h = omega arith
room_holds system timing (group ∷ groups) (suc place) h = omega (arith, room_holds system timing groups place (omega (arith, h)))

-- each job of a backward chain has written
each_written : (moments : Moments) (groups : List Group) (jobs : List ℕ) → AreBackwardLinks moments groups jobs → (place : ℕ) → place < length groups
    → HasWritten moments (group_at groups place) (slice_index jobs place)
each_written moments groups jobs links place h = elim (cases_lt (suc place) (length groups)) [
  | inl more ↦ record { write = (links.linked place more).write; writes = (links.linked place more).writes }
  | inr none ↦
      let group : length groups - 1 ≡ place = omega (arith, none, h) in
      let job : length jobs - 1 ≡ place = omega (arith, group, links.one_a_group) in
      subst (λ n. HasWritten moments (group_at groups n) (slice_index jobs place)) group
      (subst (λ n. HasWritten moments (last_group groups) (slice_index jobs n)) job links.last_written)
]

-- a legal run that goes on from a run, in which after each of these jobs the next one has written
pub record HasNextJobs (system : System) (run : Run) (groups : List Group) (jobs : List ℕ) : Type 0 where
  pub longer : Run
  pub legal : IsLegal system longer
  pub goes_on : GoesOn run longer
  pub in_table : (place : ℕ) → place < length groups → suc (slice_index jobs place) < length (jobs_of longer (group_at groups place).task)
  pub written : (place : ℕ) → place < length groups → HasWritten (run_moments system longer) (group_at groups place) (slice_index jobs place + 1)

pub next_jobs : (system : System) → IsSound system → (timing : Group → GroupTiming) (groups : List Group) → AreAlwaysKept system timing groups
    → (run : Run) → IsLegal system run → (jobs : List ℕ) → AreBackwardLinks (run_moments system run) groups jobs → HasNextJobs system run groups jobs
unfolding run_moments
next_jobs system sound timing groups keep run legal jobs links =
    let (longer, end, legal_longer, goes_on) = extension system sound run legal (run.table.ticks + room system timing groups) (omega arith) in
    record {
      longer = longer;
      legal = legal_longer;
      goes_on = goes_on;
      in_table = λ place h.
          let group = group_at groups place in
          let written = each_written (run_moments system run) groups jobs links place h in
          next_in_table system sound run legal group (timing group) (keep place h) longer legal_longer goes_on (slice_index jobs place)
          written.writes.in_table (omega (arith, end, room_holds system timing groups place h));
      written = λ place h.
          let group = group_at groups place in
          let written = each_written (run_moments system run) groups jobs links place h in
          let next = next_writes system sound run legal group (timing group) (keep place h) longer legal_longer goes_on (slice_index jobs place)
          written.writes.in_table (omega (arith, end, room_holds system timing groups place h)) in
          let one : suc (slice_index jobs place) ≡ slice_index jobs place + 1 = omega arith in
          record {
            write = next.0;
            writes = subst (λ n. Writes system longer group.task n group.last next.0) one next.1;
          };
    }
