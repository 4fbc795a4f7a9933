-- The steps of a timed periodic group: it arrives where its jobs read, and from between two of its reads the next
-- arrival is the later one.
use Rattle.std.proofs.Common.{◌≡◌, ◌⊎◌, ℕ, suc, ◌+◌, ◌-◌, ◌*◌, ◌<◌, ◌≤◌, sym, ap, arith, inl, inr}
use Rattle.std.specs.Prelude.{ℤ, pos, negsuc, ◌+ℤ◌, ◌-ℤ◌, ◌*ℤ◌, ◌≤ℤ◌}
use Rattle.std.proofs.Math.Nat.{mul-le-mul_right}
use Rattle.std.proofs.lemmas.Bool.{cases_lt}
use Rattle.std.proofs.lemmas.Int.{ints}
use Rattle.cl_model.specs.{declared.group.Group.Group, Timing.least_distance}
use Rattle.cl_runs.specs.{Pattern.first_least, TaskTiming.{System, timing_at}}
use Rattle.cl_stim.specs.{declared.phase.Phase.Phase, Phase.IsArrivalOf}
use Rattle.cl_exact.specs.Hyperperiod.{period_of}
use Rattle.cl_phase.specs.{declared.pace.Pace.Pace, Pace.{first_from, last_by}}
use Rattle.cl_phase.proofs.PhaseAnswers.{LeadsTo}

-- when job 0 of a periodic group reads, and each after it
abbrev pub offset_of : System → Group → ℕ
offset_of system group = first_least (timing_at system group.task).pattern

abbrev pub read_in : System → Group → (job : ℕ) → ℕ
read_in system group job = offset_of system group + job * period_of system group

-- when they write
abbrev pub write_in : System → Group → (job : ℕ) → ℕ
write_in system group job = read_in system group job + (timing_at system group.task).deadline

-- its phase: one job a period
abbrev pub ideal_phase : System → Group → Phase
ideal_phase system group = record { period = period_of system group; offset = offset_of system group; count = 1; distance = period_of system group }

abbrev pub ReadsAt : System → Group → (moment : ℤ) → Type 0
ReadsAt system group = IsArrivalOf (ideal_phase system group)

-- the lag of a hop: up to the write, or 1 within one task, whose next read is the same
abbrev pub IsIdealLag : System → (writer reader : Group) → (lag : ℤ) → Type 0
IsIdealLag system writer reader lag = (lag ≡ pos (timing_at system writer.task).deadline) ⊎ ((writer.task ≡ reader.task) × (lag ≡ pos 1))

module _ (system : System) (group : Group) where
  -- reads rise with the job
  pub reads_rise : (job later : ℕ) → job ≤ later → read_in system group job ≤ read_in system group later
  reads_rise job later le =
      let more : job * period_of system group ≤ later * period_of system group = mul-le-mul_right (period_of system group) le in
      omega (arith, more)

  pub next_read : (job : ℕ) → 1 ≤ job → read_in system group job ≡ read_in system group (job - 1) + period_of system group
  next_read job some =
      let same : suc (job - 1) ≡ job = omega (arith, some) in
      let one : read_in system group (suc (job - 1)) ≡ read_in system group (job - 1) + period_of system group = omega arith in
      omega (arith, one, ap (read_in system group) same)

  -- each job arrives when it reads
  pub job_arrives : (job : ℕ) → ReadsAt system group (pos (read_in system group job))
  job_arrives job = record { turn = pos job; place = 0; within = omega arith; arrives = omega (arith, ints) }

  -- an arrival is some whole number of periods from the offset
  pub turn_is : (moment : ℤ) → (arrival : ReadsAt system group moment)
      → moment ≡ (pos (offset_of system group) +ℤ (arrival.turn *ℤ pos (period_of system group)))
  turn_is moment arrival =
      let none : arrival.place ≡ 0 = omega (arith, arrival.within) in
      let here : arrival.place * period_of system group ≡ 0 * period_of system group = ap (λ n. n * period_of system group) none in
      omega (arith, ints, arrival.arrives, here)

  -- so none lies between two reads
  turn_after : (moment turn : ℤ) (job : ℕ) → 1 ≤ job → moment ≡ (pos (offset_of system group) +ℤ (turn *ℤ pos (period_of system group)))
      → (pos (read_in system group (job - 1)) +ℤ pos 1) ≤ℤ moment → pos (read_in system group job) ≤ℤ moment
  turn_after moment (pos turn) job some is after = elim (cases_lt turn job) [
    | inl less ↦ absurd (omega (arith, ints, is, after, reads_rise turn (job - 1) (omega (arith, less))))
    | inr le ↦ omega (arith, ints, is, reads_rise job turn le)
  ]
  turn_after moment (negsuc turn) job some is after = absurd (omega (arith, ints, is, after))

  turn_before : (moment turn : ℤ) (job : ℕ) → 1 ≤ job → moment ≡ (pos (offset_of system group) +ℤ (turn *ℤ pos (period_of system group)))
      → (moment +ℤ pos 1) ≤ℤ pos (read_in system group job) → moment ≤ℤ pos (read_in system group (job - 1))
  turn_before moment (pos turn) job some is before = elim (cases_lt turn job) [
    | inl less ↦ omega (arith, ints, is, reads_rise turn (job - 1) (omega (arith, less)))
    | inr le ↦ absurd (omega (arith, ints, is, before, reads_rise job turn le))
  ]
  turn_before moment (negsuc turn) job some is before = omega (arith, ints, is)

  module _ (pace : Pace) (leads : LeadsTo (ReadsAt system group) pace) (job : ℕ) (some : 1 ≤ job) where
    -- from between two reads the first arrival is the later one
    pub first_is_read : (moment : ℤ) → (pos (read_in system group (job - 1)) +ℤ pos 1) ≤ℤ moment → moment ≤ℤ pos (read_in system group job)
        → first_from pace moment ≡ pos (read_in system group job)
    first_is_read moment after before =
        let arrival = leads.first_arrives moment in
        let least = leads.first_least moment (pos (read_in system group job)) (job_arrives job) before in
        let later = turn_after (first_from pace moment) arrival.turn job some (turn_is (first_from pace moment) arrival)
        (omega (arith, ints, after, leads.first_after moment)) in
        omega (arith, ints, least, later)

    -- and the last arrival before a read is the one before it
    pub last_is_read : 1 ≤ period_of system group → last_by pace (pos (read_in system group job) -ℤ pos 1) ≡ pos (read_in system group (job - 1))
    last_is_read positive =
        let moment : ℤ = pos (read_in system group job) -ℤ pos 1 in
        let arrival = leads.last_arrives moment in
        let earlier = turn_before (last_by pace moment) arrival.turn job some (turn_is (last_by pace moment) arrival)
        (omega (arith, ints, leads.last_before moment)) in
        let greatest = leads.last_greatest moment (pos (read_in system group (job - 1))) (job_arrives (job - 1))
        (omega (arith, ints, next_read job some, positive)) in
        omega (arith, ints, earlier, greatest)

-- a hop with its lag leads from a read to the first one at or after its write
pub hop_is_read : (system : System) (writer reader : Group) (pace : Pace) → LeadsTo (ReadsAt system reader) pace
    → 1 ≤ (timing_at system writer.task).deadline → (timing_at system writer.task).deadline ≤ period_of system writer
    → (lag : ℤ) → IsIdealLag system writer reader lag → (writing reading : ℕ) → 1 ≤ reading
    → read_in system reader (reading - 1) < write_in system writer writing → write_in system writer writing ≤ read_in system reader reading
    → first_from pace (pos (read_in system writer writing) +ℤ lag) ≡ pos (read_in system reader reading)
hop_is_read system writer reader pace leads late soon lag is writing reading some before after =
    let moment : ℤ = pos (read_in system writer writing) +ℤ lag in
    elim is [
      | inl whole ↦ first_is_read system reader pace leads reading some moment (omega (arith, ints, whole, before)) (omega (arith, ints, whole, after))
      | inr one ↦
          let here : read_in system reader writing ≡ read_in system writer writing =
          ap (λ task. first_least (timing_at system task).pattern + writing * least_distance (timing_at system task).pattern) (sym one.0) in
          let apart : period_of system reader ≡ period_of system writer = ap (λ task. least_distance (timing_at system task).pattern) (sym one.0) in
          let no_later : reading - 1 ≤ writing = elim (cases_lt writing (reading - 1)) [
            | inl less ↦
                let next : read_in system reader (suc writing) ≡ read_in system reader writing + period_of system reader = omega arith in
                absurd (omega (arith, next, here, apart, soon, before, reads_rise system reader (suc writing) (reading - 1) less))
            | inr le ↦ le
          ] in
          first_is_read system reader pace leads reading some moment
          (omega (arith, ints, one.1, here, reads_rise system reader (reading - 1) writing no_later)) (omega (arith, ints, one.1, after, late))
    ]
