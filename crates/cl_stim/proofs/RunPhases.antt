-- The jobs of a legal run keep to the phase of their task's pattern.
use Rattle.std.proofs.Common.{◌≡◌, ℕ, suc, ◌+◌, ◌*◌, ◌/◌, ◌%◌, ◌<◌, inl, inr, ℤ, pos, ◌+ℤ◌, ◌≤ℤ◌, Some, length, sym, ap, subst, ◌∙◌, arith}
use Rattle.std.proofs.lemmas.Int.{ints}
use Rattle.std.proofs.lemmas.Bool.{cases_lt}
use Rattle.std.proofs.lemmas.Nat.{div-add-mod', mod_below}
use Rattle.cl_model.specs.Timing.{greatest_distance}
use Rattle.cl_runs.specs.{TaskTiming.{System, timing_at, IsSound}, Table.job_at, Run.{Run, jobs_of}, Legal.IsLegal}
use Rattle.cl_runs.proofs.RunArrivals.{follow_pattern, next_within}
use Rattle.cl_stim.specs.{declared.phase.Phase.Phase, Phase.{phase_of, IsPhase, IsArrivalOf, AreConsecutive}}
use Rattle.cl_stim.proofs.{PatternPhases.{phase_is, job_arrives}, PhaseSteps.begin, Neighbours.{next_in_turn, next_of_turn}}

-- jobs that arrive at the places of a phase: its neighbours are theirs
module _ (phase : Phase) (is : IsPhase phase) (arrival : ℕ → ℕ) (end : ℕ)
    (arrives : (turn place : ℕ) → place < phase.count → turn * phase.count + place < end
    → arrival (turn * phase.count + place) ≡ phase.offset + turn * phase.period + place * phase.distance) where
  at_place : (job turn place : ℕ) → turn * phase.count + place ≡ job → place < phase.count → job < end
      → pos (arrival job) ≡ (begin phase (pos turn) +ℤ pos (place * phase.distance))
  at_place job turn place number within below =
      integral (arrival job) phase.offset (turn * phase.period) (place * phase.distance)
      (sym (ap arrival number) ∙ arrives turn place within (omega (arith, number, below)))
    where
      integral : (n offset base ticks : ℕ) → n ≡ offset + base + ticks → pos n ≡ ((pos offset +ℤ pos base) +ℤ pos ticks)
      integral n offset base ticks h = omega (arith, ints, h)

  turn_and_place : (job : ℕ) → job / phase.count * phase.count + job % phase.count ≡ job
  turn_and_place job = div-add-mod' job phase.count

  within_turn : (job : ℕ) → job % phase.count < phase.count
  within_turn job = mod_below job phase.count is.some

  pub places_arrive : (job : ℕ) → job < end → IsArrivalOf phase (pos (arrival job))
  places_arrive job below = record {
    turn = pos (job / phase.count);
    place = job % phase.count;
    within = within_turn job;
    arrives = at_place job (job / phase.count) (job % phase.count) (turn_and_place job) (within_turn job) below;
  }

  pub places_neighbours : (job : ℕ) → suc job < end → AreConsecutive phase (pos (arrival job)) (pos (arrival (suc job)))
  places_neighbours job below =
      let turn = job / phase.count in
      let place = job % phase.count in
      let number : turn * phase.count + place ≡ job = turn_and_place job in
      let within : place < phase.count = within_turn job in
      let here = at_place job turn place number within (omega (arith, below)) in
      elim (cases_lt (suc place) phase.count) [
        | inl more ↦ moved (at_place (suc job) turn (suc place) (omega (arith, number)) more below) here (next_in_turn phase is (pos turn) place within more)
        | inr not ↦
            let final : suc place ≡ phase.count = omega (arith, not, within) in
            let whole : suc turn * phase.count ≡ turn * phase.count + phase.count = omega arith in
            moved (at_place (suc job) (suc turn) 0 (omega (arith, number, whole, final)) (omega (arith, within)) below ∙ next_begin turn)
            here (next_of_turn phase is (pos turn) place within final)
      ]
    where
      moved : {before after a b : ℤ} → after ≡ b → before ≡ a → AreConsecutive phase a b → AreConsecutive phase before after
      moved {before} {after} {a} {b} second first are = subst (λ x. AreConsecutive phase x after) (sym first)
          (subst (λ y. AreConsecutive phase a y) (sym second) are)

      next_begin : (turn : ℕ) → (begin phase (pos (suc turn)) +ℤ pos (0 * phase.distance)) ≡ (begin phase (pos turn +ℤ pos 1) +ℤ pos (0 * phase.distance))
      next_begin turn = ap (λ n. begin phase (pos n) +ℤ pos (0 * phase.distance)) (one turn)
        where
          one : (n : ℕ) → suc n ≡ n + 1
          one n = omega arith

module _ (system : System) (sound : IsSound system) (run : Run) (legal : IsLegal system run) (task : ℕ) (is : task < length system.tasks) where
  abbrev arrival : ℕ → ℕ
  arrival job = (job_at (jobs_of run task) job).arrival

  module _ (phase : Phase) (has : phase_of (timing_at system task).pattern ≡ Some phase) where
    phase_sound : IsPhase phase
    phase_sound = phase_is (timing_at system task).pattern phase has (sound.tasks task is).pattern

    at_places : (turn place : ℕ) → place < phase.count → turn * phase.count + place < length (jobs_of run task)
        → arrival (turn * phase.count + place) ≡ phase.offset + turn * phase.period + place * phase.distance
    at_places = job_arrives (timing_at system task).pattern phase has (sound.tasks task is).pattern run.table.ticks (jobs_of run task)
        (follow_pattern system sound run legal task is)

    -- each job arrives at an arrival of the phase
    pub run_arrives : (job : ℕ) → job < length (jobs_of run task) → IsArrivalOf phase (pos (arrival job))
    run_arrives = places_arrive phase phase_sound arrival (length (jobs_of run task)) at_places

    -- and the job before it at the one before
    pub run_in_phase : (job : ℕ) → suc job < length (jobs_of run task) → AreConsecutive phase (pos (arrival job)) (pos (arrival (suc job)))
    run_in_phase = places_neighbours phase phase_sound arrival (length (jobs_of run task)) at_places

  -- of any pattern it arrives a greatest distance later at most
  pub run_within : (job : ℕ) → suc job < length (jobs_of run task)
      → pos (arrival (suc job)) ≤ℤ (pos (arrival job) +ℤ pos (greatest_distance (timing_at system task).pattern))
  run_within job below = omega (arith, ints, next_within system sound run legal task is job below)
