-- No job reads sooner after its arrival than the lead: moved back by whole cycles, its start is
-- among those of which the least is taken.
use Rattle.std.proofs.Common.{◌≡◌, ℕ, suc, ◌+◌, ◌-◌, ◌*◌, ◌/◌, ◌%◌, ◌<◌, ◌≤◌, inl, inr, Bool, true, false, cond, nat_le, Option, Some, None, unwrap_or, List, [], ◌∷◌, length, ℤ, pos, ◌+ℤ◌, refl, sym, ap, ◌∙◌, subst, arith}
use Rattle.std.specs.Prelude.{sum_by}
use Rattle.std.specs.Int.{◌∣◌}
use Rattle.std.proofs.Math.Nat.{dvd-mul_left_of_dvd, eq-zero_of_zero-dvd}
use Rattle.std.proofs.lemmas.Bool.{cases_lt, cases_eq}
use Rattle.std.proofs.lemmas.Bool.Decides.{nat_tests}
use Rattle.std.proofs.lemmas.Int.{ints}
use Rattle.std.proofs.lemmas.List.Sums.{sum_by-cons}
use Rattle.std.proofs.lemmas.Nat.{div-add-mod', mod_below}
use Rattle.cl_model.specs.declared.{stimulus.StimulusKind.{StimulusKind, TheVariants.{Periodic, Sporadic, Burst}}, task.AccessKind.{AccessKind, TheVariants.{Explicit, Implicit, Timed}}}
use Rattle.cl_runs.specs.{TaskTiming.{System, timing_at, IsSound}, Table.job_at, Run.{Run, jobs_of}, Legal.IsLegal, Moments.{Starts, ReadsBy, Reads}, Priorities.tasks_above}
use Rattle.cl_runs.proofs.LegalFacts.{place_of_task}
use Rattle.cl_stim.specs.{declared.phase.Phase.Phase, Phase.{IsPhase, phase_of, arrives_at}}
use Rattle.cl_stim.proofs.{ArrivalTests.{arrives_from_test, test_from_arrival}, PatternPhases.phase_is, RunPhases.run_arrives}
use Rattle.cl_comm.specs.Windows.{least_times, spot_at}
use Rattle.cl_cycle.specs.Counts.{arrivals_from, arrivals_of, each_moment}
use Rattle.cl_cycle.proofs.CountedTicks.{one_if, arriving, none_in_none, earlier, comes_round}
use Rattle.cl_lead.specs.{Ahead.{Ahead, ticks_taken, least_lead, MayLead}, Leads.{each_period, surely_released, surely_taken, work_above, ahead_of, before_read, lead_if, lead_with, IsCommonCycle}}
use Rattle.cl_lead.proofs.{LeastLeads.{lead_within, lead_least, test_from_lead}, LeadStarts.{start_late, ahead_fits}}

-- ---- whole cycles later as many are released

same_sums : {X : Type 0} (f g : X → ℕ) (xs : List X) → ((x : X) → f x ≡ g x) → sum_by f xs ≡ sum_by g xs
same_sums f g [] same = refl
same_sums f g (x ∷ xs) same = omega (arith, sum_by-cons f x xs, sum_by-cons g x xs, same x, same_sums f g xs same)

later_moment : (from ticks : ℕ) → pos (from + ticks) ≡ (pos from +ℤ pos ticks)
later_moment from ticks = omega (arith, ints)

pub some_period : (period cycle : ℕ) → 1 ≤ cycle → period ∣ cycle → 1 ≤ period
some_period period cycle some divides = elim (cases_eq period 0) [
  | inl none ↦ absurd (omega (arith, some, eq-zero_of_zero-dvd (subst (λ n. n ∣ cycle) none divides)))
  | inr not ↦ omega (arith, not)
]

module _ (cycle : ℕ) (some : 1 ≤ cycle) (cycles : ℕ) where
  released_round : (in_phase : Bool) (kind : StimulusKind)
      → ((period offset jitter : ℕ) → in_phase ≡ true → kind ≡ Periodic period offset jitter → period ∣ cycle) → (from width : ℕ)
      → surely_released in_phase kind (from + cycles * cycle) width ≡ surely_released in_phase kind from width
  released_round true (Periodic period offset jitter) divides from width =
      let whole = divides period offset jitter refl refl in
      ap (λ m. arrivals_from (each_period period offset) m (suc width - jitter)) (later_moment from (cycles * cycle))
      ∙ comes_round (each_period period offset)
      (record { some = omega arith; apart = some_period period cycle some whole; fits = omega arith })
      (cycles * cycle) (dvd-mul_left_of_dvd period whole cycles) (pos from) (suc width - jitter)
  released_round true (Sporadic least greatest) divides from width = refl
  released_round true (Burst period offset count distance) divides from width = refl
  released_round false kind divides from width = refl

  -- whether a job arrives
  one_true : (b : Bool) → one_if b ≡ 1 → b ≡ true
  one_true true is = refl
  one_true false is = absurd (omega (arith, is))

  arriving_is : (phase : Phase) (moment : ℤ) → arrivals_from phase moment 1 ≡ arriving phase moment
  arriving_is phase moment = omega (arith, earlier phase moment 0, none_in_none phase (moment +ℤ pos 1))

  arrives_round : (phase : Phase) → IsPhase phase → phase.period ∣ cycle → (moment : ℕ)
      → arrives_at phase (pos (moment + cycles * cycle)) ≡ true → arrives_at phase (pos moment) ≡ true
  arrives_round phase is divides moment arrives = one_true (arrives_at phase (pos moment)) (omega (
    arith,
    arriving_is phase (pos moment),
    arriving_is phase (pos (moment + cycles * cycle)),
    ap (λ m. arrivals_from phase m 1) (later_moment moment (cycles * cycle)),
    comes_round phase is (cycles * cycle) (dvd-mul_left_of_dvd phase.period divides cycles) (pos moment) 1,
    ap one_if arrives,
  ))

up_to_same : (from arrival ticks before : ℕ) → cond (nat_le (from + ticks) (arrival + ticks)) before 0 ≡ cond (nat_le from arrival) before 0
up_to_same from arrival ticks before = grind (arith, nat_tests)

-- ---- in a run

module _ (system : System) (sound : IsSound system) (in_phase : ℕ → Bool) (cycle i : ℕ) (common : IsCommonCycle system in_phase cycle i)
    (run : Run) (legal : IsLegal system run) where
  work_round : (cycles from width : ℕ) → work_above system in_phase i (from + cycles * cycle) width ≡ work_above system in_phase i from width
  unfolding work_above
  work_round cycles from width =
      same_sums (surely_taken system in_phase (from + cycles * cycle) width) (surely_taken system in_phase from width) (tasks_above system i)
      (λ other. ap (λ n. n * least_times (timing_at system other).ranges) (released_round cycle common.some cycles (in_phase other) (timing_at system other).pattern
      (λ period offset jitter. common.divides other period offset jitter) from width))

  module _ (is : i < length system.tasks) (k p t : ℕ) (starts : Starts system run i k p t) where
    abbrev a : ℕ
    a = (job_at (jobs_of run i) k).arrival

    abbrev before : ℕ
    before = (spot_at (timing_at system i) p).before

    abbrev ahead : Ahead
    ahead = ahead_of system in_phase cycle i (spot_at (timing_at system i) p).before

    parts : a / cycle * cycle + a % cycle ≡ a
    parts = div-add-mod' a cycle

    -- so many ticks after the arrival it may start
    fits_round : (from width : ℕ) → from + width ≡ a % cycle + (t - a) → a ≤ t → ticks_taken ahead (a % cycle) from width ≤ width
    fits_round from width ends late =
        let fits = ahead_fits system sound run legal i is k p t starts in_phase
        (λ j period offset jitter. common.early j period offset jitter) (from + a / cycle * cycle) width (omega (arith, ends, parts, late)) in
        omega (
          arith,
          fits,
          work_round (a / cycle) from width,
          up_to_same from (a % cycle) (a / cycle * cycle) before,
          ap (λ m. cond (nat_le (from + a / cycle * cycle) m) before 0) arrival_is,
        )
      where
        arrival_is : a % cycle + a / cycle * cycle ≡ a
        arrival_is = omega (arith, parts)

    module _ (phase : Phase) (has : phase_of (timing_at system i).pattern ≡ Some phase) where
      arrivals_are : arrivals_of (timing_at system i).pattern ≡ phase
      arrivals_are = ap (λ o. unwrap_or o each_moment) has

      comes : IsPhase phase
      comes = phase_is (timing_at system i).pattern phase has (sound.tasks i is).pattern

      comes_too : IsPhase (arrivals_of (timing_at system i).pattern)
      comes_too = subst IsPhase (sym arrivals_are) comes

      arrives_first : arrives_at (arrivals_of (timing_at system i).pattern) (pos (a % cycle)) ≡ true
      arrives_first =
          let back : a ≡ a % cycle + a / cycle * cycle = omega (arith, parts) in
          arrives_round cycle common.some (a / cycle) (arrivals_of (timing_at system i).pattern) comes_too common.own (a % cycle)
          (subst (λ m. arrives_at (arrivals_of (timing_at system i).pattern) (pos m) ≡ true) back
          (subst (λ f. arrives_at f (pos a) ≡ true) (sym arrivals_are)
          (test_from_arrival phase comes (pos a) (run_arrives system sound run legal i is phase has k starts.in_table))))

      may_lead_so : a ≤ t → MayLead ahead (t - a)
      may_lead_so late = record {
        arrival = a % cycle;
        in_cycle = mod_below a cycle common.some;
        arrives = arrives_from_test (arrivals_of (timing_at system i).pattern) comes_too (pos (a % cycle)) arrives_first;
        may_start = λ from width after ends. fits_round from width ends late;
      }

      -- so it starts no sooner than the lead
      pub starts_after_lead : a + least_lead ahead ≤ t
      starts_after_lead =
          let late : a + before ≤ t = start_late system sound run legal i is k p t starts in
          elim (cases_lt (timing_at system i).deadline (t - a)) [
            | inl past ↦ omega (arith, past, lead_within ahead)
            | inr within ↦ omega (
              arith,
              late,
              lead_least ahead (t - a) (omega (arith, late)) within
                  (test_from_lead ahead comes_too (t - a) (may_lead_so (omega (arith, late)))),
            )
          ]

-- ---- reads

module _ (system : System) (sound : IsSound system) (in_phase : ℕ → Bool) (cycle i : ℕ) (common : IsCommonCycle system in_phase cycle i)
    (run : Run) (legal : IsLegal system run) (is : i < length system.tasks) where
  abbrev arrival : (k : ℕ) → ℕ
  arrival k = (job_at (jobs_of run i) k).arrival

  abbrev lead : (before : ℕ) → ℕ
  lead before = least_lead (ahead_of system in_phase cycle i before)

  -- before the first runnable nothing is executed
  none_first : (spot_at (timing_at system i) 0).before ≡ 0
  unfolding spot_at least_times
  none_first = refl

  read_after : (access : AccessKind) (phase : Option Phase) → phase_of (timing_at system i).pattern ≡ phase → (k p t : ℕ)
      → ReadsBy access system run i k p t
      → (job_at (jobs_of run i) k).arrival
      + lead_if access phase (before_read access (spot_at (timing_at system i) p).before)
      (lead (before_read access (spot_at (timing_at system i) p).before)) ≤ t
  read_after Explicit (Some phase) has k p t starts = starts_after_lead system sound in_phase cycle i common run legal is k p t starts phase has
  read_after Implicit (Some phase) has k p t starts = omega (
    arith,
    starts_after_lead system sound in_phase cycle i common run legal is k 0 t starts phase has,
    ap lead none_first,
  )
  read_after Timed (Some phase) has k p t arrives = omega (arith, arrives)
  read_after Explicit None has k p t starts = start_late system sound run legal i is k p t starts
  read_after Implicit None has k p t starts = omega (arith, start_late system sound run legal i is k 0 t starts)
  read_after Timed None has k p t arrives = omega (arith, arrives)

-- no runnable reads sooner after the arrival of its job than its lead
pub reads_after_lead : (system : System) → IsSound system → (in_phase : ℕ → Bool) (cycle i : ℕ) → IsCommonCycle system in_phase cycle i
    → (run : Run) → IsLegal system run → (k p t : ℕ) → Reads system run i k p t
    → (job_at (jobs_of run i) k).arrival + lead_with system in_phase cycle i p ≤ t
unfolding lead_with
reads_after_lead system sound in_phase cycle i common run legal k p t reads =
    read_after system sound in_phase cycle i common run legal (place_of_task system i p reads.is_runnable)
    (timing_at system i).access (phase_of (timing_at system i).pattern) refl k p t reads.moment
