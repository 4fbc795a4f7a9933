-- What is asked of a worst window, moved by whole cycles: no window that begins there ends within less than the response, so
-- as much is asked of the one that ends with it as it has, and of that of a late task more.
use Rattle.std.proofs.Common.{◌≡◌, ℕ, ◌+◌, ◌-◌, ◌*◌, ◌<◌, ◌≤◌, inl, inr, Option, Some, None, unwrap_or, ℤ, pos, negsuc, ◌+ℤ◌, ◌-ℤ◌, ◌*ℤ◌, ◌≤ℤ◌, length, refl, sym, ap, ◌∙◌, subst, arith}
use Rattle.std.proofs.Math.IntN.{one, *ℤ-one}
use Rattle.std.proofs.Math.Nat.{mul-le-mul_right}
use Rattle.std.proofs.lemmas.Bool.{cases_lt}
use Rattle.std.proofs.lemmas.Int.{ints, by_lt_z}
use Rattle.std.proofs.lemmas.List.Sums.{sum_by-le-sum_by}
use Rattle.cl_model.specs.{declared.stimulus.StimulusKind.StimulusKind, Timing.greatest_jitter}
use Rattle.cl_runs.specs.{TaskTiming.{System, timing_at, IsSound}, Priorities.tasks_above, ExecutionTimes.greatest_execution}
use Rattle.cl_stim.specs.{declared.phase.Phase.Phase, Phase.{IsArrivalOf, last_arrival, phase_of}}
use Rattle.cl_stim.proofs.{PhaseSteps.{last_before, last_within}, Releases.most_rises}
use Rattle.cl_cycle.specs.{Counts.each_moment, Cycles.{is_one_of, in_phase_above, cycle_of}}
use Rattle.cl_cycle.proofs.CountedTicks.{wider_has}
use Rattle.cl_resp.specs.{declared.worst.WorstWindow.WorstWindow, Asked.{Asked, MayBegin, EndsBy, AnswersWithin, AskedComesRound}, ByPhase.{phase_if, released_by, time_by, demand_by, asked_by_phase}, Worst.{within_of, NoneEndsBy, IsCandidate, IsWorstBy}}
use Rattle.cl_resp.proofs.{LeastMoved.{ComesIn, whole_cycles, ends_later}, LeastRound.asked_comes_round, PhasedAnswers.through_between}
use Rattle.cl_phase.specs.TightBounds.{ticks_or_none}
use Rattle.cl_near.specs.Plans.{IsWindowOfRun}

-- ---- numbers

ticks_are : (z : ℤ) → pos 0 ≤ℤ z → pos (ticks_or_none z) ≡ z
ticks_are (pos ticks) some = refl
ticks_are (negsuc lacking) some = absurd (omega (arith, ints, some))

between : (end start : ℤ) (ticks : ℕ) → (start +ℤ pos ticks) ≡ end → (end -ℤ start) ≡ pos ticks
between end start ticks is = omega (arith, ints, is)

module _ (arrival start : ℤ) where
  -- where so many ticks end by a moment, but not a tick sooner, they end there
  ends_there : (response width : ℕ) → 1 ≤ response → (start +ℤ pos width) ≤ℤ (arrival +ℤ pos response)
      → ((start +ℤ pos width) ≤ℤ (arrival +ℤ pos (response - 1)) → ⊥) → (start +ℤ pos width) ≡ (arrival +ℤ pos response)
  ends_there response width some by not_sooner = by_lt_z (arrival +ℤ pos (response - 1)) (start +ℤ pos width)
      (λ later. omega (arith, ints, some, by, later))
      (λ sooner. absurd (not_sooner sooner))

  -- a tick less ends a tick sooner
  ends_sooner : (response width : ℕ) → 1 ≤ response → 1 ≤ width → (start +ℤ pos width) ≡ (arrival +ℤ pos response)
      → (start +ℤ pos (width - 1)) ≤ℤ (arrival +ℤ pos (response - 1))
  ends_sooner response width some some_ticks there = omega (arith, ints, some, some_ticks, there)

  -- before its deadline some ticks are left
  some_left : (jitter deadline : ℕ) → start ≤ℤ (arrival +ℤ pos jitter) → jitter < deadline → pos 1 ≤ℤ ((arrival +ℤ pos deadline) -ℤ start)
  some_left jitter deadline released above = omega (arith, ints, released, above)

-- the same so many ticks later
module _ (arrival later_arrival start later_start : ℤ) (ticks : ℕ) (arrives : later_arrival ≡ (arrival +ℤ pos ticks)) (begins : later_start ≡ (start +ℤ pos ticks)) where
  ends_earlier : (width within : ℕ) → (later_start +ℤ pos width) ≤ℤ (later_arrival +ℤ pos within) → (start +ℤ pos width) ≤ℤ (arrival +ℤ pos within)
  ends_earlier width within by = omega (arith, ints, arrives, begins, by)

  near_later : (period : ℕ) → (arrival +ℤ pos 1) ≤ℤ (start +ℤ pos period) → (later_arrival +ℤ pos 1) ≤ℤ (later_start +ℤ pos period)
  near_later period near = omega (arith, ints, arrives, begins, near)

  released_later : (jitter : ℕ) → start ≤ℤ (arrival +ℤ pos jitter) → later_start ≤ℤ (later_arrival +ℤ pos jitter)
  released_later jitter by = omega (arith, ints, arrives, begins, by)

  until_later : (within : ℕ) → (later_arrival +ℤ pos within) ≡ ((arrival +ℤ pos within) +ℤ pos ticks)
  until_later within = omega (arith, ints, arrives)

-- ---- a job arrives at each moment

once : (z : ℤ) → (z *ℤ pos 1) ≡ z
unfolding one
once z = *ℤ-one z

arrives_at_each : (moment : ℤ) → IsArrivalOf each_moment moment
arrives_at_each moment = record { turn = moment; place = 0; within = omega arith; arrives = at moment (moment *ℤ pos 1) (once moment) }
  where
    at : (moment turns : ℤ) → turns ≡ moment → moment ≡ (pos 0 +ℤ turns) +ℤ pos (0 * 1)
    at moment turns is = omega (arith, ints, is)

after_last : (last start : ℤ) → last ≤ℤ (start -ℤ pos 1) → (last +ℤ pos 1) ≤ℤ start
after_last last start before = omega (arith, ints, before)

near_start : (arrival start last : ℤ) (period final : ℕ) → ((arrival -ℤ pos 1) -ℤ (pos (period - final) -ℤ pos 1)) ≤ℤ last → (last +ℤ pos 1) ≤ℤ start
    → (arrival +ℤ pos 1) ≤ℤ (start +ℤ pos period)
near_start arrival start last period final close after = omega (arith, ints, close, after)

by_jitter : (start : ℤ) (jitter : ℕ) → start ≤ℤ (start +ℤ pos jitter)
by_jitter start jitter = omega (arith, ints)

-- ---- in a wider window no fewer jobs are released

released_rises : (phase : Option Phase) (kind : StimulusKind) (start : ℤ) (narrow wide : ℕ) → narrow ≤ wide
    → released_by phase kind start narrow ≤ released_by phase kind start wide
released_rises (Some phase) kind start narrow wide le =
    wider_has phase (start -ℤ pos (greatest_jitter kind)) (narrow + greatest_jitter kind) (wide + greatest_jitter kind) (omega (arith, le))
released_rises None kind start narrow wide le = most_rises kind narrow wide le

module _ (system : System) (sound : IsSound system) (task : ℕ) (known : task < length system.tasks) where
  abbrev asked : Asked
  asked = asked_by_phase system task (greatest_execution (timing_at system task))

  comes : AskedComesRound (asked_by_phase system task (greatest_execution (timing_at system task)))
  comes = asked_comes_round system sound task (greatest_execution (timing_at system task)) known

  -- what is asked never falls, and is a tick or more
  asked_rises : (start : ℤ) (narrow wide : ℕ) → narrow ≤ wide → asked.demand start narrow ≤ asked.demand start wide
  unfolding demand_by
  asked_rises start narrow wide le =
      let rises = sum_by-le-sum_by (time_by system (is_one_of (in_phase_above system task)) start narrow)
      (time_by system (is_one_of (in_phase_above system task)) start wide) (tasks_above system task)
      (λ other. mul-le-mul_right (greatest_execution (timing_at system other))
      (released_rises (phase_if (is_one_of (in_phase_above system task) other) (timing_at system other).pattern) (timing_at system other).pattern start narrow wide le)) in
      omega (arith, rises)

  some_asked : (start : ℤ) (width : ℕ) → 1 ≤ asked.demand start width
  unfolding demand_by
  some_asked start width =
      let part = through_between system sound task known 0 in
      omega (arith, part.0, part.1)

  -- ---- worst windows

  -- no window that begins there, less than a period before the arrival, ends within so many ticks of that, but one within
  -- each response that answers all
  pub record IsUnended (within : ℕ) (window : WorstWindow) : Type 0 where
    pub near : (window.arrival +ℤ pos 1) ≤ℤ (window.start +ℤ pos asked.arrivals.period)
    pub none : NoneEndsBy asked window.start (window.arrival +ℤ pos within)
    pub released : window.start ≤ℤ (window.arrival +ℤ pos asked.jitter)
    pub ends : (response : ℕ) → AnswersWithin asked response → EndsBy asked window.start (window.arrival +ℤ pos response)

  unended : (window : WorstWindow) (within : ℕ) → IsArrivalOf asked.arrivals window.arrival → MayBegin asked window.arrival window.start
      → NoneEndsBy asked window.start (window.arrival +ℤ pos within) → IsUnended within window
  unended window within arrives begins none = record {
    near = near_start window.arrival window.start (last_arrival asked.arrivals (window.arrival -ℤ pos 1)) asked.arrivals.period
        ((asked.arrivals.count - 1) * asked.arrivals.distance) (last_within asked.arrivals comes.phase (window.arrival -ℤ pos 1)) begins.after;
    none = none;
    released = begins.by;
    ends = λ response answers. answers window.arrival window.start arrives begins;
  }

  worst_unended : (fixed : Option Phase) → phase_of (timing_at system task).pattern ≡ fixed → (candidate : ℤ → Type 0) (within : ℕ) (window : WorstWindow)
      → IsWorstBy fixed asked candidate within window → IsUnended within window
  worst_unended (Some phase) is candidate within window worst =
      unended window within worst.unanswered.arrives worst.unanswered.may_begin worst.unanswered.none
  worst_unended None is candidate within window worst =
      let arrives : IsArrivalOf asked.arrivals window.start =
      subst (λ (phase : Phase). IsArrivalOf phase window.start) (ap (λ found. unwrap_or found each_moment) (sym is)) (arrives_at_each window.start) in
      let begins : MayBegin asked window.start window.start = record {
        after = after_last (last_arrival asked.arrivals (window.start -ℤ pos 1)) window.start (last_before asked.arrivals comes.phase (window.start -ℤ pos 1));
        by = by_jitter window.start asked.jitter;
      } in
      unended window within
      (subst (λ arrival. IsArrivalOf asked.arrivals arrival) (sym worst.arrives) arrives)
      (subst (λ arrival. MayBegin asked arrival window.start) (sym worst.arrives) begins)
      (subst (λ arrival. NoneEndsBy asked window.start (arrival +ℤ pos within)) (sym worst.arrives) worst.none)

  -- so it is whole cycles later
  moved_unended : (turns within : ℕ) (worst window : WorstWindow) → window.arrival ≡ (worst.arrival +ℤ pos (turns * cycle_of system task))
      → window.start ≡ (worst.start +ℤ pos (turns * cycle_of system task)) → IsUnended within worst → IsUnended within window
  moved_unended turns within worst window arrives begins is =
      let ticks = turns * cycle_of system task in
      let round : ComesIn asked (turns * cycle_of system task) = whole_cycles asked comes turns in
      record {
        near = near_later worst.arrival window.arrival worst.start window.start ticks arrives begins asked.arrivals.period is.near;
        none = λ width some by.
            subst (λ asks. width < asks) (sym (ap (λ start. asked.demand start width) begins ∙ round.demand worst.start width))
            (is.none width some (ends_earlier worst.arrival window.arrival worst.start window.start ticks arrives begins width within by));
        released = released_later worst.arrival window.arrival worst.start window.start ticks arrives begins asked.jitter is.released;
        ends = λ response answers. ends_later asked comes.phase ticks round worst.start window.start
            (worst.arrival +ℤ pos response) (window.arrival +ℤ pos response) begins
            (until_later worst.arrival window.arrival worst.start window.start ticks arrives begins response) (is.ends response answers);
      }

  pub window_unended : (window : WorstWindow) → IsWindowOfRun system task window → IsUnended (within_of system task) window
  window_unended window is =
      moved_unended is.turns (within_of system task) is.worst window is.arrival is.start
      (worst_unended (phase_of (timing_at system task).pattern) refl (IsCandidate system task asked.cycle) (within_of system task) is.worst is.is_worst.worst)

  -- ---- what is asked of them

  module _ (window : WorstWindow) where
    -- one that ends with the response is asked as much as it has
    pub asks_all : (response : ℕ) → 1 ≤ response → AnswersWithin asked response → IsUnended (response - 1) window
        → (window.start +ℤ pos (asked.demand window.start (ticks_or_none ((window.arrival +ℤ pos response) -ℤ window.start)))) ≡ (window.arrival +ℤ pos response)
    asks_all response some answers is =
        let ends = is.ends response answers in
        let there = ends_there window.arrival window.start response ends.width some ends.by
        (λ sooner. both (asked.demand window.start ends.width) ends.width ends.enough (is.none ends.width ends.some sooner)) in
        let width : ticks_or_none ((window.arrival +ℤ pos response) -ℤ window.start) ≡ ends.width =
        ap ticks_or_none (between (window.arrival +ℤ pos response) window.start ends.width there) in
        let whole : asked.demand window.start ends.width ≡ ends.width = no_less ends.width ends.some ends.enough there in
        ap (λ ticks. window.start +ℤ pos (asked.demand window.start ticks)) width ∙ ap (λ ticks. window.start +ℤ pos ticks) whole ∙ there
      where
        both : (asks width : ℕ) → asks ≤ width → width < asks → ⊥
        both asks width less more = omega (arith, less, more)

        no_less : (width : ℕ) → 1 ≤ width → asked.demand window.start width ≤ width → (window.start +ℤ pos width) ≡ (window.arrival +ℤ pos response)
            → asked.demand window.start width ≡ width
        no_less width some_ticks enough there = elim (cases_lt 1 width) [
          | inl more ↦
              let before : 1 ≤ width - 1 = omega (arith, more) in
              let lacks = is.none (width - 1) before (ends_sooner window.arrival window.start response width some some_ticks there) in
              let rises = asked_rises window.start (width - 1) width (omega arith) in
              omega (arith, enough, lacks, rises, more)
          | inr one ↦ omega (arith, enough, some_asked window.start width, one, some_ticks)
        ]

    -- one that ends with the deadline of a late task has some ticks, and is asked more
    pub asks_more : (deadline : ℕ) → asked.jitter < deadline → IsUnended deadline window
        → (width : ℕ) → ticks_or_none ((window.arrival +ℤ pos deadline) -ℤ window.start) ≡ width
        → (width < asked.demand window.start width) × ((window.start +ℤ pos width) ≡ (window.arrival +ℤ pos deadline))
    asks_more deadline above is width ticks =
        let some = some_left window.arrival window.start asked.jitter deadline is.released above in
        let left = ticks_are ((window.arrival +ℤ pos deadline) -ℤ window.start) (less some) in
        let there = until ((window.arrival +ℤ pos deadline) -ℤ window.start) (ticks_or_none ((window.arrival +ℤ pos deadline) -ℤ window.start)) left ticks in
        (is.none width (some_ticks _ width there some) (reached _ _ there), end_is _ _ there)
      where
        less : {z : ℤ} → pos 1 ≤ℤ z → pos 0 ≤ℤ z
        less {z} some = omega (arith, ints, some)

        until : (z : ℤ) (t : ℕ) → pos t ≡ z → t ≡ width → pos width ≡ z
        until z t is same = ap pos (sym same) ∙ is

        some_ticks : (z : ℤ) (w : ℕ) → pos w ≡ z → pos 1 ≤ℤ z → 1 ≤ w
        some_ticks z w is some = omega (arith, ints, is, some)

        end_is : (end : ℤ) (w : ℕ) → pos w ≡ (end -ℤ window.start) → (window.start +ℤ pos w) ≡ end
        end_is end w is = omega (arith, ints, is)

        reached : (end : ℤ) (w : ℕ) → pos w ≡ (end -ℤ window.start) → (window.start +ℤ pos w) ≤ℤ end
        reached end w is = omega (arith, ints, is)
