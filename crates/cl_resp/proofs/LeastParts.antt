-- Responses by phases, whole and up to a runnable: they hold, and leave room for the execution.
use Rattle.std.proofs.Common.{◌≡◌, ℕ, ◌+◌, ◌-◌, ◌<◌, ◌≤◌, Bool, Option, Some, None, ℤ, pos, ◌+ℤ◌, ◌-ℤ◌, ◌≤ℤ◌, length, ap, arith}
use Rattle.std.specs.Option.{option_map}
use Rattle.std.proofs.lemmas.Int.{ints}
use Rattle.std.proofs.lemmas.Option.{same_Some}
use Rattle.cl_model.specs.Timing.{greatest_jitter}
use Rattle.cl_runs.specs.{TaskTiming.{System, timing_at, IsSound}, Responses.IsTimely, ExecutionTimes.greatest_execution}
use Rattle.cl_stim.specs.Phase.{IsPhase, last_arrival}
use Rattle.cl_stim.proofs.PhaseSteps.{last_arrives, last_before}
use Rattle.cl_cycle.specs.Cycles.{is_one_of, in_phase_above, cycle_of}
use Rattle.cl_resp.specs.{Asked.{Asked, least_response, AnswersWithin, IsLeastResponse}, ByPhase.{demand_by, asked_by_phase, response_by_phase, response_through, IsSettledByPhase}, Clear.greatest_through, Promises.AlwaysFinishesThrough, Response.Response}
use Rattle.cl_resp.proofs.{LeastAnswers.found_is_least, AnsweredJobs.{whole_jobs_finish, parts_finish}, LeastRound.asked_comes_round}

-- ---- a response by phases is a least response

response_found : (jitter : ℕ) (answer : Response) (found : Option ℕ)
    → option_map (λ response. record { window = response - jitter; response = response }) found ≡ Some answer → found ≡ Some answer.response
response_found jitter answer None answered = cc
response_found jitter answer (Some response) answered = ap Some (ap (λ (r : Response). r.response) (same_Some _ _ answered))

module _ (system : System) (sound : IsSound system) (task response : ℕ) (settled : IsSettledByPhase system task response) where
  pub settled_least : IsLeastResponse (asked_by_phase system task (greatest_execution (timing_at system task))) response
  unfolding response_by_phase
  settled_least = found_is_least (asked_by_phase system task (greatest_execution (timing_at system task)))
      (asked_comes_round system sound task (greatest_execution (timing_at system task)) settled.is_task) response
      (response_found (greatest_jitter (timing_at system task).pattern) (record { window = settled.window; response = response })
      (least_response (asked_by_phase system task (greatest_execution (timing_at system task)))) settled.answered)

-- ---- it holds

pub settled_timely : (system : System) → IsSound system → (task response : ℕ) → IsSettledByPhase system task response → IsTimely system task response
settled_timely system sound task response settled =
    let least = settled_least system sound task response settled in
    record {
      is_task = settled.is_task;
      by_deadline = least.by_deadline;
      always = whole_jobs_finish system sound (is_one_of (in_phase_above system task)) (cycle_of system task) task response
          settled.is_task least.by_deadline least.answers;
    }

pub settled_through : (system : System) → IsSound system → (task response : ℕ) → IsSettledByPhase system task response
    → (place through : ℕ) → place < length (timing_at system task).ranges → response_through system task place ≡ Some through
    → AlwaysFinishesThrough system task place through
unfolding response_through
settled_through system sound task response settled place through within found =
    let least = settled_least system sound task response settled in
    let own = greatest_through (timing_at system task) place in
    parts_finish system sound (is_one_of (in_phase_above system task)) (cycle_of system task) task response
    settled.is_task least.by_deadline least.answers place through within
    (found_is_least (asked_by_phase system task own) (asked_comes_round system sound task own settled.is_task) through found).answers

-- ---- it leaves room for the execution

itself : (a : ℤ) → a ≤ℤ a
itself a = omega (arith, ints)

module _ (arrival last : ℤ) (jitter : ℕ) where
  latest_begins : last ≤ℤ (arrival -ℤ pos 1) → (last +ℤ pos 1) ≤ℤ (arrival +ℤ pos jitter)
  latest_begins before = omega (arith, ints, before)

  room_within : (width response : ℕ) → ((arrival +ℤ pos jitter) +ℤ pos width) ≤ℤ (arrival +ℤ pos response) → jitter + width ≤ response
  room_within width response ends = omega (arith, ints, ends)

-- where no less than some work is asked, a response that answers all holds the jitter and the work
work_within : (asked : Asked) → IsPhase asked.arrivals → (work response : ℕ) → ((start : ℤ) (width : ℕ) → work ≤ asked.demand start width)
    → AnswersWithin asked response → asked.jitter + work ≤ response
work_within asked phase work response asks answers =
    let arrival = last_arrival asked.arrivals (pos 0) in
    let start = arrival +ℤ pos asked.jitter in
    let ends = answers arrival start (last_arrives asked.arrivals phase (pos 0)) (record {
      after = latest_begins arrival (last_arrival asked.arrivals (arrival -ℤ pos 1)) asked.jitter (last_before asked.arrivals phase (arrival -ℤ pos 1));
      by = itself start;
    }) in
    omega (arith, room_within arrival arrival asked.jitter ends.width response ends.by, ends.enough, asks start ends.width)

own_asked : (system : System) (in_phase : ℕ → Bool) (task own : ℕ) (start : ℤ) (width : ℕ) → own ≤ demand_by system in_phase task own start width
unfolding demand_by
own_asked system in_phase task own start width = omega arith

pub execution_in_response : (system : System) → IsSound system → (task response : ℕ) → IsSettledByPhase system task response
    → greatest_jitter (timing_at system task).pattern + greatest_execution (timing_at system task) ≤ response
execution_in_response system sound task response settled =
    let own = greatest_execution (timing_at system task) in
    work_within (asked_by_phase system task own) (asked_comes_round system sound task own settled.is_task).phase own response
    (own_asked system (is_one_of (in_phase_above system task)) task own)
    (settled_least system sound task response settled).answers
