-- The response to what is asked of windows that begin at fixed moments. Times are in ticks, and moments may lie
-- before 0.
use Rattle.std.specs.Prelude.{◌≡◌, ℕ, ℤ, pos, ◌+ℤ◌, ◌-ℤ◌, ◌≤ℤ◌, ◌+◌, ◌-◌, ◌≤◌, Bool, nat_le, filter, find, Option, unsigned_abs}
use Rattle.std.specs.Int.{◌∣◌}
use Rattle.std.specs.List.{list_all, list_any, range_with_len}
use Rattle.cl_stim.specs.{declared.phase.Phase.Phase, Phase.{IsPhase, IsArrivalOf, arrives_at, last_arrival}}

-- what is asked for a task: when its jobs arrive, after how many ticks all comes round, its jitter and deadline, and how
-- many ticks are asked at most of a window of so many ticks that begins at a moment
pub record Asked : Type 0 where
  pub arrivals : Phase
  pub cycle : ℕ
  pub jitter : ℕ
  pub deadline : ℕ
  pub demand : (start : ℤ) → (width : ℕ) → ℕ

-- a window that begins at a moment and has at most so many ticks holds its own demand
abbrev pub holds_within : Asked → (start : ℤ) → (most : ℕ) → Bool
holds_within asked start most =
    list_any (λ width. nat_le (asked.demand start width) width) (range_with_len 1 most)

-- at how many moments the window of a job of this arrival may begin: from its latest release back to the tick after the
-- arrival before it
abbrev pub beginnings_of : Asked → (arrival : ℤ) → ℕ
beginnings_of asked arrival =
    asked.jitter + unsigned_abs (arrival -ℤ last_arrival asked.arrivals (arrival -ℤ pos 1))

-- from each of them on a window holds its own demand that ends within the response of the arrival
abbrev pub is_answered : Asked → (response : ℕ) → (arrival : ℤ) → Bool
is_answered asked response arrival =
    list_all (λ earlier. holds_within asked ((arrival +ℤ pos asked.jitter) -ℤ pos earlier) ((response + earlier) - asked.jitter))
    (range_with_len 0 (beginnings_of asked arrival))

-- each arrival of a cycle is answered within the response
unfoldable pub suffices : Asked → (response : ℕ) → Bool
suffices asked response =
    list_all (λ moment. is_answered asked response (pos moment))
    (filter (λ moment. arrives_at asked.arrivals (pos moment)) (range_with_len 0 asked.cycle))

-- the least response within which all are answered, from 1 tick up to the deadline
unfoldable pub least_response : Asked → Option ℕ
least_response asked = find (λ response. suffices asked response) (range_with_len 1 asked.deadline)

-- ---- in words

-- the window of a job that arrives at a moment may begin at another
pub record MayBegin (asked : Asked) (arrival start : ℤ) : Type 0 where
  pub after : (last_arrival asked.arrivals (arrival -ℤ pos 1) +ℤ pos 1) ≤ℤ start
  pub by : start ≤ℤ (arrival +ℤ pos asked.jitter)

-- a window that begins at a moment holds its own demand, and ends by another
pub record EndsBy (asked : Asked) (start latest : ℤ) : Type 0 where
  pub width : ℕ
  pub some : 1 ≤ width
  pub by : (start +ℤ pos width) ≤ℤ latest
  pub enough : asked.demand start width ≤ width

-- from wherever the window of a job may begin, one ends within the response of its arrival
abbrev pub AnswersWithin : Asked → (response : ℕ) → Type 0
AnswersWithin asked response = (arrival start : ℤ) → IsArrivalOf asked.arrivals arrival → MayBegin asked arrival start
    → EndsBy asked start (arrival +ℤ pos response)

-- a response is the least from 1 tick up to the deadline within which all are answered
pub record IsLeastResponse (asked : Asked) (response : ℕ) : Type 0 where
  pub some : 1 ≤ response
  pub by_deadline : response ≤ asked.deadline
  pub answers : AnswersWithin asked response
  pub least : (lesser : ℕ) → 1 ≤ lesser → AnswersWithin asked lesser → response ≤ lesser

-- all that is asked comes round with the cycle
pub record AskedComesRound (asked : Asked) : Type 0 where
  pub phase : IsPhase asked.arrivals
  pub some : 1 ≤ asked.cycle
  pub arrivals : asked.arrivals.period ∣ asked.cycle
  pub demand : (start : ℤ) (width : ℕ) → asked.demand (start +ℤ pos asked.cycle) width ≡ asked.demand start width
