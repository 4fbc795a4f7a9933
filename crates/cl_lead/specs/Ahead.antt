-- The lead of what runs ahead of a runnable: how long after the arrival of its job it starts at
-- least. Times are in ticks.
use Rattle.std.specs.Prelude.{◌≡◌, ℕ, suc, pos, ◌-ℤ◌, ◌+ℤ◌, ◌≤ℤ◌, ◌+◌, ◌-◌, ◌<◌, ◌≤◌, ◌⊎◌, Bool, cond, nat_le, min, filter, find, unwrap_or, unsigned_abs}
use Rattle.std.specs.List.{list_all, list_any, range_with_len}
use Rattle.cl_stim.specs.{declared.phase.Phase.Phase, Phase.{IsArrivalOf, arrives_at, last_arrival}}

-- what runs ahead of a runnable: when its jobs arrive, after how many ticks all comes round, the
-- least times before it in its job, its deadline, and for how many ticks those above run at least
-- that are released from a moment on, up to so many ticks later
pub record Ahead : Type 0 where
  pub arrivals : Phase
  pub cycle : ℕ
  pub before : ℕ
  pub deadline : ℕ
  pub work : (from width : ℕ) → ℕ

-- the ticks that go to these from a moment on, and to the job itself if it arrives then or later
abbrev pub ticks_taken : Ahead → (arrival from width : ℕ) → ℕ
ticks_taken ahead arrival from width = ahead.work from width + cond (nat_le from arrival) ahead.before 0

-- from how many moments on they are counted: from the start of the runnable back to the tick after
-- the arrival before, and to no moment before 0
abbrev pub moments_back : Ahead → (arrival lead : ℕ) → ℕ
moments_back ahead arrival lead =
    min (suc (arrival + lead)) (lead + unsigned_abs (pos arrival -ℤ last_arrival ahead.arrivals (pos arrival -ℤ pos 1)))

-- it may start so long after the arrival: from each of these moments on there are ticks enough
-- until then
abbrev pub may_start : Ahead → (arrival lead : ℕ) → Bool
may_start ahead arrival lead =
    list_all (λ width. nat_le (ticks_taken ahead arrival ((arrival + lead) - width) width) width)
    (range_with_len 0 (moments_back ahead arrival lead))

-- it may do so after some arrival of a cycle
abbrev pub may_lead : Ahead → (lead : ℕ) → Bool
may_lead ahead lead =
    list_any (λ moment. may_start ahead moment lead)
    (filter (λ moment. arrives_at ahead.arrivals (pos moment)) (range_with_len 0 ahead.cycle))

-- the least such distance from the least times before it up to the deadline, and the deadline where
-- there is none
unfoldable pub least_lead : Ahead → ℕ
least_lead ahead =
    unwrap_or (find (λ lead. may_lead ahead lead) (range_with_len ahead.before (suc ahead.deadline - ahead.before))) ahead.deadline

-- ---- in words

-- after an arrival a runnable may start at a moment: from each one on after the arrival before, and
-- from 0 on, there are ticks enough until then
abbrev pub MayStartAt : Ahead → (arrival start : ℕ) → Type 0
MayStartAt ahead arrival start = (from width : ℕ)
    → (last_arrival ahead.arrivals (pos arrival -ℤ pos 1) +ℤ pos 1) ≤ℤ pos from → from + width ≡ start
    → ticks_taken ahead arrival from width ≤ width

-- after some arrival of a cycle it may start so long after it
pub record MayLead (ahead : Ahead) (lead : ℕ) : Type 0 where
  pub arrival : ℕ
  pub in_cycle : arrival < ahead.cycle
  pub arrives : IsArrivalOf ahead.arrivals (pos arrival)
  pub may_start : MayStartAt ahead arrival (arrival + lead)

-- a lead is the least distance that may be, from the least times before up to the deadline, or the
-- deadline
pub record IsLead (ahead : Ahead) (lead : ℕ) : Type 0 where
  pub by_deadline : lead ≤ ahead.deadline
  pub is : (lead ≡ ahead.deadline) ⊎ ((ahead.before ≤ lead) × MayLead ahead lead)
  pub least : (other : ℕ) → ahead.before ≤ other → other ≤ ahead.deadline → MayLead ahead other → lead ≤ other
