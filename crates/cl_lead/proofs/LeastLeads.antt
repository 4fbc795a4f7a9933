-- The least lead is at most the deadline, and at most each distance from the least times before on
-- that may be.
use Rattle.std.proofs.Common.{◌≡◌, ℕ, suc, ◌+◌, ◌-◌, ◌<◌, ◌≤◌, ◌⊎◌, inl, inr, Bool, true, nat_le, min, Option, Some, None, unwrap_or, ℤ, pos, negsuc, ◌+ℤ◌, ◌-ℤ◌, ◌≤ℤ◌, unsigned_abs, refl, subst, arith}
use Rattle.std.specs.Prelude.{find}
use Rattle.std.specs.List.{range_with_len}
use Rattle.std.proofs.lemmas.Int.{ints}
use Rattle.std.proofs.lemmas.Bool.{leb-true, le-leb}
use Rattle.cl_stim.specs.Phase.{IsPhase, last_arrival, arrives_at}
use Rattle.cl_stim.proofs.{ArrivalTests.{arrives_from_test, test_from_arrival}, PhaseSteps.last_before}
use Rattle.cl_lead.specs.Ahead.{Ahead, ticks_taken, moments_back, may_start, may_lead, least_lead, MayStartAt, MayLead, IsLead}
use Rattle.cl_lead.proofs.LeadRanges.{each_passes, all_pass, found_none, found_from, found_below, found_passes, found_first, some_of_them_passes, one_of_them_passes}

-- ---- the least

module _ (ahead : Ahead) where
  abbrev many : ℕ
  many = suc ahead.deadline - ahead.before

  found_within : (found : Option ℕ) → find (λ lead. may_lead ahead lead) (range_with_len ahead.before (suc ahead.deadline - ahead.before)) ≡ found
      → unwrap_or found ahead.deadline ≤ ahead.deadline
  found_within None is = omega arith
  found_within (Some lead) is = omega (arith, found_below (λ l. may_lead ahead l) ahead.before many lead is, found_from (λ l. may_lead ahead l) ahead.before many lead is)

  -- it is at most the deadline
  pub lead_within : least_lead ahead ≤ ahead.deadline
  unfolding least_lead
  lead_within = found_within _ refl

  module _ (other : ℕ) (from : ahead.before ≤ other) (within : other ≤ ahead.deadline) (passes : may_lead ahead other ≡ true) where
    found_least : (found : Option ℕ) → find (λ lead. may_lead ahead lead) (range_with_len ahead.before (suc ahead.deadline - ahead.before)) ≡ found
        → unwrap_or found ahead.deadline ≤ other
    found_least None is = found_none (λ l. may_lead ahead l) ahead.before many is other from (omega (arith, from, within)) passes
    found_least (Some lead) is = found_first (λ l. may_lead ahead l) ahead.before many lead is other from passes

    -- and at most each that may be
    pub lead_least : least_lead ahead ≤ other
    unfolding least_lead
    lead_least = found_least _ refl

  found_there : (found : Option ℕ) → find (λ lead. may_lead ahead lead) (range_with_len ahead.before (suc ahead.deadline - ahead.before)) ≡ found
      → (unwrap_or found ahead.deadline ≡ ahead.deadline)
      ⊎ ((ahead.before ≤ unwrap_or found ahead.deadline) × (may_lead ahead (unwrap_or found ahead.deadline) ≡ true))
  found_there None is = inl refl
  found_there (Some lead) is = inr (
    found_from (λ l. may_lead ahead l) ahead.before many lead is,
    found_passes (λ l. may_lead ahead l) ahead.before many lead is,
  )

  pub lead_there : (least_lead ahead ≡ ahead.deadline) ⊎ ((ahead.before ≤ least_lead ahead) × (may_lead ahead (least_lead ahead) ≡ true))
  unfolding least_lead
  lead_there = found_there _ refl

-- ---- the tests in words

abs_is : (z : ℤ) → pos 0 ≤ℤ z → pos (unsigned_abs z) ≡ z
abs_is (pos n) some = refl
abs_is (negsuc n) some = absurd (omega (arith, ints, some))

module _ (arrival lead from width ago : ℕ) (last : ℤ) (is_ago : pos ago ≡ (pos arrival -ℤ last)) (ends : from + width ≡ arrival + lead) where
  counted : (last +ℤ pos 1) ≤ℤ pos from → width < 0 + min (suc (arrival + lead)) (lead + ago)
  counted after =
      let near : width < lead + ago = omega (arith, ints, is_ago, ends, after) in
      omega (arith, near, ends)

  after_last : width < 0 + min (suc (arrival + lead)) (lead + ago) → (last +ℤ pos 1) ≤ℤ pos from
  after_last below =
      let near : width < lead + ago = omega (arith, below) in
      omega (arith, ints, is_ago, ends, near)

module _ (ahead : Ahead) (phase : IsPhase ahead.arrivals) (arrival lead : ℕ) where
  abbrev last : ℤ
  last = last_arrival ahead.arrivals (pos arrival -ℤ pos 1)

  since : (last : ℤ) → last ≤ℤ (pos arrival -ℤ pos 1) → pos 0 ≤ℤ (pos arrival -ℤ last)
  since last before = omega (arith, ints, before)

  is_ago : pos (unsigned_abs (pos arrival -ℤ last)) ≡ (pos arrival -ℤ last)
  is_ago = abs_is (pos arrival -ℤ last) (since last (last_before ahead.arrivals phase (pos arrival -ℤ pos 1)))

  abbrev fits : (width : ℕ) → Bool
  fits width = nat_le (ticks_taken ahead arrival ((arrival + lead) - width) width) width

  -- the test of one arrival says that a runnable may start then
  pub start_from_test : may_start ahead arrival lead ≡ true → MayStartAt ahead arrival (arrival + lead)
  start_from_test passes from width after ends =
      let back : (arrival + lead) - width ≡ from = omega (arith, ends) in
      subst (λ m. ticks_taken ahead arrival m width ≤ width) back
      (leb-true _ _ (each_passes fits 0 (moments_back ahead arrival lead) passes width (omega arith)
      (counted arrival lead from width (unsigned_abs (pos arrival -ℤ last)) last is_ago ends after)))

  -- and the converse
  pub test_from_start : MayStartAt ahead arrival (arrival + lead) → may_start ahead arrival lead ≡ true
  test_from_start may = all_pass fits 0 (moments_back ahead arrival lead) (λ width _ below.
      let ends : (arrival + lead) - width + width ≡ arrival + lead = omega (arith, below) in
      le-leb _ _ (may ((arrival + lead) - width) width
      (after_last arrival lead ((arrival + lead) - width) width (unsigned_abs (pos arrival -ℤ last)) last is_ago ends below) ends))

module _ (ahead : Ahead) (phase : IsPhase ahead.arrivals) (lead : ℕ) where
  pub lead_from_test : may_lead ahead lead ≡ true → MayLead ahead lead
  lead_from_test passes =
      let (moment, _, below, arrives, may) =
      one_of_them_passes (λ m. may_start ahead m lead) (λ m. arrives_at ahead.arrivals (pos m)) 0 ahead.cycle passes in
      record {
        arrival = moment;
        in_cycle = omega (arith, below);
        arrives = arrives_from_test ahead.arrivals phase (pos moment) arrives;
        may_start = start_from_test ahead phase moment lead may;
      }

  pub test_from_lead : MayLead ahead lead → may_lead ahead lead ≡ true
  test_from_lead may =
      some_of_them_passes (λ m. may_start ahead m lead) (λ m. arrives_at ahead.arrivals (pos m)) 0 ahead.cycle
      may.arrival (omega arith) (omega (arith, may.in_cycle)) (test_from_arrival ahead.arrivals phase (pos may.arrival) may.arrives)
      (test_from_start ahead phase may.arrival lead may.may_start)

-- ---- the least in words

module _ (ahead : Ahead) (phase : IsPhase ahead.arrivals) where
  pub least_is_lead : IsLead ahead (least_lead ahead)
  least_is_lead = record {
    by_deadline = lead_within ahead;
    is = elim (lead_there ahead) [
      | inl deadline ↦ inl deadline
      | inr there ↦ inr (there.0, lead_from_test ahead phase (least_lead ahead) there.1)
    ];
    least = λ other from within may. lead_least ahead other from within (test_from_lead ahead phase other may);
  }

  -- there is no other
  pub lead_is_least : (lead : ℕ) → IsLead ahead lead → lead ≡ least_lead ahead
  lead_is_least lead is = elim is.is [
    | inl deadline ↦ elim least_is_lead.is [
      | inl too ↦ omega (arith, deadline, too)
      | inr there ↦ omega (arith, deadline, least_is_lead.by_deadline, is.least (least_lead ahead) there.0 least_is_lead.by_deadline there.1)
    ]
    | inr may ↦ elim least_is_lead.is [
      | inl too ↦ omega (arith, too, is.by_deadline, least_is_lead.least lead may.0 is.by_deadline may.1)
      | inr there ↦ omega (
        arith,
        is.least (least_lead ahead) there.0 least_is_lead.by_deadline there.1,
        least_is_lead.least lead may.0 is.by_deadline may.1,
      )
    ]
  ]
