-- The least of the leads after the arrivals of a cycle, one after the other.
use Rattle.std.proofs.Common.{◌≡◌, ℕ, ◌+◌, ◌<◌, ◌≤◌, ◌⊎◌, inl, inr, true, pos, sym, subst, arith}
use Rattle.std.proofs.lemmas.Bool.{cases_lt, cases_eq}
use Rattle.cl_stim.specs.Phase.{IsPhase, arrives_at}
use Rattle.cl_stim.proofs.ArrivalTests.{arrives_from_test, test_from_arrival}
use Rattle.cl_lead.specs.{Ahead.{Ahead, least_lead, MayLead}, Inner.Sure.{NoneMayStart, IsLeastLeadAfter}}
use Rattle.cl_lead.proofs.LeastLeads.{lead_is_least}

-- a distance is the deadline, or one at which a runnable may start after some arrival
abbrev pub IsReached : Ahead → (lead : ℕ) → Type 0
IsReached ahead lead = (lead ≡ ahead.deadline) ⊎ ((ahead.before ≤ lead) × MayLead ahead lead)

-- after no arrival before a moment it may start at a lesser distance
abbrev pub NoneBefore : Ahead → (lead until : ℕ) → Type 0
NoneBefore ahead lead until = (moment : ℕ) → moment < until → arrives_at ahead.arrivals (pos moment) ≡ true → NoneMayStart ahead moment ahead.before lead

module _ (ahead : Ahead) (phase : IsPhase ahead.arrivals) where
  module _ (least arrival lead : ℕ) (reached : IsReached ahead least) (in_cycle : arrival < ahead.cycle)
      (arrives : arrives_at ahead.arrivals (pos arrival) ≡ true) (after : IsLeastLeadAfter ahead arrival least lead) where
    pub reached_after : IsReached ahead lead
    reached_after = elim after.may [
      | inl same ↦ subst (IsReached ahead) (sym same) reached
      | inr may ↦ inr (
        after.no_less,
        record { arrival = arrival; in_cycle = in_cycle; arrives = arrives_from_test ahead.arrivals phase (pos arrival) arrives; may_start = may },
      )
    ]

    pub none_after : (next : ℕ) → ((between : ℕ) → arrival + 1 ≤ between → arrives_at ahead.arrivals (pos between) ≡ true → next ≤ between)
        → NoneBefore ahead least arrival → NoneBefore ahead lead next
    none_after next first none moment below passes = elim (cases_lt moment arrival) [
      | inl before ↦ λ other more less may. none moment before passes other more (omega (arith, less, after.no_more)) may
      | inr not ↦ elim (cases_eq moment arrival) [
        | inl same ↦ subst (λ m. NoneMayStart ahead m ahead.before lead) (sym same) after.none
        | inr apart ↦ absurd (omega (arith, below, first moment (omega (arith, not, apart)) passes))
      ]
    ]

  -- where it may start at no lesser distance after any arrival of the cycle, it is the least
  pub is_least : (lead : ℕ) → lead ≤ ahead.deadline → IsReached ahead lead → NoneBefore ahead lead ahead.cycle → lead ≡ least_lead ahead
  is_least lead within reached none = lead_is_least ahead phase lead (record {
    by_deadline = within;
    is = reached;
    least = λ other from by may. elim (cases_lt other lead) [
      | inl less ↦ absurd (none may.arrival may.in_cycle (test_from_arrival ahead.arrivals phase (pos may.arrival) may.arrives) other from less may.may_start)
      | inr more ↦ more
    ];
  })

  -- none is less than the least times before
  pub none_sooner : (lead until : ℕ) → lead ≤ ahead.before → NoneBefore ahead lead until
  none_sooner lead until by moment below passes other from less may = omega (arith, by, from, less)
