-- Over moments in order an earliest reader is at or before a job exactly where its writer is at or before that job's
-- latest.
use Rattle.std.proofs.Common.{◌≡◌, ℕ, zero, suc, ◌-◌, ◌<◌, ◌≤◌, ◌↔◌, List, length, ap, subst, arith, inl, inr}
use Rattle.std.specs.Prelude.{slice_index}
use Rattle.std.proofs.lemmas.Bool.{cases_lt}
use Rattle.cl_model.specs.{declared.group.Group.Group, Groups.group_at}
use Rattle.cl_runs.specs.{TaskTiming.{System, IsSound}, Chains.{Moments, IsEarliestReader, IsLatestWriter, JobChain, first_job, last_job, IsForwardChain, AreBackwardLinks}, RunChains.ideal_moments, MomentOrder.{AreInOrder, AreGroupsOf}}
use Rattle.cl_runs.proofs.OrderedMoments.{ideal_in_order}
use Rattle.cl_exact.specs.Hops.{HasNoWriter}

module _ (moments : Moments) (groups : List Group) (order : AreInOrder moments groups) where
  -- reads and writes of jobs in order are in order
  reads_ordered : (i k l s t : ℕ) → i < length groups → k ≤ l
      → moments.reads (group_at groups i) k s → moments.reads (group_at groups i) l t → s ≤ t
  reads_ordered i k l s t h le one other = elim (cases_lt k l) [
    | inl less ↦ omega (arith, order.reads_rise i k l s t h less one other)
    | inr equal ↦
        let same : k ≡ l = omega arith in
        omega (arith, order.unique.reads i l s t h (subst (λ job. moments.reads (group_at groups i) job s) same one) other)
  ]

  writes_ordered : (i k l s t : ℕ) → i < length groups → k ≤ l
      → moments.writes (group_at groups i) k s → moments.writes (group_at groups i) l t → s ≤ t
  writes_ordered i k l s t h le one other = elim (cases_lt k l) [
    | inl less ↦ omega (arith, order.writes_rise i k l s t h less one other)
    | inr equal ↦
        let same : k ≡ l = omega arith in
        omega (arith, order.unique.writes i l s t h (subst (λ job. moments.writes (group_at groups i) job s) same one) other)
  ]

  pub hop_both_ways : (i writing first reading last : ℕ) → suc i < length groups
      → IsEarliestReader moments (group_at groups i) (group_at groups (suc i)) writing first
      → IsLatestWriter moments (group_at groups i) (group_at groups (suc i)) last reading
      → (first ≤ reading) ↔ (writing ≤ last)
  hop_both_ways i writing first reading last h forward backward = (
    λ le. backward.greatest writing forward.write forward.writes
        (omega (arith, forward.after, reads_ordered (suc i) first reading forward.read backward.read h le forward.reads backward.reads)),
    λ le. forward.least reading backward.read backward.reads
        (omega (arith, backward.before, writes_ordered i writing last forward.write backward.write (omega (arith, h)) le forward.writes backward.writes)),
  )

  pub no_writer : (i writing first reading : ℕ) → suc i < length groups
      → IsEarliestReader moments (group_at groups i) (group_at groups (suc i)) writing first
      → HasNoWriter moments (group_at groups i) (group_at groups (suc i)) reading → reading < first
  no_writer i writing first reading h forward without = elim (cases_lt reading first) [
    | inl later ↦ later
    | inr le ↦ absurd (without.none writing forward.write forward.writes
        (omega (arith, forward.after, reads_ordered (suc i) first reading forward.read without.read h le forward.reads without.reads)))
  ]

  -- along whole chains
  along : (chain : JobChain) (jobs : List ℕ) → IsForwardChain moments groups chain → AreBackwardLinks moments groups jobs
      → (i : ℕ) → i < length groups → (slice_index chain.jobs i ≤ slice_index jobs i) ↔ (first_job chain ≤ slice_index jobs 0)
  along chain jobs forward backward zero h = (λ le. le, λ le. le)
  along chain jobs forward backward (suc i) h =
      let hop = hop_both_ways i _ _ _ _ h (forward.linked i h) (backward.linked i h) in
      let rest = along chain jobs forward backward i (omega (arith, h)) in
      (λ le. rest.0 (hop.0 le), λ le. hop.1 (rest.1 le))

  pub chains_both_ways : (chain : JobChain) (jobs : List ℕ) → IsForwardChain moments groups chain → AreBackwardLinks moments groups jobs
      → (last_job chain ≤ slice_index jobs (length jobs - 1)) ↔ (first_job chain ≤ slice_index jobs 0)
  chains_both_ways chain jobs forward backward =
      let one : length chain.jobs - 1 ≡ length groups - 1 = omega (arith, forward.one_a_group) in
      let other : length jobs - 1 ≡ length groups - 1 = omega (arith, backward.one_a_group) in
      let all = along chain jobs forward backward (length groups - 1) (omega (arith, forward.some_group)) in
      let here = ap (slice_index chain.jobs) one in
      let there = ap (slice_index jobs) other in
      (λ le. all.0 (omega (arith, le, here, there)), λ le. omega (arith, all.1 le, here, there))

-- so it is for the ideal moments of a sound system
pub ideal_hops : (system : System) → IsSound system → (groups : List Group) → AreGroupsOf system groups
    → (i writing first reading last : ℕ) → suc i < length groups
    → IsEarliestReader (ideal_moments system) (group_at groups i) (group_at groups (suc i)) writing first
    → IsLatestWriter (ideal_moments system) (group_at groups i) (group_at groups (suc i)) last reading
    → (first ≤ reading) ↔ (writing ≤ last)
ideal_hops system sound groups of = hop_both_ways (ideal_moments system) groups (ideal_in_order system sound groups of)

pub ideal_no_writer : (system : System) → IsSound system → (groups : List Group) → AreGroupsOf system groups
    → (i writing first reading : ℕ) → suc i < length groups
    → IsEarliestReader (ideal_moments system) (group_at groups i) (group_at groups (suc i)) writing first
    → HasNoWriter (ideal_moments system) (group_at groups i) (group_at groups (suc i)) reading → reading < first
ideal_no_writer system sound groups of = no_writer (ideal_moments system) groups (ideal_in_order system sound groups of)

pub ideal_chains : (system : System) → IsSound system → (groups : List Group) → AreGroupsOf system groups
    → (chain : JobChain) (jobs : List ℕ) → IsForwardChain (ideal_moments system) groups chain → AreBackwardLinks (ideal_moments system) groups jobs
    → (last_job chain ≤ slice_index jobs (length jobs - 1)) ↔ (first_job chain ≤ slice_index jobs 0)
ideal_chains system sound groups of = chains_both_ways (ideal_moments system) groups (ideal_in_order system sound groups of)
