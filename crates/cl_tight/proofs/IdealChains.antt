-- From each first job that reads when all tasks of timed periodic groups have begun there is a complete ideal chain.
use Rattle.std.proofs.Common.{◌≡◌, ℕ, zero, suc, ◌+◌, ◌-◌, ◌*◌, ◌<◌, ◌≤◌, List, length, map, sym, ap, subst, ◌∙◌, arith, inl, inr}
use Rattle.std.specs.Prelude.{slice_index}
use Rattle.std.specs.List.{range_with_len}
use Rattle.std.proofs.Math.Nat.{mul-le-mul_right}
use Rattle.std.proofs.lemmas.Bool.{cases_lt}
use Rattle.std.proofs.lemmas.Grind.{div_ceil_times}
use Rattle.std.proofs.lemmas.List.FromFn.{get_or-map-range_with_len, length-map-range_with_len}
use Rattle.cl_model.specs.{declared.group.Group.Group, Groups.group_at}
use Rattle.cl_runs.specs.{TaskTiming.System, Chains.{JobChain, last_group, IsEarliestReader, IsForwardChain}, RunChains.ideal_moments}
use Rattle.cl_exact.specs.{Hyperperiod.period_of, SteadyJobs.first_arrival_from}
use Rattle.cl_tight.proofs.{IdealSteps.{offset_of, read_in, write_in}, IdealWalks.{IsPeriodicGroup, reads_at, reads_is, writes_at}}

-- the first job that reads at or after a moment
module _ (system : System) (group : Group) (positive : 1 ≤ period_of system group) (moment : ℕ) where
  reads_from : moment ≤ read_in system group (first_arrival_from system group moment)
  reads_from = omega (arith, (div_ceil_times (moment - offset_of system group) (period_of system group) positive).0)

  least_from : (other : ℕ) → moment ≤ read_in system group other → first_arrival_from system group moment ≤ other
  least_from other after = elim (cases_lt other (first_arrival_from system group moment)) [
    | inl less ↦
        let period : ℕ = period_of system group in
        let times = (div_ceil_times (moment - offset_of system group) period positive).1 in
        let more : suc other * period ≤ first_arrival_from system group moment * period = mul-le-mul_right period less in
        absurd (omega (arith, times, more, after))
    | inr le ↦ le
  ]

-- the jobs of the chain from a first one
job_of : System → List Group → (first place : ℕ) → ℕ
job_of system groups first zero = first
job_of system groups first (suc place) =
    first_arrival_from system (group_at groups (suc place)) (write_in system (group_at groups place) (job_of system groups first place))

-- a complete chain from a first job
pub record HasChainFrom (system : System) (groups : List Group) (first : ℕ) : Type 0 where
  pub chain : JobChain
  pub is_chain : IsForwardChain (ideal_moments system) groups chain
  pub starts : slice_index chain.jobs 0 ≡ first

module _ (system : System) (groups : List Group) (some : 0 < length groups)
    (periodic : (place : ℕ) → place < length groups → IsPeriodicGroup system (group_at groups place)) (first : ℕ)
    (begun : (place : ℕ) → place < length groups
    → offset_of system (group_at groups place) + period_of system (group_at groups place) ≤ read_in system (group_at groups 0) first) where
  abbrev group : ℕ → Group
  group place = group_at groups place

  abbrev job : ℕ → ℕ
  job = job_of system groups first

  positive : (place : ℕ) → place < length groups → 1 ≤ period_of system (group place)
  positive place within = let is = periodic place within in omega (arith, is.some_deadline, is.soon)

  next_after : (place : ℕ) → suc place < length groups → write_in system (group place) (job place) ≤ read_in system (group (suc place)) (job (suc place))
  unfolding job_of
  next_after place within = reads_from system (group (suc place)) (positive (suc place) within) (write_in system (group place) (job place))

  next_least : (place other : ℕ) → suc place < length groups → write_in system (group place) (job place) ≤ read_in system (group (suc place)) other
      → job (suc place) ≤ other
  unfolding job_of
  next_least place other within = least_from system (group (suc place)) (positive (suc place) within) (write_in system (group place) (job place)) other

  -- each reads at or after the first
  reads_after : (place : ℕ) → place < length groups → read_in system (group 0) first ≤ read_in system (group place) (job place)
  unfolding job_of
  reads_after zero within = omega arith
  reads_after (suc place) within = omega (arith, reads_after place (omega (arith, within)), next_after place within)

  -- so none has number 0
  not_first : (place : ℕ) → place < length groups → 1 ≤ job place
  not_first place within = elim (cases_lt 0 (job place)) [
    | inl up ↦ up
    | inr none ↦
        let here : job place ≡ 0 = omega (arith, none) in
        let start : read_in system (group place) 0 ≡ offset_of system (group place) = omega arith in
        absurd (omega (arith, begun place within, reads_after place within, ap (read_in system (group place)) here, start, positive place within))
  ]

  link : (place : ℕ) → suc place < length groups → IsEarliestReader (ideal_moments system) (group place) (group (suc place)) (job place) (job (suc place))
  link place within = record {
    write = write_in system (group place) (job place);
    read = read_in system (group (suc place)) (job (suc place));
    writes = writes_at system (group place) (periodic place (omega (arith, within))) (job place);
    reads = reads_at system (group (suc place)) (periodic (suc place) within) (job (suc place));
    after = next_after place within;
    least = λ other r reads after.
        next_least place other within (omega (arith, after, reads_is system (group (suc place)) (periodic (suc place) within) other r reads));
  }

  -- ---- as a chain

  jobs : List ℕ
  jobs = map job (range_with_len 0 (length groups))

  as_many : length jobs ≡ length groups
  unfolding jobs
  as_many = length-map-range_with_len job 0 (length groups)

  at : (place : ℕ) → place < length groups → slice_index jobs place ≡ job place
  unfolding jobs
  at place within = get_or-map-range_with_len job 0 (length groups) place place 0 within (omega arith)

  last_within : length groups - 1 < length groups
  last_within = omega (arith, some)

  last_at : slice_index jobs (length jobs - 1) ≡ job (length groups - 1)
  last_at = ap (slice_index jobs) (omega (arith, as_many)) ∙ at (length groups - 1) last_within

  chain : JobChain
  chain = record { from = read_in system (group 0) (first - 1); to = write_in system (last_group groups) (job (length groups - 1)); jobs = jobs }

  is_chain : IsForwardChain (ideal_moments system) groups chain
  unfolding chain job_of
  is_chain = record {
    some_group = some;
    one_a_group = as_many;
    not_first = λ place within. omega (arith, at place within, not_first place within);
    written = λ place within. record {
      write = write_in system (group place) (slice_index jobs place);
      writes = writes_at system (group place) (periodic place within) (slice_index jobs place);
    };
    linked = λ place within.
        subst (λ m. IsEarliestReader (ideal_moments system) (group place) (group (suc place)) m (slice_index jobs (suc place))) (sym (at place (omega (arith, within))))
        (subst (λ k. IsEarliestReader (ideal_moments system) (group place) (group (suc place)) (job place) k) (sym (at (suc place) within)) (link place within));
    from = subst (λ k. (ideal_moments system).reads (group 0) (k - 1) (read_in system (group 0) (first - 1))) (sym (at 0 some))
        (reads_at system (group 0) (periodic 0 some) (first - 1));
    to = subst (λ k. (ideal_moments system).writes (last_group groups) k (write_in system (last_group groups) (job (length groups - 1)))) (sym last_at)
        (writes_at system (last_group groups) (periodic (length groups - 1) last_within) (job (length groups - 1)));
  }

  -- each such first job has its chain
  pub has_chain : HasChainFrom system groups first
  unfolding job_of chain
  has_chain = record { chain = chain; is_chain = is_chain; starts = at 0 some }
