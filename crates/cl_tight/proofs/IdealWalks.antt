-- Walks of timed periodic groups are ideal chains: the walk onward from the read of the first job of a complete chain
-- goes along the reads of its jobs, and lasts as long as the chain.
use Rattle.std.proofs.Common.{◌≡◌, ℕ, zero, suc, ◌+◌, ◌-◌, ◌<◌, ◌≤◌, List, length, refl, sym, ap, subst, ◌∙◌, arith, inl, inr}
use Rattle.std.specs.Prelude.{ℤ, pos, ◌+ℤ◌, slice_index}
use Rattle.std.proofs.lemmas.Bool.{cases_lt}
use Rattle.std.proofs.lemmas.Int.{ints}
use Rattle.cl_model.specs.{declared.{group.Group.Group, stimulus.StimulusKind.TheVariants.Periodic}, Groups.group_at}
use Rattle.cl_runs.specs.{TaskTiming.{System, timing_at}, Chains.{JobChain, chain_length, last_group, first_job, last_job, IsForwardChain}, RunChains.{ArrivesAt, ideal_moments}}
use Rattle.cl_exact.specs.Hyperperiod.{period_of}
use Rattle.cl_phase.specs.{declared.{pace.Pace.TheVariants.Kept, stop.Stop.Stop}, Pace.first_from, Walks.{pace_at, lag_at, onward, back, arrival_at_last, arrival_at_first}, TightBounds.length_from}
use Rattle.cl_phase.proofs.PhaseAnswers.{LeadsTo}
use Rattle.cl_tight.proofs.IdealSteps.{offset_of, read_in, write_in, ideal_phase, ReadsAt, IsIdealLag, next_read, last_is_read, hop_is_read}

-- a group whose task is periodic, with a deadline within its period
pub record IsPeriodicGroup (system : System) (group : Group) : Type 0 where
  pub jitter : ℕ
  pub periodic : (timing_at system group.task).pattern ≡ Periodic (period_of system group) (offset_of system group) jitter
  pub some_deadline : 1 ≤ (timing_at system group.task).deadline
  pub soon : (timing_at system group.task).deadline ≤ period_of system group

-- the stops of timed periodic groups
pub record AreIdealStops (system : System) (groups : List Group) (stops : List Stop) : Type 0 where
  pub some : 0 < length groups
  pub as_many : length stops ≡ length groups
  pub periodic : (place : ℕ) → place < length groups → IsPeriodicGroup system (group_at groups place)
  pub paces : (place : ℕ) → place < length groups → pace_at stops place ≡ Kept (ideal_phase system (group_at groups place))
  pub leads : (place : ℕ) → place < length groups → LeadsTo (ReadsAt system (group_at groups place)) (pace_at stops place)
  pub lags : (place : ℕ) → suc place < length groups → IsIdealLag system (group_at groups place) (group_at groups (suc place)) (lag_at stops place)

-- ---- the ideal moments of a periodic group

module _ (system : System) (group : Group) (is : IsPeriodicGroup system group) where
  pub reads_at : (job : ℕ) → (ideal_moments system).reads group job (read_in system group job)
  unfolding ideal_moments
  reads_at job = subst (λ kind. ArrivesAt kind job (read_in system group job)) (sym is.periodic) refl

  pub reads_is : (job tick : ℕ) → (ideal_moments system).reads group job tick → tick ≡ read_in system group job
  unfolding ideal_moments
  reads_is job tick at = subst (λ kind. ArrivesAt kind job tick) is.periodic at

  pub writes_at : (job : ℕ) → (ideal_moments system).writes group job (write_in system group job)
  unfolding ideal_moments
  writes_at job = (read_in system group job, reads_at job, refl)

  pub writes_is : (job tick : ℕ) → (ideal_moments system).writes group job tick → tick ≡ write_in system group job
  unfolding ideal_moments
  writes_is job tick at = omega (arith, at.2, reads_is job at.0 at.1)

-- ---- walks along chains

module _ (system : System) (groups : List Group) (stops : List Stop) (are : AreIdealStops system groups stops) (chain : JobChain)
    (is : IsForwardChain (ideal_moments system) groups chain) where
  abbrev group : ℕ → Group
  group place = group_at groups place

  abbrev job : ℕ → ℕ
  job place = slice_index chain.jobs place

  -- a job reads at or after the write of the one before it, and no earlier job does
  read_after : (place : ℕ) → suc place < length groups → write_in system (group place) (job place) ≤ read_in system (group (suc place)) (job (suc place))
  read_after place within =
      let link = is.linked place within in
      let write = writes_is system (group place) (are.periodic place (omega (arith, within))) (job place) link.write link.writes in
      let read = reads_is system (group (suc place)) (are.periodic (suc place) within) (job (suc place)) link.read link.reads in
      omega (arith, link.after, write, read)

  read_first : (place : ℕ) → suc place < length groups
      → read_in system (group (suc place)) (job (suc place) - 1) < write_in system (group place) (job place)
  read_first place within =
      let link = is.linked place within in
      let write = writes_is system (group place) (are.periodic place (omega (arith, within))) (job place) link.write link.writes in
      let before : ℕ = job (suc place) - 1 in
      elim (cases_lt (read_in system (group (suc place)) before) (write_in system (group place) (job place))) [
        | inl less ↦ less
        | inr le ↦
            let least = link.least before (read_in system (group (suc place)) before) (reads_at system (group (suc place)) (are.periodic (suc place) within) before)
            (omega (arith, le, write)) in
            absurd (omega (arith, least, is.not_first (suc place) within))
      ]

  -- the walk onward goes along the reads
  along : (place : ℕ) → place < length groups
      → onward stops 0 (pos (read_in system (group 0) (job 0))) place ≡ pos (read_in system (group place) (job place))
  unfolding onward
  along zero within = refl
  along (suc place) within =
      let start : ℤ = pos (read_in system (group 0) (job 0)) in
      let before : place < length groups = omega (arith, within) in
      let writer = are.periodic place before in
      let here : 0 + suc place ≡ suc place = omega arith in
      let there : 0 + place ≡ place = omega arith in
      ap (λ n. first_from (pace_at stops n) (onward stops 0 start place +ℤ lag_at stops (0 + place))) here
      ∙ ap (λ n. first_from (pace_at stops (suc place)) (onward stops 0 start place +ℤ lag_at stops n)) there
      ∙ ap (λ z. first_from (pace_at stops (suc place)) (z +ℤ lag_at stops place)) (along place before)
      ∙ hop_is_read system (group place) (group (suc place)) (pace_at stops (suc place)) (are.leads (suc place) within) writer.some_deadline writer.soon
      (lag_at stops place) (are.lags place within) (job place) (job (suc place)) (is.not_first (suc place) within) (read_first place within) (read_after place within)

  -- and no read lies before the first
  first_before : (place : ℕ) → place < length groups → read_in system (group 0) (job 0) ≤ read_in system (group place) (job place)
  first_before zero within = omega arith
  first_before (suc place) within = omega (arith, first_before place (omega (arith, within)), read_after place within)

  abbrev last : ℕ
  last = length groups - 1

  last_within : last < length groups
  last_within = omega (arith, are.some)

  same_last : last_job chain ≡ job last
  same_last = ap (slice_index chain.jobs) (omega (arith, is.one_a_group))

  ends_at : arrival_at_last stops 0 (pos (read_in system (group 0) (job 0))) ≡ pos (read_in system (group last) (job last))
  ends_at =
      let hops : length stops - 1 - 0 ≡ length groups - 1 = omega (arith, are.as_many) in
      ap (onward stops 0 (pos (read_in system (group 0) (job 0)))) hops ∙ along (length groups - 1) last_within

  starts_at : 1 ≤ period_of system (group 0) → arrival_at_first stops 0 (pos (read_in system (group 0) (job 0))) ≡ pos (read_in system (group 0) (job 0 - 1))
  unfolding back
  starts_at positive = last_is_read system (group 0) (pace_at stops 0) (are.leads 0 are.some) (job 0) (is.not_first 0 are.some) positive

  ends_write : chain.to ≡ read_in system (group last) (job last) + (timing_at system (group last).task).deadline
  ends_write = writes_is system (group (length groups - 1)) (are.periodic (length groups - 1) last_within) (last_job chain) chain.to is.to
      ∙ ap (write_in system (group (length groups - 1))) same_last

  starts_read : chain.from ≡ read_in system (group 0) (job 0 - 1)
  starts_read = reads_is system (group 0) (are.periodic 0 are.some) (first_job chain - 1) chain.from is.from

  -- so it lasts as long as the chain
  pub walk_is_chain : (span : ℤ) → span ≡ pos (timing_at system (last_group groups).task).deadline
      → length_from stops span 0 (pos (read_in system (group 0) (first_job chain))) ≡ pos (chain_length chain)
  walk_is_chain span whole =
      let first = are.periodic 0 are.some in
      let positive : 1 ≤ period_of system (group 0) = omega (arith, first.some_deadline, first.soon) in
      let order : read_in system (group 0) (job 0 - 1) ≤ read_in system (group last) (job last) =
      omega (arith, next_read system (group 0) (job 0) (is.not_first 0 are.some), first_before last last_within) in
      omega (arith, ints, whole, ends_at, starts_at positive, ends_write, starts_read, order)
