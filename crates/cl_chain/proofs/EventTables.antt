-- Moments with an event before each job of the first group: the arrivals, the order, and what is measured over them.
use Rattle.std.proofs.Common.{◌≡◌, ℕ, zero, suc, ◌+◌, ◌-◌, ◌<◌, ◌≤◌, Option, Some, None, List, [], ◌∷◌, length, length-set, map, set, refl, sym, ap, ◌∙◌, subst, arith}
use Rattle.std.specs.Prelude.{slice_index}
use Rattle.std.proofs.lemmas.List.{get_or-set_same}
use Rattle.cl_model.specs.{declared.{model.SystemModel.SystemModel, group.Group.Group}, Groups.groups_at, Validity.IsValid}
use Rattle.cl_runs.specs.{declared.job.Job.Job, Table.no_job, TaskTiming.System, SystemOf.system_of, Run.{Run, jobs_of, IsInForm}, Chains.{JobChain, first_job}, Delays.IsDelayChain}
use Rattle.cl_runs.proofs.{ChainsUnique.chain_same, ModelSystem.system_sound}
use Rattle.cl_check.specs.InOrder.{AreGroupsInOrder}
use Rattle.cl_chain.specs.{declared.group_moments.GroupMoments.GroupMoments, GreatestDelays.{IsGreatestDelay, IsGreatestDelayBy}, Inner.{GroupTables.{moment_at, AreMomentsAt, NeverFall, writes_in}, ChainsOver.{IsForwardOver, AreForwardOrdered}, Events.{JobArrives, with_events}}}
use Rattle.cl_chain.specs.Inner.Events.{AreEventTables, after_event, IsDelayOver}
use Rattle.cl_chain.proofs.{ForwardFacts.forward_written, GroupReads.mapped_moments, MomentsInOrder.moments_in_order, RunTables.writes_never_fall, EventChains.{delay_to, delay_from}}

-- ---- arrivals

pub arrivals_listed : (run : Run) (task : ℕ) (jobs : List Job) → jobs ≡ jobs_of run task → (moments : List (Option ℕ))
    → moments ≡ map (λ (job : Job). Some job.arrival) jobs → AreMomentsAt (JobArrives run task) moments
arrivals_listed run task jobs of moments are =
    subst (λ (xs : List (Option ℕ)). AreMomentsAt (JobArrives run task) xs) (sym (are ∙ ap (map (λ (job : Job). Some job.arrival)) of))
    (mapped_moments (JobArrives run task) (λ (job : Job). Some job.arrival) (jobs_of run task) no_job
    (λ job s t one other. one.at_arrival ∙ sym other.at_arrival)
    (λ job below. record { in_table = below; at_arrival = refl })
    (λ job t arrives. arrives.in_table))

-- ---- order

-- one job before the others writes nothing
one_more : (writes : List (Option ℕ)) → NeverFall writes → NeverFall (None ∷ writes)
one_more writes order = record { in_order = in_order }
  where
    in_order : (job later s t : ℕ) → job < later → moment_at (None ∷ writes) job ≡ Some s → moment_at (None ∷ writes) later ≡ Some t → s ≤ t
    in_order zero later s t less one other = absurd cc
    in_order (suc job) zero s t less one other = absurd (omega (arith, less))
    in_order (suc job) (suc later) s t less one other = order.in_order job later s t (omega (arith, less)) one other

events_never_fall : (arrivals : List (Option ℕ)) (plain : List GroupMoments) → ((i : ℕ) → i < length plain → NeverFall (writes_in plain i))
    → (i : ℕ) → i < length plain → NeverFall (writes_in (set plain 0 (with_events arrivals (writes_in plain 0))) i)
events_never_fall arrivals [] order i h = absurd (omega (arith, h))
events_never_fall arrivals (group ∷ rest) order zero h = one_more group.writes (order 0 h)
events_never_fall arrivals (group ∷ rest) order (suc i) h = order (suc i) h

-- ---- what is measured

-- the first job has a number before
pub has_event : (tables : List GroupMoments) (chain : JobChain) → IsForwardOver tables chain → (0 < length chain.jobs) × (1 ≤ slice_index chain.jobs 0)
has_event tables chain is = (
  omega (arith, is.jobs.some, is.jobs.one_a_group),
  (forward_written tables chain.jobs (length tables) chain.to is.jobs 0 is.jobs.some).1.not_first,
)

there_and_back : (jobs : List ℕ) → 0 < length jobs → 1 ≤ slice_index jobs 0
    → set (set jobs 0 (slice_index jobs 0 - 1)) 0 (slice_index (set jobs 0 (slice_index jobs 0 - 1)) 0 + 1) ≡ jobs
there_and_back [] some first = absurd (omega (arith, some))
there_and_back (job ∷ jobs) some first = let same : job - 1 + 1 ≡ job = omega (arith, first) in ap (λ n. n ∷ jobs) same

module _ (tables : List GroupMoments) (chain : JobChain) (is : IsGreatestDelay (IsForwardOver tables) chain) where
  abbrev numbered : JobChain
  numbered = record { from = chain.from; to = chain.to; jobs = set chain.jobs 0 (first_job chain - 1) }

  has : (0 < length chain.jobs) × (1 ≤ slice_index chain.jobs 0)
  has = has_event tables chain is.is_chain

  greatest_numbered : IsGreatestDelay (IsDelayOver tables) numbered
  greatest_numbered = record {
    is_chain = subst (IsForwardOver tables) (sym (chain_same (after_event numbered) chain refl refl (there_and_back chain.jobs has.0 has.1))) is.is_chain;
    greatest = λ other is_other. is.greatest (after_event other) is_other;
    least = λ other is_other equal.
        let some : 0 < length other.jobs
        = omega (arith, is_other.jobs.some, is_other.jobs.one_a_group, length-set other.jobs 0 (first_job other + 1)) in
        omega (
          arith,
          is.least (after_event other) is_other equal,
          get_or-set_same other.jobs 0 (first_job other + 1) 0 some,
          get_or-set_same chain.jobs 0 (first_job chain - 1) 0 has.0,
        );
  }

  pub delay_measured : (from to : ℕ) (jobs : List ℕ) → from ≡ chain.from → to ≡ chain.to → jobs ≡ set chain.jobs 0 (first_job chain - 1)
      → IsGreatestDelay (IsDelayOver tables) (record { from = from; to = to; jobs = jobs })
  delay_measured from to jobs is_from is_to are =
      subst (IsGreatestDelay (IsDelayOver tables)) (sym (chain_same (record { from = from; to = to; jobs = jobs }) numbered is_from is_to are)) greatest_numbered

-- ---- a chain of a valid model, in a run in order

module _ (model : SystemModel) (valid : IsValid model) (run : Run) (in_form : IsInForm (system_of model) run) (chain : ℕ)
    (ordered : AreGroupsInOrder (groups_at model chain) run) (some : 0 < length (groups_at model chain))
    (tables : List GroupMoments) (are : AreEventTables (system_of model) run (groups_at model chain) tables) where
  same_count : length tables ≡ length are.plain
  same_count = ap length are.is ∙ length-set are.plain 0 (with_events are.arrivals (writes_in are.plain 0))

  pub events_ordered : AreForwardOrdered tables
  events_ordered = record {
    some = omega (arith, some, same_count, are.are_tables.one_a_group);
    writes = λ i h.
        subst (λ (ts : List GroupMoments). NeverFall (writes_in ts i)) (sym are.is)
        (events_never_fall are.arrivals are.plain
        (writes_never_fall (system_of model) run (groups_at model chain) are.plain are.are_tables
        (moments_in_order (system_of model) (system_sound model valid) run in_form (groups_at model chain) ordered))
        i (omega (arith, h, same_count)));
  }

-- what is found over the lists is so of the run
module _ (system : System) (run : Run) (all : List Group) (tables : List GroupMoments) (are : AreEventTables system run all tables) where
  pub delay_answer : (found : Option JobChain) → IsGreatestDelayBy (IsDelayOver tables) found → IsGreatestDelayBy (IsDelayChain system run all) found
  delay_answer None none = λ chain is. none chain (delay_from system run all tables are chain is)
  delay_answer (Some chain) is = record {
    is_chain = delay_to system run all tables are chain is.is_chain;
    greatest = λ other is_other. is.greatest other (delay_from system run all tables are other is_other);
    least = λ other is_other. is.least other (delay_from system run all tables are other is_other);
  }
