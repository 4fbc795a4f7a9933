-- What is measured exists: of moments that can be decided, and so of every run.
use Rattle.std.proofs.Common.{◌≡◌, ℕ, ◌+◌, ◌-◌, ◌<◌, inl, inr, List, [], length, refl, sym, ap, ◌∙◌, subst, arith}
use Rattle.std.specs.Prelude.{slice_index, sum_by}
use Rattle.std.proofs.lemmas.Bool.{cases_lt}
use Rattle.std.proofs.lemmas.List.{get_or_past}
use Rattle.std.proofs.lemmas.List.Sums.{get_or-le-sum_by}
use Rattle.cl_model.specs.{declared.group.Group.Group, Groups.group_at}
use Rattle.cl_runs.specs.{TaskTiming.System, Run.{Run, jobs_of}, Chains.{Moments, HasWritten, JobChain, first_group, last_group, first_job, last_job, IsForwardChain, AreBackwardLinks, IsAgeChain, IsReducedChain}, Measured.{Measured, IsMeasured}, MomentOrder.AreUnique}
use Rattle.cl_runs.specs.RunChains.{run_moments}
use Rattle.cl_runs.proofs.{ChainsUnique.{forward_once, age_once, reduced_once}, FirstBelow.both_or_not, MomentFacts.{reads_once, writes_once}}
use Rattle.cl_chain.proofs.{ChainsByJob.{HasChain, some_count, some_measured}, DecidedMoments.{Decided, some_read, some_write}, LinkedJobs.{AreDecided, has_written, HasForward, forward_or_not, HasBackward, backward_or_not, backward_once}}

module _ (moments : Moments) (bound : ℕ) (are : AreDecided moments bound) (groups : List Group) (some : 0 < length groups) where
  unique : AreUnique moments groups
  unique = record {
    reads = λ i job s t lt one other. are.reads_once (group_at groups i) job s t one other;
    writes = λ i job s t lt one other. are.writes_once (group_at groups i) job s t one other;
  }

  last_place : (jobs : List ℕ) → length jobs ≡ length groups → slice_index jobs (length groups - 1) ≡ slice_index jobs (length jobs - 1)
  last_place jobs size = ap (λ n. slice_index jobs (n - 1)) (sym size)

  -- ---- forwards

  forward_links : (chain : JobChain) → IsForwardChain moments groups chain → HasForward moments bound are groups (first_job chain)
  forward_links chain is = (chain.jobs, record { one_a_group = is.one_a_group; not_first = is.not_first; written = is.written; linked = is.linked }, refl)

  forward_first : (chain : JobChain) (job : ℕ) → IsForwardChain moments groups chain → first_job chain ≡ job → HasForward moments bound are groups job
  forward_first chain job is first = subst (HasForward moments bound are groups) first (forward_links chain is)

  a_forward : (job : ℕ) → HasForward moments bound are groups job → (t : ℕ) × moments.reads (first_group groups) (job - 1) t
      → HasChain (IsForwardChain moments groups) first_job job
  a_forward job links read =
      let end : HasWritten moments (last_group groups) (slice_index links.0 (length groups - 1)) = links.1.written (length groups - 1) (omega (arith, some)) in (
        record { from = read.0; to = end.write; jobs = links.0 },
        (
          record {
            some_group = some;
            one_a_group = links.1.one_a_group;
            not_first = links.1.not_first;
            written = links.1.written;
            linked = links.1.linked;
            from = subst (λ m. moments.reads (first_group groups) (m - 1) read.0) (sym links.2) read.1;
            to = subst (λ m. moments.writes (last_group groups) m end.write) (last_place links.0 links.1.one_a_group) end.writes;
          },
          links.2,
        ),
      )

  forward_decided : (job : ℕ) → Decided (HasChain (IsForwardChain moments groups) first_job job)
  forward_decided job = by_parts (both_or_not (forward_or_not moments bound are groups job some) (are.read (first_group groups) (job - 1)))
    where
      by_parts : Decided (HasForward moments bound are groups job × ((t : ℕ) × moments.reads (first_group groups) (job - 1) t))
          → Decided (HasChain (IsForwardChain moments groups) first_job job)
      by_parts (inl parts) = inl (a_forward job parts.0 parts.1)
      by_parts (inr not) = inr (λ has. not (
        forward_first has.0 job has.1.0 has.1.1,
        (has.0.from, subst (λ m. moments.reads (first_group groups) (m - 1) has.0.from) has.1.1 has.1.0.from),
      ))

  forward_few : (chain : JobChain) → IsForwardChain moments groups chain → first_job chain < bound
  forward_few chain is = let writes = is.written 0 some in are.writes_few (group_at groups 0) (slice_index chain.jobs 0) writes.write writes.writes

  -- ---- backwards

  abbrev HasEnds : (last : ℕ) → Type 0
  HasEnds last = HasWritten moments (last_group groups) last × HasWritten moments (last_group groups) (last + 1)

  ends_or_not : (last : ℕ) → Decided (HasEnds last)
  ends_or_not last = both_or_not (has_written moments bound are (last_group groups) last) (has_written moments bound are (last_group groups) (last + 1))

  abbrev HasRest : (last : ℕ) → Type 0
  HasRest last = (links : HasBackward moments bound are groups last) × ((t : ℕ) × moments.reads (first_group groups) (slice_index links.0 0) t)

  rest_or_not : (last : ℕ) → Decided (HasRest last)
  rest_or_not last = by_links (backward_or_not moments bound are groups last some)
    where
      by_read : (links : HasBackward moments bound are groups last) → Decided ((t : ℕ) × moments.reads (first_group groups) (slice_index links.0 0) t) → Decided (HasRest last)
      by_read links (inl read) = inl (links, read)
      by_read links (inr none) = inr (λ has.
          let same : has.0.0 ≡ links.0 = backward_once moments bound are groups has.0.0 links.0 some has.0.1 links.1 (has.0.2 ∙ sym links.2) in
          none (has.1.0, subst (λ js. moments.reads (first_group groups) (slice_index js 0) has.1.0) same has.1.1))

      by_links : Decided (HasBackward moments bound are groups last) → Decided (HasRest last)
      by_links (inl links) = by_read links (are.read (first_group groups) (slice_index links.0 0))
      by_links (inr none) = inr (λ has. none has.0)

  links_of : (last : ℕ) (links : HasBackward moments bound are groups last) → HasEnds last → AreBackwardLinks moments groups links.0
  links_of last links ends = record {
    some_group = some;
    one_a_group = links.1.one_a_group;
    linked = links.1.linked;
    last_written = subst (HasWritten moments (last_group groups)) (sym links.2) ends.0;
    next_written = subst (λ m. HasWritten moments (last_group groups) (m + 1)) (sym links.2) ends.1;
  }

  parts_of : (jobs : List ℕ) (last from : ℕ) → AreBackwardLinks moments groups jobs → moments.reads (first_group groups) (slice_index jobs 0) from
      → slice_index jobs (length jobs - 1) ≡ last → HasRest last × HasEnds last
  parts_of jobs last from links reads is = (
    ((jobs, record { one_a_group = links.one_a_group; linked = links.linked }, is), (from, reads)),
    (subst (HasWritten moments (last_group groups)) is links.last_written, subst (λ m. HasWritten moments (last_group groups) (m + 1)) is links.next_written),
  )

  age_decided : (job : ℕ) → Decided (HasChain (IsAgeChain moments groups) last_job job)
  age_decided job = by_parts (both_or_not (rest_or_not job) (ends_or_not job))
    where
      by_parts : Decided (HasRest job × HasEnds job) → Decided (HasChain (IsAgeChain moments groups) last_job job)
      by_parts (inl parts) = inl (
        record { from = parts.0.1.0; to = parts.1.1.write; jobs = parts.0.0.0 },
        (
          record {
            links = links_of job parts.0.0 parts.1;
            from = parts.0.1.1;
            to = subst (λ m. moments.writes (last_group groups) (m + 1) parts.1.1.write) (sym parts.0.0.2) parts.1.1.writes;
          },
          parts.0.0.2,
        ),
      )
      by_parts (inr not) = inr (λ has. not (parts_of has.0.jobs job has.0.from has.1.0.links has.1.0.from has.1.1))

  reduced_decided : (job : ℕ) → Decided (HasChain (IsReducedChain moments groups) last_job job)
  reduced_decided job = by_parts (both_or_not (rest_or_not job) (ends_or_not job))
    where
      by_parts : Decided (HasRest job × HasEnds job) → Decided (HasChain (IsReducedChain moments groups) last_job job)
      by_parts (inl parts) = inl (
        record { from = parts.0.1.0; to = parts.1.0.write; jobs = parts.0.0.0 },
        (
          record {
            links = links_of job parts.0.0 parts.1;
            from = parts.0.1.1;
            to = subst (λ m. moments.writes (last_group groups) m parts.1.0.write) (sym parts.0.0.2) parts.1.0.writes;
          },
          parts.0.0.2,
        ),
      )
      by_parts (inr not) = inr (λ has. not (parts_of has.0.jobs job has.0.from has.1.0.links has.1.0.from has.1.1))

  backward_few : (jobs : List ℕ) → AreBackwardLinks moments groups jobs → slice_index jobs (length jobs - 1) < bound
  backward_few jobs links = are.writes_few (last_group groups) (slice_index jobs (length jobs - 1)) links.last_written.write links.last_written.writes

  -- ---- together

  pub measured_exists : (measured : Measured) × IsMeasured moments groups measured
  measured_exists =
      let reaction = some_measured (IsForwardChain moments groups) first_job (forward_once moments groups unique) forward_decided bound forward_few in
      let age = some_measured (IsAgeChain moments groups) last_job (age_once moments groups unique) age_decided bound (λ chain is. backward_few chain.jobs is.links) in
      let reduced = some_measured (IsReducedChain moments groups) last_job (reduced_once moments groups unique) reduced_decided bound (λ chain is. backward_few chain.jobs is.links) in
      let forward = some_count (IsForwardChain moments groups) first_job (forward_once moments groups unique) forward_decided bound forward_few in
      let backward = some_count (IsAgeChain moments groups) last_job (age_once moments groups unique) age_decided bound (λ chain is. backward_few chain.jobs is.links) in (
        record { reaction = reaction.0; age = age.0; reduced = reduced.0; forward = forward.0; backward = backward.0 },
        record {
          is_reaction = reaction.1;
          is_age = age.1;
          is_reduced = reduced.1;
          forward_count = forward.1;
          backward_count = backward.1;
        },
      )

-- ---- of a run

-- all jobs together are more than those of a task
pub most_jobs : (run : Run) → ℕ
most_jobs run = sum_by length run.table.jobs

jobs_few : (run : Run) (task job : ℕ) → job < length (jobs_of run task) → job < most_jobs run
unfolding most_jobs
jobs_few run task job lt = elim (cases_lt task (length run.table.jobs)) [
  | inl below ↦ omega (arith, lt, get_or-le-sum_by length run.table.jobs task [] below)
  | inr past ↦ absurd (omega (arith, lt, ap length (get_or_past run.table.jobs task [] past)))
]

pub run_decided : (system : System) (run : Run) → AreDecided (run_moments system run) (most_jobs run)
unfolding run_moments
run_decided system run = record {
  read = λ group job. some_read system run group.task job group.first;
  write = λ group job. some_write system run group.task job group.last;
  reads_few = λ group job t reads. jobs_few run group.task job reads.in_table;
  writes_few = λ group job t writes. jobs_few run group.task job writes.in_table;
  reads_once = λ group job s t one other. reads_once system run group.task job group.first s t one other;
  writes_once = λ group job s t one other. writes_once system run group.task job group.last s t one other;
}

pub run_measured : (system : System) (run : Run) (groups : List Group) → 0 < length groups → (measured : Measured) × IsMeasured (run_moments system run) groups measured
run_measured system run groups some = measured_exists (run_moments system run) (most_jobs run) (run_decided system run) groups some
