-- The chains from A to B of the two timed tasks: their exact lengths, and when the witness of the reduced age is
-- complete.
use Rattle.std.proofs.Common.{◌≡◌, ℕ, suc, ◌+◌, ◌-◌, ◌*◌, ◌<◌, ◌≤◌, inl, inr, List, [], ◌∷◌, length, refl, sym, ap, subst, arith}
use Rattle.std.specs.Prelude.{slice_index}
use Rattle.std.proofs.lemmas.Bool.{cases_lt}
use Rattle.std.proofs.lemmas.List.Elements.{All-from_recursion}
use Rattle.cl_model.specs.{declared.group.Group.Group, Groups.{no_group, group_at}}
use Rattle.cl_runs.specs.{Run.Run, Legal.IsLegal, Chains.{Moments, HasWritten, IsEarliestReader, IsLatestWriter, JobChain, first_job, last_job, IsForwardChain, AreBackwardLinks, IsAgeChain, IsReducedChain}, RunChains.{run_moments, ideal_moments}}
use Rattle.cl_exact.specs.ExactLengths.{second_arrival, HaveAllBegun, start_up, AreExactLengths}
use Rattle.cl_exact.proofs.RunExact.{chains_until_the_end}
use Rattle.cl_examples.specs.{Examples.{from_a_to_b, two_job_chain}, TimedExample.{timed_tasks, timed_lengths}}
use Rattle.cl_examples.proofs.{ExampleFacts.both, TimedTasks.{timed_sound, timed_settled}}

-- ---- moments

abbrev ideal : Moments
ideal = ideal_moments timed_tasks

abbrev a : Group
a = group_at from_a_to_b 0

abbrev b : Group
b = group_at from_a_to_b 1

reads_a : (k t : ℕ) → t ≡ 10 * k → ideal.reads a k t
unfolding ideal_moments timed_tasks
reads_a k t at = omega (arith, at)

read_of_a : (k t : ℕ) → ideal.reads a k t → t ≡ 10 * k
unfolding ideal_moments timed_tasks
read_of_a k t reads = omega (arith, reads)

writes_a : (k t : ℕ) → t ≡ 10 * k + 10 → ideal.writes a k t
unfolding ideal_moments timed_tasks
writes_a k t at = (10 * k, omega arith, omega (arith, at))

write_of_a : (k t : ℕ) → ideal.writes a k t → t ≡ 10 * k + 10
unfolding ideal_moments timed_tasks
write_of_a k t writes = omega (arith, writes.1, writes.2)

reads_b : (k t : ℕ) → t ≡ 15 * k → ideal.reads b k t
unfolding ideal_moments timed_tasks
reads_b k t at = omega (arith, at)

read_of_b : (k t : ℕ) → ideal.reads b k t → t ≡ 15 * k
unfolding ideal_moments timed_tasks
read_of_b k t reads = omega (arith, reads)

writes_b : (k t : ℕ) → t ≡ 15 * k + 15 → ideal.writes b k t
unfolding ideal_moments timed_tasks
writes_b k t at = (15 * k, omega arith, omega (arith, at))

write_of_b : (k t : ℕ) → ideal.writes b k t → t ≡ 15 * k + 15
unfolding ideal_moments timed_tasks
write_of_b k t writes = omega (arith, writes.1, writes.2)

-- ---- hops

-- job k of B is the earliest reader of job m of A, where it reads after that write, and the job before it doesn't
reads_first : (m k : ℕ) → 10 * m + 10 ≤ 15 * k → 15 * k < 10 * m + 25 → IsEarliestReader ideal a b m k
reads_first m k after before = record {
  write = 10 * m + 10;
  read = 15 * k;
  writes = writes_a m _ refl;
  reads = reads_b k _ refl;
  after = after;
  least = λ other r reads late. omega (arith, before, late, read_of_b other r reads);
}

-- and only there, but for job 0
reads_after : (m k : ℕ) → IsEarliestReader ideal a b m k → 10 * m + 10 ≤ 15 * k
reads_after m k reader = omega (arith, reader.after, write_of_a m reader.write reader.writes, read_of_b k reader.read reader.reads)

reads_soon : (m k : ℕ) → 1 ≤ k → IsEarliestReader ideal a b m k → 15 * k < 10 * m + 25
reads_soon m k some reader = elim (cases_lt (15 * k) (10 * m + 25)) [
  | inl soon ↦ soon
  | inr late ↦
      let write = write_of_a m reader.write reader.writes in
      absurd (omega (arith, some, reader.least (k - 1) (15 * (k - 1)) (reads_b (k - 1) _ refl) (omega (arith, write, late, some))))
]

-- job m of A is the latest writer for job k of B, where it writes before that read, and the job after it doesn't
writes_last : (m k : ℕ) → 10 * m + 10 ≤ 15 * k → 15 * k < 10 * m + 20 → IsLatestWriter ideal a b m k
writes_last m k before after = record {
  write = 10 * m + 10;
  read = 15 * k;
  writes = writes_a m _ refl;
  reads = reads_b k _ refl;
  before = before;
  greatest = λ other w writes early. omega (arith, after, early, write_of_a other w writes);
}

-- and only there
writes_before : (m k : ℕ) → IsLatestWriter ideal a b m k → 10 * m + 10 ≤ 15 * k
writes_before m k writer = omega (arith, writer.before, write_of_a m writer.write writer.writes, read_of_b k writer.read writer.reads)

writes_late : (m k : ℕ) → IsLatestWriter ideal a b m k → 15 * k < 10 * m + 20
writes_late m k writer = elim (cases_lt (15 * k) (10 * m + 20)) [
  | inl late ↦ late
  | inr soon ↦
      let read = read_of_b k writer.read writer.reads in
      absurd (omega (arith, writer.greatest (m + 1) (10 * (m + 1) + 10) (writes_a (m + 1) _ refl) (omega (arith, read, soon))))
]

-- ---- chains of jobs m and k

forward_chain : (m k from to : ℕ) → 1 ≤ m → 10 * m + 10 ≤ 15 * k → 15 * k < 10 * m + 25 → from ≡ 10 * (m - 1) → to ≡ 15 * k + 15
    → IsForwardChain ideal from_a_to_b (two_job_chain m k from to)
forward_chain m k from to some after before begins ends = record {
  some_group = omega arith;
  one_a_group = refl;
  not_first = both (λ i. 1 ≤ slice_index (m ∷ k ∷ []) i) some (omega (arith, after));
  written = both (λ i. HasWritten ideal (group_at from_a_to_b i) (slice_index (m ∷ k ∷ []) i))
      (record { write = 10 * m + 10; writes = writes_a m _ refl }) (record { write = 15 * k + 15; writes = writes_b k _ refl });
  linked = λ i h.
      let same : i ≡ 0 = omega arith in
      subst (λ n. IsEarliestReader ideal (group_at from_a_to_b n) (group_at from_a_to_b (suc n)) (slice_index (m ∷ k ∷ []) n) (slice_index (m ∷ k ∷ []) (suc n)))
      (sym same) (reads_first m k after before);
  from = reads_a (m - 1) from begins;
  to = writes_b k to ends;
}

backward_links : (m k : ℕ) → 10 * m + 10 ≤ 15 * k → 15 * k < 10 * m + 20 → AreBackwardLinks ideal from_a_to_b (m ∷ k ∷ [])
backward_links m k before after = record {
  some_group = omega arith;
  one_a_group = refl;
  linked = λ i h.
      let same : i ≡ 0 = omega arith in
      subst (λ n. IsLatestWriter ideal (group_at from_a_to_b n) (group_at from_a_to_b (suc n)) (slice_index (m ∷ k ∷ []) n) (slice_index (m ∷ k ∷ []) (suc n)))
      (sym same) (writes_last m k before after);
  last_written = record { write = 15 * k + 15; writes = writes_b k _ refl };
  next_written = record { write = 15 * (k + 1) + 15; writes = writes_b (k + 1) _ refl };
}

-- the chain of an age, and that of a reduced age
age_chain : IsAgeChain ideal from_a_to_b (two_job_chain 6 5 60 105)
age_chain = record { links = backward_links 6 5 (omega arith) (omega arith); from = reads_a 6 60 refl; to = writes_b 6 105 refl }

reduced_chain : IsReducedChain ideal from_a_to_b (two_job_chain 6 5 60 90)
reduced_chain = record { links = backward_links 6 5 (omega arith) (omega arith); from = reads_a 6 60 refl; to = writes_b 5 90 refl }

-- ---- the exact lengths

-- the last of two jobs
last_of_two : (jobs : List ℕ) → length jobs ≡ 2 → slice_index jobs (length jobs - 1) ≡ slice_index jobs 1
last_of_two jobs two = ap (λ n. slice_index jobs (n - 1)) two

-- the jobs and the ends of a complete forward chain
pub record HasForwardJobs (chain : JobChain) : Type 0 where
  pub after : 10 * first_job chain + 10 ≤ 15 * last_job chain
  pub soon : 15 * last_job chain < 10 * first_job chain + 25
  pub some : 1 ≤ first_job chain
  pub begins : chain.from ≡ 10 * (first_job chain - 1)
  pub ends : chain.to ≡ 15 * last_job chain + 15

forward_jobs : (chain : JobChain) → IsForwardChain ideal from_a_to_b chain → HasForwardJobs chain
forward_jobs chain complete =
    let link = complete.linked 0 (omega arith) in
    let last = last_of_two chain.jobs complete.one_a_group in
    record {
      after = omega (arith, last, reads_after (first_job chain) (slice_index chain.jobs 1) link);
      soon = omega (arith, last, reads_soon (first_job chain) (slice_index chain.jobs 1) (complete.not_first 1 (omega arith)) link);
      some = complete.not_first 0 (omega arith);
      begins = read_of_a (first_job chain - 1) chain.from complete.from;
      ends = write_of_b (last_job chain) chain.to complete.to;
    }

-- and the jobs of a complete backward chain
pub record HasBackwardJobs (jobs : List ℕ) : Type 0 where
  pub before : 10 * slice_index jobs 0 + 10 ≤ 15 * slice_index jobs (length jobs - 1)
  pub late : 15 * slice_index jobs (length jobs - 1) < 10 * slice_index jobs 0 + 20

backward_jobs : (jobs : List ℕ) → AreBackwardLinks ideal from_a_to_b jobs → HasBackwardJobs jobs
backward_jobs jobs links =
    let link = links.linked 0 (omega arith) in
    let last = last_of_two jobs links.one_a_group in
    record {
      before = omega (arith, last, writes_before (slice_index jobs 0) (slice_index jobs 1) link);
      late = omega (arith, last, writes_late (slice_index jobs 0) (slice_index jobs 1) link);
    }

start_up_is : start_up timed_tasks from_a_to_b ≡ 50
unfolding timed_tasks
start_up_is = refl

begun_b : (read : ℕ) → HaveAllBegun timed_tasks from_a_to_b read → 15 ≤ read
unfolding timed_tasks
begun_b read begun = begun 1 no_group (omega arith)

all_begun : HaveAllBegun timed_tasks from_a_to_b 40
unfolding timed_tasks
all_begun = All-from_recursion (λ (group : Group). second_arrival timed_tasks group ≤ 40) from_a_to_b (omega arith, (omega arith, _))

-- a reaction is 15 k + 15 - 10 (m - 1), where 3 k is at most 2 m + 4
reaction_is : (m k from to : ℕ) → 1 ≤ m → 15 * k < 10 * m + 25 → from ≡ 10 * (m - 1) → to ≡ 15 * k + 15 → to - from ≤ 45
reaction_is m k from to some soon begins ends = omega arith

reaction_first : (m k from to : ℕ) → 2 ≤ m → 15 * k < 10 * m + 25 → from ≡ 10 * (m - 1) → to ≡ 15 * k + 15 → to - from ≡ 45 → 4 ≤ m
reaction_first m k from to some soon begins ends is = omega arith

-- an age is 15 (k + 1) + 15 - 10 m, where 3 k is at most 2 m + 3
age_is : (m k from to : ℕ) → 15 * k < 10 * m + 20 → from ≡ 10 * m → to ≡ 15 * (k + 1) + 15 → to - from ≤ 45
age_is m k from to late begins ends = omega arith

age_first : (m k from to : ℕ) → 15 * k < 10 * m + 20 → 50 ≤ 15 * k → from ≡ 10 * m → to ≡ 15 * (k + 1) + 15 → to - from ≡ 45 → 5 ≤ k
age_first m k from to late steady begins ends is = omega arith

reduced_is : (m k from to : ℕ) → 15 * k < 10 * m + 20 → from ≡ 10 * m → to ≡ 15 * k + 15 → to - from ≤ 30
reduced_is m k from to late begins ends = omega arith

reduced_first : (m k from to : ℕ) → 15 * k < 10 * m + 20 → 50 ≤ 15 * k → from ≡ 10 * m → to ≡ 15 * k + 15 → to - from ≡ 30 → 5 ≤ k
reduced_first m k from to late steady begins ends is = omega arith

pub timed_exact : AreExactLengths timed_tasks from_a_to_b timed_lengths
timed_exact = record {
  reaction = record {
    longest = record {
      is_chain = record {
        is_chain = forward_chain 4 4 30 75 (omega arith) (omega arith) (omega arith) refl refl;
        read = 40;
        reads = reads_a 4 40 refl;
        steady = all_begun;
      };
      longest = λ other steady.
          let jobs = forward_jobs other steady.is_chain in
          reaction_is (first_job other) (last_job other) other.from other.to jobs.some jobs.soon jobs.begins jobs.ends;
      least = λ other steady is.
          let jobs = forward_jobs other steady.is_chain in
          reaction_first (first_job other) (last_job other) other.from other.to
          (omega (arith, begun_b steady.read steady.steady, read_of_a (first_job other) steady.read steady.reads)) jobs.soon jobs.begins jobs.ends is;
    };
    length = refl;
  };
  age = record {
    longest = record {
      is_chain = record { is_chain = age_chain; read = 75; reads = reads_b 5 75 refl; steady = omega (arith, start_up_is) };
      longest = λ other steady.
          let jobs = backward_jobs other.jobs steady.is_chain.links in
          age_is (first_job other) (last_job other) other.from other.to jobs.late
          (read_of_a (first_job other) other.from steady.is_chain.from) (write_of_b (last_job other + 1) other.to steady.is_chain.to);
      least = λ other steady is.
          let jobs = backward_jobs other.jobs steady.is_chain.links in
          age_first (first_job other) (last_job other) other.from other.to jobs.late
          (omega (arith, start_up_is, steady.steady, read_of_b (last_job other) steady.read steady.reads))
          (read_of_a (first_job other) other.from steady.is_chain.from) (write_of_b (last_job other + 1) other.to steady.is_chain.to) is;
    };
    length = refl;
  };
  reduced = record {
    longest = record {
      is_chain = record { is_chain = reduced_chain; read = 75; reads = reads_b 5 75 refl; steady = omega (arith, start_up_is) };
      longest = λ other steady.
          let jobs = backward_jobs other.jobs steady.is_chain.links in
          reduced_is (first_job other) (last_job other) other.from other.to jobs.late
          (read_of_a (first_job other) other.from steady.is_chain.from) (write_of_b (last_job other) other.to steady.is_chain.to);
      least = λ other steady is.
          let jobs = backward_jobs other.jobs steady.is_chain.links in
          reduced_first (first_job other) (last_job other) other.from other.to jobs.late
          (omega (arith, start_up_is, steady.steady, read_of_b (last_job other) steady.read steady.reads))
          (read_of_a (first_job other) other.from steady.is_chain.from) (write_of_b (last_job other) other.to steady.is_chain.to) is;
    };
    length = refl;
  };
}

-- ---- legal runs

-- the chain of the reduced age is complete in a legal run where job 6 of B has written, at 105, and only there
pub complete_by : (run : Run) → IsLegal timed_tasks run → 105 ≤ run.table.ticks
    → IsReducedChain (run_moments timed_tasks run) from_a_to_b (two_job_chain 6 5 60 90)
unfolding timed_tasks
complete_by run legal lasts =
    ((chains_until_the_end timed_tasks timed_sound from_a_to_b timed_settled run legal).reduced (two_job_chain 6 5 60 90)).1 (reduced_chain, lasts)

pub complete_only : (run : Run) → IsLegal timed_tasks run → IsReducedChain (run_moments timed_tasks run) from_a_to_b (two_job_chain 6 5 60 90)
    → 105 ≤ run.table.ticks
unfolding timed_tasks
complete_only run legal complete =
    (((chains_until_the_end timed_tasks timed_sound from_a_to_b timed_settled run legal).reduced (two_job_chain 6 5 60 90)).0 complete).1
