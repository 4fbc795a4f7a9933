-- The complete chains of the run of two tasks.
use Rattle.std.proofs.Common.{◌≡◌, ℕ, zero, suc, ◌+◌, ◌-◌, ◌*◌, ◌<◌, ◌≤◌, ◌⊎◌, inl, inr, List, [], ◌∷◌, length, get_or, refl, sym, ap, subst, arith}
use Rattle.std.specs.Prelude.{slice_index, All}
use Rattle.std.proofs.lemmas.Bool.{cases_eq}
use Rattle.cl_model.specs.Groups.{group_at}
use Rattle.cl_runs.specs.{Chains.{HasWritten, IsEarliestReader, IsLatestWriter, JobChain, chain_length, first_job, last_job, IsForwardChain, AreBackwardLinks, IsAgeChain, IsReducedChain}, RunChains.run_moments, Measured.{IsLongest, IsCountOf, IsMeasured}}
use Rattle.cl_examples.specs.Examples.{two_tasks, two_tasks_run, two_tasks_moments, from_a_to_b, two_job_chain, two_tasks_measured}
use Rattle.cl_runs.proofs.{ChainsUnique.{forward_once, age_once, reduced_once}, OrderedMoments.run_unique}
use Rattle.cl_examples.proofs.{ExampleFacts.both, ExampleRun.{reads_a, writes_a, reads_b, writes_b, write_of_a, read_of_b, write_of_b}}

-- ---- forward

a_written : (m : ℕ) → m < 4 → HasWritten two_tasks_moments (group_at from_a_to_b 0) m
unfolding run_moments
a_written m h = record { write = 10 * m + 3; writes = writes_a m h }

b_written : (k : ℕ) → k < 2 → HasWritten two_tasks_moments (group_at from_a_to_b 1) k
unfolding run_moments
b_written k h = record { write = 20 * k + 17; writes = writes_b k h }

-- job k of B is the earliest reader of job m of A, where it reads after that write, and the job before it doesn't
reads_first : (m k : ℕ) → m < 4 → k < 2 → 10 * m + 3 ≤ 20 * k + 12 → 20 * k < 10 * m + 11
    → IsEarliestReader two_tasks_moments (group_at from_a_to_b 0) (group_at from_a_to_b 1) m k
unfolding run_moments
reads_first m k hm hk after before = record {
  write = 10 * m + 3;
  read = 20 * k + 12;
  writes = writes_a m hm;
  reads = reads_b k hk;
  after = after;
  least = λ l r reads h. omega (arith, before, (read_of_b l r reads).1);
}

-- job 1 of B is the earliest reader of the jobs 1 and 2 of A
forward_chain : (m from : ℕ) → 1 ≤ m → m < 3 → from ≡ 10 * (m - 1) → IsForwardChain two_tasks_moments from_a_to_b (two_job_chain m 1 from 37)
unfolding run_moments
forward_chain m from some few at = record {
  some_group = omega arith;
  one_a_group = refl;
  not_first = both (λ i. 1 ≤ slice_index (m ∷ 1 ∷ []) i) some (omega arith);
  written = both (λ i. HasWritten two_tasks_moments (group_at from_a_to_b i) (slice_index (m ∷ 1 ∷ []) i)) (a_written m (omega arith)) (b_written 1 (omega arith));
  linked = λ i h.
      let same : i ≡ 0 = omega arith in
      subst (λ n. IsEarliestReader two_tasks_moments (group_at from_a_to_b n) (group_at from_a_to_b (suc n)) (slice_index (m ∷ 1 ∷ []) n) (slice_index (m ∷ 1 ∷ []) (suc n)))
      (sym same) (reads_first m 1 (omega arith) (omega arith) (omega arith) (omega arith));
  from = rw at (reads_a (m - 1) (omega arith));
  to = writes_b 1 (omega arith);
}

pub longer_forward : IsForwardChain two_tasks_moments from_a_to_b (two_job_chain 1 1 0 37)
longer_forward = forward_chain 1 0 (omega arith) (omega arith) refl

pub shorter_forward : IsForwardChain two_tasks_moments from_a_to_b (two_job_chain 2 1 10 37)
shorter_forward = forward_chain 2 10 (omega arith) (omega arith) refl

-- what a complete forward chain of two groups is
pub only_forward : (chain : JobChain) → IsForwardChain two_tasks_moments from_a_to_b chain
    → (chain ≡ two_job_chain 1 1 0 37) ⊎ (chain ≡ two_job_chain 2 1 10 37)
unfolding run_moments
only_forward chain forward =
    let first = write_of_a (first_job chain) _ (forward.written 0 (omega arith)).writes in
    let second = write_of_b (slice_index chain.jobs 1) _ (forward.written 1 (omega arith)).writes in
    let link = forward.linked 0 (omega arith) in
    let writes = write_of_a (first_job chain) link.write link.writes in
    let reads = read_of_b (slice_index chain.jobs 1) link.read link.reads in
    let few : first_job chain < 3 = omega (arith, writes.1, reads.1, second.0, link.after) in
    let some : 1 ≤ first_job chain = forward.not_first 0 (omega arith) in
    elim (cases_eq (first_job chain) 1) [
      | inl one ↦ inl (forward_once two_tasks_moments from_a_to_b (run_unique two_tasks two_tasks_run from_a_to_b) chain (two_job_chain 1 1 0 37) forward longer_forward one)
      | inr other ↦ inr (forward_once two_tasks_moments from_a_to_b (run_unique two_tasks two_tasks_run from_a_to_b) chain (two_job_chain 2 1 10 37) forward shorter_forward (omega arith))
    ]

-- the start-up chain: job 0 of B is the earliest reader of job 0 of A, and no complete chain begins with that job
pub start_up_reader : IsEarliestReader two_tasks_moments (group_at from_a_to_b 0) (group_at from_a_to_b 1) 0 0
start_up_reader = reads_first 0 0 (omega arith) (omega arith) (omega arith) (omega arith)

pub no_start_up : (chain : JobChain) → first_job chain ≡ 0 → IsForwardChain two_tasks_moments from_a_to_b chain → ⊥
no_start_up chain zeroth forward = omega (arith, zeroth, forward.not_first 0 (omega arith))

-- ---- backward

a_latest : IsLatestWriter two_tasks_moments (group_at from_a_to_b 0) (group_at from_a_to_b 1) 0 0
unfolding run_moments
a_latest = record {
  write = 3;
  read = 12;
  writes = writes_a 0 (omega arith);
  reads = reads_b 0 (omega arith);
  before = omega arith;
  greatest = λ l w writes h. omega (arith, (write_of_a l w writes).1);
}

backward_links : AreBackwardLinks two_tasks_moments from_a_to_b (0 ∷ 0 ∷ [])
backward_links = record {
  some_group = omega arith;
  one_a_group = refl;
  linked = λ i h.
      let same : i ≡ 0 = omega arith in
      subst (λ n. IsLatestWriter two_tasks_moments (group_at from_a_to_b n) (group_at from_a_to_b (suc n)) (slice_index (0 ∷ 0 ∷ []) n) (slice_index (0 ∷ 0 ∷ []) (suc n)))
      (sym same) a_latest;
  last_written = b_written 0 (omega arith);
  next_written = b_written 1 (omega arith);
}

pub age_chain : IsAgeChain two_tasks_moments from_a_to_b (two_job_chain 0 0 0 37)
unfolding run_moments
age_chain = record { links = backward_links; from = reads_a 0 (omega arith); to = writes_b 1 (omega arith) }

pub reduced_chain : IsReducedChain two_tasks_moments from_a_to_b (two_job_chain 0 0 0 17)
unfolding run_moments
reduced_chain = record { links = backward_links; from = reads_a 0 (omega arith); to = writes_b 0 (omega arith) }

last_is_zeroth : (jobs : List ℕ) → AreBackwardLinks two_tasks_moments from_a_to_b jobs → slice_index jobs (length jobs - 1) ≡ 0
unfolding run_moments
last_is_zeroth jobs links = omega (arith, (write_of_b (slice_index jobs (length jobs - 1) + 1) _ links.next_written.writes).0)

pub only_age : (chain : JobChain) → IsAgeChain two_tasks_moments from_a_to_b chain → chain ≡ two_job_chain 0 0 0 37
only_age chain age = age_once two_tasks_moments from_a_to_b (run_unique two_tasks two_tasks_run from_a_to_b) chain (two_job_chain 0 0 0 37) age age_chain (last_is_zeroth chain.jobs age.links)

pub only_reduced : (chain : JobChain) → IsReducedChain two_tasks_moments from_a_to_b chain → chain ≡ two_job_chain 0 0 0 17
only_reduced chain reduced =
    reduced_once two_tasks_moments from_a_to_b (run_unique two_tasks two_tasks_run from_a_to_b) chain (two_job_chain 0 0 0 17) reduced reduced_chain (last_is_zeroth chain.jobs reduced.links)

-- ---- what is measured

-- the only chain of a kind is the longest
only_longest : (IsChain : JobChain → Type 0) (job_of : JobChain → ℕ) (chain : JobChain) → IsChain chain → ((other : JobChain) → IsChain other → other ≡ chain) → IsLongest IsChain job_of chain
only_longest IsChain job_of chain is only = record {
  is_chain = is;
  longest = λ other h. omega (arith, ap chain_length (only other h));
  least = λ other h same. omega (arith, ap job_of (only other h));
}

longest_forward : IsLongest (IsForwardChain two_tasks_moments from_a_to_b) first_job (two_job_chain 1 1 0 37)
longest_forward = record {
  is_chain = longer_forward;
  longest = λ other h. elim (only_forward other h) [ inl one ↦ omega (arith, ap chain_length one) | inr two ↦ omega (arith, ap chain_length two) ];
  least = λ other h same. elim (only_forward other h) [ inl one ↦ omega (arith, ap first_job one) | inr two ↦ omega (arith, ap first_job two) ];
}

each_forward : All (IsForwardChain two_tasks_moments from_a_to_b) (two_job_chain 1 1 0 37 ∷ two_job_chain 2 1 10 37 ∷ [])
each_forward zero d h = longer_forward
each_forward (suc zero) d h = shorter_forward
each_forward (suc (suc i)) d h = absurd (omega arith)

two_forward : IsCountOf (IsForwardChain two_tasks_moments from_a_to_b) 2
two_forward = record {
  chains = two_job_chain 1 1 0 37 ∷ two_job_chain 2 1 10 37 ∷ [];
  sound = each_forward;
  complete = λ chain h. elim (only_forward chain h) [ inl one ↦ (0, omega arith, sym one) | inr two ↦ (1, omega arith, sym two) ];
  once = λ i j d lt h same.
      let first : i ≡ 0 = omega arith in
      let second : j ≡ 1 = omega arith in
      let e : two_job_chain 1 1 0 37 ≡ two_job_chain 2 1 10 37 = subst (λ n. get_or (two_job_chain 1 1 0 37 ∷ two_job_chain 2 1 10 37 ∷ []) 0 d ≡ get_or (two_job_chain 1 1 0 37 ∷ two_job_chain 2 1 10 37 ∷ []) n d) second
      (subst (λ n. get_or (two_job_chain 1 1 0 37 ∷ two_job_chain 2 1 10 37 ∷ []) n d ≡ get_or (two_job_chain 1 1 0 37 ∷ two_job_chain 2 1 10 37 ∷ []) j d) first same) in
      omega (arith, ap (λ (c : JobChain). c.from) e);
  counted = refl;
}

each_age : All (IsAgeChain two_tasks_moments from_a_to_b) (two_job_chain 0 0 0 37 ∷ [])
each_age zero d h = age_chain
each_age (suc i) d h = absurd (omega arith)

one_backward : IsCountOf (IsAgeChain two_tasks_moments from_a_to_b) 1
one_backward = record {
  chains = two_job_chain 0 0 0 37 ∷ [];
  sound = each_age;
  complete = λ chain h. (0, omega arith, sym (only_age chain h));
  once = λ i j d lt h same. absurd (omega arith);
  counted = refl;
}

pub measured : IsMeasured two_tasks_moments from_a_to_b two_tasks_measured
measured = record {
  is_reaction = longest_forward;
  is_age = only_longest (IsAgeChain two_tasks_moments from_a_to_b) last_job (two_job_chain 0 0 0 37) age_chain only_age;
  is_reduced = only_longest (IsReducedChain two_tasks_moments from_a_to_b) last_job (two_job_chain 0 0 0 17) reduced_chain only_reduced;
  forward_count = two_forward;
  backward_count = one_backward;
}
