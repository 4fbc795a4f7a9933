-- A complete chain is determined by its first job, or by its last, where each job reads and writes at most once.
use Rattle.std.proofs.Common.{◌≡◌, ℕ, zero, suc, ◌+◌, ◌-◌, ◌<◌, List, length, sym, ap, ◌∙◌, subst, arith}
use Rattle.std.specs.Prelude.{slice_index}
use Rattle.std.proofs.lemmas.List.{ext_get_or}
use Rattle.cl_model.specs.{declared.group.Group.Group, Groups.group_at}
use Rattle.cl_runs.specs.{Chains.{Moments, IsEarliestReader, IsLatestWriter, JobChain, first_group, last_group, first_job, last_job, IsForwardChain, AreBackwardLinks, IsAgeChain, IsReducedChain}, MomentOrder.AreUnique}

pub chain_same : (one other : JobChain) → one.from ≡ other.from → one.to ≡ other.to → one.jobs ≡ other.jobs → one ≡ other
chain_same one other from to jobs = λ i. record { from = from i; to = to i; jobs = jobs i }

module _ (moments : Moments) (groups : List Group) (unique : AreUnique moments groups) where
  reads_first : 0 < length groups → (k s t : ℕ) → moments.reads (first_group groups) k s → moments.reads (first_group groups) k t → s ≡ t
  reads_first some k s t = unique.reads 0 k s t some

  writes_last : 0 < length groups → (k s t : ℕ) → moments.writes (last_group groups) k s → moments.writes (last_group groups) k t → s ≡ t
  writes_last some k s t = unique.writes (length groups - 1) k s t (omega (arith, some))

  -- a job has one earliest reader
  reader_once : (i m k l : ℕ) → i < length groups → IsEarliestReader moments (group_at groups i) (group_at groups (suc i)) m k
      → IsEarliestReader moments (group_at groups i) (group_at groups (suc i)) m l → k ≡ l
  reader_once i m k l h one other =
      let same : one.write ≡ other.write = unique.writes i m _ _ h one.writes other.writes in
      omega (
        arith,
        one.least l other.read other.reads (omega (arith, same, other.after)),
        other.least k one.read one.reads (omega (arith, same, one.after)),
      )

  -- and one latest writer
  writer_once : (i m n k : ℕ) → suc i < length groups → IsLatestWriter moments (group_at groups i) (group_at groups (suc i)) m k
      → IsLatestWriter moments (group_at groups i) (group_at groups (suc i)) n k → m ≡ n
  writer_once i m n k h one other =
      let same : one.read ≡ other.read = unique.reads (suc i) k _ _ h one.reads other.reads in
      omega (
        arith,
        one.greatest n other.write other.writes (omega (arith, same, other.before)),
        other.greatest m one.write one.writes (omega (arith, same, one.before)),
      )

  forward_jobs : (one other : JobChain) → IsForwardChain moments groups one → IsForwardChain moments groups other
      → first_job one ≡ first_job other → (i : ℕ) → i < length groups → slice_index one.jobs i ≡ slice_index other.jobs i
  forward_jobs one other first second same zero h = same
  forward_jobs one other first second same (suc i) h =
      let before = forward_jobs one other first second same i (omega arith) in
      let link : IsEarliestReader moments (group_at groups i) (group_at groups (suc i)) (slice_index other.jobs i) (slice_index one.jobs (suc i))
      = subst (λ m. IsEarliestReader moments (group_at groups i) (group_at groups (suc i)) m (slice_index one.jobs (suc i))) before (first.linked i h) in
      reader_once i _ _ _ (omega (arith, h)) link (second.linked i h)

  -- a complete forward chain is determined by its first job
  pub forward_once : (one other : JobChain) → IsForwardChain moments groups one → IsForwardChain moments groups other
      → first_job one ≡ first_job other → one ≡ other
  forward_once one other first second same =
      let jobs : one.jobs ≡ other.jobs = ext_get_or 0 one.jobs other.jobs (first.one_a_group ∙ sym second.one_a_group)
      (λ i h. forward_jobs one other first second same i (omega (arith, h, first.one_a_group))) in
      chain_same one other
      (reads_first first.some_group _ _ _ first.from
      (subst (λ (xs : List ℕ). moments.reads (first_group groups) (slice_index xs 0 - 1) other.from) (sym jobs) second.from))
      (writes_last first.some_group _ _ _ first.to
      (subst (λ (xs : List ℕ). moments.writes (last_group groups) (slice_index xs (length xs - 1)) other.to) (sym jobs) second.to))
      jobs

  -- from the last job back
  backward_jobs : (one other : List ℕ) → AreBackwardLinks moments groups one → AreBackwardLinks moments groups other
      → slice_index one (length one - 1) ≡ slice_index other (length other - 1) → (d i : ℕ) → suc (d + i) ≡ length groups
      → slice_index one i ≡ slice_index other i
  backward_jobs one other first second same zero i h =
      let here : length one - 1 ≡ i = omega (arith, h, first.one_a_group) in
      let there : length other - 1 ≡ i = omega (arith, h, second.one_a_group) in
      sym (ap (slice_index one) here) ∙ same ∙ ap (slice_index other) there
  backward_jobs one other first second same (suc d) i h =
      let after = backward_jobs one other first second same d (suc i) (omega arith) in
      let link : IsLatestWriter moments (group_at groups i) (group_at groups (suc i)) (slice_index one i) (slice_index other (suc i))
      = subst (λ k. IsLatestWriter moments (group_at groups i) (group_at groups (suc i)) (slice_index one i) k) after (first.linked i (omega arith)) in
      writer_once i _ _ _ (omega arith) link (second.linked i (omega arith))

  same_links : (one other : List ℕ) → AreBackwardLinks moments groups one → AreBackwardLinks moments groups other
      → slice_index one (length one - 1) ≡ slice_index other (length other - 1) → one ≡ other
  same_links one other first second same = ext_get_or 0 one other (first.one_a_group ∙ sym second.one_a_group)
      (λ i h. backward_jobs one other first second same (length groups - suc i) i (omega (arith, h, first.one_a_group)))

  -- a complete backward chain is determined by its last job
  pub age_once : (one other : JobChain) → IsAgeChain moments groups one → IsAgeChain moments groups other
      → last_job one ≡ last_job other → one ≡ other
  age_once one other first second same =
      let jobs = same_links one.jobs other.jobs first.links second.links same in
      chain_same one other
      (reads_first first.links.some_group _ _ _ first.from
      (subst (λ (xs : List ℕ). moments.reads (first_group groups) (slice_index xs 0) other.from) (sym jobs) second.from))
      (writes_last first.links.some_group _ _ _ first.to
      (subst (λ (xs : List ℕ). moments.writes (last_group groups) (slice_index xs (length xs - 1) + 1) other.to) (sym jobs) second.to))
      jobs

  pub reduced_once : (one other : JobChain) → IsReducedChain moments groups one → IsReducedChain moments groups other
      → last_job one ≡ last_job other → one ≡ other
  reduced_once one other first second same =
      let jobs = same_links one.jobs other.jobs first.links second.links same in
      chain_same one other
      (reads_first first.links.some_group _ _ _ first.from
      (subst (λ (xs : List ℕ). moments.reads (first_group groups) (slice_index xs 0) other.from) (sym jobs) second.from))
      (writes_last first.links.some_group _ _ _ first.to
      (subst (λ (xs : List ℕ). moments.writes (last_group groups) (slice_index xs (length xs - 1)) other.to) (sym jobs) second.to))
      jobs
