-- The moments of a legal run are in order, and so are the ideal moments. Over moments in order the earliest reader
-- rises with the writing job, and the latest writer with the reading one.
use Rattle.std.proofs.Common.{◌≡◌, ℕ, suc, ◌*◌, ◌<◌, ◌≤◌, inl, inr, List, length, sym, ◌∙◌, subst, arith}
use Rattle.std.proofs.lemmas.Bool.{cases_lt}
use Rattle.std.proofs.Math.Nat.{mul-le-mul_right}
use Rattle.cl_model.specs.{declared.{group.{Group.Group, Step.Step}, stimulus.StimulusKind.{StimulusKind, TheVariants.{Periodic, Sporadic, Burst}}}, Groups.{no_group, groups, group_at}}
use Rattle.cl_runs.specs.{Pattern.IsPattern, TaskTiming.{System, timing_at, IsSound}, Run.Run, Legal.IsLegal, Chains.{Moments, IsEarliestReader, IsLatestWriter}, MomentOrder.{AreUnique, AreInOrder, HaveReadBeforeWriting, AreGroupsOf}, RunChains.{ArrivesAt, run_moments, ideal_moments}}
use Rattle.cl_runs.proofs.{GroupPlaces.groups_forward, MomentFacts.{reads_once, writes_once, has_read, reads_rise, writes_rise}}

-- ---- readers and writers

module _ (moments : Moments) (groups : List Group) (order : AreInOrder moments groups) (i : ℕ) where
  -- the writes of jobs in order are in order, and so are their reads
  writes_ordered : (m n s t : ℕ) → i < length groups → m ≤ n
      → moments.writes (group_at groups i) m s → moments.writes (group_at groups i) n t → s ≤ t
  writes_ordered m n s t h le one other = elim (cases_lt m n) [
    | inl less ↦ omega (arith, order.writes_rise i m n s t h less one other)
    | inr equal ↦
        let same : m ≡ n = omega arith in
        omega (arith, order.unique.writes i n s t h (subst (λ job. moments.writes (group_at groups i) job s) same one) other)
  ]

  reads_ordered : (k l s t : ℕ) → i < length groups → k ≤ l
      → moments.reads (group_at groups i) k s → moments.reads (group_at groups i) l t → s ≤ t
  reads_ordered k l s t h le one other = elim (cases_lt k l) [
    | inl less ↦ omega (arith, order.reads_rise i k l s t h less one other)
    | inr equal ↦
        let same : k ≡ l = omega arith in
        omega (arith, order.unique.reads i l s t h (subst (λ job. moments.reads (group_at groups i) job s) same one) other)
  ]

module _ (moments : Moments) (groups : List Group) (order : AreInOrder moments groups) (i j : ℕ) (hi : i < length groups) (hj : j < length groups) where
  -- a later job's earliest reader is no earlier one
  pub reader_rises : (m n k l : ℕ) → m ≤ n → IsEarliestReader moments (group_at groups i) (group_at groups j) m k
      → IsEarliestReader moments (group_at groups i) (group_at groups j) n l → k ≤ l
  reader_rises m n k l le one other = one.least l other.read other.reads
      (omega (arith, other.after, writes_ordered moments groups order i m n one.write other.write hi le one.writes other.writes))

  -- a later job's latest writer is no earlier one
  pub writer_rises : (m n k l : ℕ) → k ≤ l → IsLatestWriter moments (group_at groups i) (group_at groups j) m k
      → IsLatestWriter moments (group_at groups i) (group_at groups j) n l → m ≤ n
  writer_rises m n k l le one other = other.greatest m one.write one.writes
      (omega (arith, one.before, reads_ordered moments groups order j k l one.read other.read hj le one.reads other.reads))

-- ---- the moments of a run

pub run_unique : (system : System) (run : Run) (groups : List Group) → AreUnique (run_moments system run) groups
unfolding run_moments
run_unique system run groups = record {
  reads = λ i k s t h. reads_once system run (group_at groups i).task k (group_at groups i).first s t;
  writes = λ i k s t h. writes_once system run (group_at groups i).task k (group_at groups i).last s t;
}

module _ (system : System) (sound : IsSound system) (run : Run) (legal : IsLegal system run) where
  pub run_in_order : (groups : List Group) → AreInOrder (run_moments system run) groups
  unfolding run_moments
  run_in_order groups = record {
    unique = run_unique system run groups;
    reads_rise = λ i k l s t h.
        reads_rise system sound run legal (group_at groups i).task k (group_at groups i).first l (group_at groups i).first s t;
    writes_rise = λ i k l s t h.
        writes_rise system sound run legal (group_at groups i).task k (group_at groups i).last l (group_at groups i).last s t;
  }

  pub run_has_read : (steps : List Step) → HaveReadBeforeWriting (run_moments system run) (groups steps)
  unfolding run_moments
  run_has_read steps i m w h writes =
      has_read system sound run legal (group_at (groups steps) i).task m _ _ w (groups_forward steps i h) writes

-- ---- ideal moments

arrives_once : (kind : StimulusKind) (k s t : ℕ) → ArrivesAt kind k s → ArrivesAt kind k t → s ≡ t
arrives_once (Periodic period offset jitter) k s t one other = one ∙ sym other
arrives_once (Sporadic least greatest) k s t one other = absurd one
arrives_once (Burst period offset count distance) k s t one other = absurd one

arrives_later : (kind : StimulusKind) → IsPattern kind → (k l s t : ℕ) → k < l → ArrivesAt kind k s → ArrivesAt kind l t → s < t
arrives_later (Periodic period offset jitter) well k l s t h one other =
    let more : suc k * period ≤ l * period = mul-le-mul_right period h in
    omega (arith, well, one, other, more)
arrives_later (Sporadic least greatest) well k l s t h one other = absurd one
arrives_later (Burst period offset count distance) well k l s t h one other = absurd one

pub ideal_unique : (system : System) (groups : List Group) → AreUnique (ideal_moments system) groups
unfolding ideal_moments
ideal_unique system groups = record {
  reads = λ i k s t h. arrives_once (timing_at system (group_at groups i).task).pattern k s t;
  writes = λ i k s t h one other. omega (
    arith,
    one.2,
    other.2,
    arrives_once (timing_at system (group_at groups i).task).pattern k one.0 other.0 one.1 other.1,
  );
}

module _ (system : System) (sound : IsSound system) (groups : List Group) (of : AreGroupsOf system groups) where
  task_is : (i : ℕ) → i < length groups → (group_at groups i).task < length system.tasks
  task_is i h = of i no_group h

  pub ideal_in_order : AreInOrder (ideal_moments system) groups
  unfolding ideal_moments
  ideal_in_order = record {
    unique = ideal_unique system groups;
    reads_rise = λ i k l s t h. arrives_later (timing_at system (group_at groups i).task).pattern (sound.tasks _ (task_is i h)).pattern k l s t;
    writes_rise = λ i k l s t h less one other. omega (
      arith,
      one.2,
      other.2,
      arrives_later (timing_at system (group_at groups i).task).pattern (sound.tasks _ (task_is i h)).pattern k l one.0 other.0 less one.1 other.1,
    );
  }

  pub ideal_has_read : HaveReadBeforeWriting (ideal_moments system) groups
  unfolding ideal_moments
  ideal_has_read i job write h writes =
      (writes.0, omega (arith, writes.2, (sound.tasks _ (task_is i h)).above_jitter), writes.1)
