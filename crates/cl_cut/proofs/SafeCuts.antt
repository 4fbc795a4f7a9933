-- The cost of each cut of a settled chain is safe. A complete forward chain is split into a front and a rear part: the
-- job before the first of the rear part has read before the last of the front part has written.
use Rattle.std.proofs.Common.{◌≡◌, ℕ, suc, ◌+◌, ◌-◌, ◌<◌, ◌≤◌, true, false, inl, inr, List, [], ◌∷◌, length, take, drop, refl, sym, ap, ◌∙◌, subst, sum, arith}
use Rattle.std.specs.Prelude.{All, slice_index}
use Rattle.std.proofs.lemmas.Bool.{cases_lt}
use Rattle.std.proofs.lemmas.List.{drop-drop, length-drop, length-take-le, get_or-drop, get_or-take}
use Rattle.std.proofs.lemmas.List.Sums.{sum_by-cons}
use Rattle.cl_model.specs.{declared.group.Group.Group, Groups.{no_group, group_at}}
use Rattle.cl_runs.specs.{TaskTiming.{System, IsSound}, Run.Run, Legal.IsLegal, Chains.{JobChain, chain_length, last_group, IsForwardChain}, MomentOrder.HaveReadBeforeWriting, RunChains.run_moments}
use Rattle.cl_runs.proofs.{ChainParts.part_complete, ChainsOrdered.forward_ordered, MomentFacts.{has_read, earlier_read}, OrderedMoments.run_in_order}
use Rattle.cl_hop.specs.Timings.{IsGroupOfTask}
use Rattle.cl_bound.specs.{Answers.{answers_of, answer_at, is_late}, SettledChains.IsSettledChain}
use Rattle.cl_bound.proofs.SettledChains.{settled_safe}
use Rattle.cl_exact.specs.{TimedPeriodic.are_timed_periodic, RunPromises.IsSettledTimedChain}
use Rattle.cl_exact.proofs.RunExact.{exact_in_runs}
use Rattle.cl_analyse.proofs.ExactAnswers.{settled_have_responses}
use Rattle.cl_cut.specs.{Values.{part, IsValue}, Cuts.{piece_groups, IsCutFrom, IsCut, IsCost}, CutAnswers.IsSafeReaction}
use Rattle.cl_cut.proofs.Parts.{All-part, part_rest}

-- ---- settled chains

-- each part of a settled chain is one
pub settled_part : (system : System) (groups : List Group) → IsSettledChain system groups → (first next : ℕ)
    → IsSettledChain system (part groups first next)
settled_part system groups settled first next = record {
  groups_of = All-part groups first next (IsGroupOfTask system) settled.groups_of;
  settled = All-part groups first next (λ (group : Group). is_late (answer_at (answers_of system) group.task) ≡ false) settled.settled;
}

rest_groups : (system : System) (groups : List Group) → IsSettledChain system groups → (first : ℕ) → All (IsGroupOfTask system) (drop first groups)
rest_groups system groups settled first =
    subst (All (IsGroupOfTask system)) (part_rest groups first) (settled_part system groups settled first (length groups)).groups_of

-- one whose tasks are all timed and periodic is a settled timed chain
pub settled_timed : (system : System) → IsSound system → (groups : List Group) → IsSettledChain system groups → are_timed_periodic system groups ≡ true
    → IsSettledTimedChain system groups
settled_timed system sound groups settled timed = record {
  runnables = λ i d h.
      let of = settled.groups_of i d h in
      record { first = omega (arith, of.ordered, of.is_runnable); last = of.is_runnable };
  timed = timed;
  settled = settled_have_responses system sound groups settled;
}

-- ---- in a run

zero_first : (i : ℕ) → i ≡ 0 + i
zero_first i = omega arith

-- were the read at or after the write, the earliest reader would come before itself
not_after : (w r job reader : ℕ) → reader ≡ job → 1 ≤ job → (w ≤ r → reader ≤ job - 1) → r < w
not_after w r job reader same some least = elim (cases_lt r w) [
  | inl before ↦ before
  | inr after ↦ absurd (omega (arith, least after, same, some))
]

-- ---- the rest of a cut

-- a cut of what stands behind the first piece
pub cut_rest : (groups : List Group) (first f g : ℕ) (pieces : List ℕ) → IsCutFrom groups first (f ∷ g ∷ pieces) → IsCutFrom groups g (g ∷ pieces)
cut_rest groups first f g pieces cut = record {
  some = omega arith;
  begins = refl;
  rising = λ k lt. cut.rising (suc k) (omega (arith, lt));
}

-- it begins with a group of the chain
pub cut_begins : (groups : List Group) (first : ℕ) (pieces : List ℕ) → IsCutFrom groups first pieces → first < length groups
cut_begins groups first [] cut = absurd (omega (arith, cut.some))
cut_begins groups first (f ∷ []) cut = omega (arith, cut.begins, cut.rising 0 (omega arith))
cut_begins groups first (f ∷ g ∷ pieces) cut =
    omega (arith, cut.begins, cut.rising 0 (omega arith), cut_begins groups g (g ∷ pieces) (cut_rest groups first f g pieces cut))

module _ (system : System) (sound : IsSound system) where
  -- the value of a settled chain is safe
  pub value_safe : (groups : List Group) → IsSettledChain system groups → (value : ℕ) → IsValue system groups value → IsSafeReaction system groups value
  value_safe groups settled value (inl exact) run legal chain complete = omega (
    arith,
    exact.reaction_is,
    ((exact_in_runs system sound groups (settled_timed system sound groups settled exact.timed) exact.exact exact.are_exact).greatest run legal).reaction
        chain complete,
  )
  value_safe groups settled value (inr bound) run legal chain complete =
      omega (arith, bound.value_is, (settled_safe system sound groups settled run legal).reaction chain complete)

  module _ (run : Run) (legal : IsLegal system run) where
    reads_first : (groups : List Group) → All (IsGroupOfTask system) groups → HaveReadBeforeWriting (run_moments system run) groups
    unfolding run_moments
    reads_first groups of i m w h writes =
        has_read system sound run legal (group_at groups i).task m (group_at groups i).first (group_at groups i).last w (of i no_group h).ordered writes

    -- a complete chain ends after it begins
    ends_later : (groups : List Group) → All (IsGroupOfTask system) groups → (chain : JobChain)
        → IsForwardChain (run_moments system run) groups chain → chain.from < chain.to
    ends_later groups of = forward_ordered (run_moments system run) groups (run_in_order system sound run legal groups) (reads_first groups of)

    -- the job before one that has written has read
    read_before : (group : Group) → IsGroupOfTask system group → (job w : ℕ) → 1 ≤ job → (run_moments system run).writes group job w
        → (r : ℕ) × (run_moments system run).reads group (job - 1) r
    unfolding run_moments
    read_before group of job w some writes =
        let earlier : job - 1 < job = omega arith in
        let (r, before, reads) = earlier_read system sound run legal group.task (job - 1) group.first job group.last w earlier
        (omega (arith, of.ordered, of.is_runnable)) writes in
        (r, reads)

    -- a chain split before the group of a number: the front part, and the rear part that begins with the read before
    record AreSplit (groups : List Group) (chain : JobChain) (at : ℕ) : Type 0 where
      front : JobChain
      rear : JobChain
      is_front : IsForwardChain (run_moments system run) (take at groups) front
      is_rear : IsForwardChain (run_moments system run) (drop at groups) rear
      from : front.from ≡ chain.from
      to : rear.to ≡ chain.to
      overlap : rear.from < front.to

    split : (groups : List Group) → All (IsGroupOfTask system) groups → (chain : JobChain) → IsForwardChain (run_moments system run) groups chain
        → (at : ℕ) → 0 < at → at < length groups → AreSplit groups chain at
    split groups of chain complete at some within =
        let last : ℕ = at - 1 in
        let next : suc last ≡ at = omega arith in
        let link = complete.linked last (omega arith) in
        let job : ℕ = slice_index chain.jobs at in
        let same_job : slice_index chain.jobs (suc last) ≡ job = ap (slice_index chain.jobs) next in
        let not_first = complete.not_first at within in
        let written = complete.written at within in
        let (r, reads) = read_before (group_at groups at) (of at no_group within) job written.write not_first written.writes in
        let early : r < link.write = not_after link.write r job (slice_index chain.jobs (suc last)) same_job not_first
        (link.least (job - 1) r (subst (λ n. (run_moments system run).reads (group_at groups n) (job - 1) r) (sym next) reads)) in
        let rest : ℕ = length groups - at in
        let jobs_length = complete.one_a_group in
        let back : last ≡ 0 + (at - 1) = omega arith in
        let end : length groups - 1 ≡ at + (rest - 1) = omega arith in
        let end_job : length chain.jobs - 1 ≡ length groups - 1 = omega (arith, jobs_length) in
        let ends = subst (λ n. (run_moments system run).writes (group_at groups n) (slice_index chain.jobs n) chain.to) end
        (subst (λ n. (run_moments system run).writes (last_group groups) (slice_index chain.jobs n) chain.to) end_job complete.to) in
        record {
          front = record { from = chain.from; to = link.write; jobs = take at chain.jobs };
          rear = record { from = r; to = chain.to; jobs = drop at chain.jobs };
          is_front = part_complete (run_moments system run) groups chain complete 0 at some (omega arith) (take at groups) (take at chain.jobs)
              (length-take-le at groups (omega arith)) (length-take-le at chain.jobs (omega (arith, jobs_length)))
              (λ i lt. get_or-take at groups i no_group lt ∙ ap (group_at groups) (zero_first i))
              (λ i lt. get_or-take at chain.jobs i 0 lt ∙ ap (slice_index chain.jobs) (zero_first i)) chain.from link.write complete.from
              (subst (λ n. (run_moments system run).writes (group_at groups n) (slice_index chain.jobs n) link.write) back link.writes);
          is_rear = part_complete (run_moments system run) groups chain complete at rest (omega arith) (omega arith) (drop at groups) (drop at chain.jobs)
              (length-drop at groups) (omega (arith, jobs_length, length-drop at chain.jobs))
              (λ i lt. get_or-drop at groups i no_group) (λ i lt. get_or-drop at chain.jobs i 0) r chain.to reads ends;
          from = refl;
          to = refl;
          overlap = early;
        }

    module _ (groups : List Group) (settled : IsSettledChain system groups) where
      -- the groups behind a piece
      behind : (f g : ℕ) → f < g → drop (g - f) (drop f groups) ≡ drop g groups
      behind f g lt = let same : f + (g - f) ≡ g = omega arith in drop-drop (g - f) f groups ∙ ap (λ n. drop n groups) same

      front_within : (f g v : ℕ) → IsValue system (part groups f g) v → (front : JobChain)
          → IsForwardChain (run_moments system run) (take (g - f) (drop f groups)) front → chain_length front ≤ v
      unfolding part
      front_within f g v value front complete = value_safe (part groups f g) (settled_part system groups settled f g) v value run legal front complete

      last_within : (first f v : ℕ) → f ≡ first → IsValue system (part groups f (length groups)) v → (chain : JobChain)
          → IsForwardChain (run_moments system run) (drop first groups) chain → chain_length chain ≤ v
      last_within first f v same value chain complete =
          value_safe (part groups f (length groups)) (settled_part system groups settled f (length groups)) v value run legal chain
          (subst (λ (own : List Group). IsForwardChain (run_moments system run) own chain)
          (ap (λ n. drop n groups) (sym same) ∙ sym (part_rest groups f)) complete)

      -- the length of a chain of a rear part is at most the sum of the values of its pieces, less one tick for each
      -- further one
      pub within_sum : (pieces values : List ℕ) (first : ℕ) → IsCutFrom groups first pieces → length values ≡ length pieces
          → ((k : ℕ) → k < length pieces → IsValue system (piece_groups groups pieces k) (slice_index values k))
          → (chain : JobChain) → IsForwardChain (run_moments system run) (drop first groups) chain
          → chain_length chain + (length pieces - 1) ≤ sum values
      within_sum [] values first cut as_many each chain complete = absurd (omega (arith, cut.some))
      within_sum (f ∷ pieces) [] first cut as_many each chain complete = absurd (omega (arith, as_many))
      within_sum (f ∷ []) (v ∷ values) first cut as_many each chain complete =
          omega (arith, sum_by-cons (λ (x : ℕ). x) v values, last_within first f v cut.begins (each 0 (omega arith)) chain complete)
      within_sum (f ∷ g ∷ pieces) (v ∷ values) first cut as_many each chain complete =
          let rest = cut_rest groups first f g pieces cut in
          let up : f < g = cut.rising 0 (omega arith) in
          let below : g < length groups = cut_begins groups g (g ∷ pieces) rest in
          let whole : IsForwardChain (run_moments system run) (drop f groups) chain
          = subst (λ n. IsForwardChain (run_moments system run) (drop n groups) chain) (sym cut.begins) complete in
          let parts = split (drop f groups) (rest_groups system groups settled f) chain whole (g - f) (omega arith) (omega (arith, below, up, length-drop f groups)) in
          let rear : IsForwardChain (run_moments system run) (drop g groups) parts.rear
          = subst (λ (own : List Group). IsForwardChain (run_moments system run) own parts.rear) (behind f g up) parts.is_rear in
          omega (
            arith,
            sum_by-cons (λ (x : ℕ). x) v values,
            front_within f g v (each 0 (omega arith)) parts.front parts.is_front,
            within_sum (g ∷ pieces) values g rest (omega (arith, as_many)) (λ k lt. each (suc k) (omega (arith, lt))) parts.rear rear,
            ends_later (drop g groups) (rest_groups system groups settled g) parts.rear rear,
            parts.from,
            parts.to,
            parts.overlap,
          )

-- the cost of a cut is at least the length of every complete forward chain in every legal run
pub cut_safe : (system : System) → IsSound system → (groups : List Group) → IsSettledChain system groups
    → (pieces : List ℕ) (cost : ℕ) → IsCut groups pieces → IsCost system groups pieces cost → IsSafeReaction system groups cost
cut_safe system sound groups settled pieces cost cut costs run legal chain complete = omega (
  arith,
  costs.cost_is,
  within_sum system sound run legal groups settled pieces costs.values 0 cut costs.one_a_piece costs.each chain complete,
)
