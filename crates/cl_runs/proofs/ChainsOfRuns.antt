-- What holds of complete chains over moments in order, for the moments of runs and for ideal moments.
use Rattle.std.proofs.Common.{ℕ, ◌<◌, ◌≤◌, List, [], ◌∷◌, length, arith}
use Rattle.cl_model.specs.{declared.group.{Group.Group, Step.Step}, Groups.{groups, group_at}}
use Rattle.cl_runs.specs.{TaskTiming.{System, IsSound}, Run.Run, Legal.IsLegal, Chains.{JobChain, IsEarliestReader, IsLatestWriter, IsForwardChain, IsAgeChain, IsReducedChain}, MomentOrder.AreGroupsOf, RunChains.{run_moments, ideal_moments}}
use Rattle.cl_runs.proofs.{ChainsOrdered.{forward_ordered, age_ordered, reduced_ordered}, OrderedMoments.{reader_rises, writer_rises, run_in_order, run_has_read, ideal_in_order, ideal_has_read}}

module _ (system : System) (sound : IsSound system) (run : Run) (legal : IsLegal system run) where
  module _ (steps : List Step) where
    pub run_forward_ordered : (chain : JobChain) → IsForwardChain (run_moments system run) (groups steps) chain → chain.from < chain.to
    run_forward_ordered = forward_ordered (run_moments system run) (groups steps) (run_in_order system sound run legal (groups steps)) (run_has_read system sound run legal steps)

    pub run_age_ordered : (chain : JobChain) → IsAgeChain (run_moments system run) (groups steps) chain → chain.from < chain.to
    run_age_ordered = age_ordered (run_moments system run) (groups steps) (run_in_order system sound run legal (groups steps)) (run_has_read system sound run legal steps)

    pub run_reduced_ordered : (chain : JobChain) → IsReducedChain (run_moments system run) (groups steps) chain → chain.from < chain.to
    run_reduced_ordered = reduced_ordered (run_moments system run) (groups steps) (run_in_order system sound run legal (groups steps)) (run_has_read system sound run legal steps)

  module _ (writer reader : Group) where
    pub run_reader_rises : (m n k l : ℕ) → m ≤ n → IsEarliestReader (run_moments system run) writer reader m k
        → IsEarliestReader (run_moments system run) writer reader n l → k ≤ l
    run_reader_rises = reader_rises (run_moments system run) (writer ∷ reader ∷ [])
        (run_in_order system sound run legal (writer ∷ reader ∷ [])) 0 1 (omega arith) (omega arith)

    pub run_writer_rises : (m n k l : ℕ) → k ≤ l → IsLatestWriter (run_moments system run) writer reader m k
        → IsLatestWriter (run_moments system run) writer reader n l → m ≤ n
    run_writer_rises = writer_rises (run_moments system run) (writer ∷ reader ∷ [])
        (run_in_order system sound run legal (writer ∷ reader ∷ [])) 0 1 (omega arith) (omega arith)

module _ (system : System) (sound : IsSound system) where
  module _ (groups : List Group) (of : AreGroupsOf system groups) where
    pub ideal_forward_ordered : (chain : JobChain) → IsForwardChain (ideal_moments system) groups chain → chain.from < chain.to
    ideal_forward_ordered = forward_ordered (ideal_moments system) groups (ideal_in_order system sound groups of) (ideal_has_read system sound groups of)

    pub ideal_age_ordered : (chain : JobChain) → IsAgeChain (ideal_moments system) groups chain → chain.from < chain.to
    ideal_age_ordered = age_ordered (ideal_moments system) groups (ideal_in_order system sound groups of) (ideal_has_read system sound groups of)

    pub ideal_reduced_ordered : (chain : JobChain) → IsReducedChain (ideal_moments system) groups chain → chain.from < chain.to
    ideal_reduced_ordered = reduced_ordered (ideal_moments system) groups (ideal_in_order system sound groups of) (ideal_has_read system sound groups of)

    pub ideal_reader_rises : (i j : ℕ) → i < length groups → j < length groups → (m n k l : ℕ) → m ≤ n
        → IsEarliestReader (ideal_moments system) (group_at groups i) (group_at groups j) m k
        → IsEarliestReader (ideal_moments system) (group_at groups i) (group_at groups j) n l → k ≤ l
    ideal_reader_rises = reader_rises (ideal_moments system) groups (ideal_in_order system sound groups of)

    pub ideal_writer_rises : (i j : ℕ) → i < length groups → j < length groups → (m n k l : ℕ) → k ≤ l
        → IsLatestWriter (ideal_moments system) (group_at groups i) (group_at groups j) m k
        → IsLatestWriter (ideal_moments system) (group_at groups i) (group_at groups j) n l → m ≤ n
    ideal_writer_rises = writer_rises (ideal_moments system) groups (ideal_in_order system sound groups of)
