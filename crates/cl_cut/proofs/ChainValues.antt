-- Values of settled chains: they are positive, a whole chain has one, and it is at most the bound on the reaction.
use Rattle.std.proofs.Common.{◌≡◌, ℕ, ◌+◌, ◌<◌, ◌≤◌, Bool, true, false, inl, inr, Option, Some, None, List, [], ◌∷◌, length, get_or, refl, sym, ap, ◌∙◌, subst, arith}
use Rattle.std.specs.Prelude.{slice_index}
use Rattle.std.proofs.lemmas.Bool.{false≢true}
use Rattle.std.proofs.lemmas.List.{get_or_default, length-map}
use Rattle.cl_model.specs.{declared.{group.Group.Group, model.SystemModel.SystemModel}, ByNumber.chain_at, Groups.groups_at, Validity.IsValid}
use Rattle.cl_model.proofs.GroupFacts.{groups_at_are, groups_at_few, groups_at_some}
use Rattle.cl_runs.specs.{TaskTiming.{System, IsSound}, SystemOf.system_of, MomentOrder.AreGroupsOf}
use Rattle.cl_runs.proofs.{ChainsOfRuns.ideal_forward_ordered, Extension.some_legal, ModelSystem.system_sound}
use Rattle.cl_hop.specs.Bounds.{Lengths}
use Rattle.cl_bound.specs.{Answers.answers_of, Bounds.bounds_of, SettledChains.IsSettledChain}
use Rattle.cl_bound.proofs.{ModelGroups.settled_chain, SettledChains.{settled_safe, reaction_positive}}
use Rattle.cl_exact.specs.{TimedPeriodic.{are_timed_periodic, is_timed_periodic_chain}, ExactLengths.{Witnesses, AreExactLengths, chain_of}}
use Rattle.cl_exact.proofs.{RunExact.exact_in_runs, SomeExact.exact_lengths_exist}
use Rattle.cl_analyse.specs.{declared.findings.ChainAnswer.{ChainAnswer, TheVariants.{Bounds, Late}}, ChainAnswers.{chain_answer, chain_answer_of, chain_answers_of, chain_answer_at}}
use Rattle.cl_analyse.proofs.{FirstLate.settled_groups, SafeFindings.{answer_of_chain, chain_settled, late_where}}
use Rattle.cl_cut.specs.{Values.{part, IsValue}, Cuts.IsBestCut, CutAnswers.{late_task_of, IsSafeReaction, IsNoWorse}, Inner.Rears.{AreSettledGroups, AreValuesFrom, ArePositive, AreSome}}
use Rattle.cl_cut.proofs.{Parts.{length-part, part_rest}, SafeCuts.{settled_part, settled_timed, cut_safe}, CutCosts.{cut_alone, cost_alone}, ValueFacts.past_value}

module _ (system : System) (sound : IsSound system) where
  groups_of_tasks : (groups : List Group) → IsSettledChain system groups → AreGroupsOf system groups
  groups_of_tasks groups settled i d h = (settled.groups_of i d h).is_task

  value_some : (groups : List Group) → IsSettledChain system groups → 0 < length groups → (value : ℕ) → IsValue system groups value → 1 ≤ value
  value_some groups settled some value (inl exact) =
      let reaction = exact.are_exact.reaction in
      omega (
        arith,
        exact.reaction_is,
        reaction.length,
        ideal_forward_ordered system sound groups (groups_of_tasks groups settled) (chain_of exact.exact.reaction) reaction.longest.is_chain.is_chain,
      )
  value_some groups settled some value (inr bound) = omega (arith, bound.value_is, reaction_positive system sound groups settled some)

  -- each piece of a settled chain is worth something
  pub positive : (groups : List Group) → IsSettledChain system groups → ArePositive system groups
  positive groups settled first next value up within is_value =
      value_some (part groups first next) (settled_part system groups settled first next) (omega (arith, up, length-part groups first next within)) value is_value

  -- an exact reaction is attained in some legal run, and so at most the bound
  pub exact_within : (groups : List Group) → IsSettledChain system groups → are_timed_periodic system groups ≡ true → (exact : Witnesses)
      → AreExactLengths system groups exact → exact.reaction.length ≤ (bounds_of system groups).reaction
  exact_within groups settled timed exact are =
      let (run, ticks, legal) = some_legal system sound exact.reaction.to in
      let attained = ((exact_in_runs system sound groups (settled_timed system sound groups settled timed) exact are).attained run legal).reaction (omega (arith, ticks)) in
      omega (arith, attained.length, (settled_safe system sound groups settled run legal).reaction (chain_of exact.reaction) attained.is_chain)

-- ---- the best cut of a chain of a model

none_where : (first : Option ℕ) (own bounds : Lengths) → chain_answer first own ≡ Bounds bounds → first ≡ None
none_where None own bounds is = refl
none_where (Some task) own bounds is = absurd cc

module _ (model : SystemModel) (chain : ℕ) (is_chain : chain < length model.chains) where
  pub late_found : (task : ℕ) → chain_answer_at (chain_answers_of model) chain ≡ Late task → late_task_of model chain ≡ Some task
  unfolding chain_answer_of
  late_found task is = late_where (late_task_of model chain) (bounds_of (system_of model) (groups_at model chain)) task (sym (answer_of_chain model chain is_chain) ∙ is)

  pub none_found : (bounds : Lengths) → chain_answer_at (chain_answers_of model) chain ≡ Bounds bounds → late_task_of model chain ≡ None
  unfolding chain_answer_of
  none_found bounds is = none_where (late_task_of model chain) (bounds_of (system_of model) (groups_at model chain)) bounds (sym (answer_of_chain model chain is_chain) ∙ is)

module _ (model : SystemModel) (valid : IsValid model) (chain : ℕ) (is_chain : chain < length model.chains) (none : late_task_of model chain ≡ None) where
  abbrev groups : List Group
  groups = groups_at model chain

  settled : IsSettledChain (system_of model) groups
  settled = chain_settled model valid chain none

  -- the whole chain has a value that is at most its bound
  whole_value : (value : ℕ) × IsValue (system_of model) groups value × (value ≤ (bounds_of (system_of model) groups).reaction)
  whole_value = by_kind (is_timed_periodic_chain model chain) refl
    where
      by_kind : (timed : Bool) → is_timed_periodic_chain model chain ≡ timed
          → (value : ℕ) × IsValue (system_of model) groups value × (value ≤ (bounds_of (system_of model) groups).reaction)
      by_kind false is = (
        (bounds_of (system_of model) groups).reaction,
        inr (record { not_exact = λ timed within. absurd (false≢true (sym is ∙ timed)); value_is = refl }),
        omega arith,
      )
      by_kind true is = elim (exact_lengths_exist model valid chain is_chain is) [
        | inl (exact, are, within) ↦ (
          exact.reaction.length,
          inl (record { timed = is; within = within; exact = exact; are_exact = are; reaction_is = refl }),
          exact_within (system_of model) (system_sound model valid) groups settled is exact are,
        )
        | inr past ↦ (
          (bounds_of (system_of model) groups).reaction,
          past_value (system_of model) groups (bounds_of (system_of model) groups).reaction past refl,
          omega arith,
        )
      ]

  module _ (pieces : List ℕ) (cost : ℕ) (best : IsBestCut (system_of model) groups pieces cost) where
    -- the uncut chain is a cut too
    uncut : (value : ℕ) → IsValue (system_of model) groups value → cost ≤ value
    uncut value is_value =
        best.least (0 ∷ []) value (cut_alone groups 0 (groups_at_some model valid chain is_chain))
        (cost_alone (system_of model) groups 0 value
        (subst (λ (own : List Group). IsValue (system_of model) own value) (sym (part_rest groups 0)) is_value))

    pub best_safe : IsSafeReaction (system_of model) groups cost
    best_safe = cut_safe (system_of model) (system_sound model valid) groups settled pieces cost best.is_cut best.costs

    pub best_no_worse : IsNoWorse (system_of model) groups cost
    best_no_worse = record {
      bound = let (value, is_value, within) = whole_value in omega (arith, within, uncut value is_value);
      exact = λ exact timed within are.
          uncut exact.reaction.length (inl (record { timed = timed; within = within; exact = exact; are_exact = are; reaction_is = refl }));
    }

-- the pieces of groups that can be cut are worth something
pub groups_positive : (model : SystemModel) → IsValid model → (groups : List Group) → AreSettledGroups model groups → ArePositive (system_of model) groups
groups_positive model valid groups are =
    positive (system_of model) (system_sound model valid) groups (settled_chain model groups are.of_tasks are.not_late)

-- and so are the values of those that begin with one group
pub values_some : (system : System) (groups : List Group) → ArePositive system groups → (first : ℕ) (values : List ℕ)
    → AreValuesFrom system groups first values → AreSome values
values_some system groups all_positive first values are k lt =
    all_positive first (first + 1 + k) (slice_index values k) (omega arith) (omega (arith, lt, are.one_a_piece)) (are.each k lt)

-- what is found of the chain of a number, as the code reads it
pub answer_read : (model : SystemModel) (i : ℕ) (slice chains : List ChainAnswer) (d answer : ChainAnswer) → slice ≡ chains → chains ≡ chain_answers_of model
    → i < length model.chains → get_or slice i d ≡ answer → chain_answer_at (chain_answers_of model) i ≡ answer
answer_read model i slice chains d answer same are within is =
    let place : i < length (chain_answers_of model) = omega (arith, within, length-map model.chains (chain_answer_of model)) in
    get_or_default (chain_answers_of model) i (Late 0) d place ∙ sym (ap (λ (list : List ChainAnswer). get_or list i d) (same ∙ are)) ∙ is

-- the groups of a chain of which no task is late can be cut
pub chain_can_be_cut : (model : SystemModel) → IsValid model → (chain : ℕ) → chain < length model.chains → late_task_of model chain ≡ None
    → AreSettledGroups model (groups_at model chain)
chain_can_be_cut model valid chain is_chain none = record {
  few = groups_at_few model valid chain is_chain;
  of_tasks = groups_at_are model valid chain;
  not_late = settled_groups (answers_of (system_of model)) model (chain_at model chain) none;
}
