-- What is asked in a search. Where something holds, what it stands for is met; where it doesn't, not all that is met now is.
use Rattle.std.proofs.Common.{◌≡◌, ℕ, ◌<◌, ◌≤◌, true, false, List, length, refl, sym, ap, ◌∙◌, subst, arith}
use Rattle.std.specs.Prelude.{nat_le, ◌&&◌}
use Rattle.std.proofs.lemmas.Bool.{true≢false, false≢true, and_from, le-leb}
use Rattle.cl_model.specs.{declared.{chain.{LengthKind.TheVariants.{Reaction, Age, Reduced}, RequirementKind.{RequirementKind, TheVariants.{Length, Delay}}}, model.SystemModel.SystemModel}, Ranges.IsInRange, Validity.IsValid, ByNumber.{no_requirement, requirement_at}}
use Rattle.cl_hop.specs.Bounds.{Lengths}
use Rattle.cl_analyse.specs.{declared.findings.ChainAnswer.{ChainAnswer, TheVariants.{Bounds, Late}}, ChainAnswers.chain_answer_at, Verdicts.limited_bound}
use Rattle.cl_tight.specs.{declared.findings.TightFindings.TightFindings, TightFindings.{tight_chain_answers_of, tight_findings_of}}
use Rattle.cl_margin.specs.{declared.{allowed.Allowed.Allowed, searching.Item.{Item, TheVariants.{Task, Chain}}, trial.Trial.Trial, whose.Whose.Whose}, Grown.grown, Margins.KeepsMet, Inner.Allowing.{any_allowed, allows, allows_answer, allowed_at, KeepsRequired, AreAllowed, most_bounds}}
use Rattle.cl_margin.specs.Inner.{Searches.{holds, FitsAnswer, FitsItem, IsItemOf, IsMetItem, KeepsChain, KeepsItem}, Trials.{IsTrialOf, IsStanding}}
use Rattle.cl_margin.proofs.{GrownSystem.chains_grown, GrownValid.{count_grown, grown_same}, MetByBounds.task_met_is, StaysMet.{grown_met_by, grown_met_where, kept_below, requirement_met_below}}

-- ---- trials

-- a trial of a model is one of its own
pub trial_itself : (model : SystemModel) (trial : Trial) → IsTrialOf model trial → IsTrialOf trial.model trial
trial_itself model trial is = subst (λ (m : SystemModel). IsTrialOf m trial) (sym is.is) is

pub trial_kept : (model : SystemModel) (trial next : Trial) → IsTrialOf model trial → IsTrialOf trial.model next → IsTrialOf model next
trial_kept model trial next is is_next = subst (λ (m : SystemModel). IsTrialOf m next) is.is is_next

-- what is asked of the model is asked of the grown one
pub item_grown : (model : SystemModel) (whose : Whose) (percent : ℕ) (item : Item) → IsItemOf model item → IsItemOf (grown model whose percent) item
item_grown model whose percent (Task task) is = omega (arith, is, count_grown model whose percent)
item_grown model whose percent (Chain chain allowed) is = omega (arith, is, ap length (chains_grown model whose percent))

pub item_of : (model other : SystemModel) (item : Item) → model ≡ other → IsItemOf other item → IsItemOf model item
item_of model other item same is = subst (λ (m : SystemModel). IsItemOf m item) (sym same) is

-- ---- what is allowed

-- how a model stands says what is allowed by what is found of it
pub are_allowed : (model : SystemModel) (findings : TightFindings) (order : List ℕ) (most : List Allowed) → IsStanding model findings order most
    → AreAllowed model (tight_findings_of model).verdicts most
are_allowed model findings order most standing = subst (λ (f : TightFindings). AreAllowed model f.verdicts most) standing.found standing.allowed

-- bounds of 64 bits fit
pub bounds_fit : (bounds : Lengths) → bounds.reaction ≤ 18446744073709551615 → bounds.age ≤ 18446744073709551615 → bounds.reduced ≤ 18446744073709551615
    → bounds.delay ≤ 18446744073709551615 → allows any_allowed bounds ≡ true
unfolding any_allowed
bounds_fit bounds reaction age reduced delay =
    and_from (nat_le bounds.reaction 18446744073709551615 && nat_le bounds.age 18446744073709551615 && nat_le bounds.reduced 18446744073709551615)
    (nat_le bounds.delay 18446744073709551615)
    (and_from (nat_le bounds.reaction 18446744073709551615 && nat_le bounds.age 18446744073709551615) (nat_le bounds.reduced 18446744073709551615)
    (and_from (nat_le bounds.reaction 18446744073709551615) (nat_le bounds.age 18446744073709551615)
    (le-leb bounds.reaction 18446744073709551615 reaction) (le-leb bounds.age 18446744073709551615 age))
    (le-leb bounds.reduced 18446744073709551615 reduced))
    (le-leb bounds.delay 18446744073709551615 delay)

most_allowed : allows any_allowed most_bounds ≡ true
unfolding any_allowed
most_allowed = refl

most_limited : (kind : RequirementKind) → limited_bound kind most_bounds ≡ 18446744073709551615
most_limited (Length Reaction) = refl
most_limited (Length Age) = refl
most_limited (Length Reduced) = refl
most_limited Delay = refl

module _ (model : SystemModel) (valid : IsValid model) (whose : Whose) (most : List Allowed) (are : AreAllowed model (tight_findings_of model).verdicts most) where
  -- a chain of which all is allowed has no requirement that is met
  pub keeps_any : (percent chain : ℕ) → chain < length model.chains → allows (allowed_at most chain) most_bounds ≡ true → KeepsChain model (grown model whose percent) chain
  keeps_any percent chain within any i h on met =
      let limit : limited_bound (requirement_at model i).kind most_bounds ≤ (requirement_at model i).most =
      are.keeps chain most_bounds within any i h on met in
      absurd (omega (arith, limit, most_limited (requirement_at model i).kind, valid.in_range.requirements i no_requirement h))

  module _ (percent : ℕ) where
    -- ---- something holds

    chain_kept : (chain : ℕ) (allowed : Allowed) (answer : ChainAnswer) → chain < length model.chains → allowed ≡ allowed_at most chain
        → chain_answer_at (tight_chain_answers_of (grown model whose percent)) chain ≡ answer → allows_answer allowed answer ≡ true
        → KeepsChain model (grown model whose percent) chain
    chain_kept chain allowed (Late task) within same is holds = absurd (false≢true holds)
    chain_kept chain allowed (Bounds bounds) within same is holds = λ i h on met.
        grown_met_where model whose percent i h bounds
        (ap (chain_answer_at (tight_chain_answers_of (grown model whose percent))) on ∙ is)
        (are.keeps chain bounds within (ap (λ (a : Allowed). allows a bounds) (sym same) ∙ holds) i h on met)

    pub kept_where : (item : Item) → IsItemOf model item → IsMetItem model most item → holds item (grown model whose percent) ≡ true → KeepsItem model (grown model whose percent) item
    kept_where (Task task) is met holds = λ _. task_met_is (grown model whose percent) task ∙ holds
    kept_where (Chain chain allowed) is met holds =
        chain_kept chain allowed (chain_answer_at (tight_chain_answers_of (grown model whose percent)) chain) is met.0 refl holds

    -- ---- something doesn't hold

    module _ (kept : KeepsMet model (grown model whose percent)) (chain : ℕ) (within : chain < length model.chains) where
      required_by : (bounds : Lengths) → chain_answer_at (tight_chain_answers_of (grown model whose percent)) chain ≡ Bounds bounds
          → KeepsRequired model (tight_findings_of model).verdicts chain bounds
      required_by bounds is i h on met =
          let (found, given, le) = grown_met_by model whose percent i h (kept.requirements i h met) in
          let same : Bounds bounds ≡ Bounds found = sym is ∙ ap (chain_answer_at (tight_chain_answers_of (grown model whose percent))) (sym on) ∙ given in
          let alike : bounds ≡ found = cc in
          subst (λ (b : Lengths). limited_bound (requirement_at model i).kind b ≤ (requirement_at model i).most) (sym alike) le

      required_of_late : (task : ℕ) → chain_answer_at (tight_chain_answers_of (grown model whose percent)) chain ≡ Late task
          → KeepsRequired model (tight_findings_of model).verdicts chain most_bounds
      required_of_late task is i h on met =
          let (found, given, le) = grown_met_by model whose percent i h (kept.requirements i h met) in
          let same : Late task ≡ Bounds found = sym is ∙ ap (chain_answer_at (tight_chain_answers_of (grown model whose percent))) (sym on) ∙ given in
          absurd cc

      chain_fails : (allowed : Allowed) (answer : ChainAnswer) → allowed ≡ allowed_at most chain → (allows allowed most_bounds ≡ true → ⊥)
          → chain_answer_at (tight_chain_answers_of (grown model whose percent)) chain ≡ answer → FitsAnswer answer → allows_answer allowed answer ≡ false → ⊥
      chain_fails allowed (Bounds bounds) same some is fits fails =
          true≢false (sym (ap (λ (a : Allowed). allows a bounds) same ∙ are.allows chain bounds within fits (required_by bounds is)) ∙ fails)
      chain_fails allowed (Late task) same some is fits fails =
          some (ap (λ (a : Allowed). allows a most_bounds) same ∙ are.allows chain most_bounds within most_allowed (required_of_late task is))

    pub fails_where : (item : Item) → IsItemOf model item → IsMetItem model most item → FitsItem item (grown model whose percent) → holds item (grown model whose percent) ≡ false
        → KeepsMet model (grown model whose percent) → ⊥
    fails_where (Task task) is met fits fails kept = true≢false (sym (sym (task_met_is (grown model whose percent) task) ∙ kept.tasks task is met) ∙ fails)
    fails_where (Chain chain allowed) is met fits fails kept =
        chain_fails kept chain is allowed (chain_answer_at (tight_chain_answers_of (grown model whose percent)) chain) met.0 met.1 refl fits fails

-- ---- at other percentages

module _ (model : SystemModel) (valid : IsValid model) (whose : Whose) where
  -- all is kept as the model stands
  keeps_itself : KeepsMet model model
  keeps_itself = record { in_range = valid.in_range; tasks = λ task h met. met; requirements = λ i h met. met }

  pub kept_at_whole : KeepsMet model (grown model whose 100)
  kept_at_whole = subst (KeepsMet model) (sym (grown_same model valid whose)) keeps_itself

  item_itself : (most : List Allowed) (item : Item) → IsMetItem model most item → KeepsItem model model item
  item_itself most (Task task) met = λ is. is
  item_itself most (Chain chain allowed) met = λ i h on is. is

  pub item_at_whole : (most : List Allowed) (item : Item) → IsMetItem model most item → KeepsItem model (grown model whose 100) item
  item_at_whole most item met = subst (λ (m : SystemModel). KeepsItem model m item) (sym (grown_same model valid whose)) (item_itself most item met)

  -- where a percentage doesn't keep what is met, no greater one does
  pub fails_above : (percent : ℕ) → 100 ≤ percent → (KeepsMet model (grown model whose percent) → ⊥) → (other : ℕ) → percent ≤ other → KeepsMet model (grown model whose other) → ⊥
  fails_above percent some fails other above kept = fails (kept_below model valid whose other kept percent some above)

  module _ (less more : ℕ) (le : less ≤ more) (in_range : IsInRange (grown model whose more)) where
    pub chain_below : (chain : ℕ) → KeepsChain model (grown model whose more) chain → KeepsChain model (grown model whose less) chain
    chain_below chain kept i h on met = requirement_met_below model valid whose less more le in_range i h (kept i h on met)
