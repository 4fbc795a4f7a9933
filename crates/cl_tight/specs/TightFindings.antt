-- What is found of a model by responses by phases and tight bounds.
use Rattle.std.specs.Prelude.{ℕ, Bool, true, false, not, ◌&&◌, nat_le, List, map, fold, Option, None}
use Rattle.std.specs.List.{list_all}
use Rattle.cl_model.specs.{declared.{model.SystemModel.SystemModel, chain.{ChainDef.ChainDef, RequirementDef.RequirementDef}, group.Group.Group}, Groups.{steps_of, groups_of, groups_at}}
use Rattle.cl_runs.specs.{TaskTiming.System, SystemOf.system_of, Requirements.required_chain}
use Rattle.cl_stim.specs.Multiples.{common_multiple}
use Rattle.cl_bound.specs.{declared.answer.TaskAnswer.TaskAnswer, Answers.is_late}
use Rattle.cl_exact.specs.{TimedPeriodic.is_timed_periodic_chain, Hyperperiod.{period_of, hyper_limit}}
use Rattle.cl_phase.specs.TightBounds.{tight_bounds}
use Rattle.cl_analyse.specs.{declared.findings.{ChainAnswer.ChainAnswer, Verdict.Verdict}, ChainAnswers.{first_late, chain_answer, chain_answer_at}, Verdicts.{required_bound, verdict_on, is_met}}
use Rattle.cl_tight.specs.{TightAnswers.tight_answers_of, TightTimings.tight_timing, declared.findings.TightFindings.TightFindings}

-- ---- chains

-- the answer for a chain: its tight bounds where none of its tasks is late by phases, else the first late one
unfoldable pub tight_chain_answer_of : SystemModel → ChainDef → ChainAnswer
tight_chain_answer_of model chain =
    let system = system_of model in
    chain_answer (first_late (tight_answers_of system) (steps_of model chain)) (tight_bounds system (tight_timing system) (groups_of model chain))

-- the answers for all chains, in file order
abbrev pub tight_chain_answers_of : SystemModel → List ChainAnswer
tight_chain_answers_of model = map (tight_chain_answer_of model) model.chains

-- ---- requirements

-- the least common multiple of the periods of groups
unfoldable pub common_period : System → List Group → ℕ
common_period system groups = fold (λ ticks (group : Group). common_multiple (period_of system group) ticks) 1 groups

-- whether the tight bounds of a chain are its exact lengths, by a rule: its tasks are all timed and periodic, and its
-- hyperperiod is within the limit on exact lengths
unfoldable pub has_exact_bounds : SystemModel → (chain : ℕ) → Bool
has_exact_bounds model chain =
    is_timed_periodic_chain model chain
    && nat_le (common_period (system_of model) (groups_at model chain)) (hyper_limit (system_of model) (groups_at model chain))

-- a bound that is exact
abbrev pub exact_bound : (is_exact : Bool) → (bound : Option ℕ) → Option ℕ
exact_bound true bound = bound
exact_bound false bound = None

-- The verdict on a requirement: met where the tight bound is at most what is required, broken where it exceeds that and
-- is exact, and else nothing is shown.
unfoldable pub tight_verdict_of : SystemModel → (chains : List ChainAnswer) → RequirementDef → Verdict
tight_verdict_of model chains requirement =
    let chain = required_chain model requirement in
    let bound = required_bound requirement.kind (chain_answer_at chains chain) in
    verdict_on requirement.most (exact_bound (has_exact_bounds model chain) bound) bound

-- ---- all findings

-- what is found of a model, each list in file order
unfoldable pub tight_findings_of : SystemModel → TightFindings
tight_findings_of model = record {
  tasks = tight_answers_of (system_of model);
  chains = tight_chain_answers_of model;
  verdicts = map (tight_verdict_of model (tight_chain_answers_of model)) model.requirements;
}

-- ---- what verifies a model

-- a model is verified where no task is late and each requirement is met
unfoldable pub is_verified : TightFindings → Bool
is_verified findings = list_all (λ (answer : TaskAnswer). not (is_late answer)) findings.tasks && list_all is_met findings.verdicts
