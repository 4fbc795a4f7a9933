-- What tight findings promise: in every legal run, of any length.
use Rattle.std.specs.Prelude.{◌≡◌, ℕ, ◌<◌, ◌≤◌, length}
use Rattle.cl_model.specs.{declared.model.SystemModel.SystemModel, Groups.groups_at, ByNumber.requirement_at}
use Rattle.cl_runs.specs.{SystemOf.system_of, Requirements.{IsKept, IsBrokenBy}, Responses.AlwaysFinishesWithin}
use Rattle.cl_hop.specs.{Bounds.Lengths, NoGreater.AreNoGreater, Promises.AreSafe}
use Rattle.cl_resp.specs.Response.{Response}
use Rattle.cl_bound.specs.{declared.answer.TaskAnswer.TheVariants.Settled, Answers.answer_at}
use Rattle.cl_exact.specs.ExactLengths.{Witnesses}
use Rattle.cl_phase.specs.CompleteChains.{AreSomeTicks}
use Rattle.cl_analyse.specs.{declared.findings.{ChainAnswer.TheVariants.Bounds, ExactAnswer.TheVariants.Exact, Verdict.TheVariants.{Met, Broken}, Findings.Findings}, ChainAnswers.{chain_answer_at, exact_answer_at}, Verdicts.verdict_at}
use Rattle.cl_tight.specs.{ExactBounds.AreLengthsOf, declared.findings.TightFindings.TightFindings}

-- The findings are safe. In every legal run each job of a settled task finishes within its response, each tight
-- bound is at least the length of every complete chain of its kind, and 1 tick or more, what is met is kept, and what is
-- broken is broken in some legal run, by as much as the verdict says.
pub record AreSafeTightFindings (model : SystemModel) (findings : TightFindings) : Type 0 where
  pub responses : (task : ℕ) (response : Response) → task < length model.tasks
      → answer_at findings.tasks task ≡ Settled response → AlwaysFinishesWithin (system_of model) task response.response
  pub bounds : (chain : ℕ) (bounds : Lengths) → chain < length model.chains
      → chain_answer_at findings.chains chain ≡ Bounds bounds → AreSafe (system_of model) (groups_at model chain) bounds
  pub some : (chain : ℕ) (bounds : Lengths) → chain < length model.chains
      → chain_answer_at findings.chains chain ≡ Bounds bounds → AreSomeTicks bounds
  pub met : (i value : ℕ) → i < length model.requirements
      → verdict_at findings.verdicts i ≡ Met value → IsKept model (requirement_at model i)
  pub broken : (i value : ℕ) → i < length model.requirements
      → verdict_at findings.verdicts i ≡ Broken value → IsBrokenBy model (requirement_at model i) value

-- a task that the report doesn't call late has a response by phases, and one that is no later
pub record HasNoLater (findings : TightFindings) (task : ℕ) (response : Response) : Type 0 where
  pub tight : Response
  pub settled : answer_at findings.tasks task ≡ Settled tight
  pub no_later : tight.response ≤ response.response

-- a chain that the report doesn't call late has tight bounds, and none that is greater
pub record HasNoGreater (findings : TightFindings) (chain : ℕ) (bounds : Lengths) : Type 0 where
  pub tight : Lengths
  pub bounded : chain_answer_at findings.chains chain ≡ Bounds tight
  pub no_greater : AreNoGreater tight bounds

-- the tight bounds of a chain are its exact lengths
pub record HasExactBounds (findings : TightFindings) (chain : ℕ) (lengths : Witnesses) : Type 0 where
  pub tight : Lengths
  pub bounded : chain_answer_at findings.chains chain ≡ Bounds tight
  pub exact : AreLengthsOf tight lengths

-- The findings are at least as tight as those of the report, response by response and chain by chain, and where the
-- report has exact lengths they are these.
pub record AreAsTight (model : SystemModel) (findings : TightFindings) (report : Findings) : Type 0 where
  pub responses : (task : ℕ) (response : Response) → task < length model.tasks
      → answer_at report.tasks task ≡ Settled response → HasNoLater findings task response
  pub bounds : (chain : ℕ) (bounds : Lengths) → chain < length model.chains
      → chain_answer_at report.chains chain ≡ Bounds bounds → HasNoGreater findings chain bounds
  pub exact : (chain : ℕ) (lengths : Witnesses) → chain < length model.chains
      → exact_answer_at report.exacts chain ≡ Exact lengths → HasExactBounds findings chain lengths
