use Rattle.std.proofs.Common.{ℕ, ◌<◌, Option, unwrap_or, List, length, sym, ap, ◌∙◌, subst, arith}
use Rattle.std.specs.Prelude.{IfSome}
use Rattle.cl_model.specs.Groups.{groups_at}
use Rattle.cl_runs.specs.Requirements.{HasLength}
use Rattle.cl_bound.specs.{declared.answer.TaskAnswer.TaskAnswer, Answers.NoneIsLate}
use Rattle.cl_analyse.specs.ChainAnswers.{chain_answer_at}
use Rattle.cl_tight.specs.TightFindings.{tight_chain_answers_of}
use Rattle.cl_tight.proofs.{TightChains.tight_given, TightLengths.tight_chains_within}
use Rattle.cl_verify.specs.Decisions.{IsDecisionByRuns}
use Rattle.cl_verify.proofs.ByFindings.{tasks_of_findings, chains_of_findings, chain_found, late_by, decided_by_runs}
use Rattle.cl_verify.proofs.deciding.decide_by_runs.Goals as goal

pub bounds-as_slice-chain : goal.bounds-as_slice-chain
bounds-as_slice-chain c =
    let same = c.unwrap_or-chain.ensures ∙ ap (λ (o : Option ℕ). unwrap_or o 0) c.chain_named.ensures.number in
    tight_chains_within c.args.model.now c.as_slice.result.now c.unwrap_or-chain.result
    (c.as_slice.ensures ∙ chains_of_findings c.args.model.now c.args.findings.now c.requires.findings) (omega (arith, same, c.requires.chain))

pub see_chain-requires-clause-answers : goal.see_chain-requires-clause-answers
see_chain-requires-clause-answers c = tasks_of_findings c.args.model.now c.args.findings.now c.requires.findings

pub see_chain-requires-clause-not_late : goal.see_chain-requires-clause-not_late
see_chain-requires-clause-not_late c =
    let model = c.args.model.now in
    let chain = c.unwrap_or-chain.result in
    let same = c.unwrap_or-chain.ensures ∙ ap (λ (o : Option ℕ). unwrap_or o 0) c.chain_named.ensures.number in
    let within : chain < length model.chains = omega (arith, same, c.requires.chain) in
    let found = chain_found model c.args.findings.now c.as_slice.result.now chain c.index-as_slice-chain.result
    c.requires.findings c.as_slice.ensures within c.index-as_slice-chain.is in
    subst (λ (answers : List TaskAnswer). NoneIsLate answers (groups_at model chain)) (sym (tasks_of_findings model c.args.findings.now c.requires.findings))
    (tight_given model c.requires.valid chain within c.in-Bounds.bounds (sym found ∙ c.in-Bounds.is)).0

pub returns-in-Late-clause-decision : goal.returns-in-Late-clause-decision
returns-in-Late-clause-decision c =
    let model = c.args.model.now in
    let chain = c.unwrap_or-chain.result in
    let same = c.unwrap_or-chain.ensures ∙ ap (λ (o : Option ℕ). unwrap_or o 0) c.chain_named.ensures.number in
    let within : chain < length model.chains = omega (arith, same, c.requires.chain) in
    let found = chain_found model c.args.findings.now c.as_slice.result.now chain c.index-as_slice-chain.result
    c.requires.findings c.as_slice.ensures within c.index-as_slice-chain.is in
    late_by model c.args.requirement.now c.index-as_slice-chain.result (found ∙ ap (chain_answer_at (tight_chain_answers_of model)) same)
    c.in-Late.task c.in-Late.is

pub returns-in_ok-seen-in-Bounds-clause-decision : goal.returns-in_ok-seen-in-Bounds-clause-decision
returns-in_ok-seen-in-Bounds-clause-decision c =
    let model = c.args.model.now in
    let required = c.args.requirement.now in
    let chain = c.unwrap_or-chain.result in
    let same = c.unwrap_or-chain.ensures ∙ ap (λ (o : Option ℕ). unwrap_or o 0) c.chain_named.ensures.number in
    let within : chain < length model.chains = omega (arith, same, c.requires.chain) in
    let found = chain_found model c.args.findings.now c.as_slice.result.now chain c.index-as_slice-chain.result
    c.requires.findings c.as_slice.ensures within c.index-as_slice-chain.is in
    decided_by_runs model required c.index-as_slice-chain.result (found ∙ ap (chain_answer_at (tight_chain_answers_of model)) same) c.in-Bounds.bounds
    c.decision_by_length.result c.in-Bounds.is
    (subst (λ (n : ℕ). IsDecisionByRuns model required n c.decision_by_length.result) c.limited_bound-bound.ensures
    (c.decision_by_length.ensures model
    (subst (λ (n : ℕ). IfSome c.in_ok-seen-in-Bounds.seen (HasLength model n required.kind)) same c.in_ok-seen-in-Bounds.ensures.seen)))
