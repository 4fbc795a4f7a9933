use Rattle.std.proofs.Common.{refl, sym, ◌∙◌}
use Rattle.std.proofs.lemmas.List.{get_or-map}
use Rattle.cl_model.specs.ByNumber.{no_chain, chain_at}
use Rattle.cl_analyse.specs.declared.findings.ChainAnswer.TheVariants.{Late}
use Rattle.cl_analyse.proofs.FirstLate.{settled_groups}
use Rattle.cl_tight.specs.TightFindings.{tight_chain_answer_of, tight_chain_answers_of}
use Rattle.cl_tight.proofs.{TightLists.late_answer, TightLengths.tight_late_known}
use Rattle.cl_verify.proofs.witness.witness_of_chain.Goals as goal

pub witness_of_task-requires-clause-task : goal.witness_of_task-requires-clause-task
witness_of_task-requires-clause-task c =
    let model = c.args.model.now in
    let found = late_answer model c.args.answers.now (chain_at model c.args.chain) c.requires.answers c.in-Some.task (sym c.first_late.ensures ∙ c.in-Some.is) in
    tight_late_known model (tight_chain_answers_of model) c.plain-valid.ensures.valid refl c.args.chain c.in-Some.task c.requires.chain
    (get_or-map (tight_chain_answer_of model) model.chains c.args.chain no_chain (Late 0) c.requires.chain ∙ sym found)

pub witness_of_bounded-requires-clause-not_late : goal.witness_of_bounded-requires-clause-not_late
witness_of_bounded-requires-clause-not_late c =
    settled_groups c.args.answers.now c.args.model.now (chain_at c.args.model.now c.args.chain) (sym c.first_late.ensures ∙ c.in-None.is)
