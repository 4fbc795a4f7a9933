use Rattle.std.proofs.lemmas.Result.{IfOk-weaker}
use Rattle.cl_engine.specs.Content.{content_of}
use Rattle.cl_top.proofs.{WellMeant.asks_for_few, Answers.may_end}
use Rattle.cl_top.proofs.commands.CommandCommand.answer.Goals as goal

pub returns-clause-status : goal.returns-clause-status
returns-clause-status g c = IfOk-weaker c.answered.result _ _ (λ outcome is. may_end c.args.self (content_of c.args.given) outcome is) c.answered.ensures.outcome

pub answered-requires-clause-few : goal.answered-requires-clause-few
answered-requires-clause-few g c = asks_for_few c.requires.spelled.words c.args.self c.requires.spelled.spells
