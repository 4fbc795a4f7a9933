use Rattle.std.proofs.Common.{refl}
use Rattle.std.specs.Result.{IfOk}
use Rattle.cl_engine.specs.Content.{content_of}
use Rattle.cl_top.specs.declared.command.Command.TheVariants as command
use Rattle.cl_top.specs.Commands.{IsOutcomeOf, TakesStepsOf}
use Rattle.cl_top.proofs.Answers.{as_asked}
use Rattle.cl_top.proofs.commands.answered.Goals as goal

pub returns-in-Generate-clause-outcome : goal.returns-in-Generate-clause-outcome
returns-in-Generate-clause-outcome g c = as_asked (λ asked content. IfOk c.generated.result (IsOutcomeOf asked content)) c.args.asked (command.Generate c.in-Generate.seed c.in-Generate.tasks) (content_of c.args.given)
    c.in-Generate.is refl c.requires.fits c.generated.ensures

pub returns-in-Survey-clause-outcome : goal.returns-in-Survey-clause-outcome
returns-in-Survey-clause-outcome g c = as_asked (λ asked content. IfOk c.surveyed.result (IsOutcomeOf asked content)) c.args.asked (command.Survey c.in-Survey.seed c.in-Survey.tasks) (content_of c.args.given)
    c.in-Survey.is refl c.requires.fits c.surveyed.ensures.outcome

pub returns-in-Help-clause-outcome : goal.returns-in-Help-clause-outcome
returns-in-Help-clause-outcome g c = as_asked (λ asked content. IfOk c.helped.result (IsOutcomeOf asked content)) c.args.asked command.Help (content_of c.args.given)
    c.in-Help.is refl c.requires.fits c.helped.ensures

pub returns-in-HelpOn-clause-outcome : goal.returns-in-HelpOn-clause-outcome
returns-in-HelpOn-clause-outcome g c = as_asked (λ asked content. IfOk c.helped_on.result (IsOutcomeOf asked content)) c.args.asked (command.HelpOn c.in-HelpOn.topic) (content_of c.args.given)
    c.in-HelpOn.is refl c.requires.fits c.helped_on.ensures

pub returns-in-Version-clause-outcome : goal.returns-in-Version-clause-outcome
returns-in-Version-clause-outcome g c = as_asked (λ asked content. IfOk c.named_version.result (IsOutcomeOf asked content)) c.args.asked command.Version (content_of c.args.given)
    c.in-Version.is refl c.requires.fits c.named_version.ensures

pub returns-in-Survey-clause-steps : goal.returns-in-Survey-clause-steps
returns-in-Survey-clause-steps g c = as_asked (λ asked content. TakesStepsOf asked content c.args.steps.now c.surveyed.new.steps) c.args.asked
    (command.Survey c.in-Survey.seed c.in-Survey.tasks) (content_of c.args.given) c.in-Survey.is refl c.requires.fits c.surveyed.ensures.steps
