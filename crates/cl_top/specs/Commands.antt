-- What each command comes to, the steps that it takes, and what is promised of its text.
pub mod Simulate
pub mod Witness
pub mod Why
pub mod Replay
pub mod Observe
pub mod Draw
pub mod Edit
pub mod Apply
pub mod Check
pub mod CheckFile
use Rattle.std.specs.Prelude.{◌≡◌, ℕ, ◌+◌, ◌≤◌, List, Option, Some, None}
use Rattle.cl_model.specs.declared.model.SystemModel.{SystemModel}
use Rattle.cl_write.specs.Texts.{IsTextOf}
use Rattle.cl_runs.specs.Run.{Run}
use Rattle.cl_gen.specs.Generated.{generated}
use Rattle.cl_report.specs.{Report.IsReportOf, Survey.IsSurveyOf}
use Rattle.cl_tighten.specs.Tight.{tight_text}
use Rattle.cl_explain.specs.{Explanation.explanation, Promises.IsSafeExplanation}
use Rattle.cl_designs.specs.{Cuts.IsCutTextOf, Orders.{IsOrderTextOf, IsSafeOrderText}, Headroom.{IsHeadroomTextOf, IsSafeHeadroomText}, Margins.{IsMarginTextOf, IsSafeMarginText}}
use Rattle.cl_help.specs.{declared.overview.TheConstants.HELP, Topic.about}
use Rattle.cl_engine.specs.{declared.outcome.Outcome.Outcome, Content.Content, Done.IsDone, Language.Language}
use Rattle.cl_top.specs.{declared.{command.Command.Command, commands.help.TheConstants.VERSION}, Command.{command_of, files_read}, Commands.{Apply.applying, Check.checking, CheckFile.checking_file, Draw.{drawing, IsDrawn}, Edit.editing, Observe.observing, Replay.{replaying, IsReplayed}}}
use Rattle.cl_top.specs.{Commands.{Simulate.simulating, Why.reasoning, Witness.witnessing}, Headline.{IsSafeReportOf, AreSafeCuts, IsSafeTightReport}, Meaning.{Meaning, printing, on_nothing, on_model, takes_no_step, any_steps, at_most, model_steps, task_steps, entry_steps, no_promise}}
use Rattle.cl_top.specs.{Meaning.{promises, equal, of_one_model, WritesTheSame}, Verified.{IsVerifiedAs, IsShownInTime}}
use Rattle.cl_top.specs.declared.command.Command.TheVariants as command

-- a command without a file that writes this text
abbrev pub saying : (text : List ℕ) → Meaning
saying text = record {
  comes_to = on_nothing (IsDone (λ written. written ≡ text));
  takes = takes_no_step;
  safe = no_promise;
  same = equal;
}

-- What each command comes to, its steps, what it promises of its text, and when two outcomes of it say the same. Seventeen
-- promise something of every legal run, or of the model or the run that they print: `analyse`, `cut`, `order`, `headroom`,
-- `margin`, `tighten`, `verify`, `explain`, `witness`, `why`, `check` (of one file and of two), `replay`, `observe`, `draw`, `edit` and `apply`. The others print no
-- bound of a given model.
unfoldable pub command_meaning : Command → Meaning
command_meaning command.Analyse = printing IsReportOf (at_most model_steps) (promises IsSafeReportOf)
command_meaning command.Migrate = record { comes_to = on_model (λ model. IsDone (IsTextOf model)); takes = takes_no_step; safe = no_promise; same = WritesTheSame }
command_meaning command.Cut = printing IsCutTextOf any_steps (promises AreSafeCuts)
command_meaning command.Order = printing IsOrderTextOf any_steps (promises IsSafeOrderText)
command_meaning command.Headroom = printing IsHeadroomTextOf any_steps (promises IsSafeHeadroomText)
command_meaning command.Margin = printing IsMarginTextOf any_steps (promises IsSafeMarginText)
command_meaning command.Tighten = printing (λ model text. text ≡ tight_text model) (at_most task_steps) (promises IsSafeTightReport)
command_meaning command.Verify = record {
  comes_to = on_model IsVerifiedAs;
  takes = at_most task_steps;
  safe = promises IsShownInTime;
  same = of_one_model IsVerifiedAs;
}
command_meaning command.Explain = printing (λ model text. text ≡ explanation model) (at_most entry_steps) (promises IsSafeExplanation)
command_meaning (command.Witness what name) = witnessing what name
command_meaning (command.Why what name) = reasoning what name
command_meaning (command.Simulate ticks seed) = simulating ticks seed
command_meaning command.Replay = replaying
command_meaning command.Observe = observing
command_meaning (command.Draw from to) = drawing from to
command_meaning command.Edit = editing
command_meaning command.Apply = applying
command_meaning command.Check = checking
command_meaning command.CheckFile = checking_file
command_meaning (command.Generate seed tasks) = record {
  comes_to = on_nothing (IsDone (IsTextOf (generated seed tasks)));
  takes = takes_no_step;
  safe = no_promise;
  same = WritesTheSame;
}
command_meaning (command.Survey seed tasks) = record {
  comes_to = on_nothing (IsDone (IsSurveyOf (generated seed tasks)));
  takes = λ content before after. after ≤ before + model_steps (generated seed tasks);
  safe = no_promise;
  same = equal;
}
command_meaning command.Help = saying HELP.now
command_meaning (command.HelpOn topic) = saying (about topic)
command_meaning command.Version = saying VERSION.now

-- what a command comes to, where its files hold this
abbrev pub IsOutcomeOf : Command → Content → Outcome → Type 0
IsOutcomeOf asked content found = (command_meaning asked).comes_to content found

-- the steps before and after it
abbrev pub TakesStepsOf : Command → Content → (before after : ℕ) → Type 0
TakesStepsOf asked content before after = (command_meaning asked).takes content before after

-- the commands of the program
abbrev pub commands : Language Command
commands = record { spelled = command_of; files = files_read; comes_to = IsOutcomeOf; takes = TakesStepsOf }

-- Two outcomes of words that are this command say the same: they are equal, or what the command allows beside that.
abbrev pub SaysTheSame : Option Command → (one other : Outcome) → Type 0
SaysTheSame None one other = one ≡ other
SaysTheSame (Some asked) one other = (command_meaning asked).same one other

-- what comes of a legal run, of the commands on one
abbrev pub of_run : Command → SystemModel → Run → Outcome → Type 0
of_run command.Replay model run found = IsReplayed model run found
of_run (command.Draw from to) model run found = IsDrawn from to model run found
of_run asked model run found = ⊥
