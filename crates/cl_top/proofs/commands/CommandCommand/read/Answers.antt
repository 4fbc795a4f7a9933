use Rattle.std.proofs.Common.{◌≡◌, sym, ℕ, List, Option, Some, None}
use Rattle.std.specs.Option.{IfSome}
use Rattle.cl_engine.specs.Language.{HasFileWords}
use Rattle.cl_top.specs.{declared.command.Command.Command, Command.command_of, Commands.commands}
use Rattle.cl_top.proofs.WellMeant.{has_file_words}
use Rattle.cl_top.proofs.commands.CommandCommand.read.Goals as goal

file_words : (words : List (List ℕ)) (spelled : Option Command) → spelled ≡ command_of words → IfSome spelled (HasFileWords commands words)
file_words words None is = tt
file_words words (Some asked) is = has_file_words words asked (sym is)

pub returns-clause-file_words : goal.returns-clause-file_words
returns-clause-file_words c = file_words c.args.words.now c.read_command.result c.read_command.ensures
