use Rattle.std.proofs.Common.{ap, ◌∙◌, sym}
use Rattle.std.specs.Option.{option_copied}
use Rattle.cl_top.proofs.Words.{command_read, none_read}
use Rattle.cl_top.proofs.command.read_command.Goals as goal

pub returns-in-Some : goal.returns-in-Some
returns-in-Some c = c.read_by_verb.ensures ∙ sym (command_read c.args.words.now c.in-Some.verb.now (sym c.at.ensures ∙ ap option_copied c.in-Some.is))

pub returns-in-None : goal.returns-in-None
returns-in-None c = sym (none_read c.args.words.now (sym c.at.ensures ∙ ap option_copied c.in-None.is))
