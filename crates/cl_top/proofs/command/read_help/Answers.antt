use Rattle.std.proofs.Common.{ap, ◌∙◌, sym, arith}
use Rattle.std.specs.Option.{option_copied}
use Rattle.cl_top.proofs.Words.{topic_read}
use Rattle.cl_top.proofs.command.read_help.Goals as goal

pub returns-in-Some : goal.returns-in-Some
returns-in-Some c = c.help_on.ensures ∙ sym (topic_read c.args.words.now c.in-Some.verb.now (omega arith) (sym c.at.ensures ∙ ap option_copied c.in-Some.is))
