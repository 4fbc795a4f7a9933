use Rattle.std.proofs.Common.{sym}
use Rattle.std.proofs.lemmas.List.{take_all}
use Rattle.cl_advice.specs.declared.known.TheConstants.{MOST_KNOWN}
use Rattle.cl_advice.proofs.known.first_few.Goals as goal

pub returns-else-entries-gt-MOST_KNOWN : goal.returns-else-entries-gt-MOST_KNOWN
returns-else-entries-gt-MOST_KNOWN g c = sym (take_all MOST_KNOWN c.args.entries.now c.if-entries-gt-MOST_KNOWN.false)
