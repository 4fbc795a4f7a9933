use Rattle.std.proofs.Common.{rules, append_assoc}
use Rattle.std.proofs.lemmas.Grind.{flat_map-append}
use Rattle.cl_trace.specs.Trace.{item_text, spelled}
use Rattle.cl_trace.proofs.writing.write_trace.Goals as goal

pub returns : goal.returns
unfolding item_text spelled
returns c = search (rules, append_assoc, flat_map-append)
