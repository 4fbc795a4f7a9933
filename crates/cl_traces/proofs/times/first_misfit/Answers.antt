use Rattle.std.proofs.Common.{rules, tests}
use Rattle.std.proofs.lemmas.Iterator.{YieldsList-from_slice, YieldsList-from_zip}
use Rattle.std.proofs.lemmas.Iterator.Search.{find_from_yields_List}
use Rattle.std.proofs.lemmas.Iterator.Consumers.{YieldsList-at}
use Rattle.cl_traces.specs.SaidOfRules.{is_misfit}
use Rattle.cl_traces.proofs.times.first_misfit.Goals as goal

pub returns : goal.returns
returns c =
    find_from_yields_List is_misfit c.find.new.self _ c.find.result c.find.ensures.ran
    (YieldsList-from_zip
    (YieldsList-at c.zip.ensures.first (YieldsList-from_slice c.args.runnables.now cc))
    (YieldsList-at c.zip.ensures.second (YieldsList-from_slice c.args.times.now cc)))
    (λ x b q k. search (rules, tests))
