use Rattle.std.proofs.Common.{rules, tests}
use Rattle.std.proofs.lemmas.Iterator.Search.{find_from_yields_List}
use Rattle.std.proofs.lemmas.Iterator.Splits.{YieldsList-from_slice_split}
use Rattle.cl_edit.specs.Said.{is_blank, has_bytes}
use Rattle.cl_lists.proofs.lines.find_word.Goals as goal

pub returns : goal.returns
returns c =
    find_from_yields_List has_bytes _ _ _ c.find.ensures.ran
    (YieldsList-from_slice_split _ is_blank c.args.line.now (cc) (cc) (cc) (λ x b q k. search (rules, tests)))
    (λ x b q k. search (rules, tests))
