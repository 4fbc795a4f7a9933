use Rattle.std.proofs.Common.{rules}
use Rattle.std.proofs.lemmas.List.{append_assoc}
use Rattle.cl_margin.specs.declared.whose.Whose.TheVariants.{EveryTask}
use Rattle.cl_designs.specs.Margins.{margin_text}
use Rattle.cl_designs.proofs.MarginLines.{break_is_known}
use Rattle.cl_designs.proofs.margins.text_of.Goals as goal

pub put_all-requires : goal.put_all-requires
put_all-requires c =
    let all = c.args.margins.now.all in
    break_is_known c.args.model.now EveryTask all.percent all.breaks c.requires.margins.all.breaks

pub returns : goal.returns
unfolding margin_text
returns c = search (rules, append_assoc)
