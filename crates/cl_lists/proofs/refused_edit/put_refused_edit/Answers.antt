use Rattle.cl_advice.proofs.Pieces.{two_pieces}
use Rattle.cl_edit.specs.declared.version.Version.TheVariants.{Two}
use Rattle.cl_lists.specs.{BadLines.line_found, RefusedEdits.{mend_by_code, refused_edit_text}}
use Rattle.cl_lists.proofs.refused_edit.put_refused_edit.Goals as goal

pub returns : goal.returns
unfolding refused_edit_text
returns c =
    let r = c.args.refusal in
    two_pieces (line_found Two c.args.list.now c.args.number) (mend_by_code c.args.model.now c.args.edit.now r r.code)
    c.args.text.now c.put_found_line.new.text c.put_by_code.new.text c.in_ok-put_found_line.ensures c.in_ok-put_by_code.ensures
