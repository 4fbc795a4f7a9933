use Rattle.cl_advice.proofs.position.put_position.Goals as goal

pub returns : goal.returns
returns c = record {
  row = c.row_and_column-row.result.0;
  column = c.row_and_column-row.result.1;
  within = c.requires;
  position = c.row_and_column-row.ensures;
  added = c.in_ok-put_at.ensures;
}
