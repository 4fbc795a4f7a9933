use Rattle.std.proofs.Common.{◌≡◌, ℕ, ◌+◌, ◌-◌, length, take, drop, take_all, length-drop, ap, ◌∙◌, arith}
use Rattle.std.specs.Prelude.{count_by}
use Rattle.toml.specs.Parse.{skip_bom}
use Rattle.cl_place.specs.Positions.{begins_character}
use Rattle.cl_place.proofs.position.row_and_column.Goals as goal

pub returns : goal.returns
returns c =
    let bytes = c.args.before.now in
    let start = c.last_row.result in
    let rest : take (length bytes - start) (drop start bytes) ≡ drop start bytes =
    take_all (length bytes - start) (drop start bytes) (omega (arith, length-drop start bytes)) in
    record {
      start = start;
      begins = c.last_row.ensures;
      rows = ap (λ (n : ℕ). n + 1) c.line_feeds.ensures;
      columns = ap (λ (n : ℕ). n + 1) (c.characters.ensures ∙ ap (count_by begins_character) (c.without_mark-row.ensures ∙ ap skip_bom rest));
    }
