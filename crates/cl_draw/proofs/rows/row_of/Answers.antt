use Rattle.std.specs.Prelude.{All}
use Rattle.std.proofs.Common.{List, sym, subst}
use Rattle.cl_draw.specs.{declared.parts.Part.Part, Inner.TaskRuns.IsPartOf}
use Rattle.cl_draw.proofs.PartFacts.{parts_known}
use Rattle.cl_draw.proofs.rows.row_of.Goals as goal

pub part_items-requires-clause-parts : goal.part_items-requires-clause-parts
part_items-requires-clause-parts c = subst (λ (ps : List Part). All (IsPartOf c.args.of.model.now c.args.of.run.now c.args.of.task) ps) (sym c.as_slice-2.ensures)
    (parts_known c.args.of.model.now c.args.of.run.now c.args.of.task c.requires.of _ c.in_ok-work.ensures.parts)
