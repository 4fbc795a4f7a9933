use Rattle.std.proofs.Common.{refl, sym, ◌∙◌, arith}
use Rattle.cl_model.specs.Groups.{groups_at}
use Rattle.cl_runs.specs.SystemOf.{system_of}
use Rattle.cl_incr.proofs.SameQuestions.{same_hops, same_before, up_to_next}
use Rattle.cl_incr.proofs.comparing.have_same_hops.Goals as goal

pub loop-place-preserved : goal.loop-place-preserved
loop-place-preserved c =
    up_to_next (system_of c.args.old.now) (system_of c.args.new.now) (groups_at c.args.old.now c.args.before) (groups_at c.args.new.now c.args.chain)
    c.requires.count c.loop-place.place (omega arith) c.loop-place.invariant
    (sym c.hop_line_to-old_line.ensures ∙ c.is_same_line.ensures.0 c.if-not-is_same_line.false ∙ c.hop_line_to-new_line.ensures)

pub returns-then-not-is_same_line : goal.returns-then-not-is_same_line
returns-then-not-is_same_line c = (
  λ is. absurd cc,
  λ same.
      let here = same_before (system_of c.args.old.now) (system_of c.args.new.now) (groups_at c.args.old.now c.args.before) (groups_at c.args.new.now c.args.chain)
      c.requires.count same c.loop-place.place (omega arith) (omega (arith, c.loop-place-test.true, c.group_count-place-end.ensures.count, c.requires.count)) in
      sym c.if-not-is_same_line.true ∙ c.is_same_line.ensures.1 (c.hop_line_to-old_line.ensures ∙ here ∙ sym c.hop_line_to-new_line.ensures),
)

pub returns : goal.returns
returns c = (
  λ is. same_hops (system_of c.args.old.now) (system_of c.args.new.now) (groups_at c.args.old.now c.args.before) (groups_at c.args.new.now c.args.chain)
      c.requires.count (λ k within. c.loop-place.invariant k (omega (arith, within, c.loop-place-test.false, c.requires.count, c.group_count-place-end.ensures.count))),
  λ same. refl,
)
