use Rattle.std.proofs.Common.{◌≡◌, ◌+◌, false, pos, take, length, ap, sym, subst, take_all, arith}
use Rattle.std.specs.Prelude.{All}
use Rattle.std.proofs.lemmas.List.Elements.{All-more}
use Rattle.cl_stim.specs.Phase.{arrives_at}
use Rattle.cl_lead.specs.declared.sure.SureTask.{SureTask}
use Rattle.cl_lead.proofs.sure.SureWork.last_beginning.Goals as goal

pub loop-above-preserved : goal.loop-above-preserved
loop-above-preserved c =
    let list = c.as_slice-above-items.result.now in
    let i = c.loop-above.above-index in
    record {
      before = omega (arith, c.max-last.ensures, c.loop-above.invariant.before, c.last_before.ensures.before);
      other = λ between after until. c.loop-above.invariant.other between (omega (arith, c.max-last.ensures, after)) until;
      none = λ between after until.
          subst (λ xs. All (λ (above : SureTask). arrives_at above.phase (pos between) ≡ false) (take (i + 1) xs)) c.as_slice-above-items.ensures.value
          (All-more (λ (above : SureTask). arrives_at above.phase (pos between) ≡ false) list i _ c.loop-above-test.true
          (subst (λ xs. All (λ (above : SureTask). arrives_at above.phase (pos between) ≡ false) (take i xs)) (sym c.as_slice-above-items.ensures.value)
          (c.loop-above.invariant.none between (omega (arith, c.max-last.ensures, after)) until))
          (c.last_before.ensures.none between (omega (arith, c.max-last.ensures, after)) until));
    }

pub returns-clause-none : goal.returns-clause-none
returns-clause-none c between after until =
    let all : take c.loop-above.above-index c.args.self.now.above.items ≡ c.args.self.now.above.items =
    take_all c.loop-above.above-index c.args.self.now.above.items
    (omega (arith, c.loop-above-test.false, ap length c.as_slice-above-items.ensures.value)) in
    record {
      other = c.loop-above.invariant.other between after until;
      none = subst (λ xs. All (λ (above : SureTask). arrives_at above.phase (pos between) ≡ false) xs) all (c.loop-above.invariant.none between after until);
    }
