use Rattle.std.proofs.Common.{◌≡◌, ◌-◌, ◌<◌, List, [], ◌∷◌, ◌++◌, length, get_or, sym, ap, ◌∙◌, arith}
use Rattle.std.proofs.lemmas.List.{length_push, get_or_push}
use Rattle.cl_runs.specs.SystemOf.{system_of}
use Rattle.cl_cut.specs.declared.rears.Rear.{Rear}
use Rattle.cl_cut.proofs.RearFacts.{pushed_costs, best_by_slice, pushed_rears, all_rears}
use Rattle.cl_cut.proofs.cutting.best_of.Goals as goal

pub loop-alloc-preserved : goal.loop-alloc-preserved
loop-alloc-preserved g c =
    let system = system_of c.args.model.now in
    let groups = c.args.groups.now in
    let rears = c.loop-alloc.rears.items in
    let rear = c.in_ok-rear.rear in
    let fewer : length rears < length groups = omega (arith, c.loop-alloc-test.true, c.len.ensures) in
    let best = best_by_slice system groups rears rear fewer c.as_slice.result.now c.as_slice.ensures.value c.in_ok-rear.ensures.best in
    let pushed = c.push.new.self.items in
    record {
      costs = pushed_costs system groups rears rear fewer pushed c.in_ok-push.ensures.items c.loop-alloc.invariant.costs c.in_ok-rear.ensures.some;
      known = pushed_rears system groups rears rear fewer pushed c.in_ok-push.ensures.items c.loop-alloc.invariant.known best;
    }

pub returns : goal.returns
returns g c =
    let rears = c.loop-alloc.rears.items in
    let others = c.pop.new.self.items in
    let best = c.in-Some.best in
    let items : rears ≡ others ++ best ∷ [] = c.in-Some.ensures.items in
    let last : length others ≡ length rears - 1 = omega (arith, ap length items, length_push others best) in
    let at = ap (λ (list : List Rear). get_or list (length rears - 1) best) items ∙ get_or_push others best best (length rears - 1) last in
    all_rears (system_of c.args.model.now) c.args.groups.now rears c.loop-alloc.invariant.known
    (omega (arith, c.loop-alloc-test.false, c.len.ensures)) c.requires.some best (sym at)
