use Rattle.std.proofs.Common.{◌∷◌, ◌++◌, [], length, map, take, ap, sym, ◌∙◌, arith}
use Rattle.std.proofs.lemmas.List.{map_more, take_all}
use Rattle.std.proofs.lemmas.List.Elements.{All-append, All-cons, All-nil}
use Rattle.cl_model.specs.Groups.{no_group}
use Rattle.cl_runs.specs.SystemOf.{system_of}
use Rattle.cl_hop.specs.Hops.{IsNear}
use Rattle.cl_tight.specs.TightTimings.{tight_timing}
use Rattle.cl_tight.proofs.TightTimings.{count_of_first}
use Rattle.cl_tight.proofs.access_windows.AccessWindows.timings.Goals as goal

pub loop-group-init : goal.loop-group-init
loop-group-init c = record { items = c.new-timings.ensures; near = rw c.new-timings.ensures (All-nil IsNear); found = c.requires.found }

pub push-requires : goal.push-requires
push-requires c =
    let tight = tight_timing (system_of c.args.model.now) in
    let count = count_of_first tight c.args.groups.now c.loop-group.group-index c.loop-group-test.true in
    (omega arith, omega (arith, ap length c.loop-group.invariant.items, count, c.loop-group-test.true, c.requires.few))

pub loop-group-preserved : goal.loop-group-preserved
unfolding no_group
loop-group-preserved c =
    let groups = c.args.groups.now in
    let index = c.loop-group.group-index in
    let tight = tight_timing (system_of c.args.model.now) in
    record {
      items = c.push.ensures.items ∙ ap (λ list. list ++ c.in_ok-timing.field-0 ∷ []) c.loop-group.invariant.items
          ∙ ap (λ timing. map tight (take index groups) ++ timing ∷ []) c.in_ok-timing.ensures.timing
          ∙ sym (map_more tight groups index no_group c.loop-group-test.true);
      near = rw c.push.ensures.items
          (All-append IsNear c.loop-group.timings.items (c.in_ok-timing.field-0 ∷ []) c.loop-group.invariant.near
          (All-cons IsNear c.in_ok-timing.field-0 [] c.in_ok-timing.ensures.near (All-nil IsNear)));
      found = c.timing.ensures.found;
    }

pub returns-clause-timings : goal.returns-clause-timings
returns-clause-timings c =
    c.loop-group.invariant.items
    ∙ ap (map (tight_timing (system_of c.args.model.now))) (take_all c.loop-group.group-index c.args.groups.now (omega (arith, c.loop-group-test.false)))
