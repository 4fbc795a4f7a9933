use Rattle.std.proofs.Common.{◌≡◌, ℕ, ◌<◌, List, ◌∷◌, [], length, sym, ap, ◌∙◌, subst, length-append, arith}
use Rattle.cl_model.specs.{declared.group.Group.Group, Groups.{groups_at, group_at}}
use Rattle.cl_runs.specs.{SystemOf.system_of, Run.{Run, jobs_of}}
use Rattle.cl_check.specs.InOrder.{AreTimesPositive, AreGroupsInOrder}
use Rattle.cl_chain.specs.declared.group_moments.GroupMoments.{GroupMoments}
use Rattle.cl_chain.proofs.GroupReads.{reads_pushed, writes_pushed}
use Rattle.cl_chain.proofs.group_moments.moments_of_groups_apart.Goals as goal

-- the task of a group that stands at a place
group_times : (groups : List Group) (run : Run) → AreGroupsInOrder groups run → (place : ℕ) → place < length groups
    → (group : Group) → group ≡ group_at groups place → AreTimesPositive (jobs_of run group.task)
group_times groups run ordered place within group is = subst (λ (g : Group). AreTimesPositive (jobs_of run g.task)) (sym is) (ordered place within).times

pub reads_of-requires-clause-times : goal.reads_of-requires-clause-times
reads_of-requires-clause-times c =
    group_times (groups_at c.args.model.now c.args.chain) c.args.run.now c.requires.ordered
    c.loop-place.place (omega (arith, c.loop-place-test.true, c.group_count-place-end.ensures.count)) c.group-group.result c.group-group.ensures.group

pub writes_of-requires-clause-times : goal.writes_of-requires-clause-times
writes_of-requires-clause-times c =
    group_times (groups_at c.args.model.now c.args.chain) c.args.run.now c.requires.ordered
    c.loop-place.place (omega (arith, c.loop-place-test.true, c.group_count-place-end.ensures.count)) c.group-group.result c.group-group.ensures.group

pub loop-place-preserved : goal.loop-place-preserved
loop-place-preserved c =
    let inv = c.loop-place.invariant in
    let table : GroupMoments = record { reads = c.in_ok-reads_of.field-0; writes = c.in_ok-writes_of.field-0 } in
    let here : c.group-group.result ≡ group_at (groups_at c.args.model.now c.args.chain) (length c.loop-place.tables)
    = c.group-group.ensures.group ∙ ap (group_at (groups_at c.args.model.now c.args.chain)) (sym inv.one_a_group) in
    record {
      one_a_group = omega (arith, ap length c.in_ok-push.ensures.ok, length-append c.loop-place.tables (table ∷ []), inv.one_a_group);
      reads = rw c.in_ok-push.ensures.ok (reads_pushed (system_of c.args.model.now) c.args.run.now (groups_at c.args.model.now c.args.chain) c.loop-place.tables
          c.group-group.result here c.in_ok-reads_of.field-0 c.in_ok-writes_of.field-0 inv.reads c.in_ok-reads_of.ensures);
      writes = rw c.in_ok-push.ensures.ok (writes_pushed (system_of c.args.model.now) c.args.run.now (groups_at c.args.model.now c.args.chain) c.loop-place.tables
          c.group-group.result here c.in_ok-reads_of.field-0 c.in_ok-writes_of.field-0 inv.writes c.in_ok-writes_of.ensures);
    }
