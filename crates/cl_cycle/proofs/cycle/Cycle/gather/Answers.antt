use Rattle.std.proofs.Common.{arith}
use Rattle.cl_runs.specs.SystemOf.{system_of}
use Rattle.cl_cycle.specs.Cycles.{phases_with}
use Rattle.cl_cycle.proofs.{GatheredPhases.some_ticks, GatheredPeriods.{room_first, room_now, room_next, gathered_first, gathered_next, gathered_last}}
use Rattle.cl_cycle.proofs.cycle.Cycle.gather.Goals as goal

pub loop-next-init : goal.loop-next-init
loop-next-init c = record {
  few = omega arith;
  room = room_first c.args.model.now c.args.task c.requires.valid c.alone-cycle.result c.alone-cycle.ensures.empty;
  gathered = gathered_first c.args.model.now c.args.task c.requires.task c.alone-cycle.result c.alone-cycle.ensures.gathered;
}

pub join_all-requires-clause-ticks : goal.join_all-requires-clause-ticks
join_all-requires-clause-ticks c =
    let upto = c.loop-next.invariant.gathered in
    some_ticks (phases_with (system_of c.args.model.now) c.args.task upto.so_far) c.loop-next.cycle.ticks c.loop-next.cycle.arrivals upto.are.together

pub join_all-requires-clause-room : goal.join_all-requires-clause-room
join_all-requires-clause-room c =
    room_now c.args.model.now c.args.task c.loop-next.cycle c.loop-next.cycle c.loop-next.period c.in-Some.next c.in-Some.ensures.next c.loop-next.invariant.room

pub loop-next-preserved : goal.loop-next-preserved
loop-next-preserved c =
    let model = c.args.model.now in
    let before = c.loop-next.invariant in
    let is = c.in-Some.ensures.next in
    record {
      few = is.few;
      room = room_next model c.args.task c.loop-next.cycle c.join_all.new.self c.loop-next.period c.in-Some.next is before.room c.join_all.ensures.room;
      gathered = gathered_next model c.args.task c.loop-next.cycle c.join_all.new.self c.loop-next.period c.in-Some.next is before.gathered
          (c.join_all.ensures.gathered before.gathered.so_far before.gathered.are);
    }

pub returns : goal.returns
returns c =
    gathered_last c.args.model.now c.args.task c.loop-next.cycle c.loop-next.period c.loop-next.invariant.few c.in_default.ensures.none c.loop-next.invariant.gathered
