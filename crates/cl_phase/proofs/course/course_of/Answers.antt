use Rattle.std.proofs.Common.{◌≡◌, ℕ, false, ◌-◌, ◌+◌, List, length, get_or, take, drop, pos, ◌-ℤ◌, to_z, of_z, w64, ap, sym, subst, ◌∙◌, arith}
use Rattle.std.proofs.lemmas.Int.{ints}
use Rattle.std.proofs.lemmas.List.{take_all, length-drop}
use Rattle.cl_model.specs.Groups.{no_group}
use Rattle.cl_model.proofs.ValidTasks.{kind_in_range, kind_ordered}
use Rattle.cl_runs.specs.{TaskTiming.Timing, SystemOf.system_of}
use Rattle.cl_runs.proofs.ModelSystem.{timing_is}
use Rattle.cl_hop.specs.declared.group_timing.GroupTiming.{GroupTiming}
use Rattle.cl_phase.specs.{declared.stop.Stop.Stop, Inner.Course.first_lag}
use Rattle.cl_phase.proofs.CourseFacts.{IsCourseTo, course_begins, course_goes_on, course_stops, course_in_range, course_kept, span_by, write_by}
use Rattle.cl_phase.proofs.course.course_of.Goals as goal

pub beside-pace-requires-clause-range : goal.beside-pace-requires-clause-range
beside-pace-requires-clause-range c =
    rw c.stimulus_of.ensures (kind_in_range c.args.model.now c.plain.ensures.valid _ (c.requires.of_tasks c.loop-i.i _ c.loop-i-test.true).known)

pub beside-pace-requires-clause-ordered : goal.beside-pace-requires-clause-ordered
beside-pace-requires-clause-ordered c =
    rw c.stimulus_of.ensures (kind_ordered c.args.model.now c.plain.ensures.valid _ (c.requires.of_tasks c.loop-i.i _ c.loop-i-test.true).known)

pub loop-i-init : goal.loop-i-init
loop-i-init c =
    course_begins (system_of c.args.model.now) c.args.groups.now c.requires.some c.args.timings.now c.new-stops.result.items c.new-keeping.result
    c.new-stops.ensures c.new-keeping.ensures

-- what stands where there is no group
abbrev none : GroupTiming
none = record { task = 0; core = 0; priority = 0; is_timed = false; jitter = 0; distance = 0; read = 0; write = 0 }

-- what stands past a group is all that is left
rest_from : (timings : List GroupTiming) (from : ℕ) → take (length timings - from) (drop from timings) ≡ drop from timings
rest_from timings from = take_all (length timings - from) (drop from timings) (omega (arith, length-drop from timings))

pub loop-i-preserved : goal.loop-i-preserved
unfolding no_group
loop-i-preserved c =
    let groups = c.args.groups.now in
    let timings = c.args.timings.now in
    let system = system_of c.args.model.now in
    let known = (c.requires.of_tasks c.loop-i.i _ c.loop-i-test.true).known in
    let kind = c.stimulus_of.ensures ∙ sym (ap (λ (t : Timing). t.pattern) (timing_is c.args.model.now _ known)) in
    let lag = c.first_lag-lag in
    let small : to_z w64 (of_z w64 lag.result) ≡ lag.result = omega (arith, ints, lag.ensures.small) in
    subst (λ (stops : List Stop). IsCourseTo system groups timings (c.loop-i.i + 1) stops c.beside-pace.result.1) (sym c.push.ensures.items)
    (course_goes_on system groups c.requires.some timings c.loop-i.i c.loop-i.stops.items c.loop-i.keeping c.loop-i.invariant c.loop-i-test.true
    c.stimulus_of.result c.beside-pace.result.0 c.beside-pace.result.1 (to_z w64 (of_z w64 lag.result))
    kind (c.beside-pace.ensures.beside _ c.loop-i.invariant.kept) c.beside-pace.ensures.some
    (small ∙ lag.ensures.lag ∙ ap first_lag (rest_from timings c.loop-i.i)) (omega (arith, ints, lag.ensures.small), omega (arith, ints, lag.ensures.small)))

pub returns-clause-course : goal.returns-clause-course
returns-clause-course c =
    let groups = c.args.groups.now in
    let timings = c.args.timings.now in
    let system = system_of c.args.model.now in
    let all : c.loop-i.i ≡ length groups = omega (arith, c.loop-i-test.false, c.loop-i.auto.i-end) in
    let last = c.requires.near (length timings - 1) none (omega (arith, c.requires.some, c.requires.as_many)) in
    let first = c.requires.near 0 none (omega (arith, c.requires.some, c.requires.as_many)) in
    let write = c.write.ensures in
    let read = c.read.ensures in
    record {
      stops_are = course_stops system groups c.requires.some timings c.loop-i.i c.loop-i.stops.items c.loop-i.keeping c.loop-i.invariant c.requires.few all;
      in_range = course_in_range system groups c.requires.some timings c.loop-i.i c.loop-i.stops.items c.loop-i.keeping c.loop-i.invariant c.requires.few all;
      kept = course_kept system groups c.requires.some timings c.loop-i.i c.loop-i.stops.items c.loop-i.keeping c.loop-i.invariant c.requires.few all;
      span_is = λ timing are.
          ap (λ n. pos n -ℤ pos c.read.result) write
          ∙ ap (λ n. pos (get_or timings (length timings - 1) none).write -ℤ pos n) read
          ∙ ap (λ (list : List GroupTiming). pos (get_or list (length list - 1) none).write -ℤ pos (get_or list 0 none).read) are
          ∙ span_by timing groups c.requires.some none;
      write_is = λ timing are.
          write ∙ ap (λ (list : List GroupTiming). (get_or list (length list - 1) none).write) are ∙ write_by timing groups c.requires.some none;
      ends_in_range = record { read = omega (arith, read, first.read); write = omega (arith, write, last.write) };
    }

pub returns-clause-as_many : goal.returns-clause-as_many
returns-clause-as_many c = omega (arith, c.loop-i.invariant.as_many, c.loop-i-test.false, c.loop-i.auto.i-end)
