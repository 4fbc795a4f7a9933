use Rattle.std.proofs.Common.{ap, ◌∙◌, arith, ◌++◌, ◌≡◌, length}
use Rattle.std.specs.List.{flat_map, range_with_len}
use Rattle.cl_trace.specs.Trace.{run_items, core_items, text_of}
use Rattle.cl_trace.proofs.{Puts.lines_more, StretchTasks.cores_are}
use Rattle.cl_trace.proofs.writing.put_runs.Goals as goal

pub loop-core-preserved : goal.loop-core-preserved
loop-core-preserved c =
    lines_more c.args.model.now (core_items c.args.run.now) c.args.text.now c.loop-core.text c.put_core.new.text c.loop-core.core c.loop-core.invariant c.in_ok-put_core.ensures

pub returns : goal.returns
unfolding run_items
returns c =
    let all : c.loop-core.core ≡ length c.args.run.now.entries
    = omega (arith, cores_are c.args.model.now c.args.run.now c.requires, c.loop-core-test.false, c.loop-core.auto.core-end, c.cores-core-end.ensures) in
    c.loop-core.invariant ∙ ap (λ n. c.args.text.now ++ text_of c.args.model.now (flat_map (core_items c.args.run.now) (range_with_len 0 n))) all
