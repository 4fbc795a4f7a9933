use Rattle.std.proofs.Common.{◌≡◌, ◌++◌}
use Rattle.std.specs.List.{flat_map, range_with_len}
use Rattle.cl_trace.specs.Trace.{text_of, core_items}
use Rattle.cl_trace.proofs.writing.put_runs.Given as goal

abbrev pub invariant-loop-core : goal.invariant-loop-core
invariant-loop-core l = l.text ≡ l.initial.text ++ text_of l.model (flat_map (core_items l.run) (range_with_len 0 l.core))
