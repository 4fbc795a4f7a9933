use Rattle.std.proofs.Common.{◌≡◌, take, map, All}
use Rattle.cl_runs.specs.SystemOf.{system_of}
use Rattle.cl_hop.specs.Hops.{IsNear}
use Rattle.cl_tight.specs.{TightTimings.tight_timing, Found.AreWindowsOf}
use Rattle.cl_tight.proofs.access_windows.AccessWindows.timings.Given as goal

abbrev pub invariant-loop-group : goal.invariant-loop-group
invariant-loop-group l = record {
  items : l.timings.items ≡ map (tight_timing (system_of l.model)) (take l.group-index l.groups);
  near : All IsNear l.timings.items;
  found : AreWindowsOf (system_of l.model) l.self;
}
