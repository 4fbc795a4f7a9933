use Rattle.std.proofs.Common.{◌≡◌, take}
use Rattle.cl_incr.specs.Inner.News.{put_all}
use Rattle.cl_incr.proofs.put.put_exacts.Given as goal

abbrev pub invariant-loop-one : goal.invariant-loop-one
invariant-loop-one l = l.exacts ≡ put_all (take l.one-index l.found) l.initial.exacts
