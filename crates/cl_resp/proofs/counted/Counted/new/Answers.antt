use Rattle.cl_resp.specs.Inner.Rising.{taken_from}
use Rattle.cl_resp.proofs.WhatIsKept.{none_kept}
use Rattle.cl_resp.proofs.counted.Counted.new.Goals as goal

pub returns : goal.returns
returns c = λ start above from some. none_kept (taken_from start) above 128 from some
