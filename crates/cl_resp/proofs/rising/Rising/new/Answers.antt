use Rattle.cl_resp.specs.Inner.Rising.{taken_in}
use Rattle.cl_resp.proofs.WhatIsKept.{none_kept}
use Rattle.cl_resp.proofs.rising.Rising.new.Goals as goal

pub returns : goal.returns
returns c = λ above from some. none_kept taken_in above 128 from some
