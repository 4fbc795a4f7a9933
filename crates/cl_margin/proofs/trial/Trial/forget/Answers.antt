use Rattle.cl_margin.proofs.Forgotten.{one_forgotten}
use Rattle.cl_margin.proofs.trial.Trial.forget.Goals as goal

pub returns : goal.returns
returns c =
    let done = c.forget_parts.ensures in
    one_forgotten c.args.self.now c.args.task c.forget_parts.new.self c.requires done.leads done.parts done.others
