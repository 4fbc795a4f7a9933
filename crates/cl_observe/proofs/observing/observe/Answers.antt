use Rattle.std.proofs.Common.{◌++◌, ap, ◌∙◌}
use Rattle.std.specs.Prelude.{codes}
use Rattle.cl_observe.proofs.PutTexts.{observation_put}
use Rattle.cl_observe.proofs.observing.observe.Goals as goal

pub returns : goal.returns
returns c =
    observation_put c.args.model.now c.args.run.now c.put.new.self c.put_legality.new.text c.put_shown.new.text
    (c.in_ok-put.ensures.ok ∙ ap (λ t. t ++ codes "chainlat observed 1\n") c.new-text.ensures) c.in_ok-put_legality.ensures c.in_ok-put_shown.ensures
