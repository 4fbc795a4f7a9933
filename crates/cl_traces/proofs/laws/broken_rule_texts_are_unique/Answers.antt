use Rattle.cl_traces.proofs.OneText.{one_text}
use Rattle.cl_traces.proofs.laws.broken_rule_texts_are_unique.Goals as goal

pub returns : goal.returns
returns c = one_text
