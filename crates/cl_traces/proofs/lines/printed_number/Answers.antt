use Rattle.cl_traces.proofs.PrintedNumbers.{read_is_printed}
use Rattle.cl_traces.proofs.lines.printed_number.Goals as goal

pub returns : goal.returns
returns c = read_is_printed c.args.word.now c.read_decimal.result c.read_decimal.ensures.some c.read_decimal.ensures.none
