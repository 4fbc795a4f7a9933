use Rattle.cl_engine.proofs.OpenedFiles.{second_held, second_stops}
use Rattle.cl_engine.proofs.opening.open_second.Goals as goal

pub returns-in-Ok-Bytes-clause-opened : goal.returns-in-Ok-Bytes-clause-opened
returns-in-Ok-Bytes-clause-opened g c = second_held _ _ _ _ _ c.in-Ok-Bytes.ensures.fetched _ c.in-Ok-Bytes.field-0-is

pub returns-in-Ok-Stopped-clause-opened : goal.returns-in-Ok-Stopped-clause-opened
returns-in-Ok-Stopped-clause-opened g c = second_stops _ _ _ _ _ c.in-Ok-Stopped.ensures.fetched _ c.in-Ok-Stopped.field-0-is
