use Rattle.cl_engine.proofs.OpenedFiles.{content_opened, content_stops}
use Rattle.cl_engine.proofs.opening.open_content.Goals as goal

pub returns-in-Bytes-clause-opened : goal.returns-in-Bytes-clause-opened
returns-in-Bytes-clause-opened g c = content_opened _ _ _ c.in_ok-bytes.ensures.fetched _ c.in-Bytes.is

pub returns-in-Stopped-clause-opened : goal.returns-in-Stopped-clause-opened
returns-in-Stopped-clause-opened g c = content_stops _ _ _ c.in_ok-bytes.ensures.fetched _ c.in-Stopped.is
