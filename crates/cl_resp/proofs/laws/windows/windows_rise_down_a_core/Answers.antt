use Rattle.cl_resp.proofs.Descending.{none_descends, tasks_take_some}
use Rattle.cl_resp.proofs.laws.windows.windows_rise_down_a_core.Goals as goal

pub returns : goal.returns
returns c = λ blocking system sound task higher is_task known above blocks.
    none_descends system sound task higher known above blocking blocks (tasks_take_some blocking system sound task is_task)
