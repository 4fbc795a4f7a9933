use Rattle.cl_resp.proofs.Windows.{window_is_least, least_is_window, no_window_holds, none_where_none_holds}
use Rattle.cl_resp.proofs.laws.windows.windows_are_least.Goals as goal

pub returns-clause-found : goal.returns-clause-found
returns-clause-found c = window_is_least

pub returns-clause-is_found : goal.returns-clause-is_found
returns-clause-is_found c = least_is_window

pub returns-clause-none : goal.returns-clause-none
returns-clause-none c = no_window_holds

pub returns-clause-is_none : goal.returns-clause-is_none
returns-clause-is_none c = none_where_none_holds
