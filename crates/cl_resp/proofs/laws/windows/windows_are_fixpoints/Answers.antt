use Rattle.cl_resp.proofs.Windows.{window_is_fixpoint, fixpoint_is_window, no_window_no_fixpoint, no_fixpoint_no_window, no_window_holds}
use Rattle.cl_resp.proofs.laws.windows.windows_are_fixpoints.Goals as goal

pub returns-clause-found : goal.returns-clause-found
returns-clause-found c = window_is_fixpoint

pub returns-clause-is_found : goal.returns-clause-is_found
returns-clause-is_found c = fixpoint_is_window

pub returns-clause-none : goal.returns-clause-none
returns-clause-none c = no_window_no_fixpoint

pub returns-clause-is_none : goal.returns-clause-is_none
returns-clause-is_none c = no_fixpoint_no_window

pub returns-clause-short : goal.returns-clause-short
returns-clause-short c = λ question some none. no_window_holds question (no_fixpoint_no_window question some none)
