use Rattle.cl_advice.proofs.{CleanEdits.clean_edit_advice, CleanMends.clean_advice, CleanUnread.{clean_at, clean_unread}}
use Rattle.cl_advice.proofs.laws.advice_is_clean.Goals as goal

pub returns-clause-edit : goal.returns-clause-edit
returns-clause-edit c = clean_edit_advice

pub returns-clause-place : goal.returns-clause-place
returns-clause-place c = clean_at

pub returns-clause-document : goal.returns-clause-document
returns-clause-document c = clean_advice

pub returns-clause-no_document : goal.returns-clause-no_document
returns-clause-no_document c = clean_unread
