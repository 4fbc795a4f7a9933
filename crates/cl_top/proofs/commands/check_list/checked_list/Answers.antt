use Rattle.std.proofs.Common.{Bool, length, sym, subst}
use Rattle.std.proofs.lemmas.Bool.{lt-ltb}
use Rattle.std.specs.Prelude.{IfOk}
use Rattle.cl_engine.specs.declared.files.TheConstants.{FILE_LIMIT}
use Rattle.cl_top.specs.Commands.CheckFile.{IsOfLimitedList}
use Rattle.cl_top.proofs.commands.check_list.checked_list.Goals as goal

pub returns-then-text-gt-FILE_LIMIT : goal.returns-then-text-gt-FILE_LIMIT
returns-then-text-gt-FILE_LIMIT c =
    subst (λ (is_long : Bool). IfOk c.long_file.result (IsOfLimitedList is_long c.args.version c.args.model c.args.text.now))
    (sym (lt-ltb FILE_LIMIT (length c.args.text.now) c.if-text-gt-FILE_LIMIT.true)) c.long_file.ensures
