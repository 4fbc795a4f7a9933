use Rattle.std.proofs.Common.{◌≡◌, rules, Some, None, string_bytes}
use Rattle.std.proofs.lemmas.Result.{IfOk-at_ok}
use Rattle.std.specs.BTreeMap.{get_by_text}
use Rattle.cl_io.specs.NameNumbers.{no_numbers}
use Rattle.cl_io.proofs.Texts.{text_changes, default_stays}
use Rattle.cl_io.proofs.name_numbers.NameNumbers.enter.Goals as goal

pub returns-in_ok-insert-clause-same : goal.returns-in_ok-insert-clause-same
returns-in_ok-insert-clause-same c =
    let old = c.args.self.now.entries in
    let new = c.insert.new.self in
    let absent : get_by_text old c.args.name.now ≡ None = search rules in
    let key_is_name = IfOk-at_ok (λ s. string_bytes s ≡ c.args.name.now) c.in_ok-key.was c.from_str.ensures.ok in
    let changes = text_changes (string_bytes c.in_ok-key.key) old new (Some no_numbers) c.in_ok-insert.ensures.updates in
    default_stays no_numbers c.args.name.now old new absent (rw key_is_name at changes)
