use Rattle.std.proofs.Common.{◌≡◌, ◌∙◌, ap, Some, ℕ, Vec, Option, string_bytes}
use Rattle.std.proofs.lemmas.Result.{IfOk-at_ok}
use Rattle.std.specs.Option.{option_map}
use Rattle.std.specs.declared.alloc.Global.{Global}
use Rattle.cl_io.proofs.Texts.{text_changes}
use Rattle.cl_io.proofs.files.Files.put.Goals as goal

pub returns-clause-ok : goal.returns-clause-ok
returns-clause-ok c =
    let key_is_name = IfOk-at_ok (λ s. string_bytes s ≡ c.args.name.now) c.in_ok-key.was c.from_str.ensures.ok in
    let bytes_are_content = IfOk-at_ok (λ v. v.items ≡ c.args.content.now) c.in_ok-bytes.was c.from_slice.ensures.items in
    let changes = rw key_is_name at (text_changes (string_bytes c.in_ok-key.key) c.args.self.now.entries c.insert.new.self (Some c.in_ok-bytes.bytes) c.in_ok-insert.ensures.updates) in
    let items = λ (found : Option (Vec ℕ Global)). option_map (λ v. v.items) found in
    record {
      here = ap items changes.here ∙ ap Some bytes_are_content;
      others = λ other differs. ap items (changes.others other differs);
    }
