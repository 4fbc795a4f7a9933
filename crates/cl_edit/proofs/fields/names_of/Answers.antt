use Rattle.std.proofs.Common.{◌≡◌, true, [], ◌∷◌, ◌++◌, length-append, append_assoc, ap, sym, subst, ◌∙◌, arith}
use Rattle.cl_model.specs.Name.{is_name}
use Rattle.cl_edit.proofs.FieldFacts.{name_said, names_more}
use Rattle.cl_edit.proofs.fields.names_of.Goals as goal

pub loop-part-preserved : goal.loop-part-preserved
loop-part-preserved c =
    let names = c.loop-part.names in
    let name = c.in_ok-name_of.field-0 in
    let said = name_said c.in-Some.part.now name c.in_ok-name_of.ensures in
    rw c.in_ok-push.ensures.ok (record {
      some = c.loop-part.invariant.some;
      parts_are = c.loop-part.invariant.parts_are ∙ ap (λ parts. names ++ parts) c.in-Some.ensures.some
          ∙ ap (λ n. names ++ n ∷ c.next.new.self) said.1 ∙ sym (append_assoc names (name ∷ []) c.next.new.self);
      names = names_more names name c.loop-part.invariant.names (subst (λ n. is_name n ≡ true) said.1 said.0);
      few = omega (arith, length-append names (name ∷ []));
    })
