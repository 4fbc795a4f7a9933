use Rattle.std.proofs.Common.{◌≡◌, ℕ, List, ◌++◌, sym, ap, ◌∙◌, subst}
use Rattle.std.specs.Prelude.{decimal}
use Rattle.std.proofs.lemmas.List.{append_assoc}
use Rattle.cl_model.specs.Name.{IsName}
use Rattle.cl_gen.proofs.GeneratedNames.{spelled_name}
use Rattle.cl_gen.proofs.names.spelled.Goals as goal

pub unwrap-requires : goal.unwrap-requires
unwrap-requires c =
    let letter = c.args.letter.now in
    let rest = c.args.rest.now in
    let digits = decimal c.args.number in
    let is : c.as_bytes.result.now ≡ letter ++ (digits ++ rest)
    = c.as_bytes.ensures.value
    ∙ c.as_str.ensures.value
    ∙ c.push_str-3.ensures.bytes
    ∙ ap (λ (text : List ℕ). text ++ rest)
    (c.push_str-2.ensures.bytes
    ∙ ap (λ (text : List ℕ). text ++ c.format.result.now) (c.push_str.ensures.bytes ∙ ap (λ (text : List ℕ). text ++ letter) c.new-text.ensures)
    ∙ ap (λ (text : List ℕ). letter ++ text) c.format.ensures.text)
    ∙ append_assoc letter digits rest in
    c.read.ensures.grammar.1
    (subst (λ (word : List ℕ). IsName word) (sym is) (spelled_name letter rest c.args.number c.requires.letter c.requires.rest c.requires.short c.ranges.number.fits))
