use Rattle.std.proofs.Common.{◌≡◌, ℕ, List, [], ◌∷◌, ◌||◌, Bool, map, refl, ap, ◌∙◌, rules, tests}
use Rattle.std.specs.List.{list_any}
use Rattle.std.proofs.lemmas.Iterator.{YieldsList-from_slice}
use Rattle.std.proofs.lemmas.Iterator.Search.{any_from_yields_List}
use Rattle.cl_model.specs.Named.{same_name}
use Rattle.cl_lists.proofs.unknown.is_there.Goals as goal

any_named : {A : Type 0} (name_of : A → List ℕ) (test : List ℕ → Bool) (entries : List A) → list_any (λ entry. test (name_of entry)) entries ≡ list_any test (map name_of entries)
any_named name_of test [] = refl
any_named name_of test (entry ∷ entries) = ap (λ (rest : Bool). test (name_of entry) || rest) (any_named name_of test entries)

pub returns : goal.returns
returns g c =
    let name_of = g.T.Named.name_of in
    let name = c.args.name.now in
    any_from_yields_List (λ entry. same_name name (name_of entry)) _ _ _ c.any.ensures.ran (YieldsList-from_slice c.args.entries.now cc) (λ x b q k. search (rules, tests))
    ∙ any_named name_of (same_name name) c.args.entries.now
