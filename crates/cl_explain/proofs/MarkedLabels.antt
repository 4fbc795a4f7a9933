-- Names that runnables read and write, as marks.
use Rattle.std.proofs.Common.{◌≡◌, ℕ, ◌+◌, ◌<◌, Bool, true, false, cond, ◌||◌, List, [], ◌∷◌, ◌++◌, length, get_or, take, refl, sym, ap, ◌∙◌}
use Rattle.std.specs.Prelude.{Result, Ok, Err, OnOk}
use Rattle.std.specs.Cmp.Lexicographic.{bytes_decides}
use Rattle.std.specs.List.{list_any}
use Rattle.std.proofs.lemmas.List.{take_more}
use Rattle.std.proofs.lemmas.List.Folds.{list_any-append}
use Rattle.cl_time.specs.declared.no_memory.NoMemory.{NoMemory}
use Rattle.cl_model.specs.{declared.task.RunnableDef.RunnableDef, Named.{same_name, has_name}, NameSets.names_with}
use Rattle.cl_explain.specs.{declared.labels.Marks.Marks, Inner.Marks.{AreMarksOf, MarksMore}}

-- what follows where all is well
pub still_ok : (result : Result (Unit {0}) NoMemory) (P Q : Type 0) → (P → Q) → OnOk result P → OnOk result Q
still_ok (Ok u) P Q follows holds = follows holds
still_ok (Err e) P Q follows holds = _

or_false : (b : Bool) → (b || false) ≡ b
or_false true = refl
or_false false = refl

or_assoc : (a b c : Bool) → ((a || b) || c) ≡ (a || (b || c))
or_assoc true b c = refl
or_assoc false b c = refl

-- a list with one more name
has_one_more : (name one : List ℕ) (names : List (List ℕ)) → has_name name (names ++ one ∷ []) ≡ (has_name name names || same_name name one)
has_one_more name one names = list_any-append (same_name name) names (one ∷ []) ∙ ap (λ b. has_name name names || b) (or_false (same_name name one))

absorbs : (there same : Bool) → (same ≡ true → there ≡ true) → there ≡ (there || same)
absorbs true same holds = refl
absorbs false true holds = holds refl
absorbs false false holds = refl

-- a name that is added is there, with those that were
added : (name one : List ℕ) (names : List (List ℕ)) → has_name name (names_with one names) ≡ (has_name name names || same_name name one)
added name one names =
    elim (has_name one names) as (λ b. has_name one names ≡ b → has_name name (cond b names (names ++ one ∷ [])) ≡ (has_name name names || same_name name one)) [
      | true ↦ λ known. absorbs (has_name name names) (same_name name one)
          (λ same. ap (λ n. has_name n names) ((bytes_decides name one).0 same) ∙ known)
      | false ↦ λ new. has_one_more name one names
    ] refl

-- the names of a list, one by one
pub more_names : (name : List ℕ) (old set new names : List (List ℕ)) (i : ℕ) → i < length names
    → has_name name set ≡ (has_name name old || has_name name (take i names)) → new ≡ names_with (get_or names i []) set
    → has_name name new ≡ (has_name name old || has_name name (take (i + 1) names))
more_names name old set new names i within before is =
    let one = get_or names i [] in
    ap (has_name name) is ∙ added name one set ∙ ap (λ b. b || same_name name one) before
    ∙ or_assoc (has_name name old) (has_name name (take i names)) (same_name name one)
    ∙ ap (λ b. has_name name old || b) (sym (has_one_more name one (take i names)) ∙ ap (has_name name) (sym (take_more names i [] within)))

-- ---- runnables

any_more : (p : RunnableDef → Bool) (before : List RunnableDef) (one : RunnableDef) → list_any p (before ++ one ∷ []) ≡ (list_any p before || p one)
any_more p before one = list_any-append p before (one ∷ []) ∙ ap (λ b. list_any p before || b) (or_false (p one))

-- the marks of one more runnable
pub marks_more : (before : List RunnableDef) (one : RunnableDef) (old new : Marks) → AreMarksOf before old → MarksMore old new one → AreMarksOf (before ++ one ∷ []) new
marks_more before one old new are more = record {
  reads = λ name. more.reads name ∙ ap (λ b. b || has_name name one.reads) (are.reads name)
      ∙ sym (any_more (λ (runnable : RunnableDef). has_name name runnable.reads) before one);
  writes = λ name. more.writes name ∙ ap (λ b. b || has_name name one.writes) (are.writes name)
      ∙ sym (any_more (λ (runnable : RunnableDef). has_name name runnable.writes) before one);
}
