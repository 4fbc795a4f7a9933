-- The first refusal of lists one after another, and of a list item by item.
use Rattle.std.proofs.Common.{◌≡◌, ℕ, suc, ◌+◌, ◌<◌, ◌≤◌, List, [], ◌∷◌, ◌++◌, length, get_or, drop, Some, Result, Ok, Err, refl, sym, ap, ◌∙◌, arith, drop-cons}
use Rattle.std.proofs.lemmas.Grind.{common_steps}
use Rattle.std.proofs.lemmas.List.{drop_all}
use Rattle.cl_model.specs.{declared.{model_fault.ModelFault.{ModelFault, TheVariants.{Refused, NoMemory}}, refusal.Refusal.Refusal}, Answers.{IsFaultOf, Answers, Gives}, Refusals.{each_from, each, first, answer}}
use Rattle.cl_model.proofs.Refused.{first_with_more}

-- the fault of a list is one of any list that begins with it
pub fault_of_front : (a b : List Refusal) (e : ModelFault) → IsFaultOf a e → IsFaultOf (a ++ b) e
fault_of_front a b (Refused r) h = first_with_more a b r h
fault_of_front a b NoMemory h = tt

-- and of any list that it ends, where nothing is refused before
pub fault_of_back : (a b : List Refusal) (e : ModelFault) → a ≡ [] → IsFaultOf b e → IsFaultOf (a ++ b) e
fault_of_back a b e none h = rw none h

-- nothing is refused of two lists one after another
pub none_of_both : (a b : List Refusal) → a ≡ [] → b ≡ [] → a ++ b ≡ []
none_of_both a b none also = rw none also

-- what the exit of a check by `?` wants, and in a loop over what is checked
pub ruleset faults = (fault_of_front, fault_of_back)

pub ruleset loop_faults = (fault_of_front, fault_of_back, common_steps)

-- ---- the checks of what is left of a list

module _ {X : Type 0} (check : ℕ → X → List Refusal) (items : List X) (i : ℕ) where
  -- past the last item nothing is left
  pub all_checked : each check items ≡ each_from i check (drop i items) → length items ≤ i → each check items ≡ []
  all_checked so_far past = so_far ∙ ap (each_from i check) (drop_all i items past)

  module _ (x : X) (within : i < length items) (is : x ≡ get_or items i x) where
    next : each_from i check (drop i items) ≡ check i x ++ each_from (i + 1) check (drop (i + 1) items)
    next =
        let more : suc i ≡ i + 1 = omega arith in
        ap (each_from i check) (drop-cons items i x within) ∙ ap (λ y. check i y ++ each_from (i + 1) check (drop (suc i) items)) (sym is)
        ∙ ap (λ k. check i x ++ each_from (i + 1) check (drop k items)) more

    -- the next item, where nothing is refused of it
    pub next_passes : each check items ≡ each_from i check (drop i items) → check i x ≡ [] → each check items ≡ each_from (i + 1) check (drop (i + 1) items)
    next_passes so_far none = so_far ∙ next ∙ ap (λ c. c ++ each_from (i + 1) check (drop (i + 1) items)) none

    -- and where something is
    pub next_refused : (e : ModelFault) → each check items ≡ each_from i check (drop i items) → IsFaultOf (check i x) e → IsFaultOf (each check items) e
    next_refused e so_far h = rw (so_far ∙ next) (fault_of_front (check i x) (each_from (i + 1) check (drop (i + 1) items)) e h)

-- ---- answers

answer_of_none : {X : Type 0} (refusals : List Refusal) (meaning : X) → refusals ≡ [] → answer refusals meaning ≡ Ok meaning
answer_of_none refusals meaning none = rw none refl

answer_of_first : {X : Type 0} (refusals : List Refusal) (meaning : X) (r : Refusal) → first refusals ≡ Some r → answer refusals meaning ≡ Err r
answer_of_first [] meaning r h = cc
answer_of_first (x ∷ refusals) meaning r h = cc

-- what is answered of a list is answered of any list that it ends, where nothing is refused before
pub answers_behind : {X : Type 0} (result : Result X ModelFault) (a b : List Refusal) (meaning : X) → a ≡ [] → Answers result b meaning → Answers result (a ++ b) meaning
answers_behind result a b meaning none h = rw none h

-- what is answered is the meaning or the first refusal
pub gives_answer : {X : Type 0} (result : Result X ModelFault) (refusals : List Refusal) (meaning : X) → Answers result refusals meaning → Gives result (answer refusals meaning)
gives_answer (Ok value) refusals meaning h = answer_of_none refusals meaning h.0 ∙ ap (λ x. Ok x) (sym h.1)
gives_answer (Err (Refused r)) refusals meaning h = answer_of_first refusals meaning r h
gives_answer (Err NoMemory) refusals meaning h = tt
