-- Exact answers that are put in their places.
use Rattle.std.proofs.Common.{◌≡◌, ℕ, ◌+◌, ◌<◌, inl, inr, List, [], ◌∷◌, ◌++◌, length, None, refl, sym, ap, ◌∙◌, subst, arith}
use Rattle.std.specs.Prelude.{All, set}
use Rattle.std.proofs.lemmas.Bool.Decides.{eqb_tells}
use Rattle.std.proofs.lemmas.List.{length-set, get_or-map, get_or-set_same, get_or-set_other}
use Rattle.std.proofs.lemmas.List.Elements.{All-head, All-tail, All-push}
use Rattle.cl_model.specs.{declared.model.SystemModel.SystemModel, ByNumber.{no_requirement, requirement_at}}
use Rattle.cl_analyse.specs.{declared.findings.{ChainAnswer.ChainAnswer, ExactAnswer.{ExactAnswer, TheVariants.ChainLate}, Verdict.TheVariants.Unshown}, ChainAnswers.{exact_answer_at, AreExactAnswers}, Verdicts.{verdict_at, verdict_of, verdicts_of}}
use Rattle.cl_incr.specs.{declared.put.FoundExact.FoundExact, Inner.News.{chain_before, put_all, IsExactOf, AreMoved, IsNoted, AreNoted}}

-- ---- in their places

pub put_count : (found : List FoundExact) (exacts : List ExactAnswer) → length (put_all found exacts) ≡ length exacts
put_count [] exacts = refl
put_count (one ∷ found) exacts = put_count found (set exacts one.chain one.exact) ∙ length-set exacts one.chain one.exact

-- one more
pub put_push : (found : List FoundExact) (one : FoundExact) (exacts : List ExactAnswer)
    → put_all (found ++ one ∷ []) exacts ≡ set (put_all found exacts) one.chain one.exact
put_push [] one exacts = refl
put_push (first ∷ found) one exacts = put_push found one (set exacts first.chain first.exact)

-- those behind all that are put stay
put_other : (chain : ℕ) (found : List FoundExact) (exacts : List ExactAnswer) → All (λ (one : FoundExact). one.chain < chain) found
    → exact_answer_at (put_all found exacts) chain ≡ exact_answer_at exacts chain
put_other chain [] exacts below = refl
put_other chain (one ∷ found) exacts below =
    let head = All-head (λ (f : FoundExact). f.chain < chain) one found below in
    put_other chain found (set exacts one.chain one.exact) (All-tail (λ (f : FoundExact). f.chain < chain) one found below)
    ∙ get_or-set_other exacts one.chain chain one.exact ChainLate (λ same. omega (arith, head, same))

-- ---- what is noted

module _ (old new : SystemModel) (exacts : List ExactAnswer) where
  module _ (n : ℕ) (known : n < length new.chains) (before : List FoundExact) (so_far : AreNoted old new exacts n before) where
    -- the places before a number, and that of the number
    each_to : (P : ℕ → Type 0) → ((k : ℕ) → k < n → P k) → P n → (k : ℕ) → k < n + 1 → P k
    each_to P below here k within = elim (eqb_tells k n) [
      | inl equal ↦ subst P (sym equal.1) here
      | inr other ↦ below k (omega (arith, within, other.1))
    ]

    kept_next : IsExactOf new n (exact_answer_at exacts (chain_before old new n)) → AreNoted old new exacts (n + 1) before
    kept_next is = record {
      below = λ k d within. omega (arith, so_far.below k d within);
      each = λ moved are. each_to (λ k. IsExactOf new k (exact_answer_at (put_all before moved) k)) (so_far.each moved are)
          (subst (IsExactOf new n) (sym (put_other n before moved so_far.below ∙ are.each n known)) is);
    }

    found_next : (answer : ExactAnswer) → IsExactOf new n answer → AreNoted old new exacts (n + 1) (before ++ (record { chain = n; exact = answer }) ∷ [])
    found_next answer is =
        let one : FoundExact = record { chain = n; exact = answer } in
        record {
          below = All-push (λ (f : FoundExact). f.chain < n + 1) before one (λ k d within. omega (arith, so_far.below k d within)) (omega arith);
          each = λ moved are.
              let put : put_all (before ++ one ∷ []) moved ≡ set (put_all before moved) n answer = put_push before one moved in
              each_to (λ k. IsExactOf new k (exact_answer_at (put_all (before ++ one ∷ []) moved) k))
              (λ k below. subst (IsExactOf new k)
              (sym (ap (λ (l : List ExactAnswer). exact_answer_at l k) put
              ∙ get_or-set_other (put_all before moved) n k answer ChainLate (λ same. omega (arith, below, same)))) (so_far.each moved are k below))
              (subst (IsExactOf new n)
              (sym (ap (λ (l : List ExactAnswer). exact_answer_at l n) put
              ∙ get_or-set_same (put_all before moved) n answer ChainLate (omega (arith, known, put_count before moved, are.count)))) is);
        }

    -- one more
    pub noted_next : (after : List FoundExact) → IsNoted old new exacts n before after → AreNoted old new exacts (n + 1) after
    noted_next after (inl kept) = subst (AreNoted old new exacts (n + 1)) (sym kept.0) (kept_next kept.1)
    noted_next after (inr found) = subst (AreNoted old new exacts (n + 1)) (sym found.1) (found_next found.0 found.2)

  -- all are put
  pub all_put : (noted : List FoundExact) (moved : List ExactAnswer) → AreNoted old new exacts (length new.chains) noted → AreMoved old new exacts moved
      → AreExactAnswers new (put_all noted moved)
  all_put noted moved all are = record {
    one_a_chain = put_count noted moved ∙ are.count;
    each = all.each moved are;
  }

-- ---- verdicts

-- the verdict on the requirement of a number is among all verdicts
pub verdict_there : (model : SystemModel) (chains : List ChainAnswer) (exacts : List ExactAnswer) (requirement : ℕ) → requirement < length model.requirements
    → verdict_at (verdicts_of model chains exacts) requirement ≡ verdict_of model chains exacts (requirement_at model requirement)
verdict_there model chains exacts requirement within =
    get_or-map (verdict_of model chains exacts) model.requirements requirement no_requirement (Unshown None) within
