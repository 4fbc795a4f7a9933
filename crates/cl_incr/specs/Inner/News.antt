-- What is found anew of a model that follows another.
use Rattle.std.specs.Prelude.{◌≡◌, ℕ, ◌<◌, ◌⊎◌, ◌==◌, List, [], ◌∷◌, ◌++◌, length, slice_set, unwrap_or, if◌then◌else◌, All}
use Rattle.cl_model.specs.{declared.model.SystemModel.SystemModel, ByNumber.{chain_at, chain_named}}
use Rattle.cl_runs.specs.SystemOf.{system_of}
use Rattle.cl_hop.specs.Bounds.{Lengths}
use Rattle.cl_bound.specs.Answers.{answers_of}
use Rattle.cl_analyse.specs.{declared.findings.{ChainAnswer.{ChainAnswer, TheVariants.Bounds}, ExactAnswer.ExactAnswer, Findings.Findings}, ChainAnswers.{chain_answer_of, chain_answers_of, exact_answer_at, IsExactAnswer}}
use Rattle.cl_incr.specs.declared.{put.FoundExact.FoundExact, anew.News.News}

-- ---- where exact answers stand

-- the number under which a chain of the new model is looked for in the old one: its own where there are as many chains
-- as before, and else that of the chain of its name
abbrev pub chain_before : (old new : SystemModel) → (chain : ℕ) → ℕ
chain_before old new chain =
    if length old.chains == length new.chains then chain else unwrap_or (chain_named old (chain_at new chain).name) chain

-- the exact answers of the old model under the numbers that the chains have in the new one
pub record AreMoved (old new : SystemModel) (exacts moved : List ExactAnswer) : Type 0 where
  pub count : length moved ≡ length new.chains
  pub each : (chain : ℕ) → chain < length new.chains → exact_answer_at moved chain ≡ exact_answer_at exacts (chain_before old new chain)

-- exact answers with some put in their places
abbrev pub put_all : List FoundExact → List ExactAnswer → List ExactAnswer
put_all [] exacts = exacts
put_all (one ∷ found) exacts = put_all found (slice_set exacts one.chain one.exact)

-- ---- what is noted

-- an exact answer is that for a chain of a model
abbrev pub IsExactOf : SystemModel → (chain : ℕ) → ExactAnswer → Type 0
IsExactOf model chain answer = IsExactAnswer model chain (chain_answer_of model (chain_at model chain)) answer

-- the exact answer for a chain is the one before, or one is noted behind the others
abbrev pub IsNoted : (old new : SystemModel) → (exacts : List ExactAnswer) → (chain : ℕ) → (before after : List FoundExact) → Type 0
IsNoted old new exacts chain before after =
    ((after ≡ before) × IsExactOf new chain (exact_answer_at exacts (chain_before old new chain)))
    ⊎ ((answer : ExactAnswer) × (after ≡ before ++ (record { chain = chain; exact = answer }) ∷ []) × IsExactOf new chain answer)

-- with those that are noted in their places, the first exact answers are those of the new model
pub record AreNoted (old new : SystemModel) (exacts : List ExactAnswer) (count : ℕ) (noted : List FoundExact) : Type 0 where
  pub below : All (λ (one : FoundExact). one.chain < count) noted
  pub each : (moved : List ExactAnswer) → AreMoved old new exacts moved → (chain : ℕ) → chain < count
      → IsExactOf new chain (exact_answer_at (put_all noted moved) chain)

-- ---- all

-- with the news in their places, the findings of the old model are those of the new one
pub record AreNewsOf (old : SystemModel) (findings : Findings) (new : SystemModel) (news : News) : Type 0 where
  pub tasks : news.tasks ≡ answers_of (system_of new)
  pub chains : news.chains.bounds ≡ chain_answers_of new
  pub noted : AreNoted old new findings.exacts (length new.chains) news.chains.noted.items
  pub moved : AreMoved old new findings.exacts (unwrap_or news.moved findings.exacts)
  pub verdicts : length news.verdicts ≡ length new.requirements

-- a chain has bounds
abbrev pub HasBounds : ChainAnswer → Type 0
HasBounds answer = (bounds : Lengths) × (answer ≡ Bounds bounds)
