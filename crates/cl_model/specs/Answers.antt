-- What is answered of a model, in three cases: it is accepted with a value, it is refused, or memory was wanting.
use Rattle.std.specs.Prelude.{◌≡◌, List, [], Some, Result, Ok, Err}
use Rattle.cl_model.specs.{declared.{model_fault.ModelFault.{ModelFault, TheVariants.{Refused, NoMemory}}, refusal.Refusal.Refusal}, Refusals.first}

-- of a fault: `refused` holds of its refusal, and want of memory says nothing of the model
abbrev pub MatchFault : ModelFault → (refused : Refusal → Type 0) → Type 0
MatchFault (Refused refusal) refused = refused refusal
MatchFault NoMemory refused = Unit {0}

-- of an answer: `accepted` holds of its value, `refused` of its refusal, and want of memory says nothing of the model
abbrev pub MatchAnswer : {X : Type 0} → Result X ModelFault → (accepted : X → Type 0) → (refused : Refusal → Type 0) → Type 0
MatchAnswer (Ok value) accepted refused = accepted value
MatchAnswer (Err fault) accepted refused = MatchFault fault refused

-- ---- by what the definitions answer

-- accepted with the very value, or refused with the very refusal
abbrev pub Gives : {X : Type 0} → Result X ModelFault → Result X Refusal → Type 0
Gives result answer = MatchAnswer result (λ value. answer ≡ Ok value) (λ refusal. answer ≡ Err refusal)

-- ---- by a list of checks

-- refused with the first of the refusals
abbrev pub IsFaultOf : List Refusal → ModelFault → Type 0
IsFaultOf refusals fault = MatchFault fault (λ refusal. first refusals ≡ Some refusal)

-- accepted where nothing is refused, and else refused with the first of the refusals
abbrev pub Passes : {X : Type 0} → Result X ModelFault → List Refusal → Type 0
Passes result refusals = MatchAnswer result (λ value. refusals ≡ []) (λ refusal. first refusals ≡ Some refusal)

-- the same, and what is accepted has this value
abbrev pub Answers : {X : Type 0} → Result X ModelFault → List Refusal → X → Type 0
Answers result refusals meaning = MatchAnswer result (λ value. (refusals ≡ []) × (value ≡ meaning)) (λ refusal. first refusals ≡ Some refusal)
