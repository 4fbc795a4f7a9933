-- What is answered of a document is the reading of the bytes that write it.
use Rattle.std.proofs.Common.{◌≡◌, ℕ, List, Some, Result, Ok, Err, sym, ap, subst}
use Rattle.std.specs.Prelude.{IfOk}
use Rattle.toml.specs.Data.{Members}
use Rattle.cl_model.specs.{declared.{model.SystemModel.SystemModel, model_fault.ModelFault.{ModelFault, TheVariants.{Refused, NoMemory}}, refusal.Refusal.Refusal}, Answers.{Answers, Gives}, AreNamed.AreNamed, Ranges.IsInRange, Reading.{document_of, model_checks, model_meaning, model_in}}
use Rattle.cl_model.specs.Reading.{model_of}
use Rattle.cl_model.proofs.{FirstRefusals.gives_answer, ReadModels.{model_in_range, model_named}}
use Rattle.cl_read.specs.Inner.Documents.{IsDocument}

-- no document
pub gives_fault : (bytes : List ℕ) (fault : ModelFault) → IsDocument (Err fault) (document_of bytes) → Gives {X = SystemModel} (Err fault) (model_of bytes)
unfolding model_of
gives_fault bytes (Refused r) h = rw h.0 (ap (λ (x : Refusal). Err x) (sym h.1))
gives_fault bytes NoMemory h = tt

-- a document
pub gives_model : (bytes : List ℕ) (ms : Members) (result : Result SystemModel ModelFault) → document_of bytes ≡ Some ms
    → Answers result (model_checks ms) (model_meaning ms) → Gives result (model_of bytes)
unfolding model_of
gives_model bytes ms result found h = rw (ap model_in found) (gives_answer result (model_checks ms) (model_meaning ms) h)

-- a model that is given is in range, and its names are names
pub gives_in_range : (ms : Members) (result : Result SystemModel ModelFault) → Answers result (model_checks ms) (model_meaning ms) → IfOk result IsInRange
gives_in_range ms (Ok model) h = subst IsInRange (sym h.1) (model_in_range ms h.0)
gives_in_range ms (Err fault) h = tt

pub gives_named : (ms : Members) (result : Result SystemModel ModelFault) → Answers result (model_checks ms) (model_meaning ms) → IfOk result AreNamed
gives_named ms (Ok model) h = subst AreNamed (sym h.1) (model_named ms h.0)
gives_named ms (Err fault) h = tt
