use Rattle.std.proofs.Common.{Ok, Err, Result, ◌≡◌, sym, subst}
use Rattle.std.specs.Prelude.{IfOk}
use Rattle.cl_model.specs.{declared.model.SystemModel.SystemModel, AreNamed.AreNamed, Validity.IsValid}
use Rattle.cl_time.specs.declared.no_memory.NoMemory.{NoMemory}
use Rattle.cl_gen.specs.{Words.word_of, Generated.generated}
use Rattle.cl_gen.proofs.{GeneratedRanges.are_named, ValidGenerated.words_valid}
use Rattle.cl_gen.proofs.generating.generate.Goals as goal

valid_if : (result : Result SystemModel NoMemory) (model : SystemModel) → IfOk result (λ m. m ≡ model) → IsValid model → IfOk result IsValid
valid_if (Ok m) model is valid = subst IsValid (sym is) valid
valid_if (Err e) model is valid = _

named_if : (result : Result SystemModel NoMemory) (model : SystemModel) → IfOk result (λ m. m ≡ model) → AreNamed model → IfOk result AreNamed
named_if (Ok m) model is named = subst AreNamed (sym is) named
named_if (Err e) model is named = _

pub returns-clause-valid : goal.returns-clause-valid
returns-clause-valid c = valid_if c.generated_model.result (generated c.args.seed c.args.tasks) c.generated_model.ensures
    (words_valid (word_of c.args.seed) c.args.tasks c.requires.few)

pub returns-clause-named : goal.returns-clause-named
returns-clause-named c = named_if c.generated_model.result (generated c.args.seed c.args.tasks) c.generated_model.ensures
    (are_named (word_of c.args.seed) c.args.tasks c.requires.few)
