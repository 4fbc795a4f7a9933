use Rattle.cl_gen.specs.Words.{word_of}
use Rattle.cl_gen.proofs.{GeneratedRanges.are_named, ValidGenerated.words_valid}
use Rattle.cl_gen.proofs.laws.generated_models_are_valid.Goals as goal

pub returns : goal.returns
returns c = record { valid = λ seed. words_valid (word_of seed); named = λ seed. are_named (word_of seed) }
