-- The lines of the parts of a task, one after the other.
use Rattle.std.proofs.Common.{◌≡◌, ℕ, List, ◌++◌, ap, ◌∙◌}
use Rattle.std.proofs.lemmas.List.{append_assoc}
use Rattle.cl_model.specs.declared.model.SystemModel.{SystemModel}
use Rattle.cl_runs.specs.{TaskTiming.timing_at, SystemOf.system_of}
use Rattle.cl_resp.specs.{declared.question.Question.Question, Question.question_of}
use Rattle.cl_bound.specs.declared.answer.TaskAnswer.{TaskAnswer}
use Rattle.cl_explain.specs.Parts.{window_counted, jitter_part, block_part, own_part, above_parts, over_part, part_lines}

five_pieces : (a b c d e t0 t1 t2 t3 t4 t5 : List ℕ) → t1 ≡ t0 ++ a → t2 ≡ t1 ++ b → t3 ≡ t2 ++ c → t4 ≡ t3 ++ d → t5 ≡ t4 ++ e → t5 ≡ t0 ++ (a ++ b ++ c ++ d ++ e)
five_pieces a b c d e t0 t1 t2 t3 t4 t5 h1 h2 h3 h4 h5 = rw (h5, h4, h3, h2, h1) (simp append_assoc)

abbrev parts_with : SystemModel → (task : ℕ) → Question → (width : ℕ) → TaskAnswer → List ℕ
parts_with model task question width answer =
    jitter_part model task question.jitter ++ block_part model task question.block ++ own_part model task question.time
    ++ above_parts model task width ++ over_part model task question answer

pub parts_are : (model : SystemModel) (task : ℕ) (question : Question) (width : ℕ) (answer : TaskAnswer)
    → question ≡ question_of (system_of model) (timing_at (system_of model) task) → width ≡ window_counted question answer
    → (t0 t1 t2 t3 t4 t5 : List ℕ) → t1 ≡ t0 ++ jitter_part model task question.jitter → t2 ≡ t1 ++ block_part model task question.block
    → t3 ≡ t2 ++ own_part model task question.time → t4 ≡ t3 ++ above_parts model task width → t5 ≡ t4 ++ over_part model task question answer
    → t5 ≡ t0 ++ part_lines model task answer
unfolding part_lines
parts_are model task question width answer asked windowed t0 t1 t2 t3 t4 t5 h1 h2 h3 h4 h5 =
    five_pieces _ _ _ _ _ t0 t1 t2 t3 t4 t5 h1 h2 h3 h4 h5
    ∙ ap (λ n. t0 ++ parts_with model task question n answer) windowed
    ∙ ap (λ (q : Question). t0 ++ parts_with model task q (window_counted q answer) answer) asked
