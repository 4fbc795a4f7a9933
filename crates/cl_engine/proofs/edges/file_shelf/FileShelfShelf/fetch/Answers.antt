use Rattle.std.proofs.Common.{subst}
use Rattle.cl_io.specs.{declared.name_numbers.Numbers.Numbers, NameNumbers.numbers_of, Shelf.{Untold, MayAnswer}}
use Rattle.cl_engine.proofs.edges.file_shelf.FileShelfShelf.fetch.Goals as goal

-- the entering of the name changed no number
pub returns-clause-answer : goal.returns-clause-answer
returns-clause-answer g c =
    let name = c.args.name.now in
    subst (λ (before : Numbers). MayAnswer Untold c.args.limit before (numbers_of c.note.new.numbers name) c.fetched-answer.result) (c.enter.ensures.same name) (c.note.ensures.noted c.args.limit c.fetched-answer.ensures)
