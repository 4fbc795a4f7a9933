use Rattle.std.proofs.Common.{rules, ap, Some, unwrap_or}
use Rattle.cl_io.specs.NameNumbers.{no_numbers}
use Rattle.cl_io.proofs.Texts.{text_changes}
use Rattle.cl_io.proofs.name_numbers.NameNumbers.set.Goals as goal

pub returns-in-Some : goal.returns-in-Some
returns-in-Some c =
    let changes = text_changes c.args.name.now c.args.self.now.entries (c.get_mut.follows.lender c.args.numbers) (Some c.args.numbers) ((c.get_mut.follows.holds c.args.numbers).3 (search rules)) in
    record {
      here = ap (λ found. unwrap_or found no_numbers) changes.here;
      others = λ other differs. ap (λ found. unwrap_or found no_numbers) (changes.others other differs);
    }
