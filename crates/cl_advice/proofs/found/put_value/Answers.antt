use Rattle.std.proofs.Common.{◌≡◌, length, arith}
use Rattle.toml.proofs.Views.{view-Array}
use Rattle.cl_advice.proofs.Documents.{count_items}
use Rattle.cl_advice.proofs.found.put_value.Goals as goal

pub returns-in-Array : goal.returns-in-Array
returns-in-Array c =
    let many : length c.in-Array.values.items ≡ c.len.result = omega (arith, c.len.ensures) in
    rw (c.in-Array.is, view-Array c.in-Array.values, count_items c.in-Array.values.items, many) c.put_array.ensures
