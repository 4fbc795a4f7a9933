-- The document that bytes write.
use Rattle.std.specs.Prelude.{◌≡◌, Option, Some, None, Result, Ok, Err, String}
use Rattle.std.specs.BTreeMap.{BTreeMap}
use Rattle.std.specs.declared.alloc.Global.{Global}
use Rattle.toml.specs.{Data.Members, View.table_view, declared.value.Value.Value}
use Rattle.cl_model.specs.{declared.{model_fault.ModelFault.{ModelFault, TheVariants.{Refused, NoMemory}}, refusal.Code.TheVariants.M1}, Place.top}

-- the table of the document, and M1 where there is no document; or want of memory
abbrev pub IsDocument : Result (BTreeMap (String Global) Value) ModelFault → Option Members → Type 0
IsDocument (Ok table) document = document ≡ Some (table_view table)
IsDocument (Err (Refused refusal)) document = (document ≡ None) × (refusal ≡ record { code = M1; place = top })
IsDocument (Err NoMemory) document = Unit {0}
