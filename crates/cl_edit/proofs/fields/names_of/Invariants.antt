use Rattle.std.proofs.Common.{◌≡◌, ◌≤◌, ◌++◌, true, false, length}
use Rattle.std.specs.Prelude.{codes}
use Rattle.std.specs.Str.{bytes_eq}
use Rattle.std.specs.List.{list_all}
use Rattle.cl_model.specs.Name.{is_name}
use Rattle.cl_edit.specs.Inner.Parts.{parts}
use Rattle.cl_edit.proofs.fields.names_of.Given as goal

-- the parts so far are names, and few enough
abbrev pub invariant-loop-part : goal.invariant-loop-part
invariant-loop-part l = record {
  some : bytes_eq l.fn.word (codes "*") ≡ false;
  parts_are : parts 0x2C l.fn.word ≡ l.names ++ l.parts;
  names : list_all is_name l.names ≡ true;
  few : length l.names ≤ l.most;
}

abbrev pub decreases-loop-part : goal.decreases-loop-part
decreases-loop-part l = length l.parts
