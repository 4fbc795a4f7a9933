use Rattle.std.proofs.Common.{◌≡◌, ◌≤◌, length, map}
use Rattle.toml.specs.View.{table_view, members_view}
use Rattle.cl_model.specs.Reading.Checks.{value_at, has_only}
use Rattle.cl_read.specs.Inner.Fields.{data_of}
use Rattle.cl_read.proofs.FoundValues.{with_rest}
use Rattle.cl_read.proofs.keys.find.Given as goal

-- the values so far and those that are left make the values of the table
abbrev pub invariant-loop-word : goal.invariant-loop-word
invariant-loop-word l = record {
  few : length l.keys ≤ length l.values;
  only : has_only l.keys (members_view l.word-iterator) ≡ has_only l.keys (table_view l.table);
  values : with_rest l.keys (members_view l.word-iterator) (map data_of l.values) ≡ map (λ key. value_at key (table_view l.table)) l.keys;
}
