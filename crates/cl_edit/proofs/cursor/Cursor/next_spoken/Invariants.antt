use Rattle.std.proofs.Common.{◌≡◌, length}
use Rattle.cl_edit.specs.{declared.version.Version.TheVariants.Two, Inner.Left.{lines_left, said_in, HasNumbers}}
use Rattle.cl_edit.proofs.cursor.Cursor.next_spoken.Given as goal

-- the lines so far say nothing
abbrev pub invariant-loop-number : goal.invariant-loop-number
invariant-loop-number l = record {
  said : said_in Two l.fn.self ≡ said_in Two l.self;
  version : l.self.version ≡ l.fn.self.version;
  numbers : HasNumbers l.self;
}

abbrev pub decreases-loop-number : goal.decreases-loop-number
decreases-loop-number l = length (lines_left l.self.left)
