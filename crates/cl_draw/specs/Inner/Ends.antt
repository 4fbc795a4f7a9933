-- Where a part of a span ends.
use Rattle.std.specs.Prelude.{ℕ, ◌+◌, ◌-◌, ◌&&◌, nat_lt, if◌then◌else◌}

-- where what is left of a runnable ends in a span
abbrev pub left_end : (left from end : ℕ) → ℕ
left_end left from end = if nat_lt left (end - from) then from + left else end

-- and where it is cut by a deadline
abbrev pub part_end : (due left from end : ℕ) → ℕ
part_end due left from end =
    if nat_lt from due && nat_lt due (left_end left from end) then due else left_end left from end
