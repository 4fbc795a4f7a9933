use Rattle.std.proofs.Common.{◌≡◌, ◌+◌, ◌-◌, ◌≤◌, ◌++◌, length, codes}
use Rattle.std.specs.List.{flat_map, range_with_len}
use Rattle.cl_model.specs.Groups.{groups_at}
use Rattle.cl_why.specs.{Hops.{timing_at_place, missed_arrival}, Walks.job_line}
use Rattle.cl_why.proofs.walks.put_missed.Given as goal

abbrev pub invariant-loop-place : goal.invariant-loop-place
invariant-loop-place l = record {
  reached : l.place ≤ l.from + (length (groups_at l.model l.chain) - l.from);
  text : l.text ≡ l.initial.text
      ++ flat_map (λ place. job_line (codes "missed ") (codes " read ") l.model l.chain place (missed_arrival l.walk place) (timing_at_place l.model l.chain place).read)
      (range_with_len l.from (l.place - l.from));
}
