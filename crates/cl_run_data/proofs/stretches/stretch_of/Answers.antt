use Rattle.std.proofs.Common.{leb, leb-true, arith, rules, None}
use Rattle.std.proofs.lemmas.Bool.{leb-false}
use Rattle.std.proofs.lemmas.List.Sorted.{IsPartitionPoint-from_clause, IsPartitionedBy-leb}
use Rattle.cl_run_data.specs.declared.stretches.Stretch.{Stretch}
use Rattle.cl_run_data.proofs.StretchFacts.{ends_in_order, within_some}
use Rattle.cl_run_data.proofs.stretches.stretch_of.Goals as goal

pub returns : goal.returns
returns c =
    let d : Stretch = record { who = None; end = 0 } in
    let parted = IsPartitionedBy-leb (λ (s : Stretch). s.end) _ c.args.tick (ends_in_order c.args.stretches.now c.requires.longest) in
    let point = IsPartitionPoint-from_clause (λ (s : Stretch). leb s.end c.args.tick) _ _ c.partition_point.ensures.partitioned parted (λ a r q k. search rules) in
    let before = λ (i : _) (e : Stretch) (below : _). leb-true _ _ (point.0 i e (omega arith) below) in
    let within = within_some c.args.stretches.now c.args.tick c.partition_point.result d c.requires.within c.partition_point.ensures.bound before in
    record { within = within; ends_after = λ e. leb-false _ _ (point.1 c.partition_point.result e (omega arith) within); first = before }
