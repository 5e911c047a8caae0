use Rattle.std.proofs.Common.{rules}
use Rattle.std.proofs.lemmas.List.Sorted.{IsPartitionPoint-from_clause}
use Rattle.jj_matchers.proofs.PatternOrder.{is_up_to}
use Rattle.jj_matchers.proofs.LinkedPatterns.{partitioned, cut_at}
use Rattle.jj_matchers.proofs.matchers.pattern_order.at_most.Goals as goal

pub returns : goal.returns
returns c =
    let bytes = c.args.bytes.now in
    let patterns = c.args.patterns.now in
    let point = IsPartitionPoint-from_clause (λ linked. is_up_to bytes linked.pattern) patterns c.partition_point-end.result c.partition_point-end.ensures.partitioned (partitioned bytes patterns c.requires.order)
    (λ a r f called. (search rules, search rules)) in
    cut_at bytes patterns c.partition_point-end.result point
