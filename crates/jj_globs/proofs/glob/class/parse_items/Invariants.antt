use Rattle.std.proofs.Common.{◌≡◌, ◌≤◌, length, map}
use Rattle.jj_globs.specs.GlobSyntax.{symbol_of, first_item, items}
use Rattle.jj_globs.proofs.glob.class.parse_items.Given as goal

abbrev pub invariant-loop-symbol : goal.invariant-loop-symbol
invariant-loop-symbol l = record {
  reads : first_item l.fn.negated (map symbol_of l.fn.text) ≡ items l.fn.negated l.ranges.items l.range (map symbol_of l.rest);
  shorter : length l.rest ≤ length l.fn.text;
}

abbrev pub decreases-loop-symbol : goal.decreases-loop-symbol
decreases-loop-symbol l = length l.rest
