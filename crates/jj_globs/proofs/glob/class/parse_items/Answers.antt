use Rattle.std.proofs.Common.{◌∙◌, arith, map, [], ◌∷◌, ap, sym, append_assoc}
use Rattle.std.proofs.lemmas.Result.{err_from_is_err_and}
use Rattle.jj_globs.specs.GlobSyntax.{symbol_of, single, first_item, items}
use Rattle.jj_globs.specs.declared.glob.symbol.Symbol.TheVariants.{Dash}
use Rattle.jj_globs.proofs.SymbolLists.{length-next}
use Rattle.jj_globs.proofs.ClassParsing.{items-other, items-range, items-ended, items-dash_ended, items-closed, items-dash_closed, first_item-none, first_item-next}
use Rattle.jj_globs.proofs.glob.class.parse_items.Goals as goal

pub returns-in_default-clause-parsed : goal.returns-in_default-clause-parsed
returns-in_default-clause-parsed c = rw c.in_default.ensures (first_item-none c.args.negated)

pub loop-symbol-init : goal.loop-symbol-init
loop-symbol-init c = record {
  reads =
      rw (c.in-Some.ensures, c.new-ranges.ensures.items, c.one-range.ensures, c.byte.ensures) (first_item-next c.args.negated c.in-Some.first (map symbol_of c.in-Some.rest.now));
  shorter = omega (arith, length-next c.args.text.now c.in-Some.rest.now c.in-Some.first c.in-Some.ensures);
}

pub returns-in-CloseBracket-clause-parsed : goal.returns-in-CloseBracket-clause-parsed
returns-in-CloseBracket-clause-parsed c =
    rw (c.new.ensures, c.in_ok-push-in-CloseBracket.ensures.items, c.loop-symbol.invariant.reads, c.in-Some-next_symbol.ensures, c.in-CloseBracket.is)
    (items-closed c.args.negated c.loop-symbol.ranges.items c.loop-symbol.range (map symbol_of c.in-Some-next_symbol.after.now))

pub returns-in_default-next_symbol-2-clause-parsed : goal.returns-in_default-next_symbol-2-clause-parsed
returns-in_default-next_symbol-2-clause-parsed c =
    rw (c.loop-symbol.invariant.reads, c.in-Some-next_symbol.ensures, c.in-Dash.is, c.in_default-next_symbol-2.ensures)
    (items-dash_ended c.args.negated c.loop-symbol.ranges.items c.loop-symbol.range)

pub returns-in-CloseBracket-bound-clause-parsed : goal.returns-in-CloseBracket-bound-clause-parsed
returns-in-CloseBracket-bound-clause-parsed c =
    rw (
      c.new-in-CloseBracket-bound.ensures,
      c.in_ok-push-in-CloseBracket-bound-2.ensures.items,
      c.in_ok-push-in-CloseBracket-bound.ensures.items,
      c.one.ensures,
      c.loop-symbol.invariant.reads,
      c.in-Some-next_symbol.ensures,
      c.in-Dash.is,
      c.in-Some-next_symbol-2.ensures,
      c.in-CloseBracket-bound.is,
      append_assoc c.loop-symbol.ranges.items (c.loop-symbol.range ∷ []) (single Dash ∷ []),
    )
    (items-dash_closed c.args.negated c.loop-symbol.ranges.items c.loop-symbol.range (map symbol_of c.in-Some-next_symbol-2.after.now))

pub loop-symbol-preserved : goal.loop-symbol-preserved
loop-symbol-preserved c = record {
  reads =
      rw (c.loop-symbol.invariant.reads, c.in-Some-next_symbol.ensures, c.in_ok-push-in_default-symbol.ensures.items, c.one-range-in_default-symbol.ensures, c.byte-in_default-symbol.ensures)
      (items-other c.args.negated c.loop-symbol.ranges.items c.loop-symbol.range c.in-Some-next_symbol.symbol (map symbol_of c.in-Some-next_symbol.after.now)
      c.in_default-symbol.not-CloseBracket c.in_default-symbol.not-Dash);
  shorter = omega (arith, c.loop-symbol.invariant.shorter, length-next c.loop-symbol.rest.now c.in-Some-next_symbol.after.now c.in-Some-next_symbol.symbol c.in-Some-next_symbol.ensures);
}

pub returns-clause-parsed : goal.returns-clause-parsed
returns-clause-parsed c = rw (c.loop-symbol.invariant.reads, c.in_default-next_symbol.ensures) (items-ended c.args.negated c.loop-symbol.ranges.items c.loop-symbol.range)

pub loop-symbol-preserved-in_default-bound : goal.loop-symbol-preserved-in_default-bound
loop-symbol-preserved-in_default-bound c = record {
  reads =
      items-range (first_item c.args.negated (map symbol_of c.args.text.now)) c.args.negated c.loop-symbol.ranges.items c.loop-symbol.range (map symbol_of c.loop-symbol.rest.now) (map symbol_of c.in-Some-next_symbol.after.now) c.in-Some-next_symbol.symbol c.in-Some-next_symbol-2.bound (map symbol_of c.in-Some-next_symbol-2.after.now) c.byte-in_default-bound.result
      c.loop-symbol.invariant.reads c.in-Some-next_symbol.ensures c.in-Dash.is c.in-Some-next_symbol-2.ensures c.in_default-bound.not-CloseBracket c.byte-in_default-bound.ensures
      ∙ (c.in_ok-range-in_default-bound.ensures.1 _ ∙ ap (λ r. items c.args.negated c.loop-symbol.ranges.items r (map symbol_of c.in-Some-next_symbol-2.after.now)) (sym c.in_ok-range-in_default-bound.ensures.0));
  shorter = omega (arith, c.loop-symbol.invariant.shorter, length-next c.loop-symbol.rest.now c.in-Some-next_symbol.after.now c.in-Some-next_symbol.symbol c.in-Some-next_symbol.ensures, length-next c.in-Some-next_symbol.after.now c.in-Some-next_symbol-2.after.now c.in-Some-next_symbol-2.bound c.in-Some-next_symbol-2.ensures);
}

pub returns-in_err-range-in_default-bound-clause-parsed : goal.returns-in_err-range-in_default-bound-clause-parsed
returns-in_err-range-in_default-bound-clause-parsed c =
    let reads = items-range (first_item c.args.negated (map symbol_of c.args.text.now)) c.args.negated c.loop-symbol.ranges.items c.loop-symbol.range (map symbol_of c.loop-symbol.rest.now) (map symbol_of c.in-Some-next_symbol.after.now) c.in-Some-next_symbol.symbol c.in-Some-next_symbol-2.bound (map symbol_of c.in-Some-next_symbol-2.after.now) c.byte-in_default-bound.result
    c.loop-symbol.invariant.reads c.in-Some-next_symbol.ensures c.in-Dash.is c.in-Some-next_symbol-2.ensures c.in_default-bound.not-CloseBracket c.byte-in_default-bound.ensures in
    let p = err_from_is_err_and c.from_residual-in_err-range-in_default-bound.result c.from_residual-in_err-range-in_default-bound.ensures.1 in
    rw (reads, p.1, p.2) (c.in_err-range-in_default-bound.ensures _)

pub returns-in-CloseBracket-clause-shorter : goal.returns-in-CloseBracket-clause-shorter
returns-in-CloseBracket-clause-shorter c = omega (arith, c.loop-symbol.invariant.shorter, length-next c.loop-symbol.rest.now c.in-Some-next_symbol.after.now c.in-Some-next_symbol.symbol c.in-Some-next_symbol.ensures)

pub returns-in-CloseBracket-bound-clause-shorter : goal.returns-in-CloseBracket-bound-clause-shorter
returns-in-CloseBracket-bound-clause-shorter c = omega (arith, c.loop-symbol.invariant.shorter, length-next c.loop-symbol.rest.now c.in-Some-next_symbol.after.now c.in-Some-next_symbol.symbol c.in-Some-next_symbol.ensures, length-next c.in-Some-next_symbol.after.now c.in-Some-next_symbol-2.after.now c.in-Some-next_symbol-2.bound c.in-Some-next_symbol-2.ensures)
