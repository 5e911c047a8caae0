use Rattle.std.proofs.Common.{map, arith}
use Rattle.std.proofs.lemmas.Result.{IfOk-weaker}
use Rattle.jj_globs.proofs.SymbolLists.{length-next}
use Rattle.jj_globs.specs.GlobSyntax.{symbol_of}
use Rattle.jj_globs.proofs.ClassParsing.{lexemes-class, lexemes-bang, lexemes-caret, lexemes-unclosed, first_item-none}
use Rattle.jj_globs.proofs.glob.class.parse_class.Goals as goal

pub returns-in_default-clause-parsed : goal.returns-in_default-clause-parsed
returns-in_default-clause-parsed c = rw (c.in_default.ensures, lexemes-unclosed) (first_item-none _)

pub returns-in-Bang-clause-parsed : goal.returns-in-Bang-clause-parsed
returns-in-Bang-clause-parsed c = rw (c.in-Some.ensures, c.in-Bang.is, lexemes-bang (map symbol_of c.in-Some.rest.now)) c.parse_items.ensures.parsed

pub returns-in-Caret-clause-parsed : goal.returns-in-Caret-clause-parsed
returns-in-Caret-clause-parsed c = rw (c.in-Some.ensures, c.in-Caret.is, lexemes-caret (map symbol_of c.in-Some.rest.now)) c.parse_items-in-Caret.ensures.parsed

pub returns-in_default-symbol-clause-parsed : goal.returns-in_default-symbol-clause-parsed
returns-in_default-symbol-clause-parsed c =
    rw (c.in-Some.ensures, lexemes-class c.in-Some.symbol (map symbol_of c.in-Some.rest.now) c.in_default-symbol.not-Bang c.in_default-symbol.not-Caret, ← c.in-Some.ensures)
    c.parse_items-in_default-symbol.ensures.parsed

pub returns-in-Bang-clause-shorter : goal.returns-in-Bang-clause-shorter
returns-in-Bang-clause-shorter c =
    IfOk-weaker c.parse_items.result _ _ (λ parsed h. omega (arith, h, length-next c.args.text.now c.in-Some.rest.now c.in-Some.symbol c.in-Some.ensures)) c.parse_items.ensures.shorter

pub returns-in-Caret-clause-shorter : goal.returns-in-Caret-clause-shorter
returns-in-Caret-clause-shorter c =
    IfOk-weaker c.parse_items-in-Caret.result _ _ (λ parsed h. omega (arith, h, length-next c.args.text.now c.in-Some.rest.now c.in-Some.symbol c.in-Some.ensures)) c.parse_items-in-Caret.ensures.shorter
