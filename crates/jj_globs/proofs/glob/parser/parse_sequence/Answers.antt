use Rattle.std.proofs.Common.{reverse, map, arith, refl, ap, Ok, ◌∷◌, ◌∙◌}
use Rattle.std.proofs.lemmas.List.{reverse-reverse}
use Rattle.std.proofs.lemmas.Result.{err_from_is_err_and}
use Rattle.jj_globs.specs.GlobSyntax.{symbol_of, lexemes, tokens_of}
use Rattle.jj_globs.specs.declared.glob.token.Token.TheVariants.{Part as part, Open}
use Rattle.jj_globs.proofs.SymbolLists.{reverse-push, length-next}
use Rattle.jj_globs.proofs.ParserSteps.{open-parse, comma-either, start, close-unopened, close-parse, parse-end, parse-unclosed, faulty}
use Rattle.jj_globs.proofs.glob.parser.parse_sequence.Goals as goal

pub loop-symbol-init : goal.loop-symbol-init
loop-symbol-init c = record { fits = omega arith; reads = start c.args.text.now c.new-tokens.result.items c.requires.plain c.new-tokens.ensures.items }

-- a syntax error in a class is that of the pattern
pub returns-in_err-part-in_default-symbol : goal.returns-in_err-part-in_default-symbol
returns-in_err-part-in_default-symbol c =
    let p = err_from_is_err_and c.from_residual-in_err-part-in_default-symbol.result c.from_residual-in_err-part-in_default-symbol.ensures.1 in
    rw (p.1, p.2)
    (faulty c.in_err-part-in_default-symbol.field-0.0 (tokens_of c.args.text.now) c.loop-symbol.open_groups c.loop-symbol.is_after_group (reverse c.loop-symbol.tokens.items) (lexemes (c.in-Some.symbol ∷ map symbol_of c.in-Some.after.now))
    (rw (c.loop-symbol.invariant.reads, c.in-Some.ensures) refl) c.in_err-part-in_default-symbol.ensures.parsed)

pub returns-in-CloseBrace : goal.returns-in-CloseBrace
returns-in-CloseBrace c = rw (c.loop-symbol.invariant.reads, c.in-Some.ensures, c.in-CloseBrace.is) (close-unopened c.loop-symbol.open_groups c.loop-symbol.is_after_group (reverse c.loop-symbol.tokens.items) (map symbol_of c.in-Some.after.now) (omega arith))

pub loop-symbol-preserved-in-CloseBrace-2 : goal.loop-symbol-preserved-in-CloseBrace-2
loop-symbol-preserved-in-CloseBrace-2 c = record {
  fits = omega (arith, c.loop-symbol.invariant.fits, length-next c.loop-symbol.rest.now c.in-Some.after.now c.in-Some.symbol c.in-Some.ensures);
  reads = rw (c.loop-symbol.invariant.reads, c.in-Some.ensures, c.in-CloseBrace-2.is, c.in_ok-is_after_group-in-CloseBrace-2.ensures.tokens, c.in_ok-is_after_group-in-CloseBrace-2.ensures.dropped) (close-parse c.loop-symbol.open_groups c.loop-symbol.is_after_group (reverse c.loop-symbol.tokens.items) (map symbol_of c.in-Some.after.now) (omega arith));
}

pub loop-symbol-preserved-in_ok-push-in-OpenBrace : goal.loop-symbol-preserved-in_ok-push-in-OpenBrace
loop-symbol-preserved-in_ok-push-in-OpenBrace c = record {
  fits = omega (arith, c.loop-symbol.invariant.fits, length-next c.loop-symbol.rest.now c.in-Some.after.now c.in-Some.symbol c.in-Some.ensures);
  reads = rw (c.loop-symbol.invariant.reads, c.in-Some.ensures, c.in-OpenBrace.is, reverse-push c.loop-symbol.tokens.items c.push.new.self.items Open c.in_ok-push-in-OpenBrace.ensures.items) (open-parse c.loop-symbol.open_groups c.loop-symbol.is_after_group (reverse c.loop-symbol.tokens.items) (map symbol_of c.in-Some.after.now));
}

pub loop-symbol-preserved-in_ok-push_comma-in-Comma : goal.loop-symbol-preserved-in_ok-push_comma-in-Comma
loop-symbol-preserved-in_ok-push_comma-in-Comma c = record {
  fits = omega (arith, c.loop-symbol.invariant.fits, length-next c.loop-symbol.rest.now c.in-Some.after.now c.in-Some.symbol c.in-Some.ensures);
  reads = rw (c.loop-symbol.invariant.reads, c.in-Some.ensures, c.in-Comma.is) (comma-either c.loop-symbol.open_groups c.loop-symbol.is_after_group (reverse c.loop-symbol.tokens.items) (reverse c.push_comma.new.tokens.items) (map symbol_of c.in-Some.after.now) c.in_ok-push_comma-in-Comma.ensures.plain c.in_ok-push_comma-in-Comma.ensures.group);
}

pub loop-symbol-preserved : goal.loop-symbol-preserved
loop-symbol-preserved c = record {
  fits = omega (arith, c.loop-symbol.invariant.fits, length-next c.loop-symbol.rest.now c.in-Some.after.now c.in-Some.symbol c.in-Some.ensures, c.in_ok-part-in_default-symbol.ensures.shorter);
  reads = rw (c.loop-symbol.invariant.reads, c.in-Some.ensures, reverse-push c.loop-symbol.tokens.items c.push-in_default-symbol.new.self.items (part c.in_ok-part-in_default-symbol.part) c.in_ok-push-in_default-symbol.ensures.items) (c.in_ok-part-in_default-symbol.ensures.parsed c.loop-symbol.open_groups c.loop-symbol.is_after_group (reverse c.loop-symbol.tokens.items));
}

pub returns-then-open_groups-gt0 : goal.returns-then-open_groups-gt0
returns-then-open_groups-gt0 c = rw (c.loop-symbol.invariant.reads, c.in_default.ensures) (parse-unclosed c.loop-symbol.open_groups c.loop-symbol.is_after_group (reverse c.loop-symbol.tokens.items) c.if-open_groups-gt0.true)

pub returns : goal.returns
returns c =
    rw (c.loop-symbol.invariant.reads, c.in_default.ensures)
    (parse-end c.loop-symbol.open_groups c.loop-symbol.is_after_group (reverse c.loop-symbol.tokens.items) (omega (arith, c.if-open_groups-gt0.false))
    ∙ ap Ok (reverse-reverse c.loop-symbol.tokens.items))
