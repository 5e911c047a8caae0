use Rattle.std.proofs.Common.{◌∙◌, sym, map, reverse, refl}
use Rattle.jj_globs.specs.GlobSyntax.{symbol_of}
use Rattle.jj_globs.specs.declared.glob.token.Token.TheVariants.{Part as part}
use Rattle.jj_globs.specs.declared.glob.token.Part.TheVariants.{Star}
use Rattle.jj_globs.proofs.SymbolLists.{reverse-push}
use Rattle.jj_globs.proofs.ParserSteps.{stars-parse, star-parse, dirs-parse}
use Rattle.jj_globs.proofs.glob.parser.parse_stars.Goals as goal

pub returns-in_default-clause-parsed : goal.returns-in_default-clause-parsed
returns-in_default-clause-parsed c =
    rw (reverse-push c.args.tokens.now.items c.push.new.self.items (part Star) c.in_ok-push.ensures.items)
    (star-parse c.args.open_groups c.args.is_after_group (reverse c.args.tokens.now.items) (map symbol_of c.args.text.now) c.in_default.ensures)

pub returns-in-Some-strip_slash-clause-parsed : goal.returns-in-Some-strip_slash-clause-parsed
returns-in-Some-strip_slash-clause-parsed c =
    rw (c.in-Some.ensures, c.in-Some-strip_slash.ensures, c.in_ok-push_dirs.ensures, c.position_of-position.ensures, c.as_slice.ensures.value)
    (dirs-parse c.args.open_groups c.args.is_after_group (reverse c.args.tokens.now.items) (map symbol_of c.in-Some-strip_slash.after.now))

pub returns-then-ends_sequence-clause-parsed : goal.returns-then-ends_sequence-clause-parsed
returns-then-ends_sequence-clause-parsed c =
    rw (c.in-Some.ensures, c.in_ok-push_last_dirs.ensures, c.position_of-position.ensures, c.as_slice.ensures.value)
    (stars-parse c.args.open_groups c.args.is_after_group (reverse c.args.tokens.now.items) (map symbol_of c.in-Some.rest.now) c.in_default-strip_slash.ensures
    ∙ rw (sym c.ends_sequence.ensures ∙ c.if-ends_sequence.true) refl)

pub returns-clause-parsed : goal.returns-clause-parsed
returns-clause-parsed c =
    rw (c.in-Some.ensures, c.in_ok-push_two_stars.ensures)
    (stars-parse c.args.open_groups c.args.is_after_group (reverse c.args.tokens.now.items) (map symbol_of c.in-Some.rest.now) c.in_default-strip_slash.ensures
    ∙ rw (sym c.ends_sequence.ensures ∙ c.if-ends_sequence.false) refl)
