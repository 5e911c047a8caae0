use Rattle.std.proofs.Common.{rules, ◌≡◌, ◌∙◌, ◌++◌, List, Ok, ap, sym, subst, length}
use Rattle.std.specs.declared.alloc.AllocError.{AllocError}
use Rattle.std.proofs.lemmas.Iterator.{YieldsList-from_slice}
use Rattle.std.proofs.lemmas.Iterator.Adapters.{items_from_extend}
use Rattle.std.proofs.lemmas.Iterator.Consumers.{YieldsList-from_copied}
use Rattle.jj_merges.specs.Merge.{IsOdd}
use Rattle.jj_program.specs.Lines.{Text}
use Rattle.jj_program.proofs.merge_command.merge_of.Goals as goal

pub build-requires : goal.build-requires
build-requires c =
    let ran = c.in_ok-extend.ensures.ok in
    let grown = λ (xs : List Text). c.extend.new.self ≡ c.default-builder.result ++ xs in
    let appended : grown c.args.terms.now =
    items_from_extend {E = AllocError} {all = c.args.terms.now} {P = grown} (Ok c.in_ok-extend.field-0) (ran.1.0, ran.0, ran.1.1, ran.2, ran.1.2) (YieldsList-from_copied (YieldsList-from_slice _ (search (rules, c.copied.ensures, c.iter.ensures)))) in
    let whole : c.extend.new.self ≡ c.args.terms.now = appended ∙ ap (λ none. none ++ c.args.terms.now) c.default-builder.ensures in
    let odd : IsOdd (length c.extend.new.self) = subst (λ terms. IsOdd (length terms)) (sym whole) c.requires in
    search (rules, odd)

pub returns : goal.returns
returns c =
    let ran = c.in_ok-extend.ensures.ok in
    let grown = λ (xs : List Text). c.extend.new.self ≡ c.default-builder.result ++ xs in
    let appended : grown c.args.terms.now =
    items_from_extend {E = AllocError} {all = c.args.terms.now} {P = grown} (Ok c.in_ok-extend.field-0) (ran.1.0, ran.0, ran.1.1, ran.2, ran.1.2) (YieldsList-from_copied (YieldsList-from_slice _ (search (rules, c.copied.ensures, c.iter.ensures)))) in
    let whole : c.extend.new.self ≡ c.args.terms.now = appended ∙ ap (λ none. none ++ c.args.terms.now) c.default-builder.ensures in
    c.build.ensures ∙ whole
