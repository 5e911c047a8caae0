use Rattle.std.proofs.Common.{rules, ◌≡◌, ◌∙◌, ◌++◌, List, ℕ, Ok, ap, length, refl, subst, sym}
use Rattle.std.specs.declared.alloc.AllocError.{AllocError}
use Rattle.std.proofs.lemmas.Iterator.Adapters.{YieldsList-from_vec, items_from_extend}
use Rattle.std.proofs.lemmas.Result.{IfOk-weaker}
use Rattle.jj_merges.specs.Flatten.{flattened_terms}
use Rattle.jj_merges.specs.Merge.{IsOdd}
use Rattle.jj_core_c.proofs.flatten.flatten_merges.Goals as goal

pub build-requires : goal.build-requires
build-requires c =
    let ran = c.in_ok-extend.ensures.ok in
    let merges = c.args.merges in
    let grown = λ (xs : List (List ℕ)). c.extend.new.self ≡ c.default-builder.result ++ xs in
    let appended : grown merges.items =
    items_from_extend {E = AllocError} {all = merges.items} {P = grown} (Ok c.in_ok-extend.field-0) (ran.1.0, ran.0, refl, ran.2, ran.1.2) (YieldsList-from_vec {s = ran.1.0} merges.items ran.1.1.0 (ran.1.1.1 ∙ merges.ok.0)) in
    let whole : c.extend.new.self ≡ merges.items = appended ∙ ap (λ none. none ++ merges.items) c.default-builder.ensures in
    let odd : IsOdd (length c.extend.new.self) = subst (λ (l : List (List ℕ)). IsOdd (length l)) (sym whole) c.requires in
    search (rules, odd)

pub returns : goal.returns
returns c =
    let ran = c.in_ok-extend.ensures.ok in
    let merges = c.args.merges in
    let grown = λ (xs : List (List ℕ)). c.extend.new.self ≡ c.default-builder.result ++ xs in
    let appended : grown merges.items =
    items_from_extend {E = AllocError} {all = merges.items} {P = grown} (Ok c.in_ok-extend.field-0) (ran.1.0, ran.0, refl, ran.2, ran.1.2) (YieldsList-from_vec {s = ran.1.0} merges.items ran.1.1.0 (ran.1.1.1 ∙ merges.ok.0)) in
    let whole : c.build.result ≡ merges.items = c.build.ensures ∙ appended ∙ ap (λ none. none ++ merges.items) c.default-builder.ensures in
    IfOk-weaker c.flatten.result (λ merge. merge ≡ flattened_terms c.build.result) (λ merge. merge ≡ flattened_terms merges.items) (λ merge is. is ∙ ap flattened_terms whole) c.flatten.ensures.terms
