use Rattle.std.proofs.Common.{rules, ◌≡◌, ◌∙◌, ◌++◌, sym, ap, subst, length}
use Rattle.jj_merges.specs.Merge.{IsOdd}
use Rattle.jj_decode.proofs.MergeLists.{drained}
use Rattle.jj_decode.proofs.records.merges.merge_of.Goals as goal

pub build-requires : goal.build-requires
build-requires g c =
    let ran = c.in_ok-extend.ensures.ok in
    let end = ran.1.2 in
    let items : ran.0 ≡ c.args.terms.items = sym (drained ran.0 ran.1.0 end.1.0 end.0 end.1.1 end.1.2) ∙ ran.1.1.0 in
    let whole : c.extend.new.self ≡ c.args.terms.items = ran.2 ∙ ap (λ none. none ++ ran.0) c.default-builder.ensures ∙ items in
    let odd : IsOdd (length c.extend.new.self) = subst (λ terms. IsOdd (length terms)) (sym whole) c.requires in
    search (rules, odd)

pub returns : goal.returns
returns g c =
    let ran = c.in_ok-extend.ensures.ok in
    let end = ran.1.2 in
    let items : ran.0 ≡ c.args.terms.items = sym (drained ran.0 ran.1.0 end.1.0 end.0 end.1.1 end.1.2) ∙ ran.1.1.0 in
    c.build.ensures ∙ ran.2 ∙ ap (λ none. none ++ ran.0) c.default-builder.ensures ∙ items
