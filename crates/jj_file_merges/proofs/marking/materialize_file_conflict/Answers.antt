use Rattle.std.proofs.Common.{◌≡◌, ◌∙◌, ◌∷◌, [], ℕ, List, Option, None, Some, Vec, ap, inr, map, refl, subst, sym}
use Rattle.std.specs.Global.{Global}
use Rattle.std.specs.List.{AllZip}
use Rattle.std.specs.Option.{option_map}
use Rattle.std.proofs.lemmas.Result.{err_from_is_err_and}
use Rattle.jj_backend.specs.MergedTreeValues.{Values, file_id_of, parts}
use Rattle.jj_content_merges.specs.Hunks.{merge_contents}
use Rattle.jj_file_merges.specs.Markings.{IsMarkedMerge, IsTermContent, IsTermsError}
use Rattle.jj_file_merges.proofs.marking.materialize_file_conflict.Goals as goal

themselves : (values : Values) → map (option_map (λ value. value)) values ≡ values
themselves [] = refl
themselves (None ∷ values) = ap (λ (l : Values). None ∷ l) (themselves values)
themselves (Some value ∷ values) = ap (λ (l : Values). Some value ∷ l) (themselves values)

parts_are : (values : Values) (ids found : Option (List (Option (List ℕ)))) → ids ≡ parts file_id_of (map (option_map (λ value. value)) values) → ids ≡ found → parts file_id_of values ≡ found
parts_are values ids found made is = ap (parts file_id_of) (sym (themselves values)) ∙ sym made ∙ is

pub returns-in_default-clause-content : goal.returns-in_default-clause-content
returns-in_default-clause-content g c = parts_are c.args.values.now c.in_ok-ids.field-0 None c.in_ok-ids.ensures c.in_default.is

pub returns-in_err-contents-clause-error : goal.returns-in_err-contents-clause-error
returns-in_err-contents-clause-error g c =
    let p = err_from_is_err_and c.from_residual-in_err-contents.result c.from_residual-in_err-contents.ensures.1 in
    rw (p.1, p.2)
    (inr (
      c.in-Some.ids,
      parts_are c.args.values.now c.in_ok-ids.field-0 (Some c.in-Some.ids) c.in_ok-ids.ensures c.in-Some.is,
      subst (λ (ids : List (Option (List ℕ))). IsTermsError (g.B.Backend.objects c.args.backend.now).files (g.B.Backend.may_fail c.args.backend.now) ids c.in_err-contents.field-0.0) c.as_slice.ensures.terms c.in_err-contents.ensures.error,
    ))

pub returns-clause-content : goal.returns-clause-content
returns-clause-content g c = (
  c.in-Some.ids,
  merge_contents c.in_ok-contents.contents.items,
  parts_are c.args.values.now c.in_ok-ids.field-0 (Some c.in-Some.ids) c.in_ok-ids.ensures c.in-Some.is,
  subst (λ (ids : List (Option (List ℕ))). AllZip (IsTermContent (g.B.Backend.objects c.args.backend.now).files) ids (merge_contents c.in_ok-contents.contents.items)) c.as_slice.ensures.terms c.in_ok-contents.ensures.contents,
  subst (λ (cs : List (Vec ℕ Global)). IsMarkedMerge c.args.options.now.hunk_level c.args.options.now.same_change c.args.style c.args.labels.now (merge_contents cs) c.in_ok-content.content.items) c.deref.ensures.value c.in_ok-content.ensures,
)
