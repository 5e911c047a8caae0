use Rattle.std.proofs.Common.{◌∙◌, [], ◌∷◌, map, not, sym, ap}
use Rattle.std.proofs.lemmas.List.{map-append}
use Rattle.jj_files.specs.PathComponents.{ends_in_name}
use Rattle.jj_files.proofs.NormalForms.{ends_in_name-last}
use Rattle.jj_files.proofs.file_util.path_components.ends_in_name.Goals as goal

pub returns-in-Some : goal.returns-in-Some
returns-in-Some c =
    let last = c.in-Some.last.now in
    let prefix = c.in-Some._front.now in
    let whole = ap (map (λ text. text.now)) c.in-Some.ensures.cases.0 ∙ map-append (λ text. text.now) prefix (last ∷ []) in
    ap not c.is_special_component.ensures ∙ sym (ends_in_name-last (map (λ text. text.now) prefix) last.now) ∙ sym (ap ends_in_name whole)
