use Rattle.std.proofs.Common.{◌∷◌, [], string_bytes, map, sym, ap, subst, ◌∙◌}
use Rattle.std.proofs.lemmas.List.{map-append}
use Rattle.std.proofs.lemmas.Result.{err_from_is_err_and}
use Rattle.jj_paths.specs.Names.{name_of}
use Rattle.jj_paths.specs.AppendedNames.{append_name, append_names, ExtendsString}
use Rattle.jj_paths.proofs.AppendedNames.{append_names-append, longer-append_names, longer-trans}
use Rattle.jj_paths.proofs.repo_path.extend.push_names.Goals as goal

pub loop-name-preserved : goal.loop-name-preserved
loop-name-preserved g c =
    let first = string_bytes c.args.text.now in
    c.in_ok-push_name.ensures.pushed
    ∙ ap (λ text. append_name text (name_of c.in-Some.name)) c.loop-name.invariant
    ∙ sym (append_names-append first (map name_of c.loop-name.yielded) (name_of c.in-Some.name))
    ∙ ap (append_names first) (sym (map-append name_of c.loop-name.yielded (c.in-Some.name ∷ [])))

pub returns-in_err-push_name-clause-error : goal.returns-in_err-push_name-clause-error
returns-in_err-push_name-clause-error g c =
    let first = string_bytes c.args.text.now in
    let so_far = subst (ExtendsString first) (sym c.loop-name.invariant) (longer-append_names first (map name_of c.loop-name.yielded)) in
    let p = err_from_is_err_and c.from_residual.result c.from_residual.ensures.1 in
    rw p.1 (longer-trans first (string_bytes c.loop-name.text) (string_bytes c.push_name.new.text) so_far c.in_err-push_name.ensures.error)
