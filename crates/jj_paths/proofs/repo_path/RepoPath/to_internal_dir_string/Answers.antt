use Rattle.std.proofs.Common.{string_bytes, [], ◌∷◌, ◌++◌, ap, ◌∙◌, lit<}
use Rattle.std.proofs.lemmas.Str.{encode_ascii}
use Rattle.jj_paths.proofs.PathStrings.{not_empty}
use Rattle.jj_paths.proofs.PathPrefixes.{dir_string-components}
use Rattle.jj_paths.proofs.repo_path.RepoPath.to_internal_dir_string.Goals as goal

pub returns : goal.returns
returns c =
    dir_string-components c.args.self.value.now (string_bytes c.push.new.self) (not_empty _ c.if-is_empty.ensures)
    (c.in_ok-push.ensures.bytes ∙ ap (λ l. string_bytes c.in_ok-text.text ++ l) (encode_ascii 47 (lit< tt)) ∙ ap (λ l. l ++ 47 ∷ []) c.in_ok-text.ensures)
