use Rattle.std.proofs.Common.{◌≡◌, subst}
use Rattle.serde_json.specs.Data.{string}
use Rattle.jj_json.specs.Conversions.{IsJsonResult}
use Rattle.jj_json.proofs.paths.RepoPathToJson.to_json.Goals as goal

pub returns : goal.returns
returns c =
    subst (λ text. IsJsonResult (Unit {0}) (λ d. d ≡ string text) c.string_to_json.result) c.as_internal_file_string.ensures c.string_to_json.ensures
