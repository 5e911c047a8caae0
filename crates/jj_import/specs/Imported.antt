-- The commit that a commit of a stream becomes.
-- Cited by contracts of public items: IsImported, IsSignature, imported_string, offset_of.
use Rattle.std.specs.Prelude.{◌≡◌, ℕ, ◌+◌, ◌*◌, ℤ, pos, neg_ℤ, if◌then◌else◌, List, [], ◌∷◌, Option, Some, None}
use Rattle.std.specs.Option.{unwrap_or}
use Rattle.std.specs.Str.Lossy.{utf8_lossy}
use Rattle.jj_backend.specs.Records.{CommitValue, SignatureValue}
use Rattle.jj_fast_import.specs.Values.{CommitValue as StreamCommit, PersonValue}
use Rattle.jj_fast_import.specs.declared.command.Zone.{Zone}

-- the bytes as a string: what is no UTF-8 becomes U+FFFD
abbrev pub imported_string : List ℕ → List ℕ
imported_string bytes = utf8_lossy bytes

abbrev pub imported_name : Option (List ℕ) → List ℕ
imported_name None = []
imported_name (Some name) = imported_string name

-- minutes east of UTC
abbrev pub offset_of : Zone → ℤ
offset_of zone =
    if zone.is_west then neg_ℤ (pos (60 * zone.hours + zone.minutes))
    else pos (60 * zone.hours + zone.minutes)

-- the signature has the name, the email and the time of the person
pub record IsSignature (person : PersonValue) (signature : SignatureValue) : Type 0 where
  pub name : signature.name ≡ imported_name person.name
  pub email : signature.email ≡ imported_string person.email
  pub time : signature.timestamp.timestamp.0 ≡ pos (1000 * person.seconds)
  pub offset : signature.timestamp.tz_offset ≡ offset_of person.zone

-- the record has these parents, this tree, and the message, author and committer of the commit; the
-- committer is the author of a commit without one
pub record IsImported (commit : StreamCommit) (parents : List (List ℕ)) (tree : List ℕ)
    (imported : CommitValue) : Type 0 where
  pub parents_are : imported.parents ≡ parents
  pub tree_is : imported.root_tree ≡ tree ∷ []
  pub description : imported.description ≡ imported_string commit.message
  pub author : IsSignature (unwrap_or commit.author commit.committer) imported.author
  pub committer : IsSignature commit.committer imported.committer
