-- JSON values of signatures and commits. The string of a timestamp is not determined here.
-- Cited by contracts of public items: IsCommitJson, IsJsonString, IsSignatureJson.
use Rattle.std.specs.Prelude.{◌≡◌, ℕ, List, IsSome, codes, map}
use Rattle.serde_json.specs.Data.{Data, string, array, object, no_members, member}
use Rattle.serde_json.specs.Find.{as_str}
use Rattle.serde_json.specs.View.{items_of}
use Rattle.jj_content.specs.Hex.{hex, reverse_hex}
use Rattle.jj_backend.specs.Records.{SignatureValue, CommitValue}

-- the JSON value is a string
abbrev pub IsJsonString : Data → Type 0
IsJsonString value = IsSome (as_str value)

-- the array of the ids in hexadecimal
abbrev pub ids_json : List (List ℕ) → Data
ids_json ids = array (items_of (map (λ id. string (hex id)) ids))

-- the object of a signature whose timestamp has this JSON value; the keys ascend
abbrev pub signature_json : SignatureValue → Data → Data
signature_json s timestamp = object
    (member (codes "email") (string s.email)
    (member (codes "name") (string s.name)
    (member (codes "timestamp") timestamp no_members)))

-- the JSON value is that of the signature, with some string for its time
abbrev pub IsSignatureJson : SignatureValue → Data → Type 0
IsSignatureJson s value = (timestamp : Data) × IsJsonString timestamp
    × (value ≡ signature_json s timestamp)

-- the object of a commit whose author and committer have these JSON values
abbrev pub commit_json : CommitValue → Data → Data → Data
commit_json c author committer = object
    (member (codes "author") author
    (member (codes "change_id") (string (reverse_hex c.change_id))
    (member (codes "committer") committer
    (member (codes "description") (string c.description)
    (member (codes "parents") (ids_json c.parents) no_members)))))

-- value is the object of the commit c, with the objects of its author and its committer
abbrev pub IsCommitJson : CommitValue → Data → Type 0
IsCommitJson c value = (author : Data) × (committer : Data)
    × IsSignatureJson c.author author × IsSignatureJson c.committer committer
    × (value ≡ commit_json c author committer)
