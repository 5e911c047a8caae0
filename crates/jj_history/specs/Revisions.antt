-- The commit that a revision names.
-- Cited by contracts of public items: IsNamed, IsRevisionError.
use Rattle.std.specs.Prelude.{◌≡◌, ◌≢◌, ◌⊎◌, ◌++◌, ◌&&◌, ℕ, if◌then◌else◌, List, [], All, Option, Some, None, codes, filter, length, map, nat_eq, nat_le, string_bytes}
use Rattle.std.specs.BTreeMap.{BTreeMap, get_by_text}
use Rattle.std.specs.Global.{Global}
use Rattle.std.specs.List.{Contains, starts_with}
use Rattle.std.specs.Option.{option_or}
use Rattle.std.specs.Str.{str_to_ascii_lowercase}
use Rattle.std.specs.declared.string.String.{String}
use Rattle.jj_content.specs.Hex.{hex, hex_digits, is_hex}
use Rattle.jj_excerpts.specs.Excerpts.{excerpt_of}
use Rattle.jj_ids.specs.declared.object_id.prefix_resolution.PrefixResolution.{PrefixResolution}
use Rattle.jj_ids.specs.declared.object_id.prefix_resolution.PrefixResolution.TheVariants.{NoMatch, SingleMatch, AmbiguousMatch}
use Rattle.jj_history.specs.declared.error.RevisionError.{RevisionError}
use Rattle.jj_history.specs.declared.error.RevisionError.TheVariants.{Memory, Unknown, Ambiguous}

-- commits by names: refs, or ids of Git
abbrev pub Names : Type 0
Names = BTreeMap (String Global) (List ℕ)

-- the commit of the ref with this name, or with the first of these prefixes before it
abbrev pub ref_commit : Names → List ℕ → Option (List ℕ)
ref_commit refs name =
    option_or (option_or (option_or (option_or (get_by_text refs name)
    (get_by_text refs (codes "refs/" ++ name)))
    (get_by_text refs (codes "refs/tags/" ++ name)))
    (get_by_text refs (codes "refs/heads/" ++ name)))
    (get_by_text refs (codes "refs/remotes/" ++ name))

-- the revision in lower case, if it has at least four hex digits and nothing else
abbrev pub prefix_of : List ℕ → Option (List ℕ)
prefix_of revision =
    if nat_le 4 (length revision) && is_hex hex_digits revision
    then Some (str_to_ascii_lowercase revision) else None

-- those of the ids whose digits begin with the prefix
abbrev pub store_commits_with : List (List ℕ) → List ℕ → List (List ℕ)
store_commits_with ids prefix = filter (λ id. starts_with nat_eq (hex id) prefix) ids

-- the commits whose names begin with the prefix
abbrev pub commits_named : List (String Global × List ℕ) → List ℕ → List (List ℕ)
commits_named entries prefix = map (λ entry. entry.1)
    (filter (λ entry. starts_with nat_eq (string_bytes entry.0) prefix) entries)

-- the commits whose ids in Git begin with the prefix
abbrev pub git_commits_with : Names → List ℕ → List (List ℕ)
git_commits_with git_ids prefix = commits_named git_ids.entries prefix

-- the commits with this prefix of their own id or of Git's, if it is one
abbrev pub commits_with : Names → List (List ℕ) → Option (List ℕ) → List (List ℕ)
commits_with git_ids ids None = []
commits_with git_ids ids (Some prefix) =
    store_commits_with ids prefix ++ git_commits_with git_ids prefix

-- the commits with an id that begins with the revision
abbrev pub commits_at : Names → List (List ℕ) → List ℕ → List (List ℕ)
commits_at git_ids ids revision = commits_with git_ids ids (prefix_of revision)

-- the list has this commit, and no other one
abbrev pub IsOnly : List (List ℕ) → List ℕ → Type 0
IsOnly found id = Contains found id × All (λ other. other ≡ id) found

-- the list has two commits that differ
abbrev pub HasSeveral : List (List ℕ) → Type 0
HasSeveral found = (a b : List ℕ) × Contains found a × Contains found b × (a ≢ b)

abbrev pub IsResolution : List (List ℕ) → PrefixResolution (List ℕ) → Type 0
IsResolution found NoMatch = found ≡ []
IsResolution found (SingleMatch id) = IsOnly found id
IsResolution found AmbiguousMatch = HasSeveral found

abbrev pub IsUnknownError : List ℕ → RevisionError → Type 0
IsUnknownError revision Memory = Unit {0}
IsUnknownError revision (Unknown quoted) = string_bytes quoted ≡ excerpt_of revision
IsUnknownError revision (Ambiguous quoted) = ⊥

abbrev pub IsAmbiguousError : List ℕ → RevisionError → Type 0
IsAmbiguousError revision Memory = Unit {0}
IsAmbiguousError revision (Unknown quoted) = ⊥
IsAmbiguousError revision (Ambiguous quoted) = string_bytes quoted ≡ excerpt_of revision

-- none of the commits has such an id, or several have one; the error quotes the revision
abbrev pub IsChoiceError : List (List ℕ) → List ℕ → RevisionError → Type 0
IsChoiceError found revision Memory = Unit {0}
IsChoiceError found revision (Unknown quoted) = (found ≡ [])
    × (string_bytes quoted ≡ excerpt_of revision)
IsChoiceError found revision (Ambiguous quoted) = HasSeveral found
    × (string_bytes quoted ≡ excerpt_of revision)

module _ (refs git_ids : Names) (ids : List (List ℕ)) (revision : List ℕ) where
  -- the commit of the ref; without one, the only commit with an id that begins with the revision
  abbrev pub IsNamed : List ℕ → Type 0
  IsNamed id = (ref_commit refs revision ≡ Some id)
      ⊎ ((ref_commit refs revision ≡ None) × IsOnly (commits_at git_ids ids revision) id)

  -- there is no such ref; no commit has such an id, or several have one; the error quotes the
  -- revision
  abbrev pub IsRevisionError : RevisionError → Type 0
  IsRevisionError Memory = Unit {0}
  IsRevisionError (Unknown quoted) = (ref_commit refs revision ≡ None)
      × (commits_at git_ids ids revision ≡ []) × (string_bytes quoted ≡ excerpt_of revision)
  IsRevisionError (Ambiguous quoted) = (ref_commit refs revision ≡ None)
      × HasSeveral (commits_at git_ids ids revision) × (string_bytes quoted ≡ excerpt_of revision)
