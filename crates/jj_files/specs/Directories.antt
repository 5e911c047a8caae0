-- Directory operations, over relations for the underlying calls.
-- Cited by contracts of public items: CreatesOrReuses, EmptiesDir, IsEmptyDir, IsListError.
use Rattle.std.specs.Prelude.{◌≡◌, ◌⊎◌, ⊤, ℕ, Bool, false, ◌==◌, List, [], ◌∷◌, ◌++◌, length, Result, Ok, Err, MatchResult, IsErrAnd, MatchBool, string_bytes}
use Rattle.std.specs.Path.{path_join}
use Rattle.std.specs.declared.io.Error.{Error}
use Rattle.jj_files.specs.PathErrors.{IsAtPath}
use Rattle.jj_files.specs.declared.file_util.errors.PathError.{PathError}
use Rattle.jj_files.specs.declared.file_util.errors.PathError.TheVariants.{Invalid, Memory}

-- an error with the path of the listed directory
abbrev pub IsListError : List ℕ → PathError → Type 0
IsListError path (Invalid at cause) = string_bytes at ≡ path
IsListError path Memory = ⊤

-- the relation of a call: state before, path, result, state after
abbrev pub CallRelation : Type 0 → Type 1
CallRelation D = D → List ℕ → Result (Unit {0}) Error → D → Type 0

-- the relation of listing: state, path, result
abbrev pub ListRelation : Type 0 → Type 1
ListRelation D = D → List ℕ → Result (List (List ℕ)) PathError → Type 0

-- the directory was created, or there is one, or the error of creating it is returned with the path
abbrev pub CreatesOrReuses : {D : Type 0} → (D → List ℕ → Bool) → CallRelation D → List ℕ → D
    → Result (Unit {0}) PathError → D → Type 0
CreatesOrReuses is_directory may_create path old result new =
    (created : Result (Unit {0}) Error) × may_create old path created new
    × MatchResult created (λ done. result ≡ Ok tt)
    (λ error. MatchBool (is_directory new path) (result ≡ Ok tt)
    (IsErrAnd result (IsAtPath path error)))

-- the entries of a directory were removed, in this order
abbrev pub RemovesEach : {D : Type 0} → CallRelation D → List ℕ → List (List ℕ) → D → D → Type 0
RemovesEach may_remove dir [] old new = new ≡ old
RemovesEach {D} may_remove dir (name ∷ names) old new =
    (next : D) × may_remove old (path_join dir name) (Ok tt) next
    × RemovesEach may_remove dir names next new

-- the error of emptying a directory: listing it failed, and the error has its path; or the entry
-- after a removed prefix of the entries could not be removed; or out of memory
abbrev pub IsRemovalError : {D : Type 0} → ListRelation D → CallRelation D → List ℕ → D
    → PathError → D → Type 0
IsRemovalError {D} may_list may_remove dir old fault new =
    (may_list old dir (Err fault) × IsListError dir fault × (new ≡ old))
    ⊎ ((removed rest : List (List ℕ)) × (name : List ℕ) × (error : Error) × (between : D)
    × may_list old dir (Ok (removed ++ name ∷ rest))
    × RemovesEach may_remove dir removed old between
    × may_remove between (path_join dir name) (Err error) new
    × IsAtPath (path_join dir name) error fault)
    ⊎ ((fault ≡ Memory) × ((removed rest : List (List ℕ)) × may_list old dir (Ok (removed ++ rest))
    × RemovesEach may_remove dir removed old new))

-- all entries of the directory were removed, or an error is returned
abbrev pub EmptiesDir : {D : Type 0} → ListRelation D → CallRelation D → List ℕ → D
    → Result (Unit {0}) PathError → D → Type 0
EmptiesDir may_list may_remove dir old result new =
    MatchResult result
    (λ done. (names : List (List ℕ)) × may_list old dir (Ok names)
    × RemovesEach may_remove dir names old new)
    (λ fault. IsRemovalError may_list may_remove dir old fault new)

-- false if there is no directory; otherwise whether its list of entries is empty, or the error of
-- listing it, with its path
abbrev pub IsEmptyDir : {D : Type 0} → (D → List ℕ → Bool) → ListRelation D → List ℕ → D
    → Result Bool PathError → Type 0
IsEmptyDir is_directory may_list path dirs result =
    MatchBool (is_directory dirs path)
    ((listed : Result (List (List ℕ)) PathError) × may_list dirs path listed
    × MatchResult listed (λ names. result ≡ Ok (length names == 0))
    (λ fault. (result ≡ Err fault) × IsListError path fault))
    (result ≡ Ok false)
