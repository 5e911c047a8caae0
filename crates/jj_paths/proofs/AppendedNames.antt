-- Strings of paths that grow as components are appended.
use Rattle.std.proofs.Common.{◌≡◌, ℕ, ◌<◌, List, [], ◌∷◌, ◌++◌, length, map, true, IsTrue, refl, sym, ap, subst, ◌∙◌, append_assoc, append-nil, arith}
use Rattle.std.specs.List.{list_all, slice_index}
use Rattle.std.proofs.lemmas.Bool.{and_parts, and_from}
use Rattle.jj_paths.specs.Paths.{Name, Path, components, is_name, is_path_string}
use Rattle.jj_paths.specs.AppendedNames.{append_name, append_names, ExtendsString}
use Rattle.jj_paths.specs.Names.{name_of}
use Rattle.jj_paths.specs.declared.repo_path.RepoPathComponent.{RepoPathComponent}
use Rattle.jj_paths.proofs.PathStrings.{components-name, components-join, joined_by, IsJoined}

pub longer-itself : (text : List ℕ) → ExtendsString text text
longer-itself text = record { more = []; is = sym (append-nil text); slash = λ a b. absurd (omega (arith, b)) }

pub longer-append_name : (text : List ℕ) (name : Name) → ExtendsString text (append_name text name)
longer-append_name [] name = record { more = name; is = refl; slash = λ a b. absurd (omega (arith, a)) }
longer-append_name (b ∷ bs) name = record { more = 47 ∷ name; is = refl; slash = λ a c. refl }

pub longer-trans : (a b c : List ℕ) → ExtendsString a b → ExtendsString b c → ExtendsString a c
longer-trans a b c ab bc = by_more ab.more ab.is ab.slash
  where
    by_more : (more : List ℕ) → b ≡ a ++ more → (0 < length a → 0 < length more → slice_index more 0 ≡ 47) → ExtendsString a c
    by_more [] is slash =
        let same : b ≡ a = is ∙ append-nil a in
        record { more = bc.more; is = bc.is ∙ ap (λ l. l ++ bc.more) same; slash = λ h k. bc.slash (subst (λ l. 0 < length l) (sym same) h) k }
    by_more (x ∷ xs) is slash = record { more = x ∷ (xs ++ bc.more); is = bc.is ∙ ap (λ l. l ++ bc.more) is ∙ append_assoc a (x ∷ xs) bc.more; slash = λ h k. slash h (omega arith) }

pub longer-append_names : (text : List ℕ) (names : Path) → ExtendsString text (append_names text names)
longer-append_names text [] = longer-itself text
longer-append_names text (name ∷ names) = longer-trans text (append_name text name) (append_names (append_name text name) names) (longer-append_name text name) (longer-append_names (append_name text name) names)

pub append_names-append : (text : List ℕ) (names : Path) (name : Name) → append_names text (names ++ name ∷ []) ≡ append_name (append_names text names) name
append_names-append text [] name = refl
append_names-append text (first ∷ names) name = append_names-append (append_name text first) names name

-- the components of a string with an appended component
components-append_name : (text : List ℕ) (name : Name) → IsTrue (is_path_string text) → IsTrue (is_name name) → IsJoined text name (append_name text name)
components-append_name [] name valid ok = joined_by [] name name valid ok (components-name name ok)
components-append_name (b ∷ bs) name valid ok = joined_by (b ∷ bs) name ((b ∷ bs) ++ 47 ∷ name) valid ok (components-join (b ∷ bs) name (omega arith) ok)

pub record IsAppended (text : List ℕ) (names : Path) (longer : List ℕ) : Type 0 where
  pub valid : IsTrue (is_path_string longer)
  pub is : components longer ≡ components text ++ names

pub extended_text : (text : List ℕ) (names : Path) → IsTrue (is_path_string text) → list_all is_name names ≡ true → IsAppended text names (append_names text names)
extended_text text [] valid all = record { valid = valid; is = sym (append-nil (components text)) }
extended_text text (name ∷ names) valid all =
    let parts = and_parts (is_name name) (list_all is_name names) all in
    let first = components-append_name text name valid parts.0 in
    let others = extended_text (append_name text name) names first.valid parts.1 in
    record { valid = others.valid; is = others.is ∙ ap (λ l. l ++ names) first.is ∙ append_assoc (components text) (name ∷ []) names }

all_valid : (added : List RepoPathComponent) → list_all is_name (map name_of added) ≡ true
all_valid [] = refl
all_valid (x ∷ added) = and_from _ _ x.valid (all_valid added)

pub extended_by : (text longer : List ℕ) (added : List RepoPathComponent) → IsTrue (is_path_string text) → longer ≡ append_names text (map name_of added) → IsAppended text (map name_of added) longer
extended_by text longer added valid is =
    let made = extended_text text (map name_of added) valid (all_valid added) in
    record { valid = ap is_path_string is ∙ made.valid; is = ap components is ∙ made.is }
