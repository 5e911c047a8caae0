-- Sets of sorted names: lookups, insertions and conversions.
use Rattle.std.proofs.Common.{◌≡◌, Bool, true, false, ◌&&◌, ◌||◌, List, [], ◌∷◌, refl, ap, sym, ◌∙◌}
use Rattle.std.specs.declared.cmp.Ordering.{Ordering}
use Rattle.std.specs.declared.cmp.Ordering.TheVariants.{Less, Equal, Greater}
use Rattle.std.specs.Ordering.{is_eq, match_ordering}
use Rattle.std.specs.BTreeMap.{is_at}
use Rattle.std.specs.BTreeSet.{insert_key}
use Rattle.std.specs.Cmp.Lexicographic.{texts_ties}
use Rattle.std.specs.List.{list_any}
use Rattle.std.specs.Str.{bytes_eq}
use mathlib.Core.Bool.{false≢true}
use Rattle.std.proofs.lemmas.Slice.Eq.{bytes_eq-Decides}
use Rattle.jj_paths.specs.Names.{name_of}
use Rattle.jj_paths.specs.Paths.{Name, name_cmp}
use Rattle.jj_paths.specs.declared.repo_path.RepoPathComponent.{RepoPathComponent}
use Rattle.jj_matchers.specs.SortedVisits.{is_named}

abbrev component_cmp : RepoPathComponent → RepoPathComponent → Ordering
component_cmp a b = name_cmp (name_of a) (name_of b)

or_twice : (a b : Bool) → (a || (a || b)) ≡ (a || b)
or_twice true b = refl
or_twice false b = refl

or_swap : (a b c : Bool) → (a || (b || c)) ≡ (b || (a || c))
or_swap true true c = refl
or_swap true false c = refl
or_swap false b c = refl

-- a lookup compares as the names do
pub named-at : (name : RepoPathComponent) (keys : List RepoPathComponent) → list_any (is_at (component_cmp name)) keys ≡ is_named keys (name_of name)
named-at name [] = refl
named-at name (key ∷ keys) = λ i. sym (texts_ties (name_of name) (name_of key)) i || named-at name keys i

-- the names after an insertion
pub named-insert : (keys : List RepoPathComponent) (key : RepoPathComponent) (name : Name) → is_named (insert_key component_cmp keys key) name ≡ (bytes_eq name (name_of key) || is_named keys name)
named-insert [] key name = refl
named-insert (first ∷ keys) key name = by_order (component_cmp key first) refl (named-insert keys key name)
  where
    by_order : (order : Ordering) → component_cmp key first ≡ order → is_named (insert_key component_cmp keys key) name ≡ (bytes_eq name (name_of key) || is_named keys name)
        → is_named (match_ordering order (key ∷ first ∷ keys) (first ∷ keys) (first ∷ insert_key component_cmp keys key)) name
        ≡ (bytes_eq name (name_of key) || (bytes_eq name (name_of first) || is_named keys name))
    by_order Less e later = refl
    by_order Equal e later =
        let same : name_of key ≡ name_of first = (bytes_eq-Decides (name_of key) (name_of first)).0 (texts_ties (name_of key) (name_of first) ∙ ap is_eq e) in
        sym (or_twice (bytes_eq name (name_of first)) (is_named keys name)) ∙ ap (λ n. bytes_eq name n || (bytes_eq name (name_of first) || is_named keys name)) (sym same)
    by_order Greater e later =
        ap (λ b. bytes_eq name (name_of first) || b) later ∙ or_swap (bytes_eq name (name_of first)) (bytes_eq name (name_of key)) (is_named keys name)

pub or_if : (a b condition : Bool) → condition ≡ true → (a || b) ≡ (a && condition || b)
or_if true b true e = refl
or_if false b true e = refl
or_if a b false e = absurd (false≢true e)

-- one name moves from the remaining ones to those so far
pub named_next : (at before left all : Bool) → (before || (at || left)) ≡ all → ((at || before) || left) ≡ all
named_next true true left all e = e
named_next true false left all e = e
named_next false before left all e = e

-- one name of a set moves to the common ones, if it is also in the other set
pub common_next : (others : List RepoPathComponent) (key : RepoPathComponent) (name : Name) (before left all : Bool) → (before || ((bytes_eq name (name_of key) || left) && is_named others name)) ≡ all
    → ((bytes_eq name (name_of key) && is_named others (name_of key) || before) || (left && is_named others name)) ≡ all
common_next others key name before left all e = by_name (bytes_eq name (name_of key)) refl
  where
    swapped : (b o l : Bool) → ((o || b) || (l && o)) ≡ (b || o)
    swapped true true l = refl
    swapped true false l = refl
    swapped false true l = refl
    swapped false false true = refl
    swapped false false false = refl

    by_name : (t : Bool) → bytes_eq name (name_of key) ≡ t → ((t && is_named others (name_of key) || before) || (left && is_named others name)) ≡ all
    by_name true same =
        ap (λ n. (is_named others n || before) || (left && is_named others name)) (sym ((bytes_eq-Decides name (name_of key)).0 same))
        ∙ swapped before (is_named others name) left
        ∙ ap (λ t. before || ((t || left) && is_named others name)) (sym same) ∙ e
    by_name false differs = ap (λ t. before || ((t || left) && is_named others name)) (sym differs) ∙ e
