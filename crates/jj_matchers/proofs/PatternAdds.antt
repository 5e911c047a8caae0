-- Appending globs to those of a directory in a trie of globs.
use Rattle.std.proofs.Common.{◌≡◌, ◌≢◌, ◌∙◌, ap, sym, refl, Bool, true, false, ◌&&◌, ◌||◌, List, [], ◌∷◌, ◌++◌, map, Option, Some, None, unwrap_or}
use mathlib.Core.Bool.{false≢true}
use Rattle.std.specs.Prelude.{All}
use Rattle.std.specs.List.{list_any}
use Rattle.std.specs.Option.{option_map}
use Rattle.std.proofs.lemmas.List.{map-append}
use Rattle.std.proofs.lemmas.List.Elements.{All-head, All-tail}
use Rattle.std.proofs.lemmas.List.Folds.{list_any-append}
use Rattle.jj_paths.specs.Paths.{Path}
use Rattle.jj_paths.specs.Orders.{path_eq, path_eq-Decides}
use Rattle.jj_paths.specs.Tree.{Tree, value_at, SetsValue}
use Rattle.jj_globs.specs.GlobMeaning.{GlobSpec}
use Rattle.jj_matchers.specs.PatternTree.{has_globs, marks_of, globs_at, AddsGlobs, IsPatternTree}
use Rattle.jj_matchers.proofs.SetMark.{IsBlank, IsMarkedAt, leads-set}
use Rattle.jj_matchers.proofs.PatternTrees.{value_at-marks}

-- the globs of a directory that was inserted as an ancestor: none
abbrev pub IsBare : List GlobSpec → Type 0
IsBare globs = globs ≡ []

has_globs-append : (front globs : List GlobSpec) → has_globs globs ≡ true → has_globs (front ++ globs) ≡ true
has_globs-append [] globs some = some
has_globs-append (g ∷ front) globs some = refl

module _ (old new : Tree (List GlobSpec)) (dir : Path) (globs all : List GlobSpec) (is : all ≡ globs_at old dir ++ globs) (some : has_globs globs ≡ true) (set : SetsValue IsBare old dir all new) where
  kept : (path : Path) → path ≢ dir → (o : Option (List GlobSpec)) → value_at old path ≡ o → (n : Option (List GlobSpec)) → value_at new path ≡ n → globs_at new path ≡ globs_at old path
  kept path off (Some g) e n f = ap (λ (o : Option (List GlobSpec)). unwrap_or o []) (set.keeps path g off e ∙ sym e)
  kept path off None e None f = ap (λ (o : Option (List GlobSpec)). unwrap_or o []) (f ∙ sym e)
  kept path off None e (Some g) f = ap (λ (o : Option (List GlobSpec)). unwrap_or o []) f ∙ (set.makes path g off e f).0 ∙ ap (λ (o : Option (List GlobSpec)). unwrap_or o []) (sym e)

  marked : IsMarkedAt (marks_of old) dir (marks_of new)
  marked = record {
    here = value_at-marks new dir ∙ ap (option_map has_globs) set.here ∙ ap (λ g. Some (has_globs g)) is ∙ ap (λ b. Some b) (has_globs-append (globs_at old dir) globs some);
    keeps = λ path v off e. keeps path v off (value_at old path) refl (sym (value_at-marks old path) ∙ e);
    makes = λ path v off e f. makes path v off (value_at old path) refl (sym (value_at-marks old path) ∙ e) (value_at new path) refl (sym (value_at-marks new path) ∙ f);
  }
    where
      keeps : (path : Path) (v : Bool) → path ≢ dir → (o : Option (List GlobSpec)) → value_at old path ≡ o → option_map has_globs (value_at old path) ≡ Some v → value_at (marks_of new) path ≡ Some v
      keeps path v off None e f = let clash : None ≡ Some v = sym (ap (option_map has_globs) e) ∙ f in cc
      keeps path v off (Some g) e f = value_at-marks new path ∙ ap (option_map has_globs) (set.keeps path g off e ∙ sym e) ∙ f

      makes : (path : Path) (v : Bool) → path ≢ dir → (o : Option (List GlobSpec)) → value_at old path ≡ o → option_map has_globs (value_at old path) ≡ None →
          (n : Option (List GlobSpec)) → value_at new path ≡ n → option_map has_globs (value_at new path) ≡ Some v → IsBlank v × ((rest : Path) × (dir ≡ path ++ rest))
      makes path v off (Some g) e f n at h = let clash : Some (has_globs g) ≡ None = sym (ap (option_map has_globs) e) ∙ f in absurd (some_none clash)
        where
          some_none : Some (has_globs g) ≡ None → ⊥
          some_none clash = cc
      makes path v off None e f None at h = let clash : None ≡ Some v = sym (ap (option_map has_globs) at) ∙ h in absurd (none_some clash)
        where
          none_some : None ≡ Some v → ⊥
          none_some clash = cc
      makes path v off None e f (Some g) at h =
          let made = set.makes path g off e at in
          let known : Some (has_globs g) ≡ Some v = sym (ap (option_map has_globs) at) ∙ h in
          let same : has_globs g ≡ v = cc in
          (sym same ∙ ap has_globs made.0, made.1)

  pub adds-set : AddsGlobs old dir globs new
  adds-set = record {
    here = ap (λ (o : Option (List GlobSpec)). unwrap_or o []) set.here ∙ is;
    others = λ path off. kept path off (value_at old path) refl (value_at new path) refl;
    leads = leads-set (marks_of old) (marks_of new) dir marked;
  }

-- patterns that are all of one directory
any_here : {X : Type 0} (f : X → Path × GlobSpec) (dir path : Path) (test : GlobSpec → Bool) (here : List X) → All (λ x. (f x).0 ≡ dir) here
    → list_any (λ p. path_eq path p.0 && test p.1) (map f here) ≡ (path_eq path dir && list_any test (map (λ x. (f x).1) here))
any_here f dir path test [] same = by_cases (path_eq path dir)
  where
    by_cases : (b : Bool) → false ≡ (b && false)
    by_cases true = refl
    by_cases false = refl
any_here f dir path test (x ∷ here) same =
    ap (λ d. (path_eq path d && test (f x).1) || list_any (λ p. path_eq path p.0 && test p.1) (map f here)) (All-head (λ y. (f y).0 ≡ dir) x here same)
    ∙ ap (λ b. (path_eq path dir && test (f x).1) || b) (any_here f dir path test here (All-tail (λ y. (f y).0 ≡ dir) x here same))
    ∙ by_cases (path_eq path dir)
  where
    by_cases : (b : Bool) → ((b && test (f x).1) || (b && list_any test (map (λ y. (f y).1) here))) ≡ (b && (test (f x).1 || list_any test (map (λ y. (f y).1) here)))
    by_cases true = refl
    by_cases false = refl

pub any_added : (old new : Tree (List GlobSpec)) (dir : Path) (globs : List GlobSpec) → AddsGlobs old dir globs new → (path : Path) (test : GlobSpec → Bool)
    → list_any test (globs_at new path) ≡ (list_any test (globs_at old path) || (path_eq path dir && list_any test globs))
any_added old new dir globs adds path test = by_path (path_eq path dir) refl
  where
    or_false : (b : Bool) → (b || false) ≡ b
    or_false true = refl
    or_false false = refl

    by_path : (t : Bool) → path_eq path dir ≡ t → list_any test (globs_at new path) ≡ (list_any test (globs_at old path) || (t && list_any test globs))
    by_path true e =
        let same : path ≡ dir = (path_eq-Decides path dir).0 e in
        ap (λ p. list_any test (globs_at new p)) same
        ∙ ap (list_any test) adds.here
        ∙ list_any-append test (globs_at old dir) globs
        ∙ ap (λ p. list_any test (globs_at old p) || list_any test globs) (sym same)
    by_path false e =
        ap (list_any test) (adds.others path (λ same. false≢true (sym e ∙ (path_eq-Decides path dir).1 same))) ∙ sym (or_false (list_any test (globs_at old path)))

-- appending the globs of a run of patterns extends the trie of the patterns before it
pub pattern_tree-more : {X : Type 0} (f : X → Path × GlobSpec) (before here : List X) (old new : Tree (List GlobSpec)) (dir : Path) → All (λ x. (f x).0 ≡ dir) here
    → IsPatternTree (map f before) old → AddsGlobs old dir (map (λ x. (f x).1) here) new → IsPatternTree (map f (before ++ here)) new
pattern_tree-more f before here old new dir same tree adds = record {
  globs = λ path test.
      any_added old new dir (map (λ x. (f x).1) here) adds path test
      ∙ ap (λ b. b || (path_eq path dir && list_any test (map (λ x. (f x).1) here))) (tree.globs path test)
      ∙ ap (λ b. list_any (λ p. path_eq path p.0 && test p.1) (map f before) || b) (sym (any_here f dir path test here same))
      ∙ sym (list_any-append (λ p. path_eq path p.0 && test p.1) (map f before) (map f here))
      ∙ ap (list_any (λ p. path_eq path p.0 && test p.1)) (sym (map-append f before here));
  leads = adds.leads tree.leads;
}
