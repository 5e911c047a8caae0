-- Files after changes: of equal files they are equal, and one more change is one more step.
use Rattle.std.proofs.Common.{◌≡◌, ◌∙◌, ℕ, Bool, true, false, List, [], ◌∷◌, ◌++◌, Option, Some, None, refl, sym, ap, if◌then◌else◌}
use Rattle.std.specs.Prelude.{is_some}
use Rattle.std.specs.Str.{bytes_eq}
use Rattle.std.proofs.lemmas.Slice.Eq.{bytes_eq-Decides}
use Rattle.jj_paths.specs.Paths.{Name, Path, IsBelow}
use Rattle.jj_backend.specs.Objects.{ById}
use Rattle.jj_backend.specs.Trees.{Entries}
use Rattle.jj_backend.specs.declared.backend.tree_value.TreeValue.{TreeValue}
use Rattle.jj_tree_builder.specs.Changes.{Change, Files, changed, files_at, put}

either : {X : Type 0} (t : Bool) (a b c d : X) → a ≡ b → c ≡ d → (if t then a else c) ≡ (if t then b else d)
either true a b c d e f = e
either false a b c d e f = f

choice : {X : Type 0} (t : Bool) (a c b : X) → a ≡ b → c ≡ b → (if t then a else c) ≡ b
choice true a c b e f = e
choice false a c b e f = f

module _ (trees : ById Entries) where
  pub files_at-none : (place : Path) → files_at trees None place ≡ None
  files_at-none [] = refl
  files_at-none (name ∷ place) = files_at-none place

  pub put-cong : (path : Path) (value : Option TreeValue) (m n : Files) → ((p : Path) → m p ≡ n p) → (place : Path) → put trees path value m place ≡ put trees path value n place
  put-cong [] value m n e place = refl
  put-cong (name ∷ rest) value m n e [] = ap (λ (o : Option TreeValue). if is_some value then None else o) (e [])
  put-cong (name ∷ rest) value m n e (other ∷ place) =
      either (bytes_eq name other) _ _ _ _ (put-cong rest value (λ below. m (other ∷ below)) (λ below. n (other ∷ below)) (λ p. e (other ∷ p)) place) (e (other ∷ place))

  pub changed-cong : (changes : List Change) (m n : Files) → ((p : Path) → m p ≡ n p) → (place : Path) → changed trees changes m place ≡ changed trees changes n place
  changed-cong [] m n e place = e place
  changed-cong (c ∷ cs) m n e place = changed-cong cs (put trees c.0 c.1 m) (put trees c.0 c.1 n) (put-cong c.0 c.1 m n e) place

  pub changed-append : (changes : List Change) (c : Change) (m : Files) (place : Path) → changed trees (changes ++ c ∷ []) m place ≡ put trees c.0 c.1 (changed trees changes m) place
  changed-append [] c m place = refl
  changed-append (b ∷ bs) c m place = changed-append bs c (put trees b.0 b.1 m) place

  -- there is nothing below nothing to remove
  pub put-none : (path : Path) (m : Files) → ((p : Path) → m p ≡ None) → (place : Path) → put trees path None m place ≡ None
  put-none [] m e place = files_at-none place
  put-none (name ∷ rest) m e [] = e []
  put-none (name ∷ rest) m e (other ∷ place) =
      choice (bytes_eq name other) _ _ _ (put-none rest (λ below. m (other ∷ below)) (λ p. e (other ∷ p)) place) (e (other ∷ place))

  -- ---- the laws of one change

  pub put-there : (path rest : Path) (value : Option TreeValue) (m : Files) → put trees path value m (path ++ rest) ≡ files_at trees value rest
  put-there [] rest value m = refl
  put-there (name ∷ path) rest value m =
      ap (λ (b : Bool). if b then put trees path value (λ below. m (name ∷ below)) (path ++ rest) else m (name ∷ (path ++ rest))) ((bytes_eq-Decides name name).1 refl)
      ∙ put-there path rest value (λ below. m (name ∷ below))

  pub put-above : (place rest : Path) (value : TreeValue) (m : Files) → (rest ≡ [] → ⊥) → put trees (place ++ rest) (Some value) m place ≡ None
  put-above [] [] value m more = absurd (more refl)
  put-above [] (name ∷ rest) value m more = refl
  put-above (name ∷ place) rest value m more =
      ap (λ (b : Bool). if b then put trees (place ++ rest) (Some value) (λ below. m (name ∷ below)) place else m (name ∷ place)) ((bytes_eq-Decides name name).1 refl)
      ∙ put-above place rest value (λ below. m (name ∷ below)) more

  pub put-elsewhere : (path place : Path) (value : Option TreeValue) (m : Files) → (IsBelow place path → ⊥) → (IsBelow path place → ⊥) → put trees path value m place ≡ m place
  put-elsewhere [] place value m apart others = absurd (apart (place, refl))
  put-elsewhere (name ∷ path) [] value m apart others = absurd (others (name ∷ path, refl))
  put-elsewhere (name ∷ path) (other ∷ place) value m apart others =
      by_test (λ a b. put-elsewhere path place value (λ below. m (other ∷ below)) a b) (bytes_eq name other) refl
    where
      lifted : (a b : Name) (p q : Path) → a ≡ b → IsBelow p q → IsBelow (a ∷ p) (b ∷ q)
      lifted a b p q e h = (h.0, ap (λ (n : Name). n ∷ p) e ∙ ap (λ (l : Path). b ∷ l) h.1)

      by_test : ((IsBelow place path → ⊥) → (IsBelow path place → ⊥) → put trees path value (λ below. m (other ∷ below)) place ≡ m (other ∷ place))
          → (t : Bool) → bytes_eq name other ≡ t → (if t then put trees path value (λ below. m (other ∷ below)) place else m (other ∷ place)) ≡ m (other ∷ place)
      by_test hyp false h = refl
      by_test hyp true h =
          let same : name ≡ other = (bytes_eq-Decides name other).0 h in
          hyp (λ b. apart (lifted other name place path (sym same) b)) (λ b. others (lifted name other path place same b))
