-- Loop step of emptying a directory: one more entry removed, or the error.
use Rattle.std.proofs.Common.{◌≡◌, ℕ, List, [], ◌∷◌, ◌++◌, ◌∙◌, ◌<◌, zero, suc, Result, Ok, Err, map, take, drop, length, get_or, ap, sym, refl, subst, arith, append_assoc, take-append-drop}
use Rattle.std.specs.Path.{path_join}
use Rattle.std.specs.declared.io.Error.{Error}
use Rattle.jj_files.specs.Directories.{CallRelation, RemovesEach}
use Rattle.jj_files.specs.PathErrors.{AddsPath, IsAtPath}
use Rattle.jj_files.specs.declared.file_util.errors.PathError.{PathError}
use Rattle.jj_files.proofs.ErrorContexts.{error_before, value_before}

pub removes_one_more : {D : Type 0} (may_remove : CallRelation D) (dir : List ℕ) (names : List (List ℕ)) (name : List ℕ) (old between new : D)
    → RemovesEach may_remove dir names old between → may_remove between (path_join dir name) (Ok tt) new → RemovesEach may_remove dir (names ++ name ∷ []) old new
removes_one_more {D} may_remove dir [] name old between new done one =
    (new, subst (λ (d : D). may_remove d (path_join dir name) (Ok tt) new) done one, refl)
removes_one_more may_remove dir (first ∷ names) name old between new done one =
    (done.0, done.1, removes_one_more may_remove dir names name done.0 between new done.2 one)

-- the call at an entry's path, from its result with the path added
module _ {D : Type 0} (may_remove : CallRelation D) (dir name shown entry tried added : List ℕ) (old new : D) (outcome : Result (Unit {0}) Error)
    (named : shown ≡ name) (joined : entry ≡ path_join dir shown) (asked : tried ≡ entry) (told : added ≡ entry) (called : may_remove old tried outcome new) where
  called_at : may_remove old (path_join dir name) outcome new
  called_at = subst (λ (p : List ℕ). may_remove old p outcome new) (asked ∙ joined ∙ ap (path_join dir) named) called

  pub removed : (done : Unit {0}) → AddsPath added outcome (Ok done) → may_remove old (path_join dir name) (Ok tt) new
  removed done h = subst (λ (r : Result (Unit {0}) Error). may_remove old (path_join dir name) r new) (value_before added outcome done h) called_at

  pub not_removed : (fault : PathError) → AddsPath added outcome (Err fault)
      → (error : Error) × may_remove old (path_join dir name) (Err error) new × IsAtPath (path_join dir name) error fault
  not_removed fault h =
      let failed = error_before added outcome fault h in (
        failed.0,
        subst (λ (r : Result (Unit {0}) Error). may_remove old (path_join dir name) r new) failed.1 called_at,
        subst (λ (p : List ℕ). IsAtPath p failed.0 fault) (told ∙ joined ∙ ap (path_join dir) named) failed.2,
      )

-- the images of the elements up to index i
pub take_mapped : {A B : Type 0} (f : A → B) (xs : List A) (i : ℕ) (x : A) → i < length xs → x ≡ get_or xs i x → take (suc i) (map f xs) ≡ take i (map f xs) ++ f x ∷ []
take_mapped f [] i x lt is = absurd (omega arith)
take_mapped f (y ∷ ys) zero x lt is = ap (λ v. f v ∷ []) (sym is)
take_mapped f (y ∷ ys) (suc i) x lt is = ap (λ l. f y ∷ l) (take_mapped f ys i x (omega arith) is)

-- the images of all elements, split at index i
pub split_at_index : {A B : Type 0} (f : A → B) (xs : List A) (i : ℕ) (x : A) → i < length xs → x ≡ get_or xs i x
    → map f xs ≡ take i (map f xs) ++ f x ∷ drop (suc i) (map f xs)
split_at_index f xs i x lt is =
    sym (take-append-drop (suc i) (map f xs)) ∙ ap (λ l. l ++ drop (suc i) (map f xs)) (take_mapped f xs i x lt is)
    ∙ append_assoc (take i (map f xs)) (f x ∷ []) (drop (suc i) (map f xs))
