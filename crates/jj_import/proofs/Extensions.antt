-- Extensions of stores: of equal stores, one after the other, and those of single writes.
use Rattle.std.proofs.Common.{◌≡◌, ◌∙◌, inl, inr, ℕ, Bool, true, false, List, Some, None, refl, sym, ap, subst}
use Rattle.std.specs.Prelude.{Result, Ok, Err, IfOk, OnErr}
use Rattle.std.specs.Str.{bytes_eq}
use Rattle.std.proofs.lemmas.Slice.Eq.{bytes_eq-Decides}
use Rattle.jj_backend.specs.Objects.{ById, Objects, AddsCommit, AddsFile, AddsSymlink, IsFree, put}
use Rattle.jj_backend.specs.Records.{CommitValue}
use Rattle.jj_backend.specs.declared.backend.errors.BackendError.{BackendError}
use Rattle.jj_trees.specs.WrittenTrees.{AddsTrees}
use Rattle.jj_import.specs.Stored.{IsExtended, IsPart}

pub extended_none : (o : Objects) → IsExtended o o
extended_none o = record {
  files = λ id v h. h;
  symlinks = λ id v h. h;
  copies = λ id v h. h;
  trees = λ id v h. h;
  commits = λ id v h. h;
}

pub extended_same : (old new : Objects) → new ≡ old → IsExtended old new
extended_same old new e = subst (IsExtended old) (sym e) (extended_none old)

pub extended_more : (a b c : Objects) → IsExtended a b → IsExtended b c → IsExtended a c
extended_more a b c h k = record {
  files = λ id v e. k.files id v (h.files id v e);
  symlinks = λ id v e. k.symlinks id v (h.symlinks id v e);
  copies = λ id v e. k.copies id v (h.copies id v e);
  trees = λ id v e. k.trees id v (h.trees id v e);
  commits = λ id v e. k.commits id v (h.commits id v e);
}

module _ {V : Type 0} (old : ById V) (id : List ℕ) (value : V) where
  pub put_here : put old id value id ≡ Some value
  put_here = rw ((bytes_eq-Decides id id).1 refl) refl

  pub part_put : IsFree old id value → IsPart old (put old id value)
  part_put free q found is = by_test (bytes_eq id q) refl
    where
      same : (id ≡ q) → (free' : IsFree old id value) → value ≡ found
      same e (inl nothing) = let both : None ≡ Some found = sym nothing ∙ ap old e ∙ is in absurd cc
      same e (inr there) = let both : Some value ≡ Some found = sym there ∙ ap old e ∙ is in cc

      by_test : (t : Bool) → bytes_eq id q ≡ t → put old id value q ≡ Some found
      by_test true h = rw h (ap Some (same ((bytes_eq-Decides id q).0 h) free))
      by_test false h = rw h is

-- ---- writes

module _ (old new : Objects) where
  pub file_there : (id contents : List ℕ) → AddsFile old new id contents → new.files id ≡ Some contents
  file_there id contents h = ap (λ (o : Objects). o.files id) h.1 ∙ put_here old.files id contents

  pub extended_file : (id contents : List ℕ) → AddsFile old new id contents → IsExtended old new
  extended_file id contents h =
      subst (IsExtended old) (sym h.1)
      (record {
        files = part_put old.files id contents h.0;
        symlinks = λ q v e. e;
        copies = λ q v e. e;
        trees = λ q v e. e;
        commits = λ q v e. e;
      })

  pub link_there : (id target : List ℕ) → AddsSymlink old new id target → new.symlinks id ≡ Some target
  link_there id target h = ap (λ (o : Objects). o.symlinks id) h.1 ∙ put_here old.symlinks id target

  pub extended_link : (id target : List ℕ) → AddsSymlink old new id target → IsExtended old new
  extended_link id target h =
      subst (IsExtended old) (sym h.1)
      (record {
        files = λ q v e. e;
        symlinks = part_put old.symlinks id target h.0;
        copies = λ q v e. e;
        trees = λ q v e. e;
        commits = λ q v e. e;
      })

  pub commit_there : (id : List ℕ) (commit : CommitValue) → AddsCommit old new id commit → new.commits id ≡ Some commit
  commit_there id commit h = ap (λ (o : Objects). o.commits id) h.1 ∙ put_here old.commits id commit

  pub extended_commit : (id : List ℕ) (commit : CommitValue) → AddsCommit old new id commit → IsExtended old new
  extended_commit id commit h =
      subst (IsExtended old) (sym h.1)
      (record {
        files = λ q v e. e;
        symlinks = λ q v e. e;
        copies = λ q v e. e;
        trees = λ q v e. e;
        commits = part_put old.commits id commit h.0;
      })

  pub extended_trees : AddsTrees old new → IsExtended old new
  extended_trees h = record {
    files = λ id v e. ap (λ (o : Objects). o.files id) h.others ∙ e;
    symlinks = λ id v e. ap (λ (o : Objects). o.symlinks id) h.others ∙ e;
    copies = λ id v e. ap (λ (o : Objects). o.copies id) h.others ∙ e;
    trees = h.kept;
    commits = λ id v e. ap (λ (o : Objects). o.commits id) h.others ∙ e;
  }

  -- a write of a file, whether it fails or not
  pub extended_file_write : (contents : List ℕ) (r : Result (List ℕ) BackendError) → IfOk r (λ id. AddsFile old new id contents) → OnErr r (new ≡ old) → IsExtended old new
  extended_file_write contents (Ok id) h k = extended_file id contents h
  extended_file_write contents (Err e) h k = extended_same old new k

  pub extended_link_write : (target : List ℕ) (r : Result (List ℕ) BackendError) → IfOk r (λ id. AddsSymlink old new id target) → OnErr r (new ≡ old) → IsExtended old new
  extended_link_write target (Ok id) h k = extended_link id target h
  extended_link_write target (Err e) h k = extended_same old new k
