-- Commits that a store got.
use Rattle.std.proofs.Common.{◌≡◌, ◌∙◌, ℕ, List, Some, true, ap, refl, sym}
use Rattle.std.specs.Str.{bytes_eq}
use Rattle.std.proofs.lemmas.Slice.Eq.{bytes_eq-Decides}
use Rattle.jj_backend.specs.Objects.{ById, Objects, put}
use Rattle.jj_backend.specs.Records.{CommitValue}
use Rattle.jj_history_merges.specs.CommitMerges.{AddsCommits}

pub put_found : {V : Type 0} (m : ById V) (id : List ℕ) (v : V) → put m id v id ≡ Some v
put_found m id v = let same : bytes_eq id id ≡ true = (bytes_eq-Decides id id).1 refl in rw same refl

pub adds_commit : (old new : Objects) (id : List ℕ) (commit : CommitValue) → new ≡ record old { commits = put old.commits id commit } → AddsCommits old new
adds_commit old new id commit is = is ∙ ap (λ (commits : ById CommitValue). record old { commits = commits }) (sym (ap (λ (o : Objects). o.commits) is))
