use Rattle.std.proofs.lemmas.Result.{on_err_weaker}
use Rattle.jj_content.proofs.AbsorbedPrefixes.{prefix_first, prefix_next, on_err_from}
use Rattle.jj_content_tests.proofs.records.KindContentHash.hash.Goals as goal

pub returns-in_err-hash-in-File-clause-err : goal.returns-in_err-hash-in-File-clause-err
returns-in_err-hash-in-File-clause-err g c = rw c.in-File.is (on_err_from _ (prefix_first _ _ _ _ _ c.in_err-hash-in-File.ensures.err))

pub returns-in_ok-hash-in-File-clause-err : goal.returns-in_ok-hash-in-File-clause-err
returns-in_ok-hash-in-File-clause-err g c =
    rw c.in-File.is (on_err_weaker c.hash_both.result (λ f. prefix_next _ _ _ _ _ _ c.in_ok-hash-in-File.ensures.ok f) c.hash_both.ensures.err)

pub returns-in_ok-hash-in-Symlink-clause-err : goal.returns-in_ok-hash-in-Symlink-clause-err
returns-in_ok-hash-in-Symlink-clause-err g c =
    rw c.in-Symlink.is (on_err_weaker c.hash-in-Symlink-2.result (λ f. prefix_next _ _ _ _ _ _ c.in_ok-hash-in-Symlink.ensures.ok f) c.hash-in-Symlink-2.ensures.err)
