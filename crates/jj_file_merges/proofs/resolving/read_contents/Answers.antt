use Rattle.std.proofs.Common.{◌≡◌, ℕ, Some, inr, sym}
use Rattle.std.proofs.lemmas.Result.{err_from_is_err_and}
use Rattle.std.specs.Global.{Global}
use Rattle.std.proofs.Common.{Vec}
use Rattle.jj_file_merges.proofs.Zips.{zip_more_images}
use Rattle.jj_file_merges.proofs.resolving.read_contents.Goals as goal

pub returns-in_err-content-clause-error : goal.returns-in_err-content-clause-error
returns-in_err-content-clause-error g c =
    let p = err_from_is_err_and c.from_residual-in_err-content.result c.from_residual-in_err-content.ensures.1 in
    rw (p.1, p.2) (inr (c.id-item.result, (c.loop-id.id-index, c.loop-id-test.true, sym c.id-item.is), c.in_err-content.ensures))

pub loop-id-preserved : goal.loop-id-preserved
loop-id-preserved g c =
    rw c.in_ok-push.ensures.items
    (zip_more_images (λ id content. (g.B.Backend.objects c.args.backend.now).files id ≡ Some content) (λ (v : Vec ℕ Global). v.items) c.args.ids.now c.loop-id.contents.items c.loop-id.id-index c.id-item.result c.in_ok-content.content
    c.loop-id-test.true c.id-item.is c.loop-id.invariant c.in_ok-content.ensures)
