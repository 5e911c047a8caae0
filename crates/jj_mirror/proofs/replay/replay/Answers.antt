use Rattle.std.proofs.Common.{[], length, refl, sym, ap, subst}
use Rattle.std.proofs.lemmas.Option.{slice_get_read}
use Rattle.std.proofs.lemmas.Result.{err_from_is_err_and}
use Rattle.jj_trees.specs.MemoryObjects.{MemoryBackendValue}
use Rattle.jj_mirror.specs.Replays.{IsReplay}
use Rattle.jj_mirror.proofs.ReplayedAgain.{replayed_again}
use Rattle.jj_mirror.proofs.ReplayedEntries.{replay_nil, replay_more, replay_error}
use Rattle.jj_mirror.proofs.replay.replay.Goals as goal

pub write_entry-requires : goal.write_entry-requires
write_entry-requires c = ap (λ (b : MemoryBackendValue). b.id_length) c.loop-entry.invariant.ids

pub loop-entry-init : goal.loop-entry-init
loop-entry-init c = subst (IsReplay []) (sym c.in_ok-backend.ensures) replay_nil

pub loop-entry-preserved : goal.loop-entry-preserved
loop-entry-preserved c =
    replay_more c.args.entries.now c.loop-entry.entry-index c.loop-entry.backend c.write_entry.new.backend c.entry-item.result c.loop-entry-test.true c.entry-item.is c.loop-entry.invariant
    c.in_ok-write_entry.ensures.ok

pub returns-in_err-write_entry-clause-again : goal.returns-in_err-write_entry-clause-again
returns-in_err-write_entry-clause-again c = λ backend replay.
    let p = err_from_is_err_and c.from_residual-in_err-write_entry.result c.from_residual-in_err-write_entry.ensures.1 in
    let entries = c.args.entries.now in
    let i = c.loop-entry.entry-index in
    let at = slice_get_read entries (length entries) i c.entry-item.result refl c.loop-entry-test.true c.entry-item.is in
    rw (p.1, p.2) (replayed_again entries backend c.in_err-write_entry.field-0.0 replay
    (replay_error entries i c.entry-item.result c.loop-entry.backend c.in_err-write_entry.field-0.0 at c.loop-entry.invariant c.in_err-write_entry.ensures.error))
