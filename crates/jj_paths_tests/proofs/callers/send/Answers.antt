use Rattle.std.proofs.Common.{ℕ, List, ◌++◌, Option, Some, None, ap, sym, subst, ◌∙◌, append_assoc}
use Rattle.std.specs.Io.KnownBytes.{Appends, Consumes}
use Rattle.jj_files.specs.Streams.{AppendsPrefixOf}
use Rattle.jj_files.specs.WatchedFields.{watched_inner}
use Rattle.jj_paths_tests.proofs.callers.send.Goals as goal

-- the written part of the bytes that were read is a prefix of them
begins : (bytes : List ℕ) (left : Option (List ℕ)) (old new : Option (List ℕ)) → (written lost : List ℕ) × Consumes (Some bytes) left (written ++ lost) × Appends old new written → AppendsPrefixOf old new bytes
begins bytes None old new (written, lost, taken, grown) = absurd taken
begins bytes (Some rest) old new (written, lost, taken, grown) = (written, lost ++ rest, grown, sym (append_assoc written lost rest) ∙ sym taken)

pub returns-clause-prefix : goal.returns-clause-prefix
returns-clause-prefix g c =
    let old = g.W.Sink.contents c.args.sink.now in
    let new = g.W.Sink.contents c.copy.new.writer in
    subst (AppendsPrefixOf old new) (ap (λ b. b.now) c.new.ensures.inner)
    (begins (watched_inner c.new.result).now (Some (watched_inner c.copy.new.reader).now) old new c.copy.ensures.prefix)
