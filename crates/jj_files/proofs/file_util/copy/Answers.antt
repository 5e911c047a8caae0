use Rattle.std.proofs.Common.{◌≡◌, ◌++◌, ◌∙◌, ap, sym, length, take, arith, length-append, append_assoc, subst}
use Rattle.std.specs.Io.KnownBytes.{Consumes}
use Rattle.std.proofs.KnownBytes.{Appends-trans, Consumes-trans}
use Rattle.jj_files.proofs.file_util.copy.Goals as goal

pub loop-n-preserved : goal.loop-n-preserved
loop-n-preserved g c =
    let (moved, count, read, written, reader_works, writer_works) = c.loop-n.invariant in
    let piece = take c.in_ok-n.n c.read.new.buf in
    let long : length piece ≡ c.in_ok-n.n = sym c.in_ok-n.ensures.bound.1 in (
      moved ++ piece,
      omega (arith, length-append moved piece, long, c.saturating_add-count.ensures, count),
      Consumes-trans _ _ _ _ _ read c.in_ok-n.ensures.bytes.0,
      Appends-trans _ _ _ _ _ written c.in_ok-write_all.ensures.ok,
      c.in_ok-n.ensures.failure ∙ reader_works,
      c.in_ok-write_all.ensures.failure ∙ writer_works,
    )

pub returns-in_err-write_all-clause-prefix : goal.returns-in_err-write_all-clause-prefix
returns-in_err-write_all-clause-prefix g c =
    let (moved, count, read, written, reader_works, writer_works) = c.loop-n.invariant in
    let (prefix, rest, more, split) = c.write_all.ensures.prefix in
    let piece = take c.in_ok-n.n c.read.new.buf in
    let all_read = Consumes-trans _ _ _ _ _ read c.in_ok-n.ensures.bytes.0 in (
      moved ++ prefix,
      rest,
      subst (Consumes _ _) (ap (λ l. moved ++ l) (sym split) ∙ sym (append_assoc moved prefix rest)) all_read,
      Appends-trans _ _ _ _ _ written more,
    )
