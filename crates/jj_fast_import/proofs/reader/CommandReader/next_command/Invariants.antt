-- The unread bytes stay the same until there is a whole command.
use Rattle.std.proofs.Common.{◌≡◌, false}
use Rattle.std.specs.Io.KnownBytes.{Keeps}
use Rattle.jj_fast_import.specs.Streams.{is_done, is_end_announced, unread_bytes}
use Rattle.jj_fast_import.proofs.reader.CommandReader.next_command.Given as goal

abbrev pub invariant-loop : goal.invariant-loop
invariant-loop g l = record {
  unread : Keeps (unread_bytes g.R.Source.remaining l.fn.self) (unread_bytes g.R.Source.remaining l.self);
  before : is_done l.fn.self ≡ false;
  done : is_done l.self ≡ false;
  announced : is_end_announced l.self ≡ is_end_announced l.fn.self;
}
