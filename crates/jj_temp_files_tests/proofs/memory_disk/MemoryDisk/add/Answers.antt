use Rattle.std.proofs.Common.{rules, Some, None, cond, ap, refl}
use Rattle.jj_temp_files_tests.proofs.memory_disk.MemoryDisk.add.Goals as goal

pub returns-clause-ok : goal.returns-clause-ok
returns-clause-ok c = record {
  edit = record { path = c.in_ok-from_str.field-0; bytes = c.in_ok-copy_bytes.field-0; is_there = c.args.is_there; is_synced = c.args.is_synced };
  is = search rules;
  at = search rules;
  there = ap (λ bytes. cond c.args.is_there (Some bytes) None) c.in_ok-copy_bytes.ensures;
  is_synced = refl;
}
