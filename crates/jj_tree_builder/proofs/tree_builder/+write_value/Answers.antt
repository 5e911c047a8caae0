use Rattle.std.proofs.Common.{◌∙◌, ap, sym}
use Rattle.jj_trees.proofs.StoredTries.{adds_more}
use Rattle.jj_tree_builder.proofs.EntryMaps.{finished, is_none_from, some_from, written_step}
use Rattle.jj_tree_builder.proofs.tree_builder.+write_value.Goals as goal

pub returns-in_err-entry-clause-objects : goal.returns-in_err-entry-clause-objects
returns-in_err-entry-clause-objects g t c =
    adds_more (g.B.Backend.objects c.args.backend.now) (g.B.Backend.objects c.loop-name.backend) (g.B.Backend.objects c.write_value.new.backend) c.loop-name.invariant.objects c.write_value.ensures.objects

pub loop-name-preserved : goal.loop-name-preserved
loop-name-preserved g t c = record {
  files = λ trees grown name place.
      written_step trees c.loop-name.below c.pop_first.new.self c.loop-name.entries c.remove-base.new.self c.set_entry.new.entries c.in-Some.name c.in-Some.changes c.in_ok-entry.entry c.remove-base.result
      c.in-Some.ensures.value c.in-Some.ensures.updates.0 c.remove-base.ensures.value c.remove-base.ensures.updates.0 c.in_ok-set_entry.ensures (c.in_ok-entry.ensures.files trees grown) name place
      ∙ c.loop-name.invariant.files trees (λ id entries is. grown id entries (c.write_value.ensures.objects.kept id entries is)) name place;
  objects = adds_more (g.B.Backend.objects c.args.backend.now) (g.B.Backend.objects c.loop-name.backend) (g.B.Backend.objects c.write_value.new.backend) c.loop-name.invariant.objects c.write_value.ensures.objects;
  same = c.write_value.ensures.fixed ∙ c.loop-name.invariant.same;
}

pub returns-clause-files : goal.returns-clause-files
returns-clause-files g t c = λ trees grown place.
    finished trees c.in_ok-value.field-0 c.in_ok-written.written c.loop-name.below c.in_ok-entries.entries c.loop-name.entries c.in_ok-value.ensures.open (some_from c.in_ok-value.field-0.below.entries c.is_empty.result c.if-is_empty.false c.is_empty.ensures)
    c.in_ok-written.ensures.directory (c.in_ok-written.ensures.entries trees grown)
    (c.in_ok-entries.ensures trees (λ id entries is. grown id entries (c.write_entries.ensures.objects.kept id entries (c.loop-name.invariant.objects.kept id entries is))))
    (is_none_from c.loop-name.below.entries c.pop_first.result c.in_default.is c.pop_first.ensures.variant)
    (c.loop-name.invariant.files trees (λ id entries is. grown id entries (c.write_entries.ensures.objects.kept id entries is))) place
    ∙ c.in_ok-value.ensures.files trees place
