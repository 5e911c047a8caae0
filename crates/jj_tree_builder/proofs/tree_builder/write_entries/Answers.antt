use Rattle.std.proofs.Common.{◌≡◌, ◌∙◌, ◌++◌, ◌∷◌, [], ap, sym, append_assoc, append-nil}
use Rattle.std.specs.Map.{lookup}
use Rattle.std.specs.Str.{bytes_eq}
use Rattle.jj_backend.specs.Trees.{Entries}
use Rattle.jj_tree_builder.proofs.EntryMaps.{child_at, get-lookup, is_none_from}
use Rattle.jj_tree_builder.proofs.tree_builder.write_entries.Goals as goal

pub loop-entry-preserved : goal.loop-entry-preserved
loop-entry-preserved g c =
    ap (λ (l : Entries). l ++ c.pop_first.new.self.entries) c.in_ok-push.ensures.items
    ∙ append_assoc c.loop-entry.list.items (c.in-Some.entry ∷ []) c.pop_first.new.self.entries
    ∙ ap (λ (l : Entries). c.loop-entry.list.items ++ l) (sym c.in-Some.ensures.removal)
    ∙ c.loop-entry.invariant

pub returns-clause-entries : goal.returns-clause-entries
returns-clause-entries g c = λ trees grown name.
    let stored = c.in_ok-id.ensures.tree in
    let done = is_none_from c.loop-entry.entries.entries c.pop_first.result c.in_default.is c.pop_first.ensures.variant in
    let whole : c.loop-entry.list.items ≡ c.args.entries.entries =
    sym (append-nil c.loop-entry.list.items) ∙ ap (λ (l : Entries). c.loop-entry.list.items ++ l) (sym done) ∙ c.loop-entry.invariant in
    child_at trees c.in_ok-id.id stored.0 name (grown c.in_ok-id.id stored.0 stored.1)
    ∙ stored.2 name
    ∙ ap (λ (l : Entries). lookup (bytes_eq name) l) whole
    ∙ sym (get-lookup c.args.entries name)
