use Rattle.std.proofs.Common.{◌≡◌, ◌∙◌, ◌++◌, ◌∷◌, [], map, ap, sym, append_assoc, append-nil}
use Rattle.std.proofs.lemmas.List.{map-append}
use Rattle.std.specs.Map.{lookup}
use Rattle.std.specs.Str.{bytes_eq}
use Rattle.jj_backend.specs.Trees.{Entries, entry_of, entries_left}
use Rattle.jj_tree_builder.proofs.EntryMaps.{entry_step}
use Rattle.jj_tree_builder.proofs.tree_builder.entries_of.Goals as goal

pub loop-entry-preserved : goal.loop-entry-preserved
loop-entry-preserved c =
    let xs = map entry_of c.loop-entry.yielded in
    let e = entry_of c.in-Some.entry in
    let more : map entry_of (c.loop-entry.yielded ++ c.in-Some.entry ∷ []) ≡ xs ++ e ∷ [] = map-append entry_of c.loop-entry.yielded (c.in-Some.entry ∷ []) in
    let before : xs ++ e ∷ entries_left c.next.new.self ≡ c.args.tree.now = ap (λ (l : Entries). xs ++ l) (sym c.in-Some.ensures.steps) ∙ c.loop-entry.invariant.whole in
    record {
      found = λ name. entry_step xs (entries_left c.next.new.self) c.args.tree.now e c.loop-entry.entries c.copy_entry.new.entries before c.entries-entry-items.ensures.ascending c.loop-entry.invariant.found c.in_ok-copy_entry.ensures name
          ∙ ap (λ (l : Entries). lookup (bytes_eq name) l) (sym more);
      whole = ap (λ (l : Entries). l ++ entries_left c.next.new.self) more ∙ append_assoc xs (e ∷ []) (entries_left c.next.new.self) ∙ before;
    }

pub returns : goal.returns
returns c = λ name.
    let xs = map entry_of c.loop-entry.yielded in
    c.loop-entry.invariant.found name
    ∙ ap (λ (l : Entries). lookup (bytes_eq name) l) (sym (append-nil xs) ∙ ap (λ (l : Entries). xs ++ l) (sym c.in-None.ensures.steps.0) ∙ c.loop-entry.invariant.whole)
