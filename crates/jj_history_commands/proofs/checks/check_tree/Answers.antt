use Rattle.std.proofs.Common.{◌≡◌, ◌∙◌, ◌++◌, ◌∷◌, [], Some, ap, map, subst, sym}
use Rattle.std.specs.Prelude.{All}
use Rattle.std.proofs.lemmas.List.{append_assoc, map-append}
use Rattle.std.proofs.lemmas.List.Elements.{All-append}
use Rattle.jj_backend.specs.Trees.{Entries, entries_left, entry_of}
use Rattle.jj_backend.specs.declared.backend.tree_value.TreeValue.{TreeValue}
use Rattle.jj_history_commands.specs.FoundObjects.{IsThere}
use Rattle.jj_history_commands.proofs.KnownObjects.{all_one, prefix_more, there_later}
use Rattle.jj_history_commands.proofs.checks.check_tree.Goals as goal

pub loop-entry-preserved : goal.loop-entry-preserved
loop-entry-preserved g c =
    let store = g.B.Backend.objects c.args.store.now in
    let before = c.loop-entry.trees.items in
    let after = c.check_value.new.trees.items in
    let ens = c.in_ok-check_value.ensures in
    let passed = map entry_of c.loop-entry.yielded in
    let entry = entry_of c.in-Some.entry in
    let mapped : map entry_of (c.loop-entry.yielded ++ c.in-Some.entry ∷ []) ≡ passed ++ entry ∷ [] = map-append entry_of c.loop-entry.yielded (c.in-Some.entry ∷ []) in
    record {
      known = ens.known;
      read = ens.read;
      prefix = prefix_more c.args.trees.now.items before after c.loop-entry.invariant.prefix ens.prefix;
      whole = c.loop-entry.invariant.whole
          ∙ ap (λ (l : Entries). Some (passed ++ l)) c.in-Some.ensures.steps
          ∙ ap Some (sym (append_assoc passed (entry ∷ []) (entries_left c.next.new.self)) ∙ ap (λ (l : Entries). l ++ entries_left c.next.new.self) (sym mapped));
      there = subst (All (λ e. IsThere store after e.1)) (sym mapped)
          (All-append (λ e. IsThere store after e.1) passed (entry ∷ [])
          (λ k d within. there_later store before after ens.prefix _ (c.loop-entry.invariant.there k d within))
          (all_one (λ e. IsThere store after e.1) entry (subst (λ (v : TreeValue). IsThere store after v) c.value.ensures ens.found)));
    }
