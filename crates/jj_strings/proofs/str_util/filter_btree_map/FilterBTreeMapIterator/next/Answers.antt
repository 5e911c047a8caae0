use Rattle.std.proofs.Common.{◌≡◌, ◌∙◌, ap, sym, ◌++◌, ◌∷◌, [], ◌≤◌, length, append_assoc, true, false, arith}
use Rattle.std.proofs.lemmas.List.Elements.{All-push}
use Rattle.std.specs.Map.Iter.{deref_pair}
use Rattle.jj_strings.specs.RemainingEntries.{remaining_entries}
use Rattle.jj_strings.specs.StringMatchers.{InMatcher}
use Rattle.jj_strings.specs.Searchers.{searcher_matcher}
use Rattle.jj_strings.proofs.str_util.filter_btree_map.FilterBTreeMapIterator.next.Goals as goal

pub loop-entry-preserved : goal.loop-entry-preserved
loop-entry-preserved g c =
    let inv = c.loop-entry.invariant in
    let e : g.row.K.Denot × g.row.V.Denot = deref_pair c.in-Some.entry in
    let cut : remaining_entries c.loop-entry.self.entries ≡ e ∷ remaining_entries c.next_entry.new.entries = c.in-Some.ensures in
    let not_here = λ (h : InMatcher (searcher_matcher c.args.self.now.searcher) (g.K.TextKey.key_text e.0)).
    (let back : InMatcher (searcher_matcher c.loop-entry.self.searcher) c.as_text.result.now = rw (c.as_text.ensures, inv.0) h in
    let yes : c.in-Ok-false.field-0 ≡ true = c.in-Ok-false.ensures.matches.1 back in
    let no : c.in-Ok-false.field-0 ≡ false = c.in-Ok-false.field-0-test in
    let clash : ⊥ = cc in clash) in
    let shorter : length (remaining_entries c.next_entry.new.entries) ≤ length (remaining_entries c.args.self.now.entries) = omega (arith, ap length cut, inv.2) in (
      c.is_match.ensures.unchanged ∙ inv.0,
      (
        inv.1.0 ++ e ∷ [],
        All-push (λ (x : g.row.K.Denot × g.row.V.Denot). InMatcher (searcher_matcher c.args.self.now.searcher) (g.K.TextKey.key_text x.0) → ⊥) inv.1.0 e inv.1.1 not_here,
        inv.1.2 ∙ ap (λ l. inv.1.0 ++ l) cut ∙ sym (append_assoc inv.1.0 (e ∷ []) (remaining_entries c.next_entry.new.entries)),
      ),
      shorter,
    )
