use Rattle.std.proofs.Common.{rules, arith, length, ◌≡◌, ◌≢◌, ◌++◌, ap, subst, reverse, map, [], List, IsPermutation}
use Rattle.std.proofs.lemmas.List.{length-map, length-reverse, nil_from_length}
use Rattle.std.proofs.lemmas.List.Sorted.{IsPermutation-map, IsPermutation-reverse, IsPermutation-sym, IsPermutation-trans}
use Rattle.jj_globs.specs.GlobTrie.{Word, EmitsTrie, group_tokens}
use Rattle.jj_globs.proofs.Tries.{adds_permuted}
use Rattle.jj_globs.proofs.glob.trie.emit_literal_group.Goals as goal

pub returns : goal.returns
returns c =
    let read : List Word = map (λ word. word.items) c.in-Some.words.items in
    let sorted : List Word = map (λ word. word.items) c.sort_unstable.new.self.items in
    let whole : c.args.tokens.now ≡ c.in-Some.before.now ++ group_tokens (reverse read) = search rules in
    let some : c.in-Some.words.items ≢ [] = search rules in
    let moved : IsPermutation sorted (reverse read) =
    IsPermutation-trans sorted read (reverse read)
    (IsPermutation-sym read sorted
    (IsPermutation-map (λ word. word.items) c.in-Some.words.items c.sort_unstable.new.self.items c.sort_unstable.ensures.permutation))
    (IsPermutation-reverse read) in
    let old = reverse c.args.steps.now.items in
    let new = reverse c.emit_trie.new.steps.items in
    let insert : EmitsTrie sorted old new =
    subst (λ l. EmitsTrie (map (λ word. word.items) l) old new) c.as_slice.ensures.value c.in_ok-emit_trie.ensures in
    let met : reverse read ≢ [] = λ e.
    some (nil_from_length c.in-Some.words.items
    (omega (arith, length-map c.in-Some.words.items (λ word. word.items), length-reverse read, ap length e))) in
    (reverse read, met, whole, adds_permuted sorted (reverse read) old new moved insert)
