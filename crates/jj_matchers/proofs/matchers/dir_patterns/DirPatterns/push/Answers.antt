use Rattle.std.proofs.Common.{◌≡◌, ◌∙◌, sym, subst, false, true, List, ◌++◌, ◌∷◌, [], drop}
use mathlib.Core.Bool.{false≢true}
use Rattle.std.specs.List.{list_any}
use Rattle.std.specs.Option.{option_map_or}
use Rattle.jj_globs.specs.GlobPrefix.{glob_prefix}
use Rattle.jj_matchers.specs.PatternOrder.{is_sorted_by_prefix}
use Rattle.jj_matchers.specs.LinkedPatterns.{AreLinked, AreSortedAndLinked, encloses, globs_of}
use Rattle.jj_matchers.specs.declared.matchers.pattern_order.LinkedPattern.{LinkedPattern}
use Rattle.jj_matchers.proofs.LinkedPatterns.{linked_push}
use Rattle.jj_matchers.proofs.matchers.dir_patterns.DirPatterns.push.Goals as goal
use Rattle.jj_matchers.proofs.matchers.dir_patterns.DirPatterns.push.Goals.{then-self, else-self}

pub invariant_of-self-in-Some : goal.invariant_of-self-in-Some
invariant_of-self-in-Some c sorted = elim c.if-self.branch [
  | then-self w ↦
      let items = c.in-Some.patterns.items in
      let more = c.args.pattern in
      let linked : LinkedPattern = record { pattern = more; enclosing_len = c.find_enclosing-enclosing_len.result } in
      let are : AreSortedAndLinked items = subst (λ p. AreSortedAndLinked (option_map_or (λ patterns. patterns.items) p [])) c.in-Some.is (c.self.invariant w.if-self.true) in
      let order : is_sorted_by_prefix (globs_of items ++ more ∷ []) ≡ true =
      sym (subst (λ (list : List LinkedPattern). is_sorted_by_prefix (globs_of list) ≡ true → w.stays_sorted-is_sorted.result ≡ is_sorted_by_prefix (globs_of list ++ more ∷ [])) w.as_slice.ensures.value w.stays_sorted-is_sorted.ensures are.order)
      ∙ sym w.is_sorted-is ∙ sorted in
      let link : is_sorted_by_prefix (globs_of items ++ more ∷ []) ≡ true → AreLinked items → list_any (encloses (glob_prefix more)) (globs_of (drop c.find_enclosing-enclosing_len.result items)) ≡ false =
      subst (λ (list : List LinkedPattern). is_sorted_by_prefix (globs_of list ++ more ∷ []) ≡ true → AreLinked list → list_any (encloses (glob_prefix more)) (globs_of (drop c.find_enclosing-enclosing_len.result list)) ≡ false) c.as_slice-in-Some.ensures.value c.find_enclosing-enclosing_len.ensures in
      subst AreSortedAndLinked (sym c.in_ok-push-in-Some.ensures.items) (linked_push items linked are order link)
  | else-self w ↦ absurd (false≢true (sym w.if-self.false ∙ sym w.is_sorted-is ∙ sorted))
]
