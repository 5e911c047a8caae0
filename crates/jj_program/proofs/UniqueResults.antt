-- Determinism of the commands.
use Rattle.std.proofs.Common.{◌≡◌, ◌∙◌, ◌++◌, ℕ, List, Bool, true, false, Option, Some, None, Result, Ok, Err, ap, refl, sym, subst}
use Rattle.std.specs.Prelude.{codes, pos}
use Rattle.std.specs.Bool.{MatchBool}
use Rattle.std.specs.Str.{bytes_eq, is_utf8}
use Rattle.std.proofs.lemmas.Slice.Eq.{bytes_eq-Decides}
use Rattle.jj_merges.specs.declared.merge.SameChange.{SameChange}
use Rattle.jj_merges.specs.declared.merge.SameChange.TheVariants.{Keep, Accept}
use Rattle.jj_merges.specs.Resolution.{ResolvesTo}
use Rattle.jj_program.specs.declared.fault.Fault.{Fault}
use Rattle.jj_program.specs.declared.fault.Fault.TheVariants.{NotUtf8}
use Rattle.jj_program.specs.declared.program.Command.{Command}
use Rattle.jj_program.specs.declared.program.Command.TheVariants.{Walk, Merge, Graph, Hash}
use Rattle.jj_matchers.specs.MarkWalk.{WalksMarks}
use Rattle.jj_program.specs.WalkCommand.{IsWalkResult, path_lines, spec_of}
use Rattle.jj_program.specs.declared.merge_command.MergeForm.TheVariants.{Simplify, Resolve}
use Rattle.jj_program.specs.Lines.{AreLinesOf}
use Rattle.jj_program.specs.MergeCommand.{MergeRequest, IsOutcome, outcome_line, IsMergeLine, IsMergeResult}
use Rattle.jj_program.specs.Program.{HasResultOnText}
use Rattle.jj_program.specs.Laws.{ResultsAreUnique}
use Rattle.jj_matchers.proofs.WalkedMarks.{walks_once}
use Rattle.jj_program.proofs.UniqueGraphs.{graph_result_unique}
use Rattle.jj_program.proofs.Requests.{AreLinesOf-once}

walk_result_unique : (text : List ℕ) (first second : Result (List ℕ) Fault) → IsWalkResult text first → IsWalkResult text second → first ≡ second
walk_result_unique text (Ok one) (Ok other) (request, requested, (files, entered, walks, is)) (request', asked', (files', entered', walks', is')) =
    let twice : Ok request ≡ Ok request' = sym requested ∙ asked' in
    let same : request ≡ request' = cc in
    let (same_files, same_entered) = walks_once (spec_of request.set).accepts (spec_of request.set).visits request.marks files files' entered entered' walks
    (subst (λ r. WalksMarks (spec_of r.set).accepts (spec_of r.set).visits r.marks files' entered') (sym same) walks') in
    ap Ok (is ∙ (λ i. path_lines (codes "file") (same_files i) ++ path_lines (codes "enter") (same_entered i)) ∙ sym is')
walk_result_unique text (Ok one) (Err fault) (request, requested, found) asked' = let both : Ok request ≡ Err fault = sym requested ∙ asked' in cc
walk_result_unique text (Err fault) (Ok one) requested (request, asked', found) = let both : Err fault ≡ Ok request = sym requested ∙ asked' in cc
walk_result_unique text (Err fault) (Err other) requested asked' = let both : Err fault ≡ Err other = sym requested ∙ asked' in let same : fault ≡ other = cc in ap Err same

-- a merge resolves to at most one string
decided_once : (same_change : SameChange) (terms : List (List ℕ)) (one other : List ℕ) → ResolvesTo bytes_eq same_change terms one → ResolvesTo bytes_eq same_change terms other → one ≡ other
decided_once Keep terms one other d d' = (bytes_eq-Decides one other).0 (d.1 other (λ none. let one_is_none : pos 1 ≡ pos 0 = sym d'.0 ∙ none in cc))
decided_once Accept terms one other d d' = (bytes_eq-Decides one other).0 (d.1 other d'.0)

outcome_once : (same_change : SameChange) (terms : List (List ℕ)) (one other : Option (List ℕ)) → IsOutcome same_change terms one → IsOutcome same_change terms other → one ≡ other
outcome_once same_change terms None None none none' = refl
outcome_once same_change terms None (Some other) none d = absurd (none other d.1)
outcome_once same_change terms (Some one) None d none = absurd (none one d.1)
outcome_once same_change terms (Some one) (Some other) d d' = ap Some (decided_once same_change terms one other d.1 d'.1)

merge_line_once : (request : MergeRequest) (a b : List ℕ) → IsMergeLine request a → IsMergeLine request b → a ≡ b
merge_line_once (Simplify, terms) a b e e' = e ∙ sym e'
merge_line_once (Resolve same_change, terms) a b (one, of_one, e) (other, of_other, e') = e ∙ ap outcome_line (outcome_once same_change terms one other of_one of_other) ∙ sym e'

merge_result_unique : (text : List ℕ) (first second : Result (List ℕ) Fault) → IsMergeResult text first → IsMergeResult text second → first ≡ second
merge_result_unique text (Ok one) (Ok other) (requests, requested, answered) (requests', asked', answered') =
    let twice : Ok requests ≡ Ok requests' = sym requested ∙ asked' in
    let same : requests ≡ requests' = cc in
    ap Ok (AreLinesOf-once IsMergeLine merge_line_once requests one other answered (subst (λ rs. AreLinesOf IsMergeLine rs other) (sym same) answered'))
merge_result_unique text (Ok one) (Err fault) (requests, requested, answered) asked' = let both : Ok requests ≡ Err fault = sym requested ∙ asked' in cc
merge_result_unique text (Err fault) (Ok one) requested (requests, asked', answered) = let both : Err fault ≡ Ok requests = sym requested ∙ asked' in cc
merge_result_unique text (Err fault) (Err other) requested asked' = let both : Err fault ≡ Err other = sym requested ∙ asked' in let same : fault ≡ other = cc in ap Err same

text_result_unique : (command : Command) (text : List ℕ) (first second : Result (List ℕ) Fault) → HasResultOnText command text first → HasResultOnText command text second → first ≡ second
text_result_unique Walk text first second given given' = walk_result_unique text first second given given'
text_result_unique Merge text first second given given' = merge_result_unique text first second given given'
text_result_unique Graph text first second given given' = graph_result_unique text first second given given'
text_result_unique Hash text first second given given' = sym given ∙ given'

pub results_unique : ResultsAreUnique
results_unique command input first second given given' = by_text (is_utf8 input) given given'
  where
    by_text : (t : Bool) → MatchBool t (HasResultOnText command input first) (first ≡ Err NotUtf8) → MatchBool t (HasResultOnText command input second) (second ≡ Err NotUtf8) → first ≡ second
    by_text true h h' = text_result_unique command input first second h h'
    by_text false h h' = h ∙ sym h'
