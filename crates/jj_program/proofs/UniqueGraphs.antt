-- The result of a graph request is unique.
use Rattle.std.proofs.Common.{◌≡◌, ◌≢◌, ◌∙◌, ℕ, ◌<◌, ◌≤◌, ◌==◌, List, [], ◌∷◌, ◌++◌, Bool, true, false, Result, Ok, Err, ap, refl, sym, subst, arith, rules, nat_lt, length, get_or, ◌⊎◌, inl, inr, length-append, ⊎_elim}
use Rattle.std.specs.Prelude.{◌↔◌, eqb, codes}
use Rattle.std.specs.Bool.{one_answer}
use Rattle.std.specs.List.{Contains, IsDistinct}
use Rattle.std.specs.List.Sorted.{IsStrictlyIncreasing}
use Rattle.std.proofs.lemmas.Bool.Decides.{Decides-eqb}
use Rattle.std.proofs.lemmas.Cmp.{nat_eq_equiv}
use Rattle.std.proofs.lemmas.List.{get_or_at, get_or_append_left}
use Rattle.std.proofs.lemmas.List.Kept.{AllPairs-from_increasing}
use Rattle.std.proofs.lemmas.Map.Made.{length-from_same_keys}
use Rattle.jj_dag.specs.CommonNodes.{AreClosestCommon}
use Rattle.jj_dag.specs.Graph.{Graph, IsGreatestTopologicalOrder, AreMaximalElements}
use Rattle.jj_dag.proofs.Walking.{has, Decides-has}
use Rattle.jj_program.specs.declared.fault.Fault.{Fault}
use Rattle.jj_program.specs.Lines.{AreLinesOf}
use Rattle.jj_program.specs.GraphCommand.{GraphRequest, Order, Heads, Common, numbers_line, IsLineOfRequest, IsGraphLine, IsGraphResult, graph_of}
use Rattle.jj_program.proofs.Requests.{AreLinesOf-once}

-- the two lists have no first difference
abbrev DifferNowhere : List ℕ → List ℕ → Type 0
DifferNowhere one other = (front xs ys : List ℕ) (a b : ℕ) → one ≡ front ++ a ∷ xs → other ≡ front ++ b ∷ ys → a ≢ b → ⊥

same_or_not : (a b : ℕ) → (a ≡ b) ⊎ (a ≢ b)
same_or_not a b = by_test (a == b) refl
  where
    by_test : (t : Bool) → (a == b) ≡ t → (a ≡ b) ⊎ (a ≢ b)
    by_test true is = inl ((Decides-eqb a b).0 is)
    by_test false is = inr (λ e. let yes : (a == b) ≡ true = (Decides-eqb a b).1 e in let both : true ≡ false = sym yes ∙ is in cc)

apart : (a b : ℕ) → a ≢ b → (a < b) ⊎ (b < a)
apart a b differ = by_test (nat_lt a b) refl
  where
    by_test : (t : Bool) → nat_lt a b ≡ t → (a < b) ⊎ (b < a)
    by_test true is = inl (search rules)
    by_test false is = let from : b ≤ a = search rules in inr (omega arith)

-- lists of equal length without a first difference are equal
same_lists : (one other : List ℕ) → length one ≡ length other → DifferNowhere one other → one ≡ other
same_lists [] [] len none = refl
same_lists [] (b ∷ ys) len none = absurd (omega (arith, len))
same_lists (a ∷ xs) [] len none = absurd (omega (arith, len))
same_lists (a ∷ xs) (b ∷ ys) len none =
    ⊎_elim (λ first.
    let rest = same_lists xs ys (omega (arith, len)) (λ front xs' ys' x y e e' differ. none (a ∷ front) xs' ys' x y (ap (λ l. a ∷ l) e) (λ i. (sym first) i ∷ e' i) differ) in
    λ i. first i ∷ rest i)
    (λ differ. absurd (none [] xs ys a b refl refl differ)) (same_or_not a b)

-- distinct lists of the same members have equal length
same_length : (one other : List ℕ) → IsDistinct eqb one → IsDistinct eqb other → ((a : ℕ) → Contains one a ↔ Contains other a) → length one ≡ length other
same_length one other once once' same =
    length-from_same_keys nat_eq_equiv one other once once'
    (λ q. one_answer (has one q) (has other q) (Decides-has one q) ((λ h. (same q).1 ((Decides-has other q).0 h)), λ h. (Decides-has other q).1 ((same q).0 h)))

greatest_once : (graph : Graph) (ids one other : List ℕ) → IsGreatestTopologicalOrder graph ids one → IsGreatestTopologicalOrder graph ids other → one ≡ other
greatest_once graph ids one other of_one of_other =
    let first = of_one.child_first in
    let second = of_other.child_first in
    same_lists one other
    (same_length one other first.once second.once (λ a. ((λ h. (second.all a).1 ((first.all a).0 h)), λ h. (first.all a).1 ((second.all a).0 h))))
    (λ front xs ys a b e e' differ.
    let high : b < a = of_one.greatest other second front xs ys a b e e' differ in
    let low : a < b = of_other.greatest one first front ys xs b a e' e (λ same. differ (sym same)) in
    omega arith)

-- ascending lists of the same members are equal
ascending_once : (one other : List ℕ) → IsStrictlyIncreasing one → IsStrictlyIncreasing other → IsDistinct eqb one → IsDistinct eqb other → ((a : ℕ) → Contains one a ↔ Contains other a) → one ≡ other
ascending_once one other up up' once once' same = same_lists one other (same_length one other once once' same) nowhere
  where
    -- the smaller of two numbers that differ would be missing in the other list
    missing : (one other front xs ys : List ℕ) (a b : ℕ) → IsStrictlyIncreasing one → IsStrictlyIncreasing other → ((x : ℕ) → Contains one x → Contains other x)
        → one ≡ front ++ a ∷ xs → other ≡ front ++ b ∷ ys → a < b → ⊥
    missing one other front xs ys a b up up' same e e' less =
        let n = length front in
        let here : get_or one n a ≡ a = ap (λ l. get_or l n a) e ∙ get_or_at front a xs a n refl in
        let there : get_or other n a ≡ b = ap (λ l. get_or l n a) e' ∙ get_or_at front b ys a n refl in
        let inside : n < length one = omega (arith, ap length e, length-append front (a ∷ xs)) in
        let (k, within, found) = same a (n, inside, here) in
        let before : k < n → ⊥ = λ k_lt.
        let shared : get_or one k a ≡ get_or other k a = ap (λ l. get_or l k a) e ∙ get_or_append_left front (a ∷ xs) a k k_lt ∙ sym (get_or_append_left front (b ∷ ys) a k k_lt) ∙ sym (ap (λ l. get_or l k a) e') in
        omega (arith, AllPairs-from_increasing one up k n a k_lt inside) in
        let behind : n < k → ⊥ = λ n_lt. omega (arith, AllPairs-from_increasing other up' n k a n_lt within) in
        let is_here : k ≡ n = omega arith in
        let same_number : a ≡ b = sym found ∙ ap (λ j. get_or other j a) is_here ∙ there in
        omega arith

    nowhere : DifferNowhere one other
    nowhere front xs ys a b e e' differ =
        ⊎_elim (λ less. missing one other front xs ys a b up up' (λ x. (same x).0) e e' less) (λ more. missing other one front ys xs b a up' up (λ x. (same x).1) e' e more) (apart a b differ)

heads_once : (graph : Graph) (ids one other : List ℕ) → AreMaximalElements graph ids one → AreMaximalElements graph ids other → IsStrictlyIncreasing one → IsStrictlyIncreasing other → one ≡ other
heads_once graph ids one other of_one of_other up up' =
    ascending_once one other up up' of_one.once of_other.once (λ a. ((λ h. (of_other.all a).1 ((of_one.all a).0 h)), λ h. (of_one.all a).1 ((of_other.all a).0 h)))

closest_once : (graph : Graph) (set1 set2 one other : List ℕ) → AreClosestCommon graph set1 set2 one → AreClosestCommon graph set1 set2 other → IsStrictlyIncreasing one → IsStrictlyIncreasing other → one ≡ other
closest_once graph set1 set2 one other of_one of_other up up' =
    ascending_once one other up up' of_one.once of_other.once (λ a. ((λ h. (of_other.all a).1 ((of_one.all a).0 h)), λ h. (of_one.all a).1 ((of_other.all a).0 h)))

request_once : (graph : Graph) (request : GraphRequest) (a b : List ℕ) → IsLineOfRequest graph request a → IsLineOfRequest graph request b → a ≡ b
request_once graph (Order ids) a b (one, of_one, e) (other, of_other, e') = e ∙ ap (λ l. numbers_line (codes "order") l) (greatest_once graph ids one other of_one of_other) ∙ sym e'
request_once graph (Heads ids) a b (one, of_one, up, e) (other, of_other, up', e') = e ∙ ap (λ l. numbers_line (codes "heads") l) (heads_once graph ids one other of_one of_other up up') ∙ sym e'
request_once graph (Common set1 set2) a b (one, of_one, up, e) (other, of_other, up', e') = e ∙ ap (λ l. numbers_line (codes "common") l) (closest_once graph set1 set2 one other of_one of_other up up') ∙ sym e'

graph_line_once : (graph : Graph) (request : GraphRequest) (a b : List ℕ) → IsGraphLine graph request a → IsGraphLine graph request b → a ≡ b
graph_line_once graph request a b (inl (cycle, e)) (inl (cycle', e')) = e ∙ sym e'
graph_line_once graph request a b (inl (cycle, e)) (inr (none, is)) = absurd (none cycle)
graph_line_once graph request a b (inr (none, is)) (inl (cycle, e)) = absurd (none cycle)
graph_line_once graph request a b (inr (none, is)) (inr (none', is')) = request_once graph request a b is is'

pub graph_result_unique : (text : List ℕ) (first second : Result (List ℕ) Fault) → IsGraphResult text first → IsGraphResult text second → first ≡ second
graph_result_unique text (Ok one) (Ok other) (state, read, answered) (state', read', answered') =
    let twice : Ok state ≡ Ok state' = sym read ∙ read' in
    let same : state ≡ state' = cc in
    ap Ok (AreLinesOf-once (IsGraphLine (graph_of state.listed)) (graph_line_once (graph_of state.listed)) state.requests one other answered (subst (λ s. AreLinesOf (IsGraphLine (graph_of s.listed)) s.requests other) (sym same) answered'))
graph_result_unique text (Ok one) (Err fault) (state, read, answered) read' = let both : Ok state ≡ Err fault = sym read ∙ read' in cc
graph_result_unique text (Err fault) (Ok one) read (state, read', answered) = let both : Err fault ≡ Ok state = sym read ∙ read' in cc
graph_result_unique text (Err fault) (Err other) read read' = let both : Err fault ≡ Err other = sym read ∙ read' in let same : fault ≡ other = cc in ap Err same
