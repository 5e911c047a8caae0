-- Outputs of lists of requests.
use Rattle.std.proofs.Common.{◌≡◌, ◌∙◌, ℕ, ◌+◌, ◌<◌, List, [], ◌∷◌, ◌++◌, length, get_or, map, take, refl, ap, subst, sym, append_assoc}
use Rattle.std.proofs.lemmas.List.{append-nil, map-append, take_more}
use Rattle.jj_program.specs.Lines.{AreLinesOf}

module _ {Q : Type 0} (IsLine : Q → List ℕ → Type 0) where
  -- one more request and its line
  pub AreLinesOf-push : (requests : List Q) (request : Q) (output answer : List ℕ) → AreLinesOf IsLine requests output → IsLine request answer
      → AreLinesOf IsLine (requests ++ request ∷ []) (output ++ answer)
  AreLinesOf-push [] request output answer none is = (answer, [], is, refl, ap (λ l. l ++ answer) none ∙ sym (append-nil answer))
  AreLinesOf-push (first ∷ requests) request output answer (head, rest, is_first, more, e) is =
      (head, rest ++ answer, is_first, AreLinesOf-push requests request rest answer more is, ap (λ l. l ++ answer) e ∙ append_assoc head rest answer)

  -- unique lines make a unique output
  pub AreLinesOf-once : ((request : Q) (a b : List ℕ) → IsLine request a → IsLine request b → a ≡ b) → (requests : List Q) (one other : List ℕ)
      → AreLinesOf IsLine requests one → AreLinesOf IsLine requests other → one ≡ other
  AreLinesOf-once once [] one other none none' = none ∙ sym none'
  AreLinesOf-once once (request ∷ requests) one other (a, rest, is, more, e) (b, rest', is', more', e') =
      let first = once request a b is is' in
      let others = AreLinesOf-once once requests rest rest' more more' in
      e ∙ (λ i. (first i) ++ (others i)) ∙ sym e'

  -- the line of request i follows those before it
  pub AreLinesOf-next : {V : Type 0} (view : V → Q) (items : List V) (i : ℕ) (d : V) (output grown answer : List ℕ) → i < length items
      → AreLinesOf IsLine (map view (take i items)) output → IsLine (view (get_or items i d)) answer → grown ≡ output ++ answer → AreLinesOf IsLine (map view (take (i + 1) items)) grown
  AreLinesOf-next view items i d output grown answer within so_far is written =
      let item = get_or items i d in
      let longer : map view (take (i + 1) items) ≡ map view (take i items) ++ view item ∷ [] = ap (map view) (take_more items i d within) ∙ map-append view (take i items) (item ∷ []) in
      subst (λ requests. AreLinesOf IsLine requests grown) (sym longer)
      (subst (AreLinesOf IsLine (map view (take i items) ++ view item ∷ [])) (sym written) (AreLinesOf-push (map view (take i items)) (view item) output answer so_far is))

  -- the line of request i follows those before it
  pub AreLinesOf-more : {V : Type 0} (view : V → Q) (items : List V) (i : ℕ) (item : V) (output grown answer : List ℕ) → i < length items → item ≡ get_or items i item
      → AreLinesOf IsLine (map view (take i items)) output → IsLine (view item) answer → grown ≡ output ++ answer → AreLinesOf IsLine (map view (take (i + 1) items)) grown
  AreLinesOf-more view items i item output grown answer within found so_far is written =
      let longer : map view (take (i + 1) items) ≡ map view (take i items) ++ view item ∷ [] =
      ap (map view) (take_more items i item within ∙ ap (λ x. take i items ++ x ∷ []) (sym found)) ∙ map-append view (take i items) (item ∷ []) in
      subst (λ requests. AreLinesOf IsLine requests grown) (sym longer)
      (subst (AreLinesOf IsLine (map view (take i items) ++ view item ∷ [])) (sym written) (AreLinesOf-push (map view (take i items)) (view item) output answer so_far is))
