-- Proofs about normal forms of path components: pushing and popping preserve them.
use Rattle.std.proofs.Common.{◌≡◌, ◌≢◌, ◌⊎◌, ◌∙◌, ◌+◌, ℕ, Bool, true, false, not, IsTrue, length, map, Option, Some, None, MatchOption, option_to_list, arith, List, [], ◌∷◌, ◌++◌, append_assoc, ap, refl, sym, subst, inl, inr}
use Rattle.std.proofs.lemmas.List.{map-append}
use Rattle.std.specs.Path.{slash, dot, cur_dir, parent_dir, is_name, component_bytes, IsWellFormedComponent}
use Rattle.std.specs.declared.path.components.Component.{Component}
use Rattle.std.specs.declared.path.components.Component.TheVariants.{RootDir, CurDir, ParentDir, Normal}
use denote.Ref.{Bor}
use Rattle.jj_files.specs.PathJoining.{is_special_component}
use Rattle.jj_files.specs.PathComponents.{Reduces, ReducesTo, ends_in_name}
use Rattle.jj_files.specs.PathComponents.ReducesTo.{more}

-- in a list that ends in c, each element x is the last one, or comes before it
snoc_split : {A : Type 0} (stack prefix back : List A) (c x : A) → stack ++ c ∷ [] ≡ prefix ++ x ∷ back
    → ((back ≡ []) × (c ≡ x) × (stack ≡ prefix)) ⊎ ((mid : List A) × (back ≡ mid ++ c ∷ []) × (stack ≡ prefix ++ x ∷ mid))
snoc_split [] [] back c x e = inl (cc e, cc e, refl)
snoc_split [] (f ∷ []) back c x e = let h : [] ≡ x ∷ back = cc e in cc h
snoc_split [] (f ∷ g ∷ prefix) back c x e = let h : [] ≡ g ∷ prefix ++ x ∷ back = cc e in cc h
snoc_split (k ∷ stack) [] back c x e =
    let first : k ≡ x = cc e in let rest : stack ++ c ∷ [] ≡ back = cc e in inr (stack, sym rest, ap (λ y. y ∷ stack) first)
snoc_split (k ∷ stack) (f ∷ prefix) back c x e =
    let first : k ≡ f = cc e in let rest : stack ++ c ∷ [] ≡ prefix ++ x ∷ back = cc e in
    elim (snoc_split stack prefix back c x rest) [
      | inl (none_after, is, same) ↦ inl (none_after, is, ap (λ l. k ∷ l) same ∙ ap (λ y. y ∷ prefix) first)
      | inr (mid, after, same) ↦ inr (mid, after, ap (λ l. k ∷ l) same ∙ ap (λ y. y ∷ prefix ++ x ∷ mid) first)
    ]

-- the list is a normal form
abbrev pub IsIrreducible : List (List ℕ) → Type 0
IsIrreducible components = (less : List (List ℕ)) → Reduces components less → ⊥

pub ends_in_name-last : (prefix : List (List ℕ)) (last : List ℕ) → ends_in_name (prefix ++ last ∷ []) ≡ not (is_special_component last)
ends_in_name-last [] last = refl
ends_in_name-last (first ∷ []) last = refl
ends_in_name-last (first ∷ second ∷ prefix) last = ends_in_name-last (second ∷ prefix) last

-- the empty list is a normal form
pub irreducible-none : IsIrreducible []
irreducible-none less ([], back, is, inl e) = cc e
irreducible-none less (f ∷ prefix, back, is, inl e) = cc e
irreducible-none less ([], back, is, inr (name, names, e)) = cc e
irreducible-none less (f ∷ prefix, back, is, inr (name, names, e)) = cc e

-- pushing a component other than `.` preserves normal forms, and so does pushing `..` after no name
pub irreducible-pushed : (stack : List (List ℕ)) (c : List ℕ) → IsIrreducible stack → c ≢ cur_dir → (c ≡ parent_dir → ends_in_name stack ≡ false)
    → IsIrreducible (stack ++ c ∷ [])
irreducible-pushed stack c irreducible not_dot after less (prefix, back, is, inl e) =
    elim (snoc_split stack prefix back c cur_dir e) [
      | inl (none_after, dot, same) ↦ not_dot dot
      | inr (mid, later, same) ↦ irreducible (prefix ++ mid) (prefix, mid, refl, inl same)
    ]
irreducible-pushed stack c irreducible not_dot after less (prefix, back, is, inr (name, names, e)) =
    let whole : stack ++ c ∷ [] ≡ (prefix ++ name ∷ []) ++ parent_dir ∷ back = e ∙ sym (append_assoc prefix (name ∷ []) (parent_dir ∷ back)) in
    elim (snoc_split stack (prefix ++ name ∷ []) back c parent_dir whole) [
      | inl (none_after, up, same) ↦
          let named : ends_in_name stack ≡ true = ap ends_in_name same ∙ ends_in_name-last prefix name ∙ ap not names in
          let h : true ≡ false = sym named ∙ after up in cc h
      | inr (mid, later, same) ↦ irreducible (prefix ++ mid) (prefix, mid, refl, inr (name, names, same ∙ append_assoc prefix (name ∷ []) (parent_dir ∷ mid)))
    ]

-- popping preserves normal forms
pub irreducible-popped : (prefix : List (List ℕ)) (last : List ℕ) → IsIrreducible (prefix ++ last ∷ []) → IsIrreducible prefix
irreducible-popped prefix last irreducible less (before, back, is, inl e) =
    irreducible (before ++ (back ++ last ∷ [])) (before, back ++ last ∷ [], refl, inl (ap (λ l. l ++ last ∷ []) e ∙ append_assoc before (cur_dir ∷ back) (last ∷ [])))
irreducible-popped prefix last irreducible less (before, back, is, inr (name, names, e)) =
    irreducible (before ++ (back ++ last ∷ []))
    (before, back ++ last ∷ [], refl, inr (name, names, ap (λ l. l ++ last ∷ []) e ∙ append_assoc before (name ∷ parent_dir ∷ back) (last ∷ [])))

slash_is_dot : slash ≡ dot → ⊥
slash_is_dot e = omega (arith, e)

pub dots_differ : parent_dir ≡ cur_dir → ⊥
dots_differ e = cc e

dot_is_name : IsTrue (is_name cur_dir) → ⊥
dot_is_name h = cc h

name_last : (index : Bool) → true ≡ not index → index ≡ false
name_last true h = cc h
name_last false h = refl

-- the steps so far rewrite the components to the stack followed by the remaining ones
pub dot_reduces : (components stack rest : List (List ℕ)) → ReducesTo components (stack ++ cur_dir ∷ rest) → ReducesTo components (stack ++ rest)
dot_reduces components stack rest so_far = more so_far (stack, rest, refl, inl refl)

pub name_reduces : (components prefix rest : List (List ℕ)) (name : List ℕ) → is_special_component name ≡ false
    → ReducesTo components ((prefix ++ name ∷ []) ++ parent_dir ∷ rest) → ReducesTo components (prefix ++ rest)
name_reduces components prefix rest name names so_far =
    more so_far (prefix, rest, refl, inr (name, names, append_assoc prefix (name ∷ []) (parent_dir ∷ rest)))

pub component_stays : (components stack rest : List (List ℕ)) (c : List ℕ) → ReducesTo components (stack ++ c ∷ rest) → ReducesTo components ((stack ++ c ∷ []) ++ rest)
component_stays components stack rest c so_far = subst (ReducesTo components) (sym (append_assoc stack (c ∷ []) rest)) so_far

-- a component other than `.` and `..`
pub other_component : (c : Component) → IsWellFormedComponent c → (c ≡ CurDir → ⊥) → (c ≡ ParentDir → ⊥)
    → (component_bytes c ≢ cur_dir) × (component_bytes c ≢ parent_dir)
other_component RootDir formed dot up = ((λ e. slash_is_dot (cc e)), (λ e. slash_is_dot (cc e)))
other_component CurDir formed dot up = absurd (dot refl)
other_component ParentDir formed dot up = absurd (up refl)
other_component (Normal name) formed dot up = ((λ e. dot_is_name (subst (λ n. IsTrue (is_name n)) e formed.0)), formed.1)

-- popping a name
pub popped_name : (old new : List (Bor (List ℕ))) (last : Option (Bor (List ℕ))) (n m : ℕ) → n ≡ length old → old ≡ new ++ option_to_list last
    → MatchOption last ((n ≡ 0) × (m ≡ 0)) (λ _. m + 1 ≡ n) → true ≡ ends_in_name (map (λ text. text.now) old)
    → (name : List ℕ) × (map (λ text. text.now) old ≡ map (λ text. text.now) new ++ name ∷ []) × (is_special_component name ≡ false)
popped_name [] new None n m len whole empty named = let h : true ≡ false = named in cc h
popped_name (first ∷ old) new None n m len whole empty named = let h = empty.0 in absurd (omega (arith, h, len))
popped_name old new (Some last) n m len whole empty named =
    let split = ap (map (λ text. text.now)) whole ∙ map-append (λ text. text.now) new (last ∷ []) in
    (last.now, split, name_last (is_special_component last.now) (named ∙ ap ends_in_name split ∙ ends_in_name-last (map (λ text. text.now) new) last.now))
