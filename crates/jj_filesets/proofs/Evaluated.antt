-- Evaluating a postfix program on a stack of values.
use Rattle.std.proofs.Common.{◌≡◌, ◌↔◌, ◌⊎◌, ◌∙◌, Bool, true, false, not, ◌&&◌, ◌||◌, IsTrue, List, [], ◌∷◌, ◌++◌, reverse, ap, sym, subst, refl, inl, inr}
use Rattle.std.proofs.lemmas.List.{reverse-append, reverse-reverse}
use Rattle.jj_paths.specs.Paths.{Path}
use Rattle.jj_filesets.specs.declared.fileset.pattern.FilePattern.{FilePattern}
use Rattle.jj_filesets.specs.declared.fileset.program.Operator.{Operator}
use Rattle.jj_filesets.specs.declared.fileset.program.Operator.TheVariants.{Complement, Intersection, Difference, Union}
use Rattle.jj_filesets.specs.declared.fileset.program.Step.{Step}
use Rattle.jj_filesets.specs.declared.fileset.program.Step.TheVariants.{Push, Apply}
use Rattle.jj_filesets.specs.Patterns.{Matches}
use Rattle.jj_filesets.specs.SyntaxTrees.{SyntaxTree, IsIn}
use Rattle.jj_filesets.specs.Programs.{Decide, applied, applied_values, built, built-postfix, performed, postfix}

-- 1. Booleans that decide facts.

not_true : (b : Bool) (P : Type 0) → (IsTrue b ↔ P) → IsTrue (not b) ↔ (¬ P)
not_true true P is = ((λ h. cc), (λ no. absurd (no (is.0 refl))))
not_true false P is = ((λ h p. let t = is.1 p in cc), (λ no. refl))

and_true : (a b : Bool) (P Q : Type 0) → (IsTrue a ↔ P) → (IsTrue b ↔ Q) → IsTrue (a && b) ↔ (P × Q)
and_true true b P Q is also = ((λ h. (is.0 refl, also.0 h)), (λ h. also.1 h.1))
and_true false b P Q is also = ((λ h. cc), (λ h. is.1 h.0))

or_true : (a b : Bool) (P Q : Type 0) → (IsTrue a ↔ P) → (IsTrue b ↔ Q) → IsTrue (a || b) ↔ (P ⊎ Q)
or_true true b P Q is also = ((λ h. inl (is.0 refl)), (λ h. refl))
or_true false b P Q is also = ((λ h. inr (also.0 h)), (λ h. elim h [ inl p ↦ (let t = is.1 p in cc) | inr q ↦ also.1 q ]))

-- 2. Steps.

pub reverse-push : {X : Type 0} (xs ys : List X) (x : X) → ys ≡ xs ++ x ∷ [] → reverse ys ≡ x ∷ reverse xs
reverse-push xs ys x e = rw (e, reverse-append xs (x ∷ [])) refl

pub pushed : (path : Path) (step : Step) (leaf : FilePattern) (value : Bool) (old new : List Bool) → step ≡ Push leaf → (IsTrue value ↔ Matches leaf path) → new ≡ old ++ value ∷ []
    → (sets : List SyntaxTree) → Decide path sets (reverse old) → Decide path (performed step sets) (reverse new)
pushed path step leaf value old new is decides pushes sets before =
    subst (λ s. Decide path (performed s sets) (reverse new)) (sym is)
    (subst (Decide path (performed (Push leaf) sets)) (sym (reverse-push old new value pushes)) (decides, before))

decide-applied : (path : Path) (operator : Operator) (sets : List SyntaxTree) (values : List Bool) → Decide path sets values → Decide path (applied operator sets) (applied_values operator values)
decide-applied path Complement [] [] d = tt
decide-applied path Complement (set ∷ sets) (value ∷ values) d = (not_true value (IsIn set path) d.0, d.1)
decide-applied path Intersection [] [] d = tt
decide-applied path Intersection (set ∷ []) (value ∷ []) d = tt
decide-applied path Intersection (second ∷ first ∷ sets) (last ∷ value ∷ values) d = (and_true value last (IsIn first path) (IsIn second path) d.1.0 d.0, d.1.1)
decide-applied path Difference [] [] d = tt
decide-applied path Difference (set ∷ []) (value ∷ []) d = tt
decide-applied path Difference (second ∷ first ∷ sets) (last ∷ value ∷ values) d =
    (and_true value (not last) (IsIn first path) (¬ IsIn second path) d.1.0 (not_true last (IsIn second path) d.0), d.1.1)
decide-applied path Union [] [] d = tt
decide-applied path Union (set ∷ []) (value ∷ []) d = tt
decide-applied path Union (second ∷ first ∷ sets) (last ∷ value ∷ values) d = (or_true value last (IsIn first path) (IsIn second path) d.1.0 d.0, d.1.1)
decide-applied path operator [] (value ∷ values) d = absurd d
decide-applied path operator (set ∷ sets) [] d = absurd d
decide-applied path operator (set ∷ []) (last ∷ value ∷ values) d = absurd d.1
decide-applied path operator (second ∷ first ∷ sets) (value ∷ []) d = absurd d.1

pub applies : (path : Path) (step : Step) (operator : Operator) (old new : List Bool) → step ≡ Apply operator → reverse new ≡ applied_values operator (reverse old)
    → (sets : List SyntaxTree) → Decide path sets (reverse old) → Decide path (performed step sets) (reverse new)
applies path step operator old new is made sets before =
    subst (λ s. Decide path (performed s sets) (reverse new)) (sym is)
    (subst (Decide path (applied operator sets)) (sym made) (decide-applied path operator sets (reverse old) before))

-- 3. Programs.

-- the stack so far, for the trees of the steps so far
pub record IsEvaluated (path : Path) (set : SyntaxTree) (rest : List Step) (stack : List Bool) : Type 0 where
  pub sets : List SyntaxTree
  pub decide : Decide path sets (reverse stack)
  pub left : built rest sets ≡ set ∷ []

pub unevaluated : (path : Path) (set : SyntaxTree) (rest : List Step) (stack : List Bool) → rest ≡ postfix set → stack ≡ [] → IsEvaluated path set rest stack
unevaluated path set rest stack is none = record {
  sets = [];
  decide = subst (λ s. Decide path [] (reverse s)) (sym none) tt;
  left = ap (λ l. built l []) is ∙ built-postfix set;
}

pub evaluated_step : (path : Path) (set : SyntaxTree) (all rest : List Step) (step : Step) (old new : List Bool) → IsEvaluated path set all old → all ≡ step ∷ rest
    → ((sets : List SyntaxTree) → Decide path sets (reverse old) → Decide path (performed step sets) (reverse new)) → IsEvaluated path set rest new
evaluated_step path set all rest step old new so split performs = record {
  sets = performed step so.sets;
  decide = performs so.sets so.decide;
  left = ap (λ l. built l so.sets) (sym split) ∙ so.left;
}

only_value : (path : Path) (set : SyntaxTree) (sets : List SyntaxTree) (stack : List Bool) → Decide path sets stack → sets ≡ set ∷ [] → (value : Bool) × (stack ≡ value ∷ []) × (IsTrue value ↔ IsIn set path)
only_value path set [] stack d is = cc
only_value path set (first ∷ sets) [] d is = absurd d
only_value path set (first ∷ []) (value ∷ []) d is = let same : first ≡ set = cc in (value, refl, subst (λ s. IsTrue value ↔ IsIn s path) same d.0)
only_value path set (first ∷ []) (value ∷ other ∷ stack) d is = absurd d.1
only_value path set (first ∷ second ∷ sets) stack d is = cc

one-reversed : (stack : List Bool) (value : Bool) → reverse stack ≡ value ∷ [] → stack ≡ value ∷ []
one-reversed stack value h = sym (reverse-reverse stack) ∙ ap reverse h

-- the only value left decides membership in the set
pub evaluated : (path : Path) (set : SyntaxTree) (rest : List Step) (stack : List Bool) → IsEvaluated path set rest stack → rest ≡ [] → (value : Bool) × (stack ≡ value ∷ []) × (IsTrue value ↔ IsIn set path)
evaluated path set rest stack so none =
    let (value, is, decides) = only_value path set so.sets (reverse stack) so.decide (ap (λ l. built l so.sets) (sym none) ∙ so.left) in
    (value, one-reversed stack value is, decides)
