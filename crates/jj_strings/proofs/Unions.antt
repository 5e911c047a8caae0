-- Unions of lists of expressions.
use Rattle.std.proofs.Common.{◌≡◌, ◌∙◌, sym, ap, subst, ℕ, ◌/◌, ◌<◌, ◌≤◌, List, [], ◌∷◌, ◌++◌, length, take, drop, map, Result, Ok, Err, IfOk, arith, length-append}
use Rattle.std.proofs.lemmas.List.{take-append-drop, length-map, length-take-le, map-append, nil_from_length}
use Rattle.std.specs.declared.alloc.AllocError.{AllocError}
use Rattle.jj_strings.specs.declared.str_util.expression.StringExpression.{StringExpression}
use Rattle.jj_strings.specs.ExpressionViews.{expression_of}
use Rattle.jj_strings.specs.StringSets.{Expression, union, nothing, IsUnionOf, of_none, of_one, of_halves}

-- the expression is the union of the list
abbrev IsUnion : List StringExpression → StringExpression → Type 0
IsUnion es e = IsUnionOf (map expression_of es) (expression_of e)

pub union_of_one : (es rest : List StringExpression) (only : StringExpression) → es ≡ rest ++ only ∷ [] → length es < 2 → IsUnion es only
union_of_one es [] only cut short = subst (λ (l : List StringExpression). IsUnion l only) (sym cut) (of_one (expression_of only))
union_of_one es (x ∷ xs) only cut short = absurd (omega (arith, ap length cut, length-append xs (only ∷ [])))

pub union_of_none : (es : List StringExpression) (r : Result StringExpression AllocError) → length es ≡ 0
    → IfOk r (λ e. expression_of e ≡ nothing) → IfOk r (IsUnion es)
union_of_none es (Ok e) empty is_none =
    subst (λ (x : Expression). IsUnionOf (map expression_of es) x) (sym is_none)
    (subst (λ (l : List StringExpression). IsUnionOf (map expression_of l) nothing) (sym (nil_from_length es empty)) of_none)
union_of_none es (Err e) empty is_none = tt

pub union_of_halves : (es prefix back : List StringExpression) (n : ℕ) (a b : Expression) (r : Result StringExpression AllocError)
    → prefix ≡ take n es → back ≡ drop n es → n ≡ length es / 2 → 1 < length es
    → IsUnionOf (map expression_of prefix) a → IsUnionOf (map expression_of back) b
    → IfOk r (λ e. expression_of e ≡ union a b) → IfOk r (IsUnion es)
union_of_halves es prefix back n a b (Ok e) front_is back_is half many left right is_union =
    let within : n ≤ length es = omega (arith, half) in
    let parts : es ≡ prefix ++ back = sym (ap (λ (l : List StringExpression). l ++ back) front_is ∙ ap (λ (l : List StringExpression). take n es ++ l) back_is ∙ take-append-drop n es) in
    let first : length (map expression_of prefix) ≡ length (map expression_of es) / 2 =
    length-map prefix expression_of ∙ ap length front_is ∙ length-take-le n es within ∙ half ∙ ap (λ (k : ℕ). k / 2) (sym (length-map es expression_of)) in
    let more : 1 < length (map expression_of es) = omega (arith, length-map es expression_of) in
    subst (λ (x : Expression). IsUnionOf (map expression_of es) x) (sym is_union)
    (of_halves (map expression_of es) (map expression_of prefix) (map expression_of back) a b
    (ap (map expression_of) parts ∙ map-append expression_of prefix back) first more left right)
union_of_halves es prefix back n a b (Err e) front_is back_is half many left right is_union = tt
