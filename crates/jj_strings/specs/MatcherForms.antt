-- The form of a compiled matcher.
-- Cited by contracts of public items: expression_form, pattern_form.
use Rattle.std.specs.Prelude.{ℕ, if◌then◌else◌, List, Option, None, Some, string_bytes}
use Rattle.jj_strings.specs.declared.str_util.matcher.StringMatcher.{StringMatcher}
use Rattle.jj_strings.specs.declared.str_util.matcher.StringMatcher.TheVariants.{All, Exact, Expr, Fn}
use Rattle.jj_strings.specs.CompiledViews.{source_expression}
use Rattle.jj_strings.specs.StringSets.{Pattern, is_all, exact_string, Expression, of_pattern, not_in, union, intersection}

-- every string, a single string, an expression, or a predicate of the caller
pub data Form : Type 0 where
  every_string : Form
  one_string : List ℕ → Form
  an_expression : Expression → Form
  a_predicate : Form

-- the form of a matcher
abbrev pub form_of : {F : _} {V : _} {m : _} → StringMatcher F V m → Form
form_of All = every_string
form_of (Exact text) = one_string (string_bytes text)
form_of (Expr e) = an_expression (source_expression e)
form_of (Fn p) = a_predicate

-- a single string if there is one, else the pattern as an expression
abbrev pub string_or_pattern : Option (List ℕ) → Pattern → Form
string_or_pattern (Some text) p = one_string text
string_or_pattern None p = an_expression (of_pattern p)

-- a pattern that trivially matches every string compiles to that, an exact one to its string, any
-- other to an expression
abbrev pub pattern_form : Pattern → Form
pattern_form p = if is_all p then every_string else string_or_pattern (exact_string p) p

-- a single pattern compiles as the pattern does
abbrev pub expression_form : Expression → Form
expression_form (of_pattern p) = pattern_form p
expression_form (not_in e) = an_expression (not_in e)
expression_form (union a b) = an_expression (union a b)
expression_form (intersection a b) = an_expression (intersection a b)
