-- The query of a log returns no rows that a write has shown, under any schema.
use Rattle.std.specs.Prelude.{⊤}
use Rattle.std.proofs.Common.{◌≡◌, ◌∙◌, inl, inr, ℕ, ◌+◌, List, None, Option, Ok, Err, Result, IsSome, refl, sym, ap, subst}
use Rattle.std.proofs.lemmas.Bool.{cases_Bool}
use Rattle.sqlite.specs.Command.{Command}
use Rattle.sqlite.specs.Given.{Returns}
use Rattle.sqlite.specs.Listing.{understood, reads_listing, if_select, is_select, listing_schema}
use Rattle.sqlite.specs.Schema.{Schema}
use Rattle.sqlite_ast.specs.declared.Statement.{Statement}
use Rattle.sqlite_ast.specs.declared.Statement.TheVariants.{Select}
use Rattle.sqlite_resolve.specs.Compile.{command, compiled, first, meaning, planned, returning, returning_by, small, timed, with_command}
use Rattle.sqlite_resolve.specs.Lowering.{Checked, and_then}
use Rattle.sqlite_resolve.specs.Scope.{Name}
use Rattle.sqlite_resolve.specs.declared.compiled.Compiled.{Compiled}
use Rattle.sqlite_resolve.specs.declared.error.CompileError.{CompileError}
use Rattle.sqlite_schema.specs.declared.command.Returning.{Returning}
use Rattle.sqlite_syntax.specs.declared.statement.Parsed.{Parsed}
use Rattle.sqlite_tied.specs.Compute.{everything}
use Rattle.jj_sqlite.specs.Tables.{select_statement}

abbrev IsQuery : Statement → Type 0
IsQuery (Select s) = ⊤
IsQuery _ = ⊥

abbrev IsQueryIfParsed : Checked Parsed → Type 0
IsQueryIfParsed (Ok p) = IsQuery p.statement
IsQueryIfParsed (Err e) = ⊤

returns_none : (schema : Schema) (base : ℕ) (s : Statement) → IsQuery s → returning_by schema base s ≡ Ok None
returns_none schema base (Select s) is = refl
returns_none schema base _ is = absurd is

with_none : (r : Checked Command) (m : Command × Option Returning) → and_then r (λ c. Ok (c, None)) ≡ Ok m → m.1 ≡ None
with_none (Ok c) m h = let e : (c, None) ≡ m = cc in ap (λ (x : Command × Option Returning). x.1) (sym e)
with_none (Err e) m h = absurd (let x = h in cc)

meaning_none : (schema : Schema) (p : Parsed) (base : ℕ) (m : Command × Option Returning) → IsQuery p.statement → meaning schema p base ≡ Ok m → m.1 ≡ None
unfolding meaning returning
meaning_none schema p base m is h =
    with_none (command schema p.formats base p.statement) m
    (subst (λ (r : Checked (Option Returning)). and_then r (λ shown. and_then (command schema p.formats base p.statement) (λ c. Ok (c, shown))) ≡ Ok m) (returns_none schema base p.statement is) h)

of_meaning : (p : Parsed) (formats : List Name) (r : Checked (Command × Option Returning)) (c : Compiled) → ((m : Command × Option Returning) → r ≡ Ok m → m.1 ≡ None)
    → and_then (and_then r (λ found. Ok (formats, found))) (λ plan. Ok (with_command p plan)) ≡ Ok c → c.returning ≡ None
of_meaning p formats (Ok m) c none h = let e : with_command p (formats, m) ≡ c = cc in ap (λ (x : Compiled). x.returning) (sym e) ∙ none m refl
of_meaning p formats (Err e) c none h = absurd (let x = h in cc)

of_parsed : (schema : Schema) (r : Checked Parsed) (c : Compiled) → IsQueryIfParsed r → and_then r (λ p. and_then (planned schema p) (λ plan. Ok (with_command p plan))) ≡ Ok c → c.returning ≡ None
unfolding planned
of_parsed schema (Ok p) c is h =
    of_meaning p (timed schema p.formats p.statement) (meaning schema p (small p.names + small (timed schema p.formats p.statement))) c
    (λ m. meaning_none schema p (small p.names + small (timed schema p.formats p.statement)) m is) h
of_parsed schema (Err e) c is h = absurd (let x = h in cc)

is_query : IsQueryIfParsed (first select_statement)
unfolding first everything
is_query = tt

compiled_none : (schema : Schema) (c : Compiled) → compiled schema select_statement ≡ Ok c → c.returning ≡ None
unfolding compiled
compiled_none schema c h = of_parsed schema (first select_statement) c is_query h

if_select_none : (r : Result Compiled CompileError) (c : Compiled) → ((d : Compiled) → r ≡ Ok d → d.returning ≡ None) → if_select r ≡ Ok c → c.returning ≡ None
if_select_none (Ok d) c none h = elim (cases_Bool (is_select d.command)) [
  | inl selects ↦ let e : d ≡ c = let x = rw selects at h in cc in ap (λ (x : Compiled). x.returning) (sym e) ∙ none d refl
  | inr other ↦ absurd (let x = rw other at h in cc)
]
if_select_none (Err e) c none h = absurd (let x = h in cc)

pub returns_nothing : (schema : Schema) (c : Compiled) → understood schema select_statement ≡ Ok c → c.returning ≡ None
unfolding understood
returns_nothing schema c h = elim (cases_Bool (reads_listing schema select_statement)) [
  | inl listed ↦ if_select_none (compiled listing_schema select_statement) c (compiled_none listing_schema) (rw listed at h)
  | inr other ↦ compiled_none schema c (rw other at h)
]

pub never_some : ¬ (IsSome {T = Returning} None)
never_some some = absurd (let e = some in cc)

none_returned : (r : Result Compiled CompileError) → ((c : Compiled) → r ≡ Ok c → c.returning ≡ None) → ¬ Returns r
none_returned (Ok c) none some = never_some (subst (λ (o : Option Returning). IsSome o) (none c refl) some)
none_returned (Err e) none some = some

pub never_returns : (schema : Schema) → ¬ Returns (understood schema select_statement)
never_returns schema = none_returned (understood schema select_statement) (returns_nothing schema)
