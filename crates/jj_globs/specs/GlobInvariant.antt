-- Invariant of a compiled glob: its tokens, its NFA, the state at which its literal suffix begins,
-- its literal prefix, and its bit tables belong to its pattern.
-- Machinery of private functions and fields.
use Rattle.std.specs.Prelude.{◌≡◌, ℕ, ◌<◌, List, length, Option, Ok, IfSome}
use Rattle.jj_globs.specs.declared.glob.token.Options.{Options}
use Rattle.jj_globs.specs.declared.glob.token.Token.{Token}
use Rattle.jj_globs.specs.declared.glob.step.Step.{Step}
use Rattle.jj_globs.specs.GlobSyntax.{tokens_of}
use Rattle.jj_globs.specs.GlobCompilation.{IsNfaOf}
use Rattle.jj_globs.specs.GlobSuffix.{IsLiteralSuffix}
use Rattle.jj_globs.specs.GlobPrefix.{prefix_of_tokens}
use Rattle.jj_globs.specs.declared.glob.bit_tables.BitTables.{BitTables}
use Rattle.jj_globs.specs.GlobTables.{AreTablesOf, after_bytes}

-- The parts of a compiled glob: the tokens of its string, their NFA, of fewer than 1,048,576
-- states, the state where its literal suffix starts, its literal prefix, and the tables, if there
-- are any.
pub record IsCompiledGlob (text : List ℕ) (o : Options) (ts : List Token) (ss : List Step)
    (suffix_start : ℕ) (prefix : List ℕ) (tables : Option BitTables) : Type 0 where
  pub reads : tokens_of text ≡ Ok ts
  pub steps : IsNfaOf o ts ss
  pub size : length ss < 1048576
  pub end : IsLiteralSuffix ss suffix_start
  pub begins : prefix ≡ prefix_of_tokens o ts
  pub simulates : IfSome tables (AreTablesOf o (after_bytes ss))
