-- The result of compiling an expression.
use Rattle.std.proofs.Common.{◌≡◌, ℕ, List, [], length, Result, Ok, Err, IfOk, IfErr, sym, subst, inl, inr}
use Rattle.jj_filesets.specs.declared.fileset.error.FilesetParseError.{FilesetParseError}
use Rattle.jj_filesets.specs.declared.fileset.error.FilesetParseError.TheVariants.{Syntax, Memory}
use Rattle.jj_filesets.specs.declared.fileset.error.FilesetParseErrorKind.{FilesetParseErrorKind}
use Rattle.jj_filesets.specs.declared.fileset.program.Step.{Step}
use Rattle.jj_filesets.specs.declared.fileset.token.Lexeme.{Lexeme}
use Rattle.jj_filesets.specs.SyntaxTrees.{SyntaxTree}
use Rattle.jj_filesets.specs.Strings.{IsResultOf}
use Rattle.jj_filesets.specs.Tokens.{Tokenizes, IsTokenError}
use Rattle.jj_filesets.specs.Grammar.{Derives, expression}
use Rattle.jj_filesets.specs.Programs.{postfix, tree_of, IsProgram}
use Rattle.jj_filesets.specs.Parsing.{before, parsed_after}
use Rattle.jj_filesets.specs.Expressions.{Spells, IsUnspelled, IsParseError, IsTokenOrderError}
use Rattle.jj_filesets.proofs.Parsed.{parsed, underived, failed_cause}
use Rattle.jj_filesets.proofs.Trees.{is_program, tree_of-program}
use Rattle.jj_filesets.proofs.Unique.{one_tokenization, no_tokenization}

pub record IsCompiled {V : Type 0} (view : V → List Step) (text : List ℕ) (result : Result V FilesetParseError) : Type 0 where
  pub spelled : IfOk result (λ program. (set : SyntaxTree) × Spells text set × (view program ≡ postfix set))
  pub unspelled : IfErr result (IsUnspelled text)
  pub cause : IfErr result (IsParseError text)

-- an error of a token is one of the expression
pub token_unspelled : (text : List ℕ) (error : FilesetParseError) → IsTokenError (length text) text error → IsUnspelled text error
token_unspelled text Memory f = tt
token_unspelled text (Syntax at kind) f = λ set (ls, t, d). no_tokenization f t

pub token_cause : (text : List ℕ) (error : FilesetParseError) → IsTokenError (length text) text error → IsParseError text error
token_cause text Memory f = tt
token_cause text (Syntax at kind) f = inl f

order_error : (len : ℕ) (lexemes : List Lexeme) (at other : ℕ) (kind found : FilesetParseErrorKind) → Syntax at kind ≡ Syntax other found → IsTokenOrderError len lexemes other found → IsTokenOrderError len lexemes at kind
order_error len lexemes at other kind found is order =
    let same : other ≡ at = cc in
    let alike : found ≡ kind = cc in
    subst (λ k. IsTokenOrderError len lexemes at k) alike (subst (λ n. IsTokenOrderError len lexemes n found) same order)

-- the program of the tokens, or the error of parsing them
pub compiled : {V : Type 0} (text : List ℕ) (lexemes : List Lexeme) (result : Result V FilesetParseError) (view : V → List Step) → Tokenizes (length text) text lexemes
    → IsResultOf view result (parsed_after (length text) (Ok (before [] [])) lexemes) → IsCompiled view text result
compiled text lexemes (Ok program) view t g =
    let (set, d, is) = parsed (length text) lexemes (view program) g in
    record { spelled = (set, (lexemes, t, d), is); unspelled = tt; cause = tt }
compiled text lexemes (Err Memory) view t g = record { spelled = tt; unspelled = tt; cause = tt }
compiled text lexemes (Err (Syntax at kind)) view t g =
    let (other, found, is, order) = failed_cause (length text) lexemes (Syntax at kind) g in
    record {
      spelled = tt;
      unspelled = λ set (ls, u, d). underived (length text) lexemes (Syntax at kind) g set (subst (λ l. Derives expression l set) (one_tokenization u t) d);
      cause = inr (lexemes, t, order_error (length text) lexemes at other kind found is order);
    }

-- the model of a compiled expression
pub has_program : (text : List ℕ) (steps : List Step) → (set : SyntaxTree) × Spells text set × (steps ≡ postfix set) → IsProgram steps
has_program text steps (set, spelled, is) = is_program steps set is

pub spells_tree : (text : List ℕ) (steps : List Step) → (set : SyntaxTree) × Spells text set × (steps ≡ postfix set) → Spells text (tree_of steps)
spells_tree text steps (set, spelled, is) = subst (Spells text) (sym (tree_of-program steps set is)) spelled
