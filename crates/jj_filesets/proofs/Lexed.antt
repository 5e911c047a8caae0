-- Splitting an expression into tokens from left to right.
use Rattle.std.proofs.Common.{◌≡◌, ◌∙◌, ℕ, ◌-◌, ◌<◌, ◌≤◌, true, false, List, [], ◌∷◌, ◌++◌, length, Ok, Err, ap, sym, subst, arith, append_assoc, append-nil}
use Rattle.jj_filesets.specs.declared.fileset.error.FilesetParseError.{FilesetParseError}
use Rattle.jj_filesets.specs.declared.fileset.error.FilesetParseError.TheVariants.{Syntax, Memory}
use Rattle.jj_filesets.specs.declared.fileset.token.Token.{Token}
use Rattle.jj_filesets.specs.declared.fileset.token.Lexeme.{Lexeme}
use Rattle.jj_filesets.specs.Strings.{Fails, is_space}
use Rattle.jj_filesets.specs.Tokens.{token_at, Tokenizes, end, space, next, HasTokenError, here, after_space, later, IsTokenError}

-- the tokens so far and those of the rest are those of the whole, and so are the errors of the rest
pub record IsLexed (total : ℕ) (text rest : List ℕ) (lexemes : List Lexeme) : Type 0 where
  pub within : length rest ≤ total
  pub tokens : (ls : List Lexeme) → Tokenizes total rest ls → Tokenizes total text (lexemes ++ ls)
  pub faults : (error : FilesetParseError) → HasTokenError total error rest → HasTokenError total error text

pub lexed_none : (total : ℕ) (text : List ℕ) (lexemes : List Lexeme) → length text ≤ total → lexemes ≡ [] → IsLexed total text text lexemes
lexed_none total text lexemes fits none = record {
  within = fits;
  tokens = λ ls t. subst (λ l. Tokenizes total text (l ++ ls)) (sym none) t;
  faults = λ error f. f;
}

pub lexed_space : (total : ℕ) (text rest : List ℕ) (lexemes : List Lexeme) (b : ℕ) (bs : List ℕ) → IsLexed total text rest lexemes → rest ≡ b ∷ bs → is_space b ≡ true → IsLexed total text bs lexemes
lexed_space total text rest lexemes b bs so split h = record {
  within = omega (arith, so.within, ap length split);
  tokens = λ ls t. so.tokens ls (subst (λ l. Tokenizes total l ls) (sym split) (space h t));
  faults = λ error f. so.faults error (subst (HasTokenError total error) (sym split) (after_space h f));
}

pub lexed_token : (total at : ℕ) (text rest : List ℕ) (lexemes new : List Lexeme) (b : ℕ) (bs after : List ℕ) (token : Token) → IsLexed total text rest lexemes → rest ≡ b ∷ bs → is_space b ≡ false
    → token_at total rest ≡ Ok (token, after) → length after < length rest → at ≡ total - length rest → new ≡ lexemes ++ record { at = at; token = token } ∷ [] → IsLexed total text after new
lexed_token total at text rest lexemes new b bs after token so split h is shorter place pushes =
    let reads : token_at total (b ∷ bs) ≡ Ok (token, after) = ap (token_at total) (sym split) ∙ is in
    let offset : at ≡ total - length (b ∷ bs) = place ∙ ap (λ l. total - length l) split in
    record {
      within = omega (arith, so.within, shorter);
      tokens = λ ls t.
          let all = so.tokens (record { at = at; token = token } ∷ ls)
          (subst (λ l. Tokenizes total l (record { at = at; token = token } ∷ ls)) (sym split) (subst (λ n. Tokenizes total (b ∷ bs) (record { at = n; token = token } ∷ ls)) (sym offset) (next h reads t))) in
          subst (Tokenizes total text) (sym (append_assoc lexemes (record { at = at; token = token } ∷ []) ls) ∙ ap (λ l. l ++ ls) (sym pushes)) all;
      faults = λ error f. so.faults error (subst (HasTokenError total error) (sym split) (later h reads f));
    }

pub lexed_fault : (total : ℕ) (text rest : List ℕ) (lexemes : List Lexeme) (b : ℕ) (bs : List ℕ) (error : FilesetParseError) → IsLexed total text rest lexemes → rest ≡ b ∷ bs → is_space b ≡ false
    → token_at total rest ≡ Err error → HasTokenError total error text
lexed_fault total text rest lexemes b bs error so split h is =
    so.faults error (subst (HasTokenError total error) (sym split) (here h (ap (token_at total) (sym split) ∙ is)))

pub lexed_error : (total : ℕ) (text rest : List ℕ) (lexemes : List Lexeme) (b : ℕ) (bs : List ℕ) (error : FilesetParseError) → IsLexed total text rest lexemes → rest ≡ b ∷ bs → is_space b ≡ false
    → Fails error (token_at total rest) → total ≡ length text → IsTokenError (length text) text error
lexed_error total text rest lexemes b bs Memory so split h fails whole = tt
lexed_error total text rest lexemes b bs (Syntax at kind) so split h fails whole =
    subst (λ n. HasTokenError n (Syntax at kind) text) whole (lexed_fault total text rest lexemes b bs (Syntax at kind) so split h fails)

pub lexed_all : (total : ℕ) (text rest : List ℕ) (lexemes : List Lexeme) → IsLexed total text rest lexemes → rest ≡ [] → Tokenizes total text lexemes
lexed_all total text rest lexemes so none =
    subst (Tokenizes total text) (append-nil lexemes) (so.tokens [] (subst (λ l. Tokenizes total l []) (sym none) end))
