-- The parser's steps over the lexemes of a rule.
use Rattle.std.proofs.Common.{◌≡◌, ◌⊎◌, ◌∙◌, ap, ℕ, zero, suc, Bool, true, false, List, [], ◌∷◌, refl, sym, inl, inr, eqb-true}
use Rattle.jj_globs.specs.declared.glob.token.Token.{Token}
use Rattle.jj_globs.specs.declared.glob.token.Token.TheVariants.{Part as part}
use Rattle.jj_globs.specs.declared.glob.token.Part.TheVariants.{Byte, Star, LeadingDirs, InnerDirs}
use Rattle.jj_globs.specs.declared.glob.symbol.Position.{Position}
use Rattle.jj_globs.specs.declared.glob.symbol.Position.TheVariants.{Start, Elsewhere}
use Rattle.jj_globs.specs.GlobSyntax.{Lexeme, asterisk, slash, comma, close_brace, literal, position_of, two_stars, with_dirs, with_last_dirs, parse}
use Rattle.jj_globs.specs.GlobGrammar.{ends, is_slash, has_dirs, has_component, Dirs, none, more}

-- whether groups are open
abbrev pub in_group : ℕ → Bool
in_group zero = false
in_group (suc n) = true

-- at the end of a sequence, a dropped group does not matter
pub end-step : (n : ℕ) (e : Bool) (ts : List Token) (ws : List Lexeme) → ends (in_group n) ws ≡ true → parse n e ts ws ≡ parse n false ts ws
unfolding parse
end-step zero e ts [] h = refl
end-step (suc n) e ts [] h = cc
end-step zero e ts (comma ∷ ws) h = cc
end-step (suc n) e ts (comma ∷ ws) h = refl
end-step zero e ts (close_brace ∷ ws) h = cc
end-step (suc n) e ts (close_brace ∷ ws) h = refl
end-step n e ts (w ∷ ws) h = cc

pub slash-step : (n : ℕ) (e : Bool) (ts : List Token) (w : Lexeme) (ws : List Lexeme) → is_slash w ≡ true → parse n e ts (w ∷ ws) ≡ parse n false (part (Byte 47) ∷ ts) ws
unfolding parse
slash-step n e ts slash ws h = refl
slash-step n e ts (literal b) ws h = rw (eqb-true b 47 h) refl
slash-step n e ts w ws h = cc

pub comma-step : (n : ℕ) (e : Bool) (ts : List Token) (ws : List Lexeme) → in_group n ≡ false → parse n e ts (comma ∷ ws) ≡ parse n false (part (Byte 44) ∷ ts) ws
unfolding parse
comma-step zero e ts ws h = refl
comma-step (suc n) e ts ws h = cc

-- a `**` that ends its sequence
pub last-step : (n : ℕ) (e : Bool) (ts : List Token) (ws : List Lexeme) → ends (in_group n) ws ≡ true → parse n e ts (asterisk ∷ asterisk ∷ ws) ≡ parse n false (with_last_dirs (position_of e ts) ts) ws
unfolding parse
last-step zero e ts [] h = refl
last-step (suc n) e ts [] h = cc
last-step zero e ts (comma ∷ ws) h = cc
last-step (suc n) e ts (comma ∷ ws) h = refl
last-step zero e ts (close_brace ∷ ws) h = cc
last-step (suc n) e ts (close_brace ∷ ws) h = refl
last-step n e ts (w ∷ ws) h = cc

-- a `**/` after tokens with this position
pub dirs-step : (n : ℕ) (e : Bool) (ts : List Token) (ws : List Lexeme) (p : Position) → position_of e ts ≡ p → parse n e ts (asterisk ∷ asterisk ∷ slash ∷ ws) ≡ parse n false (with_dirs p ts) ws
unfolding parse
dirs-step n e ts ws p h = ap (λ (q : Position). parse n false (with_dirs q ts) ws) h

-- a `*` here is a star: no `**` component can be here, or none is
abbrev pub IsStarHere : ℕ → Bool → List Token → List Lexeme → Type 0
IsStarHere n e ts ws = (position_of e ts ≡ Elsewhere) ⊎ ((has_component (in_group n) (asterisk ∷ ws) ≡ false) ⊎ ((position_of e ts ≡ Start) × (has_dirs (asterisk ∷ ws) ≡ false)))

last-stars : (n : ℕ) (e : Bool) (ts : List Token) (ws : List Lexeme) → IsStarHere n e ts (asterisk ∷ ws) → has_component (in_group n) (asterisk ∷ asterisk ∷ ws) ≡ true → with_last_dirs (position_of e ts) ts ≡ two_stars ts
last-stars n e ts ws (inl h) k = rw h refl
last-stars n e ts ws (inr (inl h)) k = let f : true ≡ false = sym k ∙ h in cc
last-stars n e ts ws (inr (inr (h, d))) k = rw h refl

pub star-step : (n : ℕ) (e : Bool) (ts : List Token) (ws : List Lexeme) → IsStarHere n e ts ws → parse n e ts (asterisk ∷ ws) ≡ parse n false (part Star ∷ ts) ws
unfolding parse
star-step n e ts (asterisk ∷ slash ∷ ws) (inl h) = rw h refl
star-step n e ts (asterisk ∷ slash ∷ ws) (inr (inl h)) = cc
star-step n e ts (asterisk ∷ slash ∷ ws) (inr (inr (h, d))) = cc
star-step zero e ts (asterisk ∷ asterisk ∷ ws) h = sym (star-step zero false (part Star ∷ ts) (asterisk ∷ ws) (inl refl))
star-step (suc n) e ts (asterisk ∷ asterisk ∷ ws) h = sym (star-step (suc n) false (part Star ∷ ts) (asterisk ∷ ws) (inl refl))
star-step zero e ts (asterisk ∷ []) h = rw (last-stars zero e ts [] h refl) refl
star-step (suc n) e ts (asterisk ∷ comma ∷ ws) h = rw (last-stars (suc n) e ts (comma ∷ ws) h refl) refl
star-step (suc n) e ts (asterisk ∷ close_brace ∷ ws) h = rw (last-stars (suc n) e ts (close_brace ∷ ws) h refl) refl
star-step zero e ts (asterisk ∷ w ∷ ws) h = refl
star-step (suc n) e ts (asterisk ∷ ws) h = refl
star-step n e ts ws h = refl

-- more `**/` in a run change nothing
pub leading-run : (n : ℕ) (ts : List Token) {ws rest : List Lexeme} → Dirs ws rest → parse n false (part LeadingDirs ∷ ts) ws ≡ parse n false (part LeadingDirs ∷ ts) rest
unfolding parse
leading-run n ts none = refl
leading-run n ts (more d) = leading-run n ts d

pub inner-run : (n : ℕ) (ts : List Token) {ws rest : List Lexeme} → Dirs ws rest → parse n false (part InnerDirs ∷ ts) ws ≡ parse n false (part InnerDirs ∷ ts) rest
unfolding parse
inner-run n ts none = refl
inner-run n ts (more d) = inner-run n ts d
