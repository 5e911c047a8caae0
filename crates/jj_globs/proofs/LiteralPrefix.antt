-- Every match begins with the glob's literal prefix, and so does every prefix match.
use Rattle.std.proofs.Common.{◌≡◌, ◌∙◌, ap, sym, subst, refl, ℕ, Bool, true, false, ◌==◌, inl, inr, List, [], ◌∷◌, ◌++◌, append_assoc, if◌then◌else◌}
use Rattle.std.proofs.lemmas.Bool.Decides.{Decides-eqb}
use Rattle.jj_globs.specs.declared.glob.token.Part.TheVariants.{Byte, AnyByte, Star, LeadingDirs, InnerDirs, Below, Everything, OneOf}
use Rattle.jj_globs.specs.declared.glob.token.Token.{Token}
use Rattle.jj_globs.specs.declared.glob.token.Token.TheVariants.{Part as part, Open, Or, Close}
use Rattle.jj_globs.specs.declared.glob.token.Options.{Options}
use Rattle.jj_globs.specs.GlobMeaning.{lower, same_byte, reading_of, Matches, GlobSpec, IsMatch, IsPrefixMatch}
use Rattle.jj_globs.specs.GlobPrefix.{leading_bytes, prefix_of_tokens, parsed_prefix, glob_prefix}

-- the bytes begin with this prefix
abbrev pub BeginsWith : List ℕ → List ℕ → Type 0
BeginsWith bytes prefix = (rest : List ℕ) × (bytes ≡ prefix ++ rest)

same_alone : (o : Options) → o.icase ≡ false → (a b : ℕ) → same_byte o a b ≡ (a == b)
same_alone o e a b = ap (λ t. if t then lower a == lower b else a == b) e

matches_after_bytes : (o : Options) → o.icase ≡ false → (ts : List Token) (bs : List ℕ) → Matches o (reading_of ts).here bs → BeginsWith bs (leading_bytes ts)
matches_after_bytes o e [] bs h = (bs, refl)
matches_after_bytes o e (part (Byte c) ∷ ts) bs (prefix, rest, split, (b, is, same), later) =
    let after = matches_after_bytes o e ts rest later in
    let byte : c ≡ b = (Decides-eqb c b).0 (sym (same_alone o e c b) ∙ same) in
    (after.0, split ∙ ap (λ l. l ++ rest) is ∙ ap (λ x. x ∷ rest) (sym byte) ∙ ap (λ l. c ∷ l) after.1)
matches_after_bytes o e (part AnyByte ∷ ts) bs h = (bs, refl)
matches_after_bytes o e (part Star ∷ ts) bs h = (bs, refl)
matches_after_bytes o e (part LeadingDirs ∷ ts) bs h = (bs, refl)
matches_after_bytes o e (part InnerDirs ∷ ts) bs h = (bs, refl)
matches_after_bytes o e (part Below ∷ ts) bs h = (bs, refl)
matches_after_bytes o e (part Everything ∷ ts) bs h = (bs, refl)
matches_after_bytes o e (part (OneOf class) ∷ ts) bs h = (bs, refl)
matches_after_bytes o e (Open ∷ ts) bs h = (bs, refl)
matches_after_bytes o e (Or ∷ ts) bs h = (bs, refl)
matches_after_bytes o e (Close ∷ ts) bs h = (bs, refl)

matches_with_prefix : (o : Options) (ts : List Token) (bs : List ℕ) → Matches o (reading_of ts).here bs → BeginsWith bs (prefix_of_tokens o ts)
matches_with_prefix o ts bs h = by_case o.icase refl
  where
    by_case : (t : Bool) → o.icase ≡ t → BeginsWith bs (prefix_of_tokens o ts)
    by_case true e = (bs, ap (λ (l : List ℕ). l ++ bs) (sym (ap (λ t. if t then [] else leading_bytes ts) e)))
    by_case false e = subst (BeginsWith bs) (sym (ap (λ t. if t then [] else leading_bytes ts) e)) (matches_after_bytes o e ts bs h)

match_begins : (g : GlobSpec) (bs : List ℕ) → IsMatch g bs → BeginsWith bs (glob_prefix g)
unfolding glob_prefix
match_begins g bs (ts, reads, h) = subst (BeginsWith bs) (ap (parsed_prefix g.options) (sym reads)) (matches_with_prefix g.options ts bs h)

pub prefix_match_begins : (g : GlobSpec) (bs : List ℕ) → IsPrefixMatch g bs → BeginsWith bs (glob_prefix g)
prefix_match_begins g bs (inl whole) = match_begins g bs whole
prefix_match_begins g bs (inr (prefix, rest, split, matched)) =
    let begins = match_begins g prefix matched in
    (begins.0 ++ 47 ∷ rest, split ∙ ap (λ l. l ++ 47 ∷ rest) begins.1 ∙ append_assoc (glob_prefix g) begins.0 (47 ∷ rest))
