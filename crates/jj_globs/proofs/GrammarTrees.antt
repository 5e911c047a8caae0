-- The tokens of a syntax tree, and the tree that they have.
use Rattle.std.proofs.Common.{◌≡◌, ◌∙◌, List, [], ◌∷◌, ◌++◌, reverse, refl, append-nil, append_assoc}
use Rattle.std.proofs.lemmas.List.{reverse-append}
use Rattle.jj_globs.specs.declared.glob.token.Token.{Token}
use Rattle.jj_globs.specs.declared.glob.token.Token.TheVariants.{Part as part, Open, Or, Close}
use Rattle.jj_globs.specs.GlobMeaning.{Sequence, done, next, group, Alternatives, no_more, either, Reading, before, reading_of}

-- each group has an alternative
abbrev mutual
  pub HasAlternatives : Sequence → Type 0
  HasAlternatives done = Unit {0}
  HasAlternatives (next p s) = HasAlternatives s
  HasAlternatives (group no_more s) = ⊥
  HasAlternatives (group (either first others) s) = HasAlternatives first × AllHaveAlternatives others × HasAlternatives s

  pub AllHaveAlternatives : Alternatives → Type 0
  AllHaveAlternatives no_more = Unit {0}
  AllHaveAlternatives (either s a) = HasAlternatives s × AllHaveAlternatives a

abbrev mutual
  -- appends the tokens of a sequence, the last first
  pub push : Sequence → List Token → List Token
  push done ts = ts
  push (next p s) ts = push s (part p ∷ ts)
  push (group a s) ts = push s (Close ∷ push_first a (Open ∷ ts))

  -- appends the tokens of all alternatives
  pub push_first : Alternatives → List Token → List Token
  push_first no_more ts = ts
  push_first (either s a) ts = push_more a (push s ts)

  -- appends the tokens of the alternatives after another
  pub push_more : Alternatives → List Token → List Token
  push_more no_more ts = ts
  push_more (either s a) ts = push_more a (push s (Or ∷ ts))

-- the tree of tokens, the last first, before what is read
abbrev pub read_back : List Token → Reading → Reading
read_back [] r = r
read_back (t ∷ ts) r = read_back ts (before t r)

abbrev pub reading : Sequence → List (Alternatives × Sequence) → Reading
reading s gs = record { here = s; outer = gs }

mutual
  read_back-push : (s : Sequence) (ts : List Token) (gs : List (Alternatives × Sequence)) → HasAlternatives s → read_back (push s ts) (reading done gs) ≡ read_back ts (reading s gs)
  read_back-push done ts gs h = refl
  read_back-push (next p s) ts gs h = read_back-push s (part p ∷ ts) gs h
  read_back-push (group no_more s) ts gs h = absurd h
  read_back-push (group (either first others) s) ts gs (h, k, l) =
      read_back-push s (Close ∷ push_more others (push first (Open ∷ ts))) gs l
      ∙ read_back-more others (push first (Open ∷ ts)) s gs k
      ∙ read_back-push first (Open ∷ ts) ((others, s) ∷ gs) h

  read_back-more : (a : Alternatives) (ts : List Token) (s : Sequence) (gs : List (Alternatives × Sequence)) → AllHaveAlternatives a → read_back (push_more a ts) (reading done ((no_more, s) ∷ gs)) ≡ read_back ts (reading done ((a, s) ∷ gs))
  read_back-more no_more ts s gs h = refl
  read_back-more (either first others) ts s gs (h, k) =
      read_back-more others (push first (Or ∷ ts)) s gs k
      ∙ read_back-push first (Or ∷ ts) ((others, s) ∷ gs) h

shift : (t : Token) (ts more : List Token) → reverse (t ∷ ts) ++ more ≡ reverse ts ++ t ∷ more
shift t ts more = rw (reverse-append (t ∷ []) ts) (append_assoc (reverse ts) (t ∷ []) more)

read_back-reading_of : (ts more : List Token) → reading_of (reverse ts ++ more) ≡ read_back ts (reading_of more)
read_back-reading_of [] more = refl
read_back-reading_of (t ∷ ts) more = rw (shift t ts more) (read_back-reading_of ts (t ∷ more))

-- the tokens of a tree have that tree
pub reading_of-push : (s : Sequence) → HasAlternatives s → reading_of (reverse (push s [])) ≡ reading s []
reading_of-push s h =
    let back : reading_of (reverse (push s []) ++ []) ≡ read_back (push s []) (reading done []) = read_back-reading_of (push s []) [] in
    let same : reading_of (reverse (push s [])) ≡ read_back (push s []) (reading done []) = rw (append-nil (reverse (push s []))) at back in
    same ∙ read_back-push s [] [] h
