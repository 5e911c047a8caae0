-- Soundness of the executable semantics: it decides the meaning of globs.
use Rattle.std.proofs.Common.{◌≡◌, ℕ, Bool, true, false, ◌==◌, ◌&&◌, ◌||◌, ◌⊎◌, List, [], ◌∷◌, ◌++◌, refl, sym, subst, ap, ◌∙◌, inl, inr, Result, Ok, All, IsTrue, append_assoc}
use Rattle.std.specs.Bool.{Decides}
use Rattle.std.proofs.lemmas.List.Elements.{All-nil, All-cons, All-head, All-tail}
use Rattle.std.proofs.lemmas.Bool.Decides.{Decides-like, Decides-and, Decides-or, Decides-eqb}
use Rattle.jj_globs.specs.declared.glob.token.Part.{Part}
use Rattle.jj_globs.specs.declared.glob.token.Part.TheVariants.{Byte, AnyByte, Star, LeadingDirs, InnerDirs, Below, Everything, OneOf}
use Rattle.jj_globs.specs.declared.glob.token.Token.{Token}
use Rattle.jj_globs.specs.declared.glob.token.Token.TheVariants.{Part as part, Open, Or, Close}
use Rattle.jj_globs.specs.declared.glob.token.Options.{Options}
use Rattle.jj_globs.specs.GlobMeaning.{same_byte, is_plain, in_class, IsSingle, MatchesPart, Sequence, done, next, group, Alternatives, no_more, either, Reading, before, before_or, before_open, reading_of, IsConcatenation, Matches, MatchesAny, GlobSpec, IsMatch}
use Rattle.jj_globs.specs.GlobSyntax.{tokens_of}
use Rattle.jj_globs.specs.declared.glob.error.GlobError.{GlobError}
use Rattle.jj_globs.specs.GlobBacktracking.{Test, one, many, past_slash, is_slash, any_byte, part_then, Tests, test_or, test_open, test_before, is_empty, tests_of}

abbrev pub Bytes : Type 1
Bytes = List ℕ → Type 0

-- the test decides P
abbrev pub DecidesAll : Test → Bytes → Type 0
DecidesAll t P = (bs : List ℕ) → Decides (t bs) (P bs)

-- 1. Splits.

pub split_nil : (A B : Bytes) → IsConcatenation A B [] → A [] × B []
split_nil A B ([], rest, e, a, b) = (a, subst B (sym e) b)
split_nil A B (c ∷ f, rest, e, a, b) = cc

pub split_cons : (A B : Bytes) (c : ℕ) (bs : List ℕ) → IsConcatenation A B (c ∷ bs)
    → (A [] × B (c ∷ bs)) ⊎ IsConcatenation (λ f. A (c ∷ f)) B bs
split_cons A B c bs ([], rest, e, a, b) = inl (a, subst B (sym e) b)
split_cons A B c bs (d ∷ f, rest, e, a, b) =
    let head : c ≡ d = cc in
    let tail : bs ≡ f ++ rest = cc in
    inr (f, rest, tail, subst (λ (x : ℕ). A (x ∷ f)) (sym head) a, b)

pub split_at_once : (A B : Bytes) (bs : List ℕ) → A [] → B bs → IsConcatenation A B bs
split_at_once A B bs a b = ([], bs, refl, a, b)

pub split_later : (A B : Bytes) (c : ℕ) (bs : List ℕ) → IsConcatenation (λ f. A (c ∷ f)) B bs → IsConcatenation A B (c ∷ bs)
split_later A B c bs s = (c ∷ s.0, s.1, ap (λ x. c ∷ x) s.2, s.3, s.4)

pub split_map : (A A' B B' : Bytes) → ((x : List ℕ) → A x → A' x) → ((x : List ℕ) → B x → B' x) → (bs : List ℕ) → IsConcatenation A B bs → IsConcatenation A' B' bs
split_map A A' B B' f g bs s = (s.0, s.1, s.2, f s.0 s.3, g s.1 s.4)

pub split_left : (A B C : Bytes) (bs : List ℕ) → IsConcatenation (IsConcatenation A B) C bs → IsConcatenation A (IsConcatenation B C) bs
split_left A B C bs s =
    let ab = s.3 in
    (ab.0, ab.1 ++ s.1, s.2 ∙ (ap (λ x. x ++ s.1) ab.2 ∙ append_assoc ab.0 ab.1 s.1), ab.3, (ab.1, s.1, refl, ab.4, s.4))

pub split_right : (A B C : Bytes) (bs : List ℕ) → IsConcatenation A (IsConcatenation B C) bs → IsConcatenation (IsConcatenation A B) C bs
split_right A B C bs s =
    let bc = s.4 in
    (s.0 ++ bc.0, bc.1, s.2 ∙ (ap (λ x. s.0 ++ x) bc.2 ∙ sym (append_assoc s.0 bc.0 bc.1)), (s.0, bc.0, refl, s.3, bc.3), bc.4)

-- 2. Parts.

pub one_to : (p : ℕ → Bool) (P : Bytes) (c : ℕ) (bs : List ℕ) → IsConcatenation (IsSingle p) P (c ∷ bs) → IsTrue (p c) × P bs
one_to p P c bs (prefix, rest, e, (d, f, t), q) =
    let whole : c ∷ bs ≡ d ∷ rest = e ∙ ap (λ x. x ++ rest) f in
    let head : d ≡ c = cc in
    let tail : rest ≡ bs = cc in
    (subst (λ (x : ℕ). IsTrue (p x)) head t, subst P tail q)

pub DecidesAll-one : (p : ℕ → Bool) (t : Test) (P : Bytes) → DecidesAll t P → DecidesAll (one p t) (IsConcatenation (IsSingle p) P)
DecidesAll-one p t P h [] = ((λ e. cc), (λ s. let whole : [] ≡ s.3.0 ∷ s.1 = s.2 ∙ ap (λ x. x ++ s.1) s.3.1 in cc))
DecidesAll-one p t P h (c ∷ bs) =
    Decides-like (p c && t bs) (λ w. (c ∷ [], bs, refl, (c, refl, w.0), w.1)) (one_to p P c bs)
    (Decides-and (p c) (t bs) ((λ e. e), (λ e. e)) (h bs))

abbrev pub Passes : (ℕ → Bool) → ℕ → Type 0
Passes p b = IsTrue (p b)

abbrev pub AllPass : (ℕ → Bool) → Bytes
AllPass p bs = All (Passes p) bs

pub many_to : (p : ℕ → Bool) (P : Bytes) (c : ℕ) (bs : List ℕ) → IsConcatenation (AllPass p) P (c ∷ bs)
    → P (c ∷ bs) ⊎ (IsTrue (p c) × IsConcatenation (AllPass p) P bs)
many_to p P c bs s =
    elim (split_cons (AllPass p) P c bs s) [
      | inl w ↦ inl w.1
      | inr w ↦ inr (All-head (Passes p) c w.0 w.3, (w.0, w.1, w.2, All-tail (Passes p) c w.0 w.3, w.4))
    ]

pub many_from : (p : ℕ → Bool) (P : Bytes) (c : ℕ) (bs : List ℕ) → P (c ∷ bs) ⊎ (IsTrue (p c) × IsConcatenation (AllPass p) P bs)
    → IsConcatenation (AllPass p) P (c ∷ bs)
many_from p P c bs (inl w) = split_at_once (AllPass p) P (c ∷ bs) (All-nil (Passes p)) w
many_from p P c bs (inr w) =
    (c ∷ w.1.0, w.1.1, ap (λ x. c ∷ x) w.1.2, All-cons (Passes p) c w.1.0 w.0 w.1.3, w.1.4)

pub DecidesAll-many : (p : ℕ → Bool) (t : Test) (P : Bytes) → DecidesAll t P → DecidesAll (many p t) (IsConcatenation (AllPass p) P)
DecidesAll-many p t P h [] =
    Decides-like (t []) (λ w. split_at_once (AllPass p) P [] (All-nil (Passes p)) w) (λ s. (split_nil (AllPass p) P s).1)
    (h [])
DecidesAll-many p t P h (c ∷ bs) =
    Decides-like (t (c ∷ bs) || (p c && many p t bs)) (many_from p P c bs) (many_to p P c bs)
    (Decides-or (t (c ∷ bs)) (p c && many p t bs) (h (c ∷ bs))
    (Decides-and (p c) (many p t bs) ((λ e. e), (λ e. e)) (DecidesAll-many p t P h bs)))

-- any bytes that end in `/`
abbrev pub EndsInSlash : Bytes
EndsInSlash bs = (dirs : List ℕ) × (bs ≡ dirs ++ 47 ∷ [])

pub none_ends : EndsInSlash [] → ⊥
none_ends ([], e) = cc
none_ends (d ∷ ds, e) = cc

pub ends_cons : (c : ℕ) (f : List ℕ) → EndsInSlash (c ∷ f) → ((c ≡ 47) × (f ≡ [])) ⊎ EndsInSlash f
ends_cons c f ([], e) = inl ((cc), (cc))
ends_cons c f (d ∷ ds, e) = inr (ds, (cc))

pub past_to : (P : Bytes) (c : ℕ) (bs : List ℕ) → IsConcatenation EndsInSlash P (c ∷ bs)
    → ((c ≡ 47) × P bs) ⊎ IsConcatenation EndsInSlash P bs
past_to P c bs s =
    elim (split_cons EndsInSlash P c bs s) [
      | inl w ↦ absurd (none_ends w.0)
      | inr w ↦ elim (ends_cons c w.0 w.3) [
        | inl v ↦ inl (v.0, subst P (let e : w.1 ≡ bs = sym (w.2 ∙ ap (λ x. x ++ w.1) v.1) in e) w.4)
        | inr v ↦ inr (w.0, w.1, w.2, v, w.4)
      ]
    ]

pub past_from : (P : Bytes) (c : ℕ) (bs : List ℕ) → ((c ≡ 47) × P bs) ⊎ IsConcatenation EndsInSlash P bs
    → IsConcatenation EndsInSlash P (c ∷ bs)
past_from P c bs (inl w) = (c ∷ [], bs, refl, ([], ap (λ x. x ∷ []) w.0), w.1)
past_from P c bs (inr w) =
    (c ∷ w.0, w.1, ap (λ x. c ∷ x) w.2, (c ∷ w.3.0, ap (λ x. c ∷ x) w.3.1), w.4)

pub DecidesAll-past_slash : (t : Test) (P : Bytes) → DecidesAll t P → DecidesAll (past_slash t) (IsConcatenation EndsInSlash P)
DecidesAll-past_slash t P h [] = ((λ e. cc), (λ s. absurd (none_ends (split_nil EndsInSlash P s).0)))
DecidesAll-past_slash t P h (c ∷ bs) =
    Decides-like (((c == 47) && t bs) || past_slash t bs) (past_from P c bs) (past_to P c bs)
    (Decides-or ((c == 47) && t bs) (past_slash t bs)
    (Decides-and (c == 47) (t bs) (Decides-eqb c 47) (h bs)) (DecidesAll-past_slash t P h bs))

-- the test decides an equivalent property
pub DecidesAll-like : (t : Test) (P Q : Bytes) → ((x : List ℕ) → P x → Q x) → ((x : List ℕ) → Q x → P x) → DecidesAll t P → DecidesAll t Q
DecidesAll-like t P Q f g h bs = Decides-like (t bs) (f bs) (g bs) (h bs)

-- replaces a part by one that matches the same bytes
pub DecidesAll-part : (t : Test) (A B P : Bytes) → ((x : List ℕ) → A x → B x) → ((x : List ℕ) → B x → A x)
    → DecidesAll t (IsConcatenation A P) → DecidesAll t (IsConcatenation B P)
DecidesAll-part t A B P f g h =
    DecidesAll-like t (IsConcatenation A P) (IsConcatenation B P) (split_map A B P P f (λ x p. p)) (split_map B A P P g (λ x p. p)) h

abbrev pub Leading : Bytes
Leading bs = (bs ≡ []) ⊎ EndsInSlash bs

pub leading_to : (P : Bytes) (bs : List ℕ) → IsConcatenation Leading P bs → P bs ⊎ IsConcatenation EndsInSlash P bs
leading_to P bs (f, r, e, inl z, p) = inl (subst P (sym (e ∙ ap (λ x. x ++ r) z)) p)
leading_to P bs (f, r, e, inr z, p) = inr (f, r, e, z, p)

pub leading_from : (P : Bytes) (bs : List ℕ) → P bs ⊎ IsConcatenation EndsInSlash P bs → IsConcatenation Leading P bs
leading_from P bs (inl p) = ([], bs, refl, inl refl, p)
leading_from P bs (inr s) = (s.0, s.1, s.2, inr s.3, s.4)

pub DecidesAll-leading : (t : Test) (P : Bytes) → DecidesAll t P → DecidesAll (λ bs. t bs || past_slash t bs) (IsConcatenation Leading P)
DecidesAll-leading t P h bs =
    Decides-like (t bs || past_slash t bs) (leading_from P bs) (leading_to P bs)
    (Decides-or (t bs) (past_slash t bs) (h bs) (DecidesAll-past_slash t P h bs))

pub slash_is : (b : ℕ) → IsTrue (is_slash b) → b ≡ 47
slash_is b e = (Decides-eqb b 47).0 e

-- a `/` before a part
abbrev pub After : Bytes → Bytes
After A bs = (rest : List ℕ) × (bs ≡ 47 ∷ rest) × A rest

pub after_to : (A : Bytes) (bs : List ℕ) → IsConcatenation (IsSingle is_slash) A bs → After A bs
after_to A bs s =
    (s.1, s.2 ∙ (ap (λ x. x ++ s.1) s.3.1 ∙ ap (λ b. b ∷ s.1) (slash_is s.3.0 s.3.2)), s.4)

pub after_from : (A : Bytes) (bs : List ℕ) → After A bs → IsConcatenation (IsSingle is_slash) A bs
after_from A bs w = (47 ∷ [], w.0, w.1, (47, refl, refl), w.2)

pub DecidesAll-after : (t : Test) (A P : Bytes) → DecidesAll t (IsConcatenation A P) → DecidesAll (one is_slash t) (IsConcatenation (After A) P)
DecidesAll-after t A P h =
    let first : DecidesAll (one is_slash t) (IsConcatenation (IsSingle is_slash) (IsConcatenation A P)) = DecidesAll-one is_slash t (IsConcatenation A P) h in
    let both : DecidesAll (one is_slash t) (IsConcatenation (IsConcatenation (IsSingle is_slash) A) P) =
    DecidesAll-like (one is_slash t) (IsConcatenation (IsSingle is_slash) (IsConcatenation A P)) (IsConcatenation (IsConcatenation (IsSingle is_slash) A) P)
    (split_right (IsSingle is_slash) A P) (split_left (IsSingle is_slash) A P) first in
    DecidesAll-part (one is_slash t) (IsConcatenation (IsSingle is_slash) A) (After A) P (after_to A) (after_from A) both

pub all_any : (bs : List ℕ) → AllPass any_byte bs
all_any bs = λ k d h. refl

pub DecidesAll-any : (t : Test) (P : Bytes) → DecidesAll t P → DecidesAll (many any_byte t) (IsConcatenation (λ _. Unit {0}) P)
DecidesAll-any t P h =
    DecidesAll-part (many any_byte t) (AllPass any_byte) (λ _. Unit {0}) P (λ x a. tt) (λ x u. all_any x) (DecidesAll-many any_byte t P h)

pub inner_to : (o : Options) (bs : List ℕ) → After Leading bs → MatchesPart o InnerDirs bs
inner_to o bs (r, e, inl z) = inl (e ∙ ap (λ x. 47 ∷ x) z)
inner_to o bs (r, e, inr z) = inr (z.0, e ∙ ap (λ x. 47 ∷ x) z.1)

pub inner_from : (o : Options) (bs : List ℕ) → MatchesPart o InnerDirs bs → After Leading bs
inner_from o bs (inl e) = ([], e, inl refl)
inner_from o bs (inr w) = (w.0 ++ 47 ∷ [], w.1, inr (w.0, refl))

pub DecidesAll-part_then : (o : Options) (p : Part) (t : Test) (P : Bytes) → DecidesAll t P → DecidesAll (part_then o p t) (IsConcatenation (MatchesPart o p) P)
DecidesAll-part_then o (Byte c) t P h bs = DecidesAll-one (same_byte o c) t P h bs
DecidesAll-part_then o AnyByte t P h bs = DecidesAll-one (is_plain o) t P h bs
DecidesAll-part_then o (OneOf c) t P h bs = DecidesAll-one (in_class o c) t P h bs
DecidesAll-part_then o Star t P h bs = DecidesAll-many (is_plain o) t P h bs
DecidesAll-part_then o LeadingDirs t P h bs = DecidesAll-leading t P h bs
DecidesAll-part_then o InnerDirs t P h bs =
    DecidesAll-part (one is_slash (λ rest. t rest || past_slash t rest)) (After Leading) (MatchesPart o InnerDirs) P (inner_to o) (inner_from o)
    (DecidesAll-after (λ rest. t rest || past_slash t rest) Leading P (DecidesAll-leading t P h)) bs
DecidesAll-part_then o Below t P h bs =
    DecidesAll-part (one is_slash (many any_byte t)) (After (λ _. Unit {0})) (MatchesPart o Below) P
    (λ x w. (w.0, w.1)) (λ x w. (w.0, w.1, tt))
    (DecidesAll-after (many any_byte t) (λ _. Unit {0}) P (DecidesAll-any t P h)) bs
DecidesAll-part_then o Everything t P h bs = DecidesAll-any t P h bs

-- 3. The state of the matcher between two tokens.

-- matches the sequence, then what follows each open group
abbrev pub Onward : Options → Sequence → List (Alternatives × Sequence) → Bytes
Onward o s [] bs = Matches o s bs
Onward o s (g ∷ gs) bs = IsConcatenation (Matches o s) (Onward o g.1 gs) bs

abbrev pub AllDecide : Options → List (Test × Test) → List (Alternatives × Sequence) → Type 0
AllDecide o [] [] = Unit {0}
AllDecide o (t ∷ ts) (g ∷ gs) =
    DecidesAll t.0 (IsConcatenation (MatchesAny o g.0) (Onward o g.1 gs)) × DecidesAll t.1 (Onward o g.1 gs) × AllDecide o ts gs
AllDecide o _ _ = ⊥

abbrev pub Agrees : Options → Tests → Reading → Type 0
Agrees o t r = DecidesAll t.here (Onward o r.here r.outer) × AllDecide o t.outer r.outer

-- prepending to a sequence is prepending to all that follows
module _ (o : Options) (A : Bytes) (s prefix : Sequence) (to : (x : List ℕ) → IsConcatenation A (Matches o s) x → Matches o prefix x) (from : (x : List ℕ) → Matches o prefix x → IsConcatenation A (Matches o s) x) where
  onward_to : (gs : List (Alternatives × Sequence)) (bs : List ℕ) → IsConcatenation A (Onward o s gs) bs → Onward o prefix gs bs
  onward_to [] bs w = to bs w
  onward_to (g ∷ gs) bs w =
      split_map (IsConcatenation A (Matches o s)) (Matches o prefix) (Onward o g.1 gs) (Onward o g.1 gs) to (λ x p. p) bs (split_right A (Matches o s) (Onward o g.1 gs) bs w)

  onward_from : (gs : List (Alternatives × Sequence)) (bs : List ℕ) → Onward o prefix gs bs → IsConcatenation A (Onward o s gs) bs
  onward_from [] bs w = from bs w
  onward_from (g ∷ gs) bs w =
      split_left A (Matches o s) (Onward o g.1 gs) bs (split_map (Matches o prefix) (IsConcatenation A (Matches o s)) (Onward o g.1 gs) (Onward o g.1 gs) from (λ x p. p) bs w)

  pub DecidesAll-onward : (t : Test) (gs : List (Alternatives × Sequence)) → DecidesAll t (IsConcatenation A (Onward o s gs)) → DecidesAll t (Onward o prefix gs)
  DecidesAll-onward t gs h = DecidesAll-like t (IsConcatenation A (Onward o s gs)) (Onward o prefix gs) (onward_to gs) (onward_from gs) h

-- the end of an alternative before all that follows
pub done_to : (o : Options) (P : Bytes) (bs : List ℕ) → P bs → IsConcatenation (Matches o done) P bs
done_to o P bs p = ([], bs, refl, refl, p)

pub done_back : (o : Options) (P : Bytes) (bs : List ℕ) → IsConcatenation (Matches o done) P bs → P bs
done_back o P bs (f, r, e, z, p) = subst P (sym (e ∙ ap (λ x. x ++ r) z)) p

pub either_to : (o : Options) (s : Sequence) (a : Alternatives) (P : Bytes) (bs : List ℕ)
    → IsConcatenation (Matches o s) P bs ⊎ IsConcatenation (MatchesAny o a) P bs → IsConcatenation (MatchesAny o (either s a)) P bs
either_to o s a P bs (inl w) = (w.0, w.1, w.2, inl w.3, w.4)
either_to o s a P bs (inr w) = (w.0, w.1, w.2, inr w.3, w.4)

pub either_back : (o : Options) (s : Sequence) (a : Alternatives) (P : Bytes) (bs : List ℕ)
    → IsConcatenation (MatchesAny o (either s a)) P bs → IsConcatenation (Matches o s) P bs ⊎ IsConcatenation (MatchesAny o a) P bs
either_back o s a P bs (f, r, e, inl z, p) = inl (f, r, e, z, p)
either_back o s a P bs (f, r, e, inr z, p) = inr (f, r, e, z, p)

pub DecidesAll-either : (o : Options) (s : Sequence) (a : Alternatives) (P : Bytes) (t u : Test)
    → DecidesAll t (IsConcatenation (Matches o s) P) → DecidesAll u (IsConcatenation (MatchesAny o a) P)
    → DecidesAll (λ bs. t bs || u bs) (IsConcatenation (MatchesAny o (either s a)) P)
DecidesAll-either o s a P t u h k bs =
    Decides-like (t bs || u bs) (either_to o s a P bs) (either_back o s a P bs) (Decides-or (t bs) (u bs) (h bs) (k bs))

-- the tests and the parse agree after a `,` and after a `{` of an open group
pub agrees_group : (o : Options) (t : Test) (us : List (Test × Test)) (s : Sequence) (gs : List (Alternatives × Sequence))
    → DecidesAll t (Onward o s gs) → AllDecide o us gs → Agrees o (test_or t us) (before_or s gs) × Agrees o (test_open t us) (before_open s gs)
agrees_group o t [] s [] h a = ((h, tt), (h, tt))
agrees_group o t [] s (g ∷ gs) h a = absurd a
agrees_group o t (u ∷ us) s [] h a = absurd a
agrees_group o t (u ∷ us) s (g ∷ gs) h a =
    let both = DecidesAll-either o s g.0 (Onward o g.1 gs) t u.0 h a.0 in
    let done_alone = DecidesAll-like u.1 (Onward o g.1 gs) (IsConcatenation (Matches o done) (Onward o g.1 gs)) (done_to o (Onward o g.1 gs)) (done_back o (Onward o g.1 gs)) a.1 in
    let onward = DecidesAll-onward o (MatchesAny o (either s g.0)) g.1 (group (either s g.0) g.1) (λ x w. w) (λ x w. w) (λ bs. t bs || u.0 bs) gs both in
    ((done_alone, (both, a.1, a.2)), (onward, a.2))

pub no_split : (o : Options) (P : Bytes) (bs : List ℕ) → IsConcatenation (MatchesAny o no_more) P bs → false ≡ true
no_split o P bs w = absurd w.3

pub agrees_before : (o : Options) (k : Token) (t : Tests) (r : Reading) → Agrees o t r → Agrees o (test_before o k t) (before k r)
agrees_before o (part p) t r h = (
  DecidesAll-onward o (MatchesPart o p) r.here (next p r.here) (λ x w. w) (λ x w. w) (part_then o p t.here) r.outer
      (DecidesAll-part_then o p t.here (Onward o r.here r.outer) h.0),
  h.1,
)
agrees_before o Close t r h = (
  DecidesAll-like t.here (Onward o r.here r.outer) (IsConcatenation (Matches o done) (Onward o r.here r.outer))
      (done_to o (Onward o r.here r.outer)) (done_back o (Onward o r.here r.outer)) h.0,
  ((λ bs. ((λ e. cc), no_split o (Onward o r.here r.outer) bs)), h.0, h.1),
)
agrees_before o Or t r h = (agrees_group o t.here t.outer r.here r.outer h.0 h.1).0
agrees_before o Open t r h = (agrees_group o t.here t.outer r.here r.outer h.0 h.1).1

pub DecidesAll-is_empty : DecidesAll is_empty (λ bs. bs ≡ [])
DecidesAll-is_empty [] = ((λ e. refl), (λ e. refl))
DecidesAll-is_empty (c ∷ bs) = ((λ e. cc), (λ e. cc))

-- between any two tokens the tests decide the parse
pub agrees : (o : Options) (ts : List Token) → Agrees o (tests_of o ts) (reading_of ts)
agrees o [] = (DecidesAll-is_empty, tt)
agrees o (k ∷ ts) = agrees_before o k (tests_of o ts) (reading_of ts) (agrees o ts)

pub same_ok : (r : Result (List Token) GlobError) (a b : List Token) → r ≡ Ok a → r ≡ Ok b → a ≡ b
same_ok r a b e f = cc

-- the tests of balanced tokens decide whether the glob matches
pub DecidesAll-glob : (g : GlobSpec) (ts : List Token) → tokens_of g.text ≡ Ok ts → (reading_of ts).outer ≡ [] → DecidesAll (tests_of g.options ts).here (IsMatch g)
DecidesAll-glob g ts reads closed bs =
    let known = (agrees g.options ts).0 bs in
    let at_end : Onward g.options (reading_of ts).here (reading_of ts).outer bs ≡ Matches g.options (reading_of ts).here bs =
    ap (λ gs. Onward g.options (reading_of ts).here gs bs) closed in (
      (λ e. (ts, reads, subst (λ X. X) at_end (known.0 e))),
      (λ m.
          let same : m.0 ≡ ts = same_ok (tokens_of g.text) m.0 ts m.1 reads in
          known.1 (subst (λ X. X) (sym at_end) (subst (λ (x : List Token). Matches g.options (reading_of x).here bs) same m.2))),
    )
