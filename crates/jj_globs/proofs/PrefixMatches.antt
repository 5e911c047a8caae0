-- A prefix match is a match of the glob's tokens with `{/**,}` appended.
use Rattle.std.proofs.Math.Path.{fun_ext}
use Rattle.std.specs.Prelude.{◌↔◌}
use Rattle.std.proofs.Common.{◌||◌, ◌&&◌, ◌==◌, Bool, true, false, ◌≡◌, ◌∙◌, ap, sym, subst, ℕ, ◌⊎◌, inl, inr, List, [], ◌∷◌, ◌++◌, Option, Ok, IsTrue, refl, append-nil}
use Rattle.jj_globs.specs.declared.glob.token.Token.{Token}
use Rattle.jj_globs.specs.declared.glob.token.Token.TheVariants.{Part as part, Open, Or, Close}
use Rattle.jj_globs.specs.declared.glob.token.Part.TheVariants.{Below}
use Rattle.jj_globs.specs.declared.glob.token.Options.{Options}
use Rattle.jj_globs.specs.declared.glob.step.Step.{Step}
use Rattle.jj_globs.specs.declared.glob.bit_tables.BitTables.{BitTables}
use Rattle.jj_globs.specs.GlobSyntax.{tokens_of}
use Rattle.jj_globs.specs.GlobMeaning.{MatchesPart, Sequence, done, next, group, Alternatives, Reading, before, reading_of, IsConcatenation, Matches, MatchesAny, GlobSpec, IsMatch, IsPrefixMatch}
use Rattle.jj_globs.specs.GlobBacktracking.{Test, Tests, many, any_byte, is_empty, part_then, test_before, tests_before, tests_of}
use Rattle.jj_globs.specs.GlobNfa.{accepts_from, end_test}
use Rattle.jj_globs.specs.GlobInvariant.{IsCompiledGlob}
use Rattle.jj_globs.proofs.BacktrackingSound.{Bytes, Onward, DecidesAll, DecidesAll-glob, split_at_once, split_map, split_left, split_right, agrees, same_ok}
use Rattle.jj_globs.proofs.BalancedGroups.{closed-tokens_of}

-- the tokens of `{/**,}`
abbrev pub prefix_end : List Token
prefix_end = Open ∷ part Below ∷ Or ∷ Close ∷ []

-- concatenates two sequences
abbrev pub join : Sequence → Sequence → Sequence
join done m = m
join (next p s) m = next p (join s m)
join (group a s) m = group a (join s m)

abbrev pub join_here : Sequence → List (Alternatives × Sequence) → Sequence → Sequence
join_here s [] m = join s m
join_here s (g ∷ gs) m = s

abbrev pub join_outer : List (Alternatives × Sequence) → Sequence → List (Alternatives × Sequence)
join_outer [] m = []
join_outer (g ∷ []) m = (g.0, join g.1 m) ∷ []
join_outer (g ∷ h ∷ gs) m = g ∷ join_outer (h ∷ gs) m

-- appends a sequence to a syntax tree
abbrev pub joined : Reading → Sequence → Reading
joined r m = record { here = join_here r.here r.outer m; outer = join_outer r.outer m }

before-joined : (t : Token) (s : Sequence) (gs : List (Alternatives × Sequence)) (m : Sequence)
    → before t (joined (record { here = s; outer = gs }) m) ≡ joined (before t (record { here = s; outer = gs })) m
before-joined (part p) s [] m = refl
before-joined (part p) s (g ∷ gs) m = refl
before-joined Close s [] m = refl
before-joined Close s (g ∷ gs) m = refl
before-joined Or s [] m = refl
before-joined Or s (g ∷ []) m = refl
before-joined Or s (g ∷ h ∷ gs) m = refl
before-joined Open s [] m = refl
before-joined Open s (g ∷ []) m = refl
before-joined Open s (g ∷ h ∷ gs) m = refl

abbrev pub end_of_prefix : Sequence
end_of_prefix = (reading_of prefix_end).here

reading_of-prefix_end : (ts : List Token) → reading_of (ts ++ prefix_end) ≡ joined (reading_of ts) end_of_prefix
reading_of-prefix_end [] = refl
reading_of-prefix_end (t ∷ ts) =
    ap (before t) (reading_of-prefix_end ts) ∙ before-joined t (reading_of ts).here (reading_of ts).outer end_of_prefix

-- a concatenation matches a prefix and the rest
join_to : (o : Options) (s m : Sequence) (bs : List ℕ) → Matches o (join s m) bs → IsConcatenation (Matches o s) (Matches o m) bs
join_to o done m bs h = split_at_once (Matches o done) (Matches o m) bs refl h
join_to o (next p s) m bs h =
    split_right (MatchesPart o p) (Matches o s) (Matches o m) bs
    (split_map (MatchesPart o p) (MatchesPart o p) (Matches o (join s m)) (IsConcatenation (Matches o s) (Matches o m)) (λ x a. a) (join_to o s m) bs h)
join_to o (group a s) m bs h =
    split_right (MatchesAny o a) (Matches o s) (Matches o m) bs
    (split_map (MatchesAny o a) (MatchesAny o a) (Matches o (join s m)) (IsConcatenation (Matches o s) (Matches o m)) (λ x b. b) (join_to o s m) bs h)

join_back : (o : Options) (s m : Sequence) (bs : List ℕ) → IsConcatenation (Matches o s) (Matches o m) bs → Matches o (join s m) bs
join_back o done m bs h = subst (Matches o m) (sym (h.2 ∙ ap (λ x. x ++ h.1) h.3)) h.4
join_back o (next p s) m bs h =
    split_map (MatchesPart o p) (MatchesPart o p) (IsConcatenation (Matches o s) (Matches o m)) (Matches o (join s m)) (λ x a. a) (join_back o s m) bs
    (split_left (MatchesPart o p) (Matches o s) (Matches o m) bs h)
join_back o (group a s) m bs h =
    split_map (MatchesAny o a) (MatchesAny o a) (IsConcatenation (Matches o s) (Matches o m)) (Matches o (join s m)) (λ x b. b) (join_back o s m) bs
    (split_left (MatchesAny o a) (Matches o s) (Matches o m) bs h)

-- the appended group matches nothing, or `/` and any bytes
end_to : (o : Options) (bs : List ℕ) → Matches o end_of_prefix bs → (bs ≡ []) ⊎ ((rest : List ℕ) × (bs ≡ 47 ∷ rest))
end_to o bs h =
    elim h.3 [
      | inl w ↦ inr ((w.3.0 ++ w.1) ++ h.1, h.2 ∙ ap (λ x. x ++ h.1) (w.2 ∙ ap (λ x. x ++ w.1) w.3.1))
      | inr u ↦ elim u [ inl e ↦ inl (h.2 ∙ ap (λ x. x ++ h.1) e ∙ h.4) | inr n ↦ absurd n ]
    ]

end_nothing : (o : Options) → Matches o end_of_prefix []
end_nothing o = ([], [], refl, inr (inl refl), refl)

end_below : (o : Options) (rest : List ℕ) → Matches o end_of_prefix (47 ∷ rest)
end_below o rest = (47 ∷ rest, [], sym (append-nil (47 ∷ rest)), inl (47 ∷ rest, [], sym (append-nil (47 ∷ rest)), (rest, refl), refl), refl)

prefix_to : (g : GlobSpec) (ts : List Token) (bs : List ℕ) → tokens_of g.text ≡ Ok ts → Matches g.options (join (reading_of ts).here end_of_prefix) bs → IsPrefixMatch g bs
prefix_to g ts bs reads h =
    let split = join_to g.options (reading_of ts).here end_of_prefix bs h in
    elim (end_to g.options split.1 split.4) [
      | inl e ↦ inl (ts, reads, subst (Matches g.options (reading_of ts).here) (sym (split.2 ∙ ap (λ x. split.0 ++ x) e ∙ append-nil split.0)) split.3)
      | inr w ↦ inr (split.0, w.0, split.2 ∙ ap (λ x. split.0 ++ x) w.1, (ts, reads, split.3))
    ]

matches_same : (g : GlobSpec) (ts : List Token) (bs : List ℕ) → tokens_of g.text ≡ Ok ts → IsMatch g bs → Matches g.options (reading_of ts).here bs
matches_same g ts bs reads m =
    let same : m.0 ≡ ts = same_ok (tokens_of g.text) m.0 ts m.1 reads in
    subst (λ (x : List Token). Matches g.options (reading_of x).here bs) same m.2

prefix_back : (g : GlobSpec) (ts : List Token) (bs : List ℕ) → tokens_of g.text ≡ Ok ts → IsPrefixMatch g bs → Matches g.options (join (reading_of ts).here end_of_prefix) bs
prefix_back g ts bs reads h =
    elim h [
      | inl m ↦ join_back g.options (reading_of ts).here end_of_prefix bs
          (bs, [], sym (append-nil bs), matches_same g ts bs reads m, end_nothing g.options)
      | inr w ↦ join_back g.options (reading_of ts).here end_of_prefix bs
          (w.0, 47 ∷ w.1, w.2, matches_same g ts w.0 reads w.3, end_below g.options w.1)
    ]

-- these tokens are equivalent to an end that accepts `/` and any bytes
many_any : (bs : List ℕ) → many any_byte is_empty bs ≡ true
many_any [] = refl
many_any (b ∷ bs) = many_any bs

and_true : (v : Bool) → ((v && true) || (false || false)) ≡ v
and_true true = refl
and_true false = refl

abbrev only_here : Test → Tests
only_here t = record { here = t; outer = [] }

end_of_tokens : (o : Options) (bs : List ℕ) → (part_then o Below is_empty bs || (is_empty bs || false)) ≡ end_test true bs
end_of_tokens o [] = refl
end_of_tokens o (b ∷ bs) = ap (λ v. ((b == 47) && v) || (false || false)) (many_any bs) ∙ and_true (b == 47)

with_end : (o : Options) (ts us : List Token) (t : Test) → tests_of o us ≡ only_here t → tests_of o (ts ++ us) ≡ tests_before o t ts
with_end o [] us t h = h
with_end o (k ∷ ts) us t h = ap (test_before o k) (with_end o ts us t h)

tests_of-prefix : (o : Options) (ts : List Token) → tests_of o (ts ++ prefix_end) ≡ tests_before o (end_test true) ts
tests_of-prefix o ts = with_end o ts prefix_end (end_test true) (ap only_here (fun_ext (end_of_tokens o)))

end_alone : (bs : List ℕ) → end_test false bs ≡ is_empty bs
end_alone [] = refl
end_alone (b ∷ bs) = refl

DecidesAll-whole : (g : GlobSpec) (ts : List Token) → tokens_of g.text ≡ Ok ts → DecidesAll (tests_before g.options (end_test false) ts).here (IsMatch g)
DecidesAll-whole g ts reads =
    subst (λ (t : Test). DecidesAll (tests_before g.options t ts).here (IsMatch g)) (sym (fun_ext end_alone))
    (DecidesAll-glob g ts reads (closed-tokens_of g.text ts reads))

DecidesAll-prefix : (g : GlobSpec) (ts : List Token) → tokens_of g.text ≡ Ok ts → DecidesAll (tests_of g.options (ts ++ prefix_end)).here (IsPrefixMatch g)
DecidesAll-prefix g ts reads bs =
    let known = (agrees g.options (ts ++ prefix_end)).0 bs in
    let at_end : Onward g.options (reading_of (ts ++ prefix_end)).here (reading_of (ts ++ prefix_end)).outer bs ≡ Matches g.options (join (reading_of ts).here end_of_prefix) bs =
    ap (λ (r : Reading). Onward g.options r.here r.outer bs) (reading_of-prefix_end ts)
    ∙ ap (λ gs. Onward g.options (join_here (reading_of ts).here gs end_of_prefix) (join_outer gs end_of_prefix) bs) (closed-tokens_of g.text ts reads) in (
      (λ e. prefix_to g ts bs reads (subst (λ X. X) at_end (known.0 e))),
      (λ m. known.1 (subst (λ X. X) (sym at_end) (prefix_back g ts bs reads m))),
    )

DecidesAll-below : (g : GlobSpec) (ts : List Token) → tokens_of g.text ≡ Ok ts → DecidesAll (tests_before g.options (end_test true) ts).here (IsPrefixMatch g)
DecidesAll-below g ts reads = subst (λ (t : Tests). DecidesAll t.here (IsPrefixMatch g)) (tests_of-prefix g.options ts) (DecidesAll-prefix g ts reads)

-- the NFA of a compiled glob accepts exactly what the glob matches
abbrev spec_of : List ℕ → Options → GlobSpec
spec_of text o = record { text = text; options = o }

module _ {text : List ℕ} {o : Options} {ts : List Token} {steps : List Step} {literal : ℕ} {prefix : List ℕ} {tables : Option BitTables} (kept : IsCompiledGlob text o ts steps literal prefix tables)
    (shown : GlobSpec) (view : spec_of text o ≡ shown) (listed : List Step) (same : listed ≡ steps) (bs : List ℕ) (result : Bool) where
  decides_spec : (below : Bool) (M : GlobSpec → Bytes) → DecidesAll (tests_before o (end_test below) ts).here (M (spec_of text o)) → result ≡ accepts_from o below listed 0 bs
      → IsTrue result ↔ M shown bs
  decides_spec below M tells said =
      let known = said ∙ ap (λ (x : List Step). accepts_from o below x 0 bs) same ∙ kept.steps.same below bs in
      subst (λ (g : GlobSpec). IsTrue result ↔ M g bs) view ((λ h. (tells bs).0 (sym known ∙ h)), (λ m. known ∙ (tells bs).1 m))

  pub decides_whole : result ≡ accepts_from o false listed 0 bs → IsTrue result ↔ IsMatch shown bs
  decides_whole = decides_spec false IsMatch (DecidesAll-whole (spec_of text o) ts kept.reads)

  pub decides_below : result ≡ accepts_from o true listed 0 bs → IsTrue result ↔ IsPrefixMatch shown bs
  decides_below = decides_spec true IsPrefixMatch (DecidesAll-below (spec_of text o) ts kept.reads)
