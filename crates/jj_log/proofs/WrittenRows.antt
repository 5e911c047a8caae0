-- Parts of lines and of drawings that were written.
use Rattle.std.proofs.Common.{◌≡◌, ◌∙◌, ◌==◌, ◌+◌, ◌<◌, ℕ, zero, suc, Bool, true, false, List, [], ◌∷◌, ◌++◌, Option, length, take, drop, get_or, flat_map, add-one, refl, sym, ap, subst, arith, append_assoc, append-nil, take-append-drop}
use Rattle.std.proofs.lemmas.Bool.Decides.{Decides-eqb}
use Rattle.std.proofs.lemmas.List.Concat.{flat_map-append}
use Rattle.std.proofs.Math.Seq.{take-suc}
use Rattle.jj_files.specs.Streams.{AppendsPrefixOf}
use Rattle.jj_log.specs.Drawing.{AreStyled, node_cell, node_cells, styled_line_of_row}
use Rattle.jj_log.specs.BufferedOutput.{AppendsBuffered}
use Rattle.jj_log.specs.Styles.{styled}
use Rattle.jj_log.specs.declared.layout.Row.{Row}
use Rattle.jj_log.specs.declared.style.Style.{Style}
use Rattle.jj_log.proofs.DrawnRows.{more_drawn}
use Rattle.jj_log.proofs.BufferedOutput.{AppendsBuffered-later, prefix_later, prefix_more}

-- the strings of elements, one after another
module _ (f : ℕ → List ℕ) (xs : List ℕ) (i d : ℕ) (within : i < length xs) where
  flat_next : flat_map f (take (i + 1) xs) ≡ flat_map f (take i xs) ++ f (get_or xs i d)
  flat_next = ap (λ k. flat_map f (take k xs)) (add-one i) ∙ ap (flat_map f) (take-suc xs i d within) ∙ flat_map-append f (take i xs) (get_or xs i d ∷ [])
      ∙ ap (λ l. flat_map f (take i xs) ++ l) (append-nil (f (get_or xs i d)))

  flat_split : flat_map f xs ≡ flat_map f (take (i + 1) xs) ++ flat_map f (drop (i + 1) xs)
  flat_split = ap (flat_map f) (sym (take-append-drop (i + 1) xs)) ∙ flat_map-append f (take (i + 1) xs) (drop (i + 1) xs)

  module _ (a b c : Option (List ℕ)) (p q piece : List ℕ) (is : piece ≡ f (get_or xs i d)) (first : AppendsBuffered a b p q (flat_map f (take i xs))) where
    whole : flat_map f (take i xs) ++ piece ≡ flat_map f (take (i + 1) xs)
    whole = ap (λ l. flat_map f (take i xs) ++ l) is ∙ sym flat_next

    pub flat_passed : (r : List ℕ) → AppendsBuffered b c q r piece → AppendsBuffered a c p r (flat_map f (take (i + 1) xs))
    flat_passed r h = subst (AppendsBuffered a c p r) whole (AppendsBuffered-later a b c p q (flat_map f (take i xs)) piece first r h)

    pub flat_failed : AppendsPrefixOf b c (q ++ piece) → AppendsPrefixOf a c (p ++ flat_map f xs)
    flat_failed h = subst (λ l. AppendsPrefixOf a c (p ++ l)) (ap (λ l. l ++ flat_map f (drop (i + 1) xs)) whole ∙ sym flat_split)
        (prefix_more a c p (flat_map f (take i xs) ++ piece) (flat_map f (drop (i + 1) xs)) (prefix_later a b c p q (flat_map f (take i xs)) piece first h))

-- the columns of the line of a node
module _ (style : Style) (column : ℕ) (is_root : Bool) where
  abbrev cells : ℕ → List ℕ
  cells = node_cells style column is_root

  abbrev cell : ℕ → List ℕ
  cell i = styled style (node_cell column is_root i)

  one_more : (n i : ℕ) → (other : (i ≡ n → ⊥) → (rest : List ℕ) × (cells n ≡ cells (suc i) ++ rest)) (b : Bool) → (i == n) ≡ b → (rest : List ℕ) × (cells (suc n) ≡ cells (suc i) ++ rest)
  one_more n i other true is = ([], ap (λ k. cells (suc k)) (sym ((Decides-eqb i n).0 is)) ∙ sym (append-nil (cells (suc i))))
  one_more n i other false is =
      let before = other (λ same. let e : true ≡ false = sym ((Decides-eqb i n).1 same) ∙ is in cc e) in
      (before.0 ++ cell n, ap (λ l. l ++ cell n) before.1 ∙ append_assoc (cells (suc i)) before.0 (cell n))

  cells_split : (n i : ℕ) → i < n → (rest : List ℕ) × (cells n ≡ cells (suc i) ++ rest)
  cells_split zero i less = absurd (omega (arith, less))
  cells_split (suc n) i less = one_more n i (λ other. cells_split n i (omega (arith, less, other))) (i == n) refl

  module _ (i : ℕ) (a b c : Option (List ℕ)) (p q glyph : List ℕ) (is : glyph ≡ node_cell column is_root i) (first : AppendsBuffered a b p q (cells i)) where
    pub cells_passed : (r : List ℕ) → AppendsBuffered b c q r (styled style glyph) → AppendsBuffered a c p r (cells (i + 1))
    cells_passed r h = subst (λ k. AppendsBuffered a c p r (cells k)) (sym (add-one i)) (subst (λ l. AppendsBuffered a c p r (cells i ++ styled style l)) is (AppendsBuffered-later a b c p q (cells i) (styled style glyph) first r h))

    pub cells_failed : (n : ℕ) → i < n → AppendsPrefixOf b c (q ++ styled style glyph) → AppendsPrefixOf a c (p ++ cells n)
    cells_failed n less h =
        let split = cells_split n i less in
        subst (λ l. AppendsPrefixOf a c (p ++ l)) (sym split.1)
        (prefix_more a c p (cells (suc i)) split.0 (subst (λ l. AppendsPrefixOf a c (p ++ (cells i ++ styled style l))) is (prefix_later a b c p q (cells i) (styled style glyph) first h)))

-- the rows of a drawing
module _ (style : Style) (label : ℕ → List ℕ) where
  abbrev line : Row → List ℕ
  line row = styled_line_of_row style row (label row.node)

  styled_append : (xs ys : List Row) (d e : List ℕ) → AreStyled style label xs d → AreStyled style label ys e → AreStyled style label (xs ++ ys) (d ++ e)
  styled_append [] ys d e none h = subst (λ l. AreStyled style label ys (l ++ e)) (sym none) h
  styled_append (x ∷ xs) ys d e (below, later, is, rest) h = (below, later ++ e, ap (λ l. l ++ e) is ∙ append_assoc (line x ++ below) later e, styled_append xs ys later e rest h)

  -- a drawing of rows with no lines below those of nodes
  pub least_drawing : (rows : List Row) → (drawing : List ℕ) × AreStyled style label rows drawing
  least_drawing [] = ([], refl)
  least_drawing (row ∷ rows) = let later = least_drawing rows in (line row ++ [] ++ later.0, ([], later.0, refl, later.1))

  module _ (rows : List Row) (i : ℕ) (row : Row) (split : take (i + 1) rows ≡ take i rows ++ row ∷ []) (a b c : Option (List ℕ)) (p q drawn below : List ℕ) (first : AppendsBuffered a b p q drawn)
      (so : AreStyled style label (take i rows) drawn) where
    pub next_drawn : AreStyled style label (take (i + 1) rows) (drawn ++ (line row ++ below))
    next_drawn = subst (λ l. AreStyled style label l (drawn ++ (line row ++ below))) (sym split) (more_drawn style label (take i rows) row drawn (drawn ++ (line row ++ below)) so (below, sym (append_assoc drawn (line row) below)))

    -- a write failed in this row
    pub row_failed : AppendsPrefixOf b c (q ++ (line row ++ below)) → (drawing : List ℕ) × (AreStyled style label rows drawing × AppendsPrefixOf a c (p ++ drawing))
    row_failed prefix =
        let later = least_drawing (drop (i + 1) rows) in (
          (drawn ++ (line row ++ below)) ++ later.0,
          (
            subst (λ l. AreStyled style label l ((drawn ++ (line row ++ below)) ++ later.0)) (take-append-drop (i + 1) rows) (styled_append (take (i + 1) rows) (drop (i + 1) rows) (drawn ++ (line row ++ below)) later.0 next_drawn later.1),
            prefix_more a c p (drawn ++ (line row ++ below)) later.0 (prefix_later a b c p q drawn (line row ++ below) first prefix),
          ),
        )
