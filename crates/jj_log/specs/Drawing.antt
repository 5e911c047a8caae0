-- The line of a node in a drawing.
-- Cited by contracts of public items: AreDrawn, AreStyled, StartsWithLine, line_of_row,
-- styled_line_of_row.
use Rattle.std.specs.Prelude.{◌≡◌, ◌==◌, ◌++◌, ◌∷◌, [], ℕ, zero, suc, Bool, List, codes, length, if◌then◌else◌}
use Rattle.jj_log.specs.Styles.{styled}
use Rattle.jj_log.specs.declared.layout.Row.{Row}
use Rattle.jj_log.specs.declared.style.Style.{Style}
use Rattle.jj_log.specs.declared.style.Style.TheVariants.{Ascii}

-- the characters of a column in the line of a node
abbrev pub node_cell : ℕ → Bool → ℕ → List ℕ
node_cell column is_root i = if i == column then (if is_root then codes "* " else codes "o ")
    else codes "| "

-- the characters of the first columns in the line of a node, in a style
abbrev pub node_cells : Style → ℕ → Bool → ℕ → List ℕ
node_cells style column is_root zero = []
node_cells style column is_root (suc n) =
    node_cells style column is_root n ++ styled style (node_cell column is_root n)

-- the line of a node with its label
abbrev pub node_line : Style → (width column : ℕ) (is_root : Bool) (label : List ℕ) → List ℕ
node_line style width column is_root label =
    node_cells style column is_root width ++ codes " " ++ label ++ codes "\n"

-- the line of the node of a row
abbrev pub styled_line_of_row : Style → Row → List ℕ → List ℕ
styled_line_of_row style row label =
    node_line style row.width row.column (length row.edges.items == 0) label

-- the line of the node of a row, in ASCII characters
abbrev pub line_of_row : Row → List ℕ → List ℕ
line_of_row = styled_line_of_row Ascii

-- a string is added to the old one
abbrev pub Appends : List ℕ → List ℕ → Type 0
Appends old new = (more : List ℕ) × (new ≡ old ++ more)

-- a line is added to the old string, and further lines
abbrev pub StartsWithLine : List ℕ → List ℕ → List ℕ → Type 0
StartsWithLine old new line = (below : List ℕ) × (new ≡ old ++ line ++ below)

-- the drawing has the line of the node of each row, and below it any further lines
abbrev pub AreStyled : Style → (ℕ → List ℕ) → List Row → List ℕ → Type 0
AreStyled style label [] drawing = drawing ≡ []
AreStyled style label (row ∷ rows) drawing = (below : List ℕ) × (later : List ℕ)
    × (drawing ≡ styled_line_of_row style row (label row.node) ++ below ++ later)
    × AreStyled style label rows later

-- the drawing, in ASCII characters, has the line of the node of each row, and below it any further
-- lines
abbrev pub AreDrawn : (ℕ → List ℕ) → List Row → List ℕ → Type 0
AreDrawn = AreStyled Ascii
