-- The entries of a log in a database that is closed and opened again: its rows list one schema.
use Rattle.std.proofs.Common.{◌≡◌, ◌∙◌, ◌++◌, inl, inr, ℕ, ◌+◌, pos, List, [], ◌∷◌, Bool, Result, Ok, IsTrue, map, refl, sym, ap, ap₂, subst, arith}
use Rattle.std.specs.List.{AllZip}
use Rattle.sqlite_catalog.specs.Listing.{IsSound, IsTableRow, IsIndexRow, IsViewRow, DefinesTable}
use Rattle.sqlite.specs.declared.types.Value.TheVariants.{Int, Text}
use Rattle.sqlite.specs.Order.{Row}
use Rattle.sqlite.specs.Schema.{Schema}
use Rattle.sqlite.specs.Table.{Table}
use Rattle.sqlite.specs.Compile.{table_defined_by}
use Rattle.sqlite.specs.Tree.{Trees}
use Rattle.sqlite.specs.State.{State, IsLive, Opens}
use Rattle.jj_mirror.specs.Entries.{LogEntryValue}
use Rattle.jj_sqlite.specs.Crashes.{HasLog, HasLogAfterCrash}
use Rattle.jj_sqlite.specs.Inserts.{HasEntriesAfterCrash}
use Rattle.jj_sqlite.proofs.LogTable.{logged}
use Rattle.jj_sqlite.specs.Tables.{HasEntries, HasRows, log_schema, log_tables}

texts_equal : (x y : List ℕ) → Text x ≡ Text y → x ≡ y
texts_equal x y e = cc

numbers_equal : (m n : ℕ) → Int (pos (m + 1)) ≡ Int (pos (n + 1)) → m ≡ n
numbers_equal m n e = let after : m + 1 ≡ n + 1 = cc in omega (arith, after)

results_equal : {A E : Type 0} (x y : A) (r : Result A E) → r ≡ Ok x → r ≡ Ok y → x ≡ y
results_equal x y r a b = cc

definitions_equal : (sql : List ℕ) (s t : Table) → s.tree ≡ t.tree → DefinesTable sql s → DefinesTable sql t → s ≡ t
definitions_equal sql s t tree a b =
    let made : a.0 ≡ b.0 = results_equal a.0 b.0 (table_defined_by sql) a.1 b.1 in
    a.2 ∙ ap₂ (λ (m : Table) n. record m { tree = n }) made tree ∙ sym b.2

tables_equal : (row : Row) (s t : Table) → IsTableRow row s → IsTableRow row t → s ≡ t
tables_equal row s t a b =
    let sql : b.sql ≡ a.sql = texts_equal b.sql a.sql (sym b.sql_is ∙ a.sql_is) in
    let tree : s.tree ≡ t.tree = numbers_equal s.tree t.tree (sym a.described.id ∙ b.described.id) in
    definitions_equal a.sql s t tree a.defined (subst (λ text. DefinesTable text t) sql b.defined)

lists_equal : {A : Type 0} (P : Row → A → Type 0) (rows : List Row) (xs ys : List A)
    → ((row : Row) (x y : A) → P row x → P row y → x ≡ y) → AllZip P rows xs → AllZip P rows ys → xs ≡ ys
lists_equal P [] [] [] one a b = refl
lists_equal P [] [] (y ∷ ys) one a b = absurd b
lists_equal P [] (x ∷ xs) ys one a b = absurd a
lists_equal P (row ∷ rows) [] ys one a b = absurd a
lists_equal P (row ∷ rows) (x ∷ xs) [] one a b = absurd b
lists_equal P (row ∷ rows) (x ∷ xs) (y ∷ ys) one a b = ap₂ (λ z zs. z ∷ zs) (one row x y a.0 b.0) (lists_equal P rows xs ys one a.1 b.1)

none_again : {A : Type 0} (P Q : Row → A → Type 0) (rows : List Row) (ys : List A)
    → AllZip P rows [] → AllZip Q rows ys → ys ≡ []
none_again P Q [] [] a b = refl
none_again P Q [] (y ∷ ys) a b = absurd b
none_again P Q (row ∷ rows) ys a b = absurd a

-- a database that lists the schema of a log lists no other
schema_is_one : (c : Bool) (schema : Schema) (db : Trees) → IsSound (log_schema c) db → IsSound schema db → schema ≡ log_schema c
schema_is_one c schema db a b =
    let tables : schema.tables ≡ log_tables c = lists_equal IsTableRow _ schema.tables (log_tables c) tables_equal b.lists.listed.tables a.lists.listed.tables in
    let indexes : schema.indexes ≡ [] = none_again (IsIndexRow (log_tables c)) (IsIndexRow schema.tables) _ schema.indexes a.lists.listed.indexes b.lists.listed.indexes in
    let views : schema.views ≡ [] = none_again IsViewRow IsViewRow _ schema.views a.lists.listed.views b.lists.listed.views in
    λ i. record { tables = tables i; indexes = indexes i; views = views i }

-- a connection that was just opened on the trees of a log has its entries
pub found_again : (new : State) (entries : List LogEntryValue) (db : Trees) → HasLog db entries → Opens new → IsLive new → new.committed.trees ≡ db → HasEntries new entries
found_again new entries db has opens live same =
    let sound : IsSound (log_schema has.counted) new.committed.trees = subst (λ (d : Trees). IsSound (log_schema has.counted) d) (sym same) has.sound in
    let schema : new.committed.schema ≡ log_schema has.counted = schema_is_one has.counted new.committed.schema new.committed.trees sound (live opens.is_open).1 in
    record {
      counted = has.counted;
      schema = ap (λ d. d.schema) opens.clean ∙ schema;
      rows = subst (λ (d : Trees). HasRows has.counted d entries) (sym same ∙ ap (λ d. d.trees) (sym opens.clean)) has.rows;
      committed = sym opens.clean;
      autocommit = opens.autocommit;
    }

-- a connection that was just opened on the trees that another one committed has its entries
pub entries_again : (old new : State) (entries : List LogEntryValue) → IsLive old → IsTrue old.is_open → HasEntries old entries
    → Opens new → IsLive new → new.committed.trees ≡ old.committed.trees → HasEntries new entries
entries_again old new entries live is_open has opens live_again same = found_again new entries old.committed.trees (logged old entries has (live is_open).0) opens live_again same

-- a connection that was opened on what a crash left has all entries
pub found_after_crash : (new : State) (entries : List LogEntryValue) → HasLogAfterCrash new.committed.trees entries → Opens new → IsLive new → HasEntriesAfterCrash new entries
found_after_crash new entries (inl has) opens live = inl (found_again new entries new.committed.trees has opens live refl)
found_after_crash new entries (inr more) opens live = inr (more.0, found_again new (entries ++ more.0 ∷ []) new.committed.trees more.1 opens live refl)
