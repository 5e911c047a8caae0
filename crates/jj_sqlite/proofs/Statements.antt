-- The commands that the statements of a log are, by computation, and their effect on its tables.
use Rattle.std.proofs.Common.{◌≡◌, ◌∙◌, ◌⊎◌, inl, inr, ℕ, zero, suc, ◌+◌, pos, negsuc, List, [], ◌∷◌, map, codes, Bool, true, false, cond, if◌then◌else◌, Some, None, Option, Ok, Err, Result, refl, sym, ap, ap₂, subst, subst₂, arith}
use Rattle.std.specs.Prelude.{ℤ, find, fold}
use Rattle.std.specs.List.{flat_map, list_all}
use Rattle.std.specs.List.Sorted.{IsPermutation}
use Rattle.std.specs.Ordering.{is_eq, is_lt, int_cmp}
use Rattle.std.proofs.lemmas.Bool.Decides.{nat_tests}
use Rattle.std.proofs.lemmas.Int.{ints}
use Rattle.std.proofs.lemmas.List.Sorted.{IsPermutation-map, length_permutation}
use Rattle.sqlite.specs.declared.types.Value.{Value}
use Rattle.sqlite.specs.declared.types.Value.TheVariants.{Null, Int, Text}
use Rattle.sqlite.specs.Cast.{cast}
use Rattle.sqlite.specs.Change.{created, next_tree}
use Rattle.sqlite.specs.Collation.TheVariants.{Binary}
use Rattle.sqlite.specs.Command.TheVariants.{Select, Insert, CreateTable, Begin, Commit as Commits, Nothing}
use Rattle.sqlite.specs.Compile.{table_defined_by}
use Rattle.sqlite.specs.Does.{Tally, Does, lacks_sequence, sequence_text}
use Rattle.sqlite.specs.Edit.{edit_of, next_rowid, put_all}
use Rattle.sqlite.specs.Effect.{Database}
use Rattle.sqlite.specs.Kind.TheVariants.{Integer}
use Rattle.sqlite.specs.Listing.{understood, reads_listing}
use Rattle.sqlite.specs.Ops.{binary, unary}
use Rattle.sqlite.specs.Order.{Row, column, value_cmp}
use Rattle.sqlite.specs.Program.{overlay}
use Rattle.sqlite.specs.Query.{Query, inner, end, IsAnswer, output, Output}
use Rattle.sqlite.specs.Rowids.TheVariants.{Chosen, Above, Given}
use Rattle.sqlite.specs.Rows.{Written, Task, Counter, Counts, count_of, counter_in, counting, higher, sequence}
use Rattle.sqlite.specs.Schema.{Schema}
use Rattle.sqlite.specs.Source.TheVariants.{Values}
use Rattle.sqlite.specs.State.{State, Shown, mode_of}
use Rattle.sqlite.specs.Term.{Env, Term, col, holds, lit, op2}
use Rattle.sqlite.specs.Tree.{Trees, rowid, put_row}
use Rattle.sqlite.proofs.Callers.{IsPlain, command_of, one_permutation, one_step, reads_as, statement_of}
use Rattle.sqlite_catalog.specs.Change.{KeepsRows}
use Rattle.sqlite_rules.specs.Action.{Writes}
use Rattle.sqlite_rules.specs.Cast.{cast_row}
use Rattle.sqlite_rules.specs.Edit.{at_least, numbered, without_all}
use Rattle.sqlite_schema.specs.declared.schema.Keys.{Keys}
use Rattle.sqlite_sql.specs.declared.ops.BinaryOp.TheVariants.{Compare}
use Rattle.sqlite_sql.specs.declared.ops.CompareOp.TheVariants.{Eq}
use Rattle.sqlite_tied.specs.Compute.{everything}
use Rattle.jj_mirror.specs.Entries.{LogEntryValue}
use Rattle.jj_sqlite.specs.Batches.{begin_statement, commit_statement}
use Rattle.jj_sqlite.specs.Rows.{ShowsCount}
use Rattle.jj_sqlite.specs.Tables.{HasCount, count_rows, count_statement, count_table, create_statement, entry_row, insert_statement, is_counted, log_schema, log_table, select_statement}
use Rattle.jj_sqlite.proofs.RowNumbers.{new_row}

-- ---- the commands that the statements are

abbrev pub terms : List Term
terms = lit Null ∷ lit Null ∷ col 0 0 ∷ col 0 1 ∷ col 0 2 ∷ []

abbrev pub query : Query
query = record {
  from = inner 0 end;
  filter = [];
  group = None;
  project = col 1 0 ∷ col 1 2 ∷ col 1 3 ∷ col 1 4 ∷ [];
  distinct = false;
  collations = [];
  order = (col 1 0, record { collation = Binary; descending = false }) ∷ [];
  limit = lit (Int (negsuc 0));
  offset = lit (Int (pos 0));
}

abbrev count_query : Query
count_query = record {
  from = inner 1 end;
  filter = op2 (Compare Eq Binary) (col 1 1) (lit (Text (codes "object_log"))) ∷ [];
  group = None;
  project = col 1 2 ∷ [];
  distinct = false;
  collations = [];
  order = [];
  limit = lit (Int (negsuc 0));
  offset = lit (Int (pos 0));
}

abbrev pub no_schema : Schema
no_schema = record { tables = []; indexes = []; views = [] }

lacks_is : lacks_sequence (created no_schema (log_table true)) ≡ true
unfolding understood everything
lacks_is = refl

pub create_is : (command_of (understood no_schema create_statement) ≡ CreateTable) × (statement_of create_statement (understood no_schema create_statement) ≡ create_statement) × (table_defined_by create_statement ≡ Ok (log_table true))
unfolding understood everything
create_is = (refl, refl, refl)

pub create_plain : IsPlain (understood no_schema create_statement)
unfolding understood everything
create_plain = (refl, refl)

pub again_is : (c : Bool) → command_of (understood (log_schema c) create_statement) ≡ Nothing
unfolding understood everything
again_is true = refl
again_is false = refl

pub again_plain : (c : Bool) → IsPlain (understood (log_schema c) create_statement)
unfolding understood everything
again_plain true = (refl, refl)
again_plain false = (refl, refl)

pub insert_is : (c : Bool) → command_of (understood (log_schema c) insert_statement) ≡ Insert 0 (Values terms 5)
unfolding understood everything
insert_is true = refl
insert_is false = refl

pub insert_plain : (c : Bool) → IsPlain (understood (log_schema c) insert_statement)
unfolding understood everything
insert_plain true = (refl, refl)
insert_plain false = (refl, refl)

pub select_is : (c : Bool) → (command_of (understood (log_schema c) select_statement) ≡ Select (record { lets = []; body = query }) (codes "seq" ∷ codes "kind" ∷ codes "id" ∷ codes "bytes" ∷ [])) × (reads_listing (log_schema c) select_statement ≡ false)
unfolding understood everything
select_is true = (refl, refl)
select_is false = (refl, refl)

pub select_plain : (c : Bool) → IsPlain (understood (log_schema c) select_statement)
unfolding understood everything
select_plain true = (refl, refl)
select_plain false = (refl, refl)

pub begin_is : (c : Bool) → command_of (understood (log_schema c) begin_statement) ≡ Begin
unfolding understood everything
begin_is true = refl
begin_is false = refl

pub begin_plain : (c : Bool) → IsPlain (understood (log_schema c) begin_statement)
unfolding understood everything
begin_plain true = (refl, refl)
begin_plain false = (refl, refl)

pub commit_is : (c : Bool) → command_of (understood (log_schema c) commit_statement) ≡ Commits
unfolding understood everything
commit_is true = refl
commit_is false = refl

pub commit_plain : (c : Bool) → IsPlain (understood (log_schema c) commit_statement)
unfolding understood everything
commit_plain true = (refl, refl)
commit_plain false = (refl, refl)

count_is : (command_of (understood (log_schema true) count_statement) ≡ Select (record { lets = []; body = count_query }) (codes "seq" ∷ [])) × (reads_listing (log_schema true) count_statement ≡ false)
unfolding understood everything
count_is = (refl, refl)

sequence_is : (table_defined_by sequence_text ≡ Ok (record count_table { tree = 0 })) × (sequence (log_schema true) ≡ Some count_table)
unfolding understood everything
sequence_is = (refl, refl)

-- ---- a new row

either : (b : Bool) (x : Value) → cond b x x ≡ x
either true x = refl
either false x = refl

cast_null : cast Integer Null ≡ Null
unfolding unary
cast_null = either _ Null

cast_int : cast Integer (Int (pos 1)) ≡ Int (pos 1)
unfolding unary
cast_int = either _ (Int (pos 1))

pub went : {B E R : Type 0} {b : B} {Stops : E → Type 0} → ((stop : E) × Stops stop × (Ok b ≡ Err stop)) ⊎ R → R
went (inl stopped) = absurd (let e = stopped.2 in cc)
went (inr on) = on

pub same_value : {B E : Type 0} {a b : B} → ◌≡◌ {A = Result B E} (Ok a) (Ok b) → a ≡ b
same_value e = cc

abbrev count_row : ℕ → Row
count_row n = Int (pos 1) ∷ Text (codes "object_log") ∷ Int (pos n) ∷ []

abbrev counter_of : ℕ → Option Row
counter_of zero = None
counter_of (suc n) = Some (count_row (suc n))

find_count : (n : ℕ) → find (λ r. is_eq (value_cmp (column r 1) (Text (codes "object_log")))) (count_rows n) ≡ counter_of n
unfolding value_cmp lib.Ieee.is_nan lib.Ieee.lt
find_count zero = refl
find_count (suc n) = refl

count_of_is : (n : ℕ) → count_of (counter_of n) ≡ pos n
unfolding unary
count_of_is zero = refl
count_of_is (suc n) = refl

one_below : (n : ℕ) → is_lt (int_cmp (pos n) (pos (n + 1))) ≡ true
one_below n = grind (arith, ints, nat_tests)

-- the new count
counts_one_more : (keys : Keys) (mid next : Trees) (n : ℕ) (top : ℤ) → mid 1 ≡ count_rows n → top ≡ pos (suc n)
    → Writes (log_schema true) keys mid (counting mid (log_table true) count_table top (counter_of n)) (Ok next) → (next 1 ≡ count_rows (suc n)) × (next 0 ≡ mid 0)
unfolding value_cmp lib.Ieee.is_nan lib.Ieee.lt
counts_one_more keys mid next zero top has at w =
    let applied = one_step (log_schema true) keys mid next (counting mid (log_table true) count_table top None) refl w in
    (applied.rows ∙ ap₂ (λ (rows : List Row) (t : ℤ). put_all (without_all rows []) (numbered Chosen (without_all rows []) (cast_row count_table (Null ∷ Text (codes "object_log") ∷ Int t ∷ []) ∷ []))) has at ∙ rw cast_null refl, applied.tables.0 (λ e. absurd (omega (arith, e))))
counts_one_more keys mid next (suc n) top has at w =
    let applied = one_step (log_schema true) keys mid next (counting mid (log_table true) count_table top (counter_of (suc n))) refl w in
    (applied.rows ∙ ap₂ (λ (rows : List Row) (t : ℤ). put_all (without_all rows (pos 1 ∷ [])) (numbered Given (without_all rows (pos 1 ∷ [])) (cast_row count_table (Int (pos 1) ∷ Text (codes "object_log") ∷ Int t ∷ []) ∷ []))) has at ∙ rw cast_int refl, applied.tables.0 (λ e. absurd (omega (arith, e))))

abbrev task_of : Option ℕ → Keys → Row → Task
task_of limit keys params = record { limit = limit; keys = keys; schema = log_schema true; table = log_table true; params = params }

counter_found : (limit : Option ℕ) (keys : Keys) (params : Row) (db : Trees) (counter : Option Row) → Counter (task_of limit keys params) db (Ok counter) → counter ≡ counter_in db (log_table true) count_table
counter_found limit keys params db counter h = same_value (rw sequence_is.1 at h)

counts_by : (limit : Option ℕ) (keys : Keys) (params : Row) (mid next : Trees) (counter : Option Row) (top : ℤ) → is_lt (int_cmp (count_of counter) top) ≡ true
    → Counts (task_of limit keys params) mid counter top (Ok next) → Writes (log_schema true) keys mid (counting mid (log_table true) count_table top counter) (Ok next)
counts_by limit keys params mid next counter top test h = rw sequence_is.1 at (rw test at h)

less : (low high : ℤ) (n : ℕ) → low ≡ pos n → high ≡ pos (n + 1) → is_lt (int_cmp low high) ≡ true
less low high n is next = rw (is, next) (one_below n)

above : (top id : ℤ) (n : ℕ) → top ≡ pos n → id ≡ pos (n + 1) → at_least (Above top) id ≡ id
above top id n is next = rw (is, next, one_below n) refl

pub row_made : (c : Bool) (old : State) (entry : LogEntryValue) (tally : Tally) (after : Database) (n : ℕ) → old.now.schema ≡ log_schema c → HasCount c old.now.trees n → next_rowid (old.now.trees 0) ≡ pos (n + 1)
    → Does old.step_limit (mode_of old) (entry_row entry) old.now (statement_of insert_statement (understood (log_schema c) insert_statement)) None (Insert 0 (Values terms 5)) (Ok (tally, after))
    → (after.schema ≡ log_schema c) × (after.trees 0 ≡ put_row (new_row (old.now.trees 0) entry) (old.now.trees 0)) × HasCount c after.trees (n + 1)
row_made false old entry tally after n schema has next does =
    let params = entry_row entry in
    let db = old.now.trees in
    let command = Insert 0 (Values terms 5) in
    let text = statement_of insert_statement (understood (log_schema false) insert_statement) in
    let done = went (subst (λ s. Does old.step_limit (mode_of old) params (record old.now { schema = s }) text None command (Ok (tally, after))) schema does) in
    let now = ap (λ (p : Tally × Database). p.1) (same_value (went (went done.2).2).2) in
    let given = went done.1 in
    let written = went (went given.2).2 in
    let counted = went written.2 in
    let trees : done.0.trees ≡ written.0 = ap (λ (it : Written). it.trees) (same_value counted.2) ∙ same_value counted.1 in
    let applied = one_step (log_schema false) _ db written.0 (edit_of db (log_table false) [] Chosen 0 given.0) refl written.1 in
    let new = new_row (db 0) entry in
    let news : (edit_of db (log_table false) [] Chosen 0 given.0).news ≡ new ∷ [] = ap (λ all. (edit_of db (log_table false) [] Chosen 0 all).news) given.1.1 ∙ rw cast_null refl in
    (ap (λ (d : Database). d.schema) now, ap (λ (d : Database). d.trees 0) now ∙ ap (λ (t : Trees). t 0) trees ∙ applied.rows ∙ ap (λ all. put_all (db 0) all) news, tt)
row_made true old entry tally after n schema has next does =
    let params = entry_row entry in
    let db = old.now.trees in
    let command = Insert 0 (Values terms 5) in
    let text = statement_of insert_statement (understood (log_schema true) insert_statement) in
    let done = went (subst (λ s. Does old.step_limit (mode_of old) params (record old.now { schema = s }) text None command (Ok (tally, after))) schema does) in
    let now = ap (λ (p : Tally × Database). p.1) (same_value (went (went done.2).2).2) in
    let given = went done.1 in
    let counter = went given.2 in
    let written = went counter.2 in
    let counted = went written.2 in
    let found : counter.0 ≡ counter_of n = counter_found old.step_limit (mode_of old).keys params db counter.0 counter.1 ∙ ap (find (λ r. is_eq (value_cmp (column r 1) (Text (codes "object_log"))))) has ∙ find_count n in
    let top : count_of counter.0 ≡ pos n = ap count_of found ∙ count_of_is n in
    let edit = edit_of db (log_table true) [] (Above (count_of counter.0)) 0 given.0 in
    let applied = one_step (log_schema true) _ db written.0 edit refl written.1 in
    let new = new_row (db 0) entry in
    let news : edit.news ≡ new ∷ [] = ap (λ all. (edit_of db (log_table true) [] (Above (count_of counter.0)) 0 all).news) given.1.1 ∙ rw cast_null (ap (λ id. (Int id ∷ Null ∷ params) ∷ []) (above (count_of counter.0) (next_rowid (db 0)) n top next)) in
    let highest : fold higher (count_of counter.0) edit.news ≡ pos (n + 1) = ap (fold higher (count_of counter.0)) news ∙ rw (top, next, one_below n) refl in
    let test : is_lt (int_cmp (count_of counter.0) (fold higher (count_of counter.0) edit.news)) ≡ true = less (count_of counter.0) (fold higher (count_of counter.0) edit.news) n top highest in
    let counts = counts_by old.step_limit (mode_of old).keys params written.0 counted.0 counter.0 (fold higher (count_of counter.0) edit.news) test counted.1 in
    let one : n + 1 ≡ suc n = omega arith in
    let kept : written.0 1 ≡ count_rows n = applied.tables.1.0 (λ e. absurd (omega (arith, e))) ∙ has in
    let more = counts_one_more _ written.0 counted.0 n (fold higher (count_of counter.0) edit.news) kept (highest ∙ ap pos one) (subst (λ (k : Option Row). Writes (log_schema true) (mode_of old).keys written.0 (counting written.0 (log_table true) count_table (fold higher (count_of counter.0) edit.news) k) (Ok counted.0)) found counts) in
    let trees : done.0.trees ≡ counted.0 = ap (λ (it : Written). it.trees) (same_value counted.2) in
    let last : after.trees ≡ counted.0 = ap (λ (d : Database). d.trees) now ∙ trees in
    (ap (λ (d : Database). d.schema) now, ap (λ (t : Trees). t 0) last ∙ more.1 ∙ applied.rows ∙ ap (λ all. put_all (db 0) all) news, ap (λ (t : Trees). t 1) last ∙ more.0 ∙ ap count_rows (sym one))

-- ---- the table is created

-- the creation of the table makes it without rows
pub created_made : (old : State) (tally : Tally) (after : Database) → old.now.schema ≡ no_schema → Does old.step_limit (mode_of old) [] old.now create_statement None CreateTable (Ok (tally, after))
    → (after.schema ≡ log_schema true) × (after.trees 0 ≡ []) × (after.trees 1 ≡ [])
created_made old tally after has does =
    let all = went does in
    let first = went all.1 in
    let made = first.1 in
    let both : Ok made.table ≡ Ok (log_table true) = sym made.defined ∙ create_is.2 in
    let same : made.table ≡ log_table true = cc in
    let schema : first.0.schema ≡ created no_schema (log_table true) = made.is ∙ ap (λ s. created s made.table) has ∙ ap (created no_schema) same in
    let lacks : lacks_sequence first.0.schema ≡ true = ap lacks_sequence schema ∙ lacks_is in
    let second = rw lacks at first.2 in
    let second_both : Ok second.table ≡ Ok (record count_table { tree = 0 }) = sym second.defined ∙ sequence_is.0 in
    let second_is : second.table ≡ record count_table { tree = 0 } = cc in
    let both_made : all.0.schema ≡ log_schema true = second.is ∙ ap (λ s. created s second.table) schema ∙ ap (created (created no_schema (log_table true))) second_is in
    let now : after ≡ all.0 = ap (λ (p : Tally × Database). p.1) (same_value all.2) in
    let empty : all.0.trees 1 ≡ [] = subst (λ s. all.0.trees (next_tree s) ≡ []) schema second.empty in
    let first_empty : first.0.trees 0 ≡ [] = subst (λ s. first.0.trees (next_tree s) ≡ []) has made.empty in
    let kept : all.0.trees 0 ≡ first.0.trees 0 = (subst (λ (s : Schema). KeepsRows s.tables first.0.trees all.0.trees) schema second.others).0 in
    (ap (λ (d : Database). d.schema) now ∙ both_made, ap (λ (d : Database). d.trees 0) now ∙ kept ∙ first_empty, ap (λ (d : Database). d.trees 1) now ∙ empty)

-- ---- the count is read

-- the environments of a row that the query keeps
abbrev kept_by : Row → List Env
kept_by r = if list_all (holds ([] ∷ r ∷ [])) count_query.filter then ([] ∷ r ∷ []) ∷ [] else []

abbrev count_column : ℕ → List Row
count_column zero = []
count_column (suc n) = (Int (pos (suc n)) ∷ []) ∷ []

count_outputs : (n : ℕ) → map (output count_query) (flat_map kept_by (count_rows n)) ≡ map (λ (row : Row). ([], row)) (count_column n)
unfolding binary value_cmp lib.Ieee.is_nan lib.Ieee.lt
count_outputs zero = refl
count_outputs (suc n) = refl

second_parts : (n : ℕ) → map (λ (o : Output). o.1) (map (λ (row : Row). ([], row)) (count_column n)) ≡ count_column n
second_parts zero = refl
second_parts (suc n) = refl

shows_counts : (db : Trees) (n : ℕ) (shown : List Row) → db 1 ≡ count_rows n → IsAnswer count_query (overlay db []) [] shown → IsPermutation (count_column n) shown
shows_counts db n shown has a =
    let kept : a.kept ≡ map (λ (row : Row). ([], row)) (count_column n) = a.distinct ∙ ap (map (output count_query)) a.grouped ∙ ap (λ rows. map (output count_query) (flat_map kept_by rows)) has ∙ count_outputs n in
    let all : IsPermutation (map (λ (row : Row). ([], row)) (count_column n)) a.ordered = subst (λ k. IsPermutation k a.ordered) kept a.same in
    subst₂ (λ xs ys. IsPermutation xs ys) (second_parts n) (sym a.shown) (IsPermutation-map (λ (o : Output). o.1) (map (λ (row : Row). ([], row)) (count_column n)) a.ordered all)

no_rows : (ys : List Row) → IsPermutation [] ys → ys ≡ []
no_rows [] same = refl
no_rows (y ∷ ys) same = absurd (omega (arith, length_permutation {X = Row} [] (y ∷ ys) same))

pub count_plain : IsPlain (understood (log_schema true) count_statement)
unfolding understood everything
count_plain = (refl, refl)

-- the rows that the query of the count returns
pub counts_are : (old new : State) (n : ℕ) (counts : List Row) → old.now.schema ≡ log_schema true → old.now.trees 1 ≡ count_rows n → Shown count_statement [] old new counts → counts ≡ count_column n
counts_are old new zero counts schema has shown =
    no_rows counts (shows_counts old.now.trees zero counts has ((reads_as count_statement [] old new (log_schema true) schema _ count_is.0 count_plain count_is.1 counts shown).answer Null))
counts_are old new (suc n) counts schema has shown =
    one_permutation (Int (pos (suc n)) ∷ []) counts (shows_counts old.now.trees (suc n) counts has ((reads_as count_statement [] old new (log_schema true) schema _ count_is.0 count_plain count_is.1 counts shown).answer Null))

pub column_shows : (n : ℕ) → ShowsCount n (count_column n)
column_shows zero = refl
column_shows (suc n) = refl

pub column_is : (n count : ℕ) → ShowsCount count (count_column n) → count ≡ n
column_is zero count shows = shows
column_is (suc n) count shows = let e : Int (pos (suc n)) ≡ Int (pos count) = shows in cc

-- whether a schema counts
pub counted_is : (c : Bool) → is_counted (log_schema c) ≡ c
unfolding understood everything
counted_is true = refl
counted_is false = refl
