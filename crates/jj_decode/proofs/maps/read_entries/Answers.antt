use Rattle.std.proofs.Common.{◌≡◌, ◌∷◌, ◌++◌, [], ◌∙◌, List, inr}
use Rattle.std.specs.List.Sorted.{IsStrictlySortedBy}
use Rattle.std.specs.Map.{keys_of}
use Rattle.std.proofs.lemmas.Result.{err_from_is_err_and}
use Rattle.jj_content.specs.Content.{entry_content}
use Rattle.jj_content.specs.PrefixFreeProofs.{both_lawful, on_lawful}
use Rattle.jj_decode.specs.Decoding.{AreBoth}
use Rattle.jj_decode.specs.Contents.{BothContents}
use Rattle.jj_decode.specs.ContentsProofs.{both_contents}
use Rattle.jj_decode.proofs.ContentAt.{error_values}
use Rattle.jj_decode.proofs.ListItems.{items_read_push}
use Rattle.jj_decode.proofs.AscendingItems.{entries_alike, none_if_unordered, ordered_item_error, insert_last}
use Rattle.jj_decode.proofs.maps.read_entries.Goals as goal

pub returns-in_err-key-clause-malformed : goal.returns-in_err-key-clause-malformed
returns-in_err-key-clause-malformed g c =
    let p = err_from_is_err_and c.from_residual.result c.from_residual.ensures.1 in
    let covers = (both_contents g.met.K.ReadContent.contents g.met.V.ReadContent.contents).covers in
    let n = error_values (AreBoth g.K.ContentHash.is_value g.V.ContentHash.is_value)
    (entry_content g.K.ContentHash.content g.V.ContentHash.content)
    (BothContents g.K.ReadContent.is_content g.V.ReadContent.is_content)
    c.args.bytes.now c.loop.offset c.in_err-key.field-0.0 covers c.in_err-key.ensures.malformed in
    let Entry : Type 0 = g.row.K.Denot × g.row.V.Denot in
    let lawful = both_lawful (on_lawful (λ (e : Entry). e.0) g.met.K.ContentHash.lawful)
    (on_lawful (λ (e : Entry). e.1) g.met.V.ContentHash.lawful) in
    rw (p.1, p.2) (ordered_item_error (λ (e : Entry). e.0) g.met.K.Ord.total lawful
    (entries_alike g.K.Ord.cmp g.K.PartialEq.eq g.V.PartialEq.eq g.met.K.Ord.matches_eq)
    (λ (es : List Entry). IsStrictlySortedBy g.K.Ord.cmp (keys_of es)) (λ es s. s)
    c.args.bytes.now c.args.start c.loop.offset c.args.count c.loop.counter c.loop.map.entries
    c.loop.invariant.items_read c.loop-test.true c.in_err-key.field-0.0 n)

pub returns-then-not-is_greatest_key-clause-malformed : goal.returns-then-not-is_greatest_key-clause-malformed
returns-then-not-is_greatest_key-clause-malformed g c =
    let Entry : Type 0 = g.row.K.Denot × g.row.V.Denot in
    let lawful = both_lawful (on_lawful (λ (e : Entry). e.0) g.met.K.ContentHash.lawful)
    (on_lawful (λ (e : Entry). e.1) g.met.V.ContentHash.lawful) in
    rw c.unordered_keys.ensures
    (none_if_unordered (λ (e : Entry). e.0) g.met.K.Ord.total lawful
    (entries_alike g.K.Ord.cmp g.K.PartialEq.eq g.V.PartialEq.eq g.met.K.Ord.matches_eq)
    (λ (es : List Entry). IsStrictlySortedBy g.K.Ord.cmp (keys_of es)) (λ es s. s)
    c.args.bytes.now c.args.start c.loop.offset c.args.count c.loop.counter c.loop.map.entries
    c.loop.invariant.items_read c.loop-test.true c.in_ok-key.end
    (c.in_ok-key.key, c.in_ok-key.value) c.in_ok-key.ensures.decoded
    c.if-not-is_greatest_key.ensures)

pub loop-preserved : goal.loop-preserved
loop-preserved g c =
    let is : c.insert.new.self.entries ≡ c.loop.map.entries
    ++ (c.in_ok-key.key, c.in_ok-key.value) ∷ [] = c.in_ok-insert.ensures.entries
    ∙ insert_last g.met.K.Ord.total c.loop.map.entries c.in_ok-key.key c.in_ok-key.value
    c.if-not-is_greatest_key.ensures in
    record {
      items_read = rw is (items_read_push
          (AreBoth g.K.ContentHash.is_value g.V.ContentHash.is_value)
          (entry_content g.K.ContentHash.content g.V.ContentHash.content) c.args.bytes.now
          c.args.start c.loop.offset c.in_ok-key.end c.loop.counter c.loop.map.entries
          (c.in_ok-key.key, c.in_ok-key.value) c.loop.invariant.items_read
          c.in_ok-key.ensures.decoded);
      ordered = c.insert.ensures.ordered;
    }

pub returns-then-not-is_greatest_key-clause-error : goal.returns-then-not-is_greatest_key-clause-error
returns-then-not-is_greatest_key-clause-error g c =
    let read = c.loop.invariant.items_read in
    inr (
      c.loop.counter,
      c.loop.map.entries,
      c.loop.offset,
      c.loop-test.true,
      record {
        valid = ((read.len, read.values), c.loop.invariant.ordered);
        split = read.split;
        within = read.within;
      },
      inr (
        (c.in_ok-key.key, c.in_ok-key.value),
        c.in_ok-key.end,
        c.in_ok-key.ensures.decoded,
        c.if-not-is_greatest_key.ensures,
        c.unordered_keys.ensures,
      ),
    )
