use Rattle.std.proofs.Common.{◌∙◌, List, subst, sym, inl, inr}
use Rattle.std.specs.List.Sorted.{IsStrictlySortedBy}
use Rattle.std.proofs.lemmas.List.{map-id}
use Rattle.std.proofs.lemmas.Result.{err_from_is_err_and}
use Rattle.jj_decode.specs.Decoding.{IsGreater}
use Rattle.jj_decode.proofs.ContentAt.{error_values}
use Rattle.jj_decode.proofs.ListItems.{items_read_none, items_read_push}
use Rattle.jj_decode.proofs.AscendingItems.{members_alike, none_if_unordered, ordered_item_error, sorted_nil, sorted_push}
use Rattle.jj_decode.proofs.hash_tables.read_members.Goals as goal

pub loop-init : goal.loop-init
loop-init g c =
    let is = c.new-members.ensures.items in
    record {
      items_read = rw is (items_read_none g.K.ContentHash.is_value g.K.ContentHash.content
          c.args.bytes.now c.args.start c.requires);
      ordered = rw is (sorted_nil g.met.K.Ord.total);
    }

pub returns-in_err-member-clause-malformed : goal.returns-in_err-member-clause-malformed
returns-in_err-member-clause-malformed g c =
    let p = err_from_is_err_and c.from_residual.result c.from_residual.ensures.1 in
    let n = error_values g.K.ContentHash.is_value g.K.ContentHash.content g.K.ReadContent.is_content
    c.args.bytes.now c.loop.offset c.in_err-member.field-0.0 g.met.K.ReadContent.contents.covers
    c.in_err-member.ensures.malformed in
    let Member : Type 0 = g.row.K.Denot in
    rw (p.1, p.2) (ordered_item_error (λ (k : Member). k) g.met.K.Ord.total
    g.met.K.ContentHash.lawful (members_alike g.K.Ord.cmp g.K.PartialEq.eq g.met.K.Ord.matches_eq)
    (IsStrictlySortedBy g.K.Ord.cmp)
    (λ ks s. subst (IsStrictlySortedBy g.K.Ord.cmp) (sym (map-id ks)) s)
    c.args.bytes.now c.args.start c.loop.offset c.args.count c.loop.counter c.loop.members.items
    c.loop.invariant.items_read c.loop-test.true c.in_err-member.field-0.0 n)

pub returns-then-not-is_greatest_member-clause-malformed : goal.returns-then-not-is_greatest_member-clause-malformed
returns-then-not-is_greatest_member-clause-malformed g c =
    let Member : Type 0 = g.row.K.Denot in
    let member = c.in_ok-member.member in
    rw c.unordered_keys.ensures
    (none_if_unordered (λ (k : Member). k) g.met.K.Ord.total g.met.K.ContentHash.lawful
    (members_alike g.K.Ord.cmp g.K.PartialEq.eq g.met.K.Ord.matches_eq)
    (IsStrictlySortedBy g.K.Ord.cmp)
    (λ ks s. subst (IsStrictlySortedBy g.K.Ord.cmp) (sym (map-id ks)) s)
    c.args.bytes.now c.args.start c.loop.offset c.args.count c.loop.counter c.loop.members.items
    c.loop.invariant.items_read c.loop-test.true c.in_ok-member.end member
    c.in_ok-member.ensures.decoded
    (λ greater. c.if-not-is_greatest_member.ensures
    (subst (λ (ks : List Member). IsGreater g.K.Ord.cmp ks member)
    (map-id c.loop.members.items ∙ sym c.deref.ensures.value) greater)))

pub loop-preserved : goal.loop-preserved
loop-preserved g c =
    let is = c.in_ok-push.ensures.items in
    let greater = subst (λ (ks : List g.row.K.Denot). IsGreater g.K.Ord.cmp ks
    c.in_ok-member.member) c.deref.ensures.value c.if-not-is_greatest_member.ensures in
    record {
      items_read = rw is (items_read_push g.K.ContentHash.is_value g.K.ContentHash.content
          c.args.bytes.now c.args.start c.loop.offset c.in_ok-member.end c.loop.counter
          c.loop.members.items c.in_ok-member.member c.loop.invariant.items_read
          c.in_ok-member.ensures.decoded);
      ordered = rw is (sorted_push g.met.K.Ord.total c.loop.members.items c.in_ok-member.member
          c.loop.invariant.ordered greater);
    }

pub returns-in_err-member-clause-error : goal.returns-in_err-member-clause-error
returns-in_err-member-clause-error g c =
    let p = err_from_is_err_and c.from_residual.result c.from_residual.ensures.1 in
    let read = c.loop.invariant.items_read in
    rw (p.1, p.2) (inr (
      c.loop.counter,
      c.loop.members.items,
      c.loop.offset,
      c.loop-test.true,
      record {
        valid = ((read.len, read.values), c.loop.invariant.ordered);
        split = read.split;
        within = read.within;
      },
      inl c.in_err-member.ensures.error,
    ))

pub returns-then-not-is_greatest_member-clause-error : goal.returns-then-not-is_greatest_member-clause-error
returns-then-not-is_greatest_member-clause-error g c =
    let Member : Type 0 = g.row.K.Denot in
    let member = c.in_ok-member.member in
    let read = c.loop.invariant.items_read in
    inr (
      c.loop.counter,
      c.loop.members.items,
      c.loop.offset,
      c.loop-test.true,
      record {
        valid = ((read.len, read.values), c.loop.invariant.ordered);
        split = read.split;
        within = read.within;
      },
      inr (
        member,
        c.in_ok-member.end,
        c.in_ok-member.ensures.decoded,
        (λ greater. c.if-not-is_greatest_member.ensures
            (subst (λ (ks : List Member). IsGreater g.K.Ord.cmp ks member)
            (sym c.deref.ensures.value) greater)),
        c.unordered_keys.ensures,
      ),
    )
