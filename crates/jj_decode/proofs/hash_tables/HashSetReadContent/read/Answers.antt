use Rattle.std.proofs.Common.{inl, inr, ◌++◌, List, drop, subst, sym, ap, ◌∙◌}
use Rattle.std.specs.List.Sorted.{IsStrictlySortedBy}
use Rattle.std.proofs.lemmas.Result.{err_from_is_err_and}
use Rattle.jj_content.specs.Content.{AreValues, list_content}
use Rattle.jj_content.specs.HashTableProofs.{values_from_sorted}
use Rattle.jj_decode.specs.Contents.{SetContents}
use Rattle.jj_decode.proofs.ListItems.{counted}
use Rattle.jj_decode.proofs.ContentAt.{memory_error, is_memory}
use Rattle.jj_decode.proofs.AscendingItems.{ordered_count_error, ordered_decoded, ordered_list_error}
use Rattle.jj_decode.proofs.hash_tables.HashSetReadContent.read.Goals as goal

pub returns-in_err-count-clause-malformed : goal.returns-in_err-count-clause-malformed
returns-in_err-count-clause-malformed g c =
    let p = err_from_is_err_and c.from_residual.result c.from_residual.ensures.1 in
    let r = g.met.K.ReadContent.contents in
    rw (p.1, p.2) (ordered_count_error (IsStrictlySortedBy g.K.Ord.cmp) g.K.ContentHash.is_value
    g.K.ContentHash.content c.args.bytes.now c.args.start c.in_err-count.field-0.0
    (λ x valid. r.nonempty (g.K.ContentHash.content x) (r.covers x valid))
    c.in_err-count.ensures.malformed)

pub returns-in_err-members-clause-malformed : goal.returns-in_err-members-clause-malformed
returns-in_err-members-clause-malformed g c =
    let p = err_from_is_err_and c.from_residual-in_err-members.result
    c.from_residual-in_err-members.ensures.1 in
    rw (p.1, p.2) (ordered_list_error (IsStrictlySortedBy g.K.Ord.cmp) g.K.ContentHash.is_value
    g.K.ContentHash.content c.args.bytes.now c.args.start c.in_ok-count.count c.in_ok-count.mid
    c.in_ok-count.ensures.decoded c.in_err-members.field-0.0 c.requires
    c.in_err-members.ensures.malformed)

pub returns-in_err-set-clause-malformed : goal.returns-in_err-set-clause-malformed
returns-in_err-set-clause-malformed g c =
    let p = err_from_is_err_and c.from_residual-in_err-set.result
    c.from_residual-in_err-set.ensures.1 in
    rw (p.1, p.2) (memory_error (SetContents g.K.Ord.cmp g.K.ContentHash.is_value
    g.K.ContentHash.content) (λ b. b) c.args.bytes.now c.args.start c.in_err-set.field-0.0
    c.in_err-set.ensures.err)

pub returns-clause-decoded : goal.returns-clause-decoded
returns-clause-decoded g c =
    let K : Type 0 = g.row.K.Denot in
    let set = c.in_ok-set.set in
    let s = ordered_decoded (IsStrictlySortedBy g.K.Ord.cmp) g.K.ContentHash.is_value
    g.K.ContentHash.content c.args.bytes.now c.args.start c.in_ok-count.count c.in_ok-count.mid
    c.in_ok-count.ensures.decoded c.in_ok-members.members.items c.in_ok-members.end
    c.in_ok-members.ensures.decoded in
    let sorted = sym c.in_ok-set.ensures.members in
    record {
      valid = (
        c.in_ok-set.ensures.unique,
        values_from_sorted g.K.Ord.cmp g.K.ContentHash.is_value set.keys
            (subst (AreValues g.K.ContentHash.is_value) sorted s.valid.1),
      );
      split = s.split ∙ ap (λ (ks : List K). list_content g.K.ContentHash.content ks
          ++ drop c.in_ok-members.end c.args.bytes.now) sorted;
      within = s.within;
    }

pub returns-in_err-count-clause-error : goal.returns-in_err-count-clause-error
returns-in_err-count-clause-error g c =
    let p = err_from_is_err_and c.from_residual.result c.from_residual.ensures.1 in
    rw (p.1, p.2) (inl c.in_err-count.ensures.error)

pub returns-in_err-members-clause-error : goal.returns-in_err-members-clause-error
returns-in_err-members-clause-error g c =
    let p = err_from_is_err_and c.from_residual-in_err-members.result
    c.from_residual-in_err-members.ensures.1 in
    rw (p.1, p.2) (inr (
      c.in_ok-count.count,
      c.in_ok-count.mid,
      counted c.in_ok-count.ensures.decoded c.in_ok-count.ensures.bounded,
      c.in_err-members.ensures.error,
    ))

pub returns-in_err-set-clause-error : goal.returns-in_err-set-clause-error
returns-in_err-set-clause-error g c =
    let p = err_from_is_err_and c.from_residual-in_err-set.result
    c.from_residual-in_err-set.ensures.1 in
    rw (p.1, p.2) (inr (
      c.in_ok-count.count,
      c.in_ok-count.mid,
      counted c.in_ok-count.ensures.decoded c.in_ok-count.ensures.bounded,
      inl (is_memory c.in_err-set.field-0.0 c.in_err-set.ensures.err),
    ))
