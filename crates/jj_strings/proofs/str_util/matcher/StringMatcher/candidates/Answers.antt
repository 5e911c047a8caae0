use Rattle.std.proofs.Common.{◌∙◌, sym, [], arith, string_bytes}
use Rattle.std.proofs.lemmas.List.{append-nil}
use Rattle.std.specs.Iterator.Adapters.{once_item}
use Rattle.jj_strings.proofs.EntryLookup.{found_holds}
use Rattle.jj_strings.proofs.str_util.matcher.StringMatcher.candidates.Goals as goal

pub returns-in_default : goal.returns-in_default
returns-in_default g c =
    ([], [], sym (append-nil c.iter-entries.result ∙ c.iter-entries.ensures.rest), (λ k d h. absurd (omega arith)), (λ k d h. absurd (omega arith)))

pub returns-in-Ok : goal.returns-in-Ok
returns-in-Ok g c =
    rw c.in-Exact.is
    (found_holds g.K.Ord.cmp g.K.TextKey.key_text g.met.K.TextKey.ordered_as_text c.in-Ok.key (string_bytes c.in-Exact.text)
    (c.in-Ok.ensures ∙ c.as_str.ensures.value) c.args.map.now.entries c.iter-entries.ensures.ordered c.get_key_value.result
    c.get_key_value.ensures.key c.get_key_value.ensures.value (once_item c.into_iter.result) c.into_iter.ensures.into_iter_gives.0)

pub returns-in-Err : goal.returns-in-Err
returns-in-Err g c =
    ([], [], sym (append-nil c.iter-entries.result ∙ c.iter-entries.ensures.rest), (λ k d h. absurd (omega arith)), (λ k d h. absurd (omega arith)))
