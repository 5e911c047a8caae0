use Rattle.jj_merges.specs.Terms.{items}
use Rattle.jj_merges.proofs.LegacyTerms.{legacy_terms-sides}
use Rattle.jj_merges.proofs.DerivedCounts.{legacy_counts}
use Rattle.jj_merges.proofs.merge.legacy.Merge+Option+T.from_legacy_form.Goals as goal

pub returns : goal.returns
returns g c =
    let made = c.in_ok-push_legacy_terms.ensures.terms in
    let both = legacy_terms-sides made.0 made.1 (items c.push_legacy_terms.new.terms) made.4 in
    record {
      terms = (
        made.0,
        made.1,
        (c.into_iter.result, c.into_iter.ensures.into_iter_gives, made.2),
        (c.into_iter-2.result, c.into_iter-2.ensures.into_iter_gives, made.3),
        made.4,
        both.0,
        both.1,
      );
      counts = legacy_counts (items c.push_legacy_terms.new.terms);
    }
