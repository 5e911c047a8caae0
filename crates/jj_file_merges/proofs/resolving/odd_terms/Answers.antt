use Rattle.std.proofs.Common.{◌≡◌, Option, None, Some, Vec, length, subst, sym}
use Rattle.std.specs.Global.{Global}
use Rattle.std.specs.Prelude.{IfSome, MatchOption}
use Rattle.jj_merges.specs.Merge.{IsOdd}
use Rattle.jj_backend.specs.MergedTreeValues.{Values}
use Rattle.jj_file_merges.specs.FileTerms.{AreFiles, HasOther, file_term}
use Rattle.jj_file_merges.specs.declared.terms.FileTerm.{FileTerm}
use Rattle.jj_file_merges.proofs.Zips.{zip_length}
use Rattle.jj_file_merges.proofs.resolving.odd_terms.Goals as goal

odd_files : (values : Values) (terms : Option (Vec FileTerm Global)) → IsOdd (length values) → MatchOption terms (HasOther values) (λ files. AreFiles values files.items)
    → IfSome terms (λ files. IsOdd (length files.items))
odd_files values None odd h = tt
odd_files values (Some files) odd h = subst IsOdd (sym (zip_length (λ value term. file_term value ≡ Some term) values files.items h)) odd

pub returns-clause-odd : goal.returns-clause-odd
returns-clause-odd c =
    odd_files c.as_slice.result.now c.in_ok-terms.terms (subst (λ (v : Values). IsOdd (length v)) (sym c.as_slice.ensures.terms) c.as_slice.ensures.odd) c.in_ok-terms.ensures
