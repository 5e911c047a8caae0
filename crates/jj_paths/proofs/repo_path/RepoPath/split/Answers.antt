use Rattle.std.proofs.Common.{lit<}
use Rattle.std.proofs.lemmas.Str.Pattern.{NoCharPasses-char}
use Rattle.jj_paths.proofs.PathStrings.{not_empty, one_name, last_cut_at}
use Rattle.jj_paths.proofs.repo_path.RepoPath.split.Goals as goal

pub invariant_of-result-in-None : goal.invariant_of-result-in-None
invariant_of-result-in-None c =
    let h = one_name _ (not_empty _ c.if-is_empty.ensures) (λ k lt. NoCharPasses-char 47 _ k c.in-None.ensures.cases (lit< tt) lt) in
    record { valid = h.name }

pub invariant_of-result-in-Some : goal.invariant_of-result-in-Some
invariant_of-result-in-Some c =
    let h = c.in-Some.ensures.cases in
    record { valid = (last_cut_at _ _ _ h.0 h.1 h.2.0 h.2.1 h.3 h.4 c.args.self.valid).above_ok }

pub invariant_of-result-in-Some-2 : goal.invariant_of-result-in-Some-2
invariant_of-result-in-Some-2 c =
    let h = c.in-Some.ensures.cases in
    record { valid = (last_cut_at _ _ _ h.0 h.1 h.2.0 h.2.1 h.3 h.4 c.args.self.valid).name_ok }

pub returns-in-None : goal.returns-in-None
returns-in-None c =
    (one_name _ (not_empty _ c.if-is_empty.ensures) (λ k lt. NoCharPasses-char 47 _ k c.in-None.ensures.cases (lit< tt) lt)).is

pub returns-in-Some : goal.returns-in-Some
returns-in-Some c =
    let h = c.in-Some.ensures.cases in
    (last_cut_at _ _ _ h.0 h.1 h.2.0 h.2.1 h.3 h.4 c.args.self.valid).is
