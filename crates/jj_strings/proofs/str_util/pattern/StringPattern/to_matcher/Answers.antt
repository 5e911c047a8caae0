use Rattle.std.proofs.Common.{sym, ◌∙◌, rules}
use Rattle.jj_strings.specs.PatternViews.{pattern_of}
use Rattle.jj_strings.proofs.TrivialPatterns.{all_strings}
use Rattle.jj_strings.proofs.str_util.pattern.StringPattern.to_matcher.Goals as goal

pub returns-then-is_all : goal.returns-then-is_all
returns-then-is_all g c =
    let all = sym c.is_all.ensures ∙ c.if-is_all.true in
    record {
      set = λ made bytes small. ((λ _. all_strings (pattern_of c.args.self.now) all (made all) bytes small), λ _. tt);
      form = search rules;
      memory = λ none. absurd none;
    }
