use Rattle.std.proofs.Common.{◌≡◌, ◌∙◌, ap, sym, refl, Bool, false, List, [], ◌∷◌}
use Rattle.std.specs.List.{list_any}
use Rattle.jj_paths.specs.Paths.{Path}
use Rattle.jj_globs.specs.GlobMeaning.{GlobSpec}
use Rattle.jj_matchers.specs.Patterns.{accepts_tail}
use Rattle.jj_matchers.proofs.matchers.dir_patterns.DirPatterns.accept.Goals as goal

none_at_root : (prefix_paths : Bool) (globs : List GlobSpec) → false ≡ list_any (λ glob. accepts_tail prefix_paths glob []) globs
none_at_root prefix_paths [] = refl
none_at_root prefix_paths (glob ∷ globs) = none_at_root prefix_paths globs

pub returns-then-is_root : goal.returns-then-is_root
returns-then-is_root c =
    none_at_root c.args.prefix_paths c.args.self.now
    ∙ ap (λ (tail : Path). list_any (λ glob. accepts_tail c.args.prefix_paths glob tail) c.args.self.now) (sym (c.is_root.ensures.0 c.if-is_root.true))
