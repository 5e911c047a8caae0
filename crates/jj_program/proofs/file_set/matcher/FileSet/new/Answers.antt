use Rattle.std.proofs.Common.{true, false, map, subst, sym}
use Rattle.std.specs.List.{zip}
use Rattle.jj_paths.specs.Names.{path_of}
use Rattle.jj_matchers.specs.PathLists.{HasSamePaths}
use Rattle.jj_program.specs.declared.file_set.matcher.FileSet.TheVariants.{Files, Prefix, Globs}
use Rattle.jj_program.specs.SetCode.{IsAlike}
use Rattle.jj_program.specs.WalkCommand.{named_set, leaf_spec}
use Rattle.jj_program.proofs.AlikeMatchers.{files_alike, prefixes_alike, globs_alike}
use Rattle.jj_program.proofs.file_set.matcher.FileSet.new.Goals as goal

pub returns-in_ok-new-in-Files : goal.returns-in_ok-new-in-Files
returns-in_ok-new-in-Files c =
    let own = c.in_ok-new-in-Files.field-0 in
    let paths = map path_of c.args.values.now.firsts.items in
    let same : HasSamePaths own paths = subst (λ l. HasSamePaths own (map path_of l)) c.deref.ensures.value c.in_ok-new-in-Files.ensures.same in
    subst (λ word. IsAlike (leaf_spec (Files own)) (leaf_spec (named_set word paths c.args.values.now.seconds.items))) (sym c.in-Files.is) (files_alike own paths same)

pub returns-in_ok-new-in-Prefix : goal.returns-in_ok-new-in-Prefix
returns-in_ok-new-in-Prefix c =
    let own = c.in_ok-new-in-Prefix.field-0 in
    let paths = map path_of c.args.values.now.firsts.items in
    let same : HasSamePaths own paths = subst (λ l. HasSamePaths own (map path_of l)) c.deref-in-Prefix.ensures.value c.in_ok-new-in-Prefix.ensures.same in
    subst (λ word. IsAlike (leaf_spec (Prefix own)) (leaf_spec (named_set word paths c.args.values.now.seconds.items))) (sym c.in-Prefix.is) (prefixes_alike own paths same)

pub returns-in_ok-globs_matcher-in-Globs : goal.returns-in_ok-globs_matcher-in-Globs
returns-in_ok-globs_matcher-in-Globs c =
    let own = c.in_ok-globs_matcher-in-Globs.field-0 in
    let paths = map path_of c.args.values.now.firsts.items in
    let globs = c.args.values.now.seconds.items in
    subst (λ word. IsAlike (leaf_spec (Globs own)) (leaf_spec (named_set word paths globs))) (sym c.in-Globs.is)
    (globs_alike own (record { prefix_paths = false; patterns = zip paths globs }) c.in_ok-globs_matcher-in-Globs.ensures)

pub returns-in_ok-globs_matcher-in-PrefixGlobs : goal.returns-in_ok-globs_matcher-in-PrefixGlobs
returns-in_ok-globs_matcher-in-PrefixGlobs c =
    let own = c.in_ok-globs_matcher-in-PrefixGlobs.field-0 in
    let paths = map path_of c.args.values.now.firsts.items in
    let globs = c.args.values.now.seconds.items in
    subst (λ word. IsAlike (leaf_spec (Globs own)) (leaf_spec (named_set word paths globs))) (sym c.in-PrefixGlobs.is)
    (globs_alike own (record { prefix_paths = true; patterns = zip paths globs }) c.in_ok-globs_matcher-in-PrefixGlobs.ensures)
