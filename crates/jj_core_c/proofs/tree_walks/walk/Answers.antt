use Rattle.std.proofs.Common.{rules, ◌≡◌, ◌∙◌, ◌++◌, List, Bool, true, ap, arith, drop, length, map, subst, sym}
use Rattle.std.proofs.lemmas.Slice.Zip.{AllZip-long}
use Rattle.std.specs.Prelude.{IsTrue, ◌↔◌, Contains}
use Rattle.jj_paths.specs.Names.{path_of}
use Rattle.jj_paths.specs.Paths.{Path}
use Rattle.jj_core_c.specs.JoinedPaths.{paths_of}
use Rattle.jj_core_c.specs.Pieces.{are_ends}
use Rattle.jj_core_c.specs.TreeWalks.{AreContained, CountsEntered, FindsListed}
use Rattle.jj_core_c.proofs.TreeWalks.{found_flags}
use Rattle.jj_core_c.proofs.tree_walks.walk.Goals as goal

pub returns-clause-outcome : goal.returns-clause-outcome
returns-clause-outcome c =
    let prefixes = c.args.prefixes in
    let listed = paths_of c.args.listed.now c.args.listed_ends.now in
    let files = paths_of c.args.bytes.now c.args.ends.now in
    let found = c.in_ok-walk.walk.files.items in
    let flags = c.in_ok-flags.flags.items in
    let listed_is : map path_of c.deref.result.now ≡ listed = ap (map path_of) c.deref.ensures.value ∙ c.in_ok-listed.ensures.paths.0 in
    let files_are : map path_of c.deref-2.result.now ≡ files = ap (map path_of) c.deref-2.ensures.value ∙ c.in_ok-files.ensures.paths.0 in
    let finds = subst (λ (l : List Path). FindsListed prefixes l files found) listed_is
    (subst (λ (l : List Path). FindsListed prefixes (map path_of c.deref.result.now) l found) files_are c.in_ok-walk.ensures.found) in
    let counts = subst (λ (l : List Path). CountsEntered prefixes l files (length c.in_ok-walk.walk.entered.items)) listed_is
    (subst (λ (l : List Path). CountsEntered prefixes (map path_of c.deref.result.now) l (length c.in_ok-walk.walk.entered.items)) files_are c.in_ok-walk.ensures.entered) in
    let contained = subst (λ (l : List Path). AreContained l files flags) c.deref-3.ensures.value
    (subst (λ (l : List Path). AreContained c.deref-3.result.now l flags) (ap (map path_of) c.deref-4.ensures.value ∙ c.in_ok-files.ensures.paths.0) c.in_ok-flags.ensures.flags) in
    let size : length c.in_ok-walk.walk.entered.items ≡ c.len.result = omega (arith, c.in_ok-walk.walk.entered.ok.0, c.len.ensures) in
    let both : (are_ends (length c.args.listed.now) c.args.listed_ends.now ≡ true) × (are_ends (length c.args.bytes.now) c.args.ends.now ≡ true) = search rules in
    let len = AllZip-long (λ (file : Path) (flag : Bool). IsTrue flag ↔ Contains found file) files flags contained in
    let new = subst (λ (l : List Bool). c.write_flags.new.buffer ≡ l ++ drop (length l) c.args.found.now) c.deref-5.ensures.value c.write_flags.ensures.1 in (
      ((both.0, c.in_ok-listed.ensures.paths.1), (both.1, c.in_ok-files.ensures.paths.1)),
      (subst (CountsEntered prefixes listed files) size counts, (flags, found_flags prefixes listed files found flags finds contained, (sym len, new))),
    )
