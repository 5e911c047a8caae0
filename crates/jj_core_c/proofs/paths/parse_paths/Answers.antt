use Rattle.std.proofs.Common.{◌≡◌, ◌∙◌, ◌+◌, ◌∷◌, [], ℕ, List, Some, ap, arith, length, map, subst, sym, take}
use Rattle.std.specs.Prelude.{All, slice_get}
use Rattle.std.specs.Option.{option_map}
use Rattle.std.proofs.lemmas.List.{length-append, take_all}
use Rattle.std.proofs.lemmas.List.Elements.{All-push}
use Rattle.std.proofs.lemmas.Option.{get_or_from_slice_get, slice_get-map, slice_get_within}
use Rattle.std.proofs.lemmas.Result.{err_from_is_err_and}
use Rattle.std.proofs.Math.ListN.{length-map}
use Rattle.jj_paths.specs.Names.{path_of}
use Rattle.jj_paths.specs.Paths.{components}
use Rattle.jj_core_c.specs.declared.error.Error.{Error}
use Rattle.jj_core_c.specs.declared.error.Error.TheVariants.{Memory, Ends, Length, Syntax, Terms, Conflict, Node, Cycle, Path, Expression, NoMatch, Ambiguous}
use Rattle.jj_core_c.specs.JoinedPaths.{ArePaths, IsPath, IsPathCause, paths_of}
use Rattle.jj_core_c.specs.Pieces.{pieces_of}
use Rattle.jj_core_c.proofs.PieceLists.{length_pieces, map_next, take_next}
use Rattle.jj_core_c.proofs.paths.parse_paths.Goals as goal

pub loop-index-preserved : goal.loop-index-preserved
loop-index-preserved c =
    let index = c.loop-index.index in
    let found = c.loop-index.paths.items in
    let pieces = pieces_of c.args.bytes.now c.args.ends.now in
    let path = c.in_ok-path.path in
    let more = c.in_ok-push.ensures.items in
    let at = c.piece_at.ensures in
    let shown : slice_get (paths_of c.args.bytes.now c.args.ends.now) index ≡ Some (path_of path) =
    slice_get-map components pieces index ∙ ap (option_map components) at ∙ ap Some (sym c.in_ok-path.ensures.0) in
    record {
      parsed = map_next path_of found c.push.new.self.items (paths_of c.args.bytes.now c.args.ends.now) index path c.loop-index.invariant.parsed shown more;
      valid = subst (λ (l : List (List ℕ)). All IsPath l) (sym (take_next pieces index c.piece_at.result.now at))
          (All-push IsPath (take index pieces) c.piece_at.result.now c.loop-index.invariant.valid c.in_ok-path.ensures.1);
      len = ap length more ∙ length-append found (path ∷ []) ∙ ap (λ (n : ℕ). n + 1) c.loop-index.invariant.len;
    }

pub returns-clause-paths : goal.returns-clause-paths
returns-clause-paths c =
    let pieces = pieces_of c.args.bytes.now c.args.ends.now in
    let len = length_pieces c.args.bytes.now 0 c.args.ends.now in
    let both = length-map pieces components in (
      c.loop-index.invariant.parsed ∙ take_all c.loop-index.index (map components pieces) (omega (arith, len, both)),
      subst (λ (l : List (List ℕ)). All IsPath l) (take_all c.loop-index.index pieces (omega (arith, len))) c.loop-index.invariant.valid,
    )

-- if a whole is valid only if a part is, a cause of the part is one of the whole
of_whole : (Part Whole : Type 0) → (Whole → Part) → (error : Error) → IsPathCause Part error → IsPathCause Whole error
of_whole Part Whole has Memory cause = tt
of_whole Part Whole has Path cause = λ whole. cause (has whole)
of_whole Part Whole has Ends cause = absurd cause
of_whole Part Whole has Length cause = absurd cause
of_whole Part Whole has Syntax cause = absurd cause
of_whole Part Whole has Terms cause = absurd cause
of_whole Part Whole has Conflict cause = absurd cause
of_whole Part Whole has Node cause = absurd cause
of_whole Part Whole has Cycle cause = absurd cause
of_whole Part Whole has Expression cause = absurd cause
of_whole Part Whole has NoMatch cause = absurd cause
of_whole Part Whole has Ambiguous cause = absurd cause

pub returns-in_err-path-clause-paths : goal.returns-in_err-path-clause-paths
returns-in_err-path-clause-paths c =
    let index = c.loop-index.index in
    let pieces = pieces_of c.args.bytes.now c.args.ends.now in
    let piece = c.piece_at.result.now in
    let has : ArePaths c.args.bytes.now c.args.ends.now → IsPath piece =
    λ all. subst IsPath (get_or_from_slice_get pieces index piece piece c.piece_at.ensures) (all index piece (slice_get_within pieces index piece c.piece_at.ensures)) in
    let p = err_from_is_err_and c.from_residual-in_err-path.result c.from_residual-in_err-path.ensures.1 in
    rw (p.1, p.2) (of_whole (IsPath piece) (ArePaths c.args.bytes.now c.args.ends.now) has c.in_err-path.field-0.0 c.in_err-path.ensures)
