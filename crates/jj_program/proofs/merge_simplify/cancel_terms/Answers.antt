use Rattle.std.proofs.Common.{◌≡◌, ◌∙◌, ◌+◌, ◌*◌, ◌/◌, ◌<◌, true, ap, arith, get_or, length, sym}
use Rattle.std.specs.Prelude.{slice_index}
use Rattle.std.proofs.lemmas.List.{length-set}
use Rattle.std.proofs.lemmas.List.Elements.{All-set}
use Rattle.std.proofs.lemmas.List.FromFn.{get_or-map-range_with_len}
use Rattle.jj_program.specs.MergeSimplify.{is_left}
use Rattle.jj_program.proofs.CancelTerms.{heads-next, one-fewer, pair-within, ways-done, ways-move, ways-passed, ways-start, ways-stay}
use Rattle.jj_program.proofs.FirstRemoves.{heads-start}
use Rattle.jj_program.proofs.merge_simplify.cancel_terms.Goals as goal

pub loop-current-init : goal.loop-current-init
loop-current-init c =
    let classes = c.args.classes.now in
    let heads = c.args.heads.now in
    let adds = c.args.adds.now in
    record {
      within = omega arith;
      sizes = c.requires.positions;
      heads_size = c.requires.lengths.1;
      heads = heads-start classes heads c.requires.heads;
      adds = λ k d within.
          let e : get_or adds k d ≡ 2 * k = ap (λ xs. get_or xs k d) c.requires.adds ∙ get_or-map-range_with_len (λ p. 2 * p) 0 (length adds) k k d within (omega arith) in
          omega (arith, e, c.requires.positions);
      way = ways-start classes heads adds c.requires.classes c.requires.heads c.requires.positions c.requires.adds;
    }

pub loop-current-preserved-then-remove-classes : goal.loop-current-preserved-then-remove-classes
loop-current-preserved-then-remove-classes c =
    let l = c.loop-current in
    record {
      within = omega arith;
      sizes = l.invariant.sizes;
      heads_size = l.invariant.heads_size;
      heads = l.invariant.heads;
      adds = l.invariant.adds;
      way = ways-passed c.args.classes.now l.heads l.adds l.current c.requires.classes l.invariant.sizes l.invariant.adds c.loop-current-test.true
          (sym c.is_left.ensures ∙ c.if-not-is_left.false) c.if-remove-classes.true l.invariant.way;
    }

pub loop-current-smaller-then-dropped-current : goal.loop-current-smaller-then-dropped-current
loop-current-smaller-then-dropped-current c =
    let l = c.loop-current in
    let classes = c.args.classes.now in
    let nexts = c.args.nexts.now in
    let class = slice_index classes (slice_index l.adds l.current) in
    let first = slice_index l.heads class in
    let left : is_left classes l.heads l.current ≡ true = sym c.is_left.ensures ∙ c.if-not-is_left.false in
    let fewer = one-fewer classes l.heads l.adds l.current c.requires.classes l.invariant.sizes l.invariant.adds c.loop-current-test.true left nexts c.requires.nexts l.invariant.heads_size l.invariant.heads c.if-remove-classes.false in
    omega (arith, fewer, length-set l.adds l.current (slice_index l.adds (first / 2 + 1)))

pub loop-current-preserved-then-dropped-current : goal.loop-current-preserved-then-dropped-current
loop-current-preserved-then-dropped-current c =
    let l = c.loop-current in
    let classes = c.args.classes.now in
    let nexts = c.args.nexts.now in
    let class = slice_index classes (slice_index l.adds l.current) in
    let first = slice_index l.heads class in
    let left : is_left classes l.heads l.current ≡ true = sym c.is_left.ensures ∙ c.if-not-is_left.false in
    let inside : first / 2 + 1 < length l.adds = pair-within classes l.heads l.adds l.current c.requires.classes l.invariant.sizes l.invariant.adds c.loop-current-test.true left nexts c.requires.nexts l.invariant.heads_size l.invariant.heads c.if-remove-classes.false in
    record {
      within = omega (arith, length-set l.adds l.current (slice_index l.adds (first / 2 + 1)));
      sizes = omega (arith, l.invariant.sizes, length-set l.adds l.current (slice_index l.adds (first / 2 + 1)));
      heads_size = length-set l.heads class (slice_index nexts first) ∙ l.invariant.heads_size;
      heads = heads-next classes l.heads l.adds l.current c.requires.classes l.invariant.sizes l.invariant.adds c.loop-current-test.true left
          nexts c.requires.nexts l.invariant.heads_size l.invariant.heads c.if-remove-classes.false;
      adds = All-set (λ add. add < length classes) l.adds l.current (slice_index l.adds (first / 2 + 1)) (l.invariant.adds (first / 2 + 1) 0 inside) l.invariant.adds;
      way = ways-move classes l.heads l.adds l.current c.requires.classes l.invariant.sizes l.invariant.adds c.loop-current-test.true left
          nexts c.requires.nexts l.invariant.heads_size l.invariant.heads c.if-remove-classes.false c.if-dropped-current.true l.invariant.way;
    }

pub loop-current-smaller : goal.loop-current-smaller
loop-current-smaller c =
    let l = c.loop-current in
    let classes = c.args.classes.now in
    let nexts = c.args.nexts.now in
    let class = slice_index classes (slice_index l.adds l.current) in
    let first = slice_index l.heads class in
    let left : is_left classes l.heads l.current ≡ true = sym c.is_left.ensures ∙ c.if-not-is_left.false in
    let fewer = one-fewer classes l.heads l.adds l.current c.requires.classes l.invariant.sizes l.invariant.adds c.loop-current-test.true left nexts c.requires.nexts l.invariant.heads_size l.invariant.heads c.if-remove-classes.false in
    omega (arith, fewer, length-set l.adds l.current (slice_index l.adds (first / 2 + 1)))

pub loop-current-preserved : goal.loop-current-preserved
loop-current-preserved c =
    let l = c.loop-current in
    let classes = c.args.classes.now in
    let nexts = c.args.nexts.now in
    let class = slice_index classes (slice_index l.adds l.current) in
    let first = slice_index l.heads class in
    let left : is_left classes l.heads l.current ≡ true = sym c.is_left.ensures ∙ c.if-not-is_left.false in
    let inside : first / 2 + 1 < length l.adds = pair-within classes l.heads l.adds l.current c.requires.classes l.invariant.sizes l.invariant.adds c.loop-current-test.true left nexts c.requires.nexts l.invariant.heads_size l.invariant.heads c.if-remove-classes.false in
    record {
      within = omega (arith, length-set l.adds l.current (slice_index l.adds (first / 2 + 1)));
      sizes = omega (arith, l.invariant.sizes, length-set l.adds l.current (slice_index l.adds (first / 2 + 1)));
      heads_size = length-set l.heads class (slice_index nexts first) ∙ l.invariant.heads_size;
      heads = heads-next classes l.heads l.adds l.current c.requires.classes l.invariant.sizes l.invariant.adds c.loop-current-test.true left
          nexts c.requires.nexts l.invariant.heads_size l.invariant.heads c.if-remove-classes.false;
      adds = All-set (λ add. add < length classes) l.adds l.current (slice_index l.adds (first / 2 + 1)) (l.invariant.adds (first / 2 + 1) 0 inside) l.invariant.adds;
      way = ways-stay classes l.heads l.adds l.current c.requires.classes l.invariant.sizes l.invariant.adds c.loop-current-test.true left
          nexts c.requires.nexts l.invariant.heads_size l.invariant.heads c.if-remove-classes.false c.if-dropped-current.false l.invariant.way;
    }

pub returns-clause-left : goal.returns-clause-left
returns-clause-left c =
    let l = c.loop-current in
    ways-done c.args.classes.now l.heads l.adds l.current c.loop-current-test.false l.invariant.within l.invariant.way
