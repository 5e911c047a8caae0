use Rattle.std.proofs.Common.{◌≡◌, ◌∙◌, ◌++◌, ◌∷◌, ◌<◌, ◌≤◌, List, Ok, Err, ap, arith, length, map, refl, subst, sym}
use Rattle.std.specs.List.{AllZip}
use Rattle.std.proofs.lemmas.List.{map-append, map-id}
use Rattle.jj_paths.specs.Names.{path_of}
use Rattle.jj_program.specs.declared.fault.LineFault.TheVariants.{EmptyStack}
use Rattle.jj_program.specs.declared.file_set.matcher.FileSet.{FileSet}
use Rattle.jj_program.specs.declared.walk_command.WalkForm.TheVariants.{Mark, Push, Combine}
use Rattle.jj_program.specs.Lines.{texts_of}
use Rattle.jj_program.specs.SetCode.{AreAlike, sets_of}
use Rattle.jj_program.specs.WalkCommand.{SetTree, WalkState, combined_stack, named_set, one, walk_line}
use Rattle.jj_program.proofs.AlikeSets.{combined_alike, same_height}
use Rattle.jj_program.proofs.WalkSteps.{combines, lacks_sets, stepped}
use Rattle.jj_program.proofs.walk_command.WalkReadingReading.take.Goals as goal

pub returns-in_ok-extend_from_slice-in-Mark : goal.returns-in_ok-extend_from_slice-in-Mark
returns-in_ok-extend_from_slice-in-Mark c = λ state is.
    let fields = texts_of c.args.fields.now in
    let old = c.args.self.now.marks.items in
    let values = c.parse_line.new.values in
    let paths = map path_of values.firsts.items in
    let globs = values.seconds.items in
    let parsed : walk_line fields ≡ Ok (Mark, paths, globs) = c.in_ok-form.ensures ∙ (λ i. Ok (c.in-Mark.is i, paths, map-id globs i)) in
    let marked : map path_of c.extend_from_slice.new.self.items ≡ state.marks ++ paths =
    ap (map path_of) c.in_ok-extend_from_slice-in-Mark.ensures.items
    ∙ map-append path_of old c.deref.result.now
    ∙ (λ i. is.0 i ++ map path_of (c.deref.ensures.value i)) in
    let next : WalkState = record { marks = state.marks ++ paths; stack = state.stack } in
    (next, stepped fields state Mark paths globs (Ok next) parsed refl, (marked, is.1))

pub returns-in_ok-push-in-Push : goal.returns-in_ok-push-in-Push
returns-in_ok-push-in-Push c = λ state is.
    let fields = texts_of c.args.fields.now in
    let word = c.in-Push.word in
    let values = c.parse_line.new.values in
    let paths = map path_of values.firsts.items in
    let globs = values.seconds.items in
    let parsed : walk_line fields ≡ Ok (Push word, paths, globs) = c.in_ok-form.ensures ∙ (λ i. Ok (c.in-Push.is i, paths, map-id globs i)) in
    let stack : List (SetTree FileSet) = one (named_set word paths globs) ∷ state.stack in
    let next : WalkState = record { marks = state.marks; stack = stack } in (
      next,
      stepped fields state (Push word) paths globs (Ok next) parsed refl,
      (is.0, subst (λ own. AllZip AreAlike own stack) (sym c.in_ok-push-in-Push.ensures) (c.in_ok-set-in-Push.ensures, is.1)),
    )

pub returns-in-Combine : goal.returns-in-Combine
returns-in-Combine c = λ state is.
    let fields = texts_of c.args.fields.now in
    let combination = c.in-Combine.field-0 in
    let values = c.parse_line.new.values in
    let paths = map path_of values.firsts.items in
    let globs = values.seconds.items in
    let parsed : walk_line fields ≡ Ok (Combine combination, paths, globs) = c.in_ok-form.ensures ∙ (λ i. Ok (c.in-Combine.is i, paths, map-id globs i)) in
    let height = same_height (sets_of c.args.self.now.sets.ops.items) state.stack is.1 in
    let few : length state.stack < 2 = omega (arith, height, c.height.ensures, c.if-height-lt2.true) in
    stepped fields state (Combine combination) paths globs (Err EmptyStack) parsed (lacks_sets state combination paths globs few)

pub returns-in_ok-combine-in-Combine-2 : goal.returns-in_ok-combine-in-Combine-2
returns-in_ok-combine-in-Combine-2 c = λ state is.
    let fields = texts_of c.args.fields.now in
    let own = sets_of c.args.self.now.sets.ops.items in
    let combination = c.in-Combine-2.combination in
    let values = c.parse_line.new.values in
    let paths = map path_of values.firsts.items in
    let globs = values.seconds.items in
    let parsed : walk_line fields ≡ Ok (Combine combination, paths, globs) = c.in_ok-form.ensures ∙ (λ i. Ok (c.in-Combine-2.is i, paths, map-id globs i)) in
    let height = same_height own state.stack is.1 in
    let two : 2 ≤ length state.stack = omega (arith, height, c.height.ensures, c.if-height-lt2.false) in
    let stack = combined_stack combination state.stack in
    let next : WalkState = record { marks = state.marks; stack = stack } in (
      next,
      stepped fields state (Combine combination) paths globs (Ok next) parsed (combines state combination paths globs two),
      (is.0, subst (λ sets. AllZip AreAlike sets stack) (sym c.in_ok-combine-in-Combine-2.ensures) (combined_alike combination own state.stack is.1)),
    )
