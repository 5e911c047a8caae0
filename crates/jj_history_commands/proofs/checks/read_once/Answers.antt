use Rattle.std.proofs.Common.{◌∙◌, ℕ, List, ap, subst, sym}
use Rattle.std.specs.Prelude.{All}
use Rattle.std.specs.BTreeSet.{insert_key}
use Rattle.std.specs.Cmp.Lexicographic.{slice_cmp}
use Rattle.std.specs.Ordering.{nat_cmp}
use Rattle.std.proofs.lemmas.List.Elements.{All-contains}
use Rattle.std.proofs.lemmas.Map.Views.{All-insert_key}
use Rattle.jj_history_commands.specs.FoundObjects.{IsStoredFile}
use Rattle.jj_history_commands.proofs.KnownObjects.{found_there}
use Rattle.jj_history_commands.proofs.checks.read_once.Goals as goal

pub returns-then-contains-clause-found : goal.returns-then-contains-clause-found
returns-then-contains-clause-found g c =
    All-contains (IsStoredFile (g.B.Backend.objects c.args.store.now)) c.args.read.now.keys c.args.id.now c.requires
    (found_there c.args.id.now c.args.read.now.keys (sym c.contains.ensures ∙ c.if-contains.true))

pub returns-clause-read : goal.returns-clause-read
returns-clause-read g c =
    let stored = IsStoredFile (g.B.Backend.objects c.args.store.now) in
    let keys = c.args.read.now.keys in
    subst (All stored) (sym (c.in_ok-insert.ensures.keys ∙ ap (λ (id : List ℕ). insert_key (slice_cmp nat_cmp) keys id) c.in_ok-clone.ensures.cases))
    (All-insert_key (slice_cmp nat_cmp) c.args.id.now stored keys c.requires (c.in_ok-_content._content.items, c.in_ok-_content.ensures))
