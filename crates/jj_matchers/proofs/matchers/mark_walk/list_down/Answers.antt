use Rattle.std.proofs.Common.{refl}
use Rattle.jj_paths.specs.Names.{name_of, path_of}
use Rattle.jj_matchers.proofs.MarkWalkLists.{listing_next}
use Rattle.jj_matchers.proofs.matchers.mark_walk.list_down.Goals as goal

pub loop-further-preserved : goal.loop-further-preserved
loop-further-preserved c = λ none from whole.
    listing_next (path_of c.args.path) from (path_of c.loop-further.dir) (path_of c.loop-further.rest) c.loop-further.pending.items (c.loop-further.invariant none from whole)
    (path_of c.in-Some.further) (name_of c.in-Some.name) c.in-Some.ensures (path_of c.in-Some-parent.parent) c.in-Some-parent.ensures.0 (c.loop-further.dir, c.in-Some.name) c.push.new.self.items c.in-Some-parent.ensures.1 refl refl c.in_ok-push.ensures.items
