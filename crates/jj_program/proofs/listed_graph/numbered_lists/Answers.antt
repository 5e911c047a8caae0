use Rattle.std.proofs.Common.{All, subst, sym}
use Rattle.std.specs.List.{Contains}
use Rattle.jj_program.proofs.ListedEdges.{row_named}
use Rattle.jj_program.proofs.listed_graph.numbered_lists.Goals as goal

pub push_numbers-requires : goal.push_numbers-requires
push_numbers-requires c =
    let ids = c.args.numbering.now.ids.items in
    subst (All (Contains ids)) (sym c.neighbors_of.ensures) (row_named c.args.edges.now ids _ c.requires)
