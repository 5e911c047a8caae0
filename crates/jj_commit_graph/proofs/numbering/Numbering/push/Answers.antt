use Rattle.std.proofs.Common.{rules, subst, sym}
use Rattle.std.specs.HashMap.{get}
use Rattle.std.specs.Str.{bytes_eq}
use Rattle.jj_commit_graph.specs.Numberings.{IsIndexOf}
use Rattle.jj_commit_graph.proofs.Numberings.{index_more}
use Rattle.jj_commit_graph.proofs.numbering.Numbering.push.Goals as goal

pub returns-clause-numbering : goal.returns-clause-numbering
returns-clause-numbering c =
    subst (λ ids. IsIndexOf ids (get bytes_eq c.insert.new.self)) (sym c.in_ok-push.ensures.items)
    (index_more c.args.self.now.ids.items c.args.id (get bytes_eq c.args.self.now.number_of) (get bytes_eq c.insert.new.self) c.requires.numbering c.requires.new (λ q. search rules))
