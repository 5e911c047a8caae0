-- Adding the remaining attributes to the members so far adds all attributes.
use Rattle.std.proofs.Common.{◌≡◌}
use Rattle.std.specs.Prelude.{fold}
use Rattle.serde_json.specs.View.{members_view}
use Rattle.jj_json.specs.Operations.{with_attribute, attribute_members}
use Rattle.jj_json.proofs.operations.attributes_json.Given as goal

abbrev pub invariant-loop-name : goal.invariant-loop-name
invariant-loop-name l = record {
  can : goal.iterator-loop-name.can_next l.name-iterator;
  ends : goal.iterator-loop-name.is_finite l.name-iterator;
  whole : fold with_attribute (members_view l.members.entries) l.name-iterator
      ≡ attribute_members l.attributes.entries;
}
