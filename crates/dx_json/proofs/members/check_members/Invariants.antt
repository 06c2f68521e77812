use Rattle.std.proofs.Common.{◌≡◌, drop}
use Rattle.dx_json.specs.View.{members_view}
use Rattle.dx_json.specs.Said.{unknown_members}
use Rattle.dx_json.proofs.members.check_members.Given as goal

abbrev pub invariant-loop-member : goal.invariant-loop-member
invariant-loop-member l = unknown_members l.path l.tree.label l.tree.inner (members_view l.members) ≡ unknown_members l.path l.tree.label l.tree.inner (members_view (drop l.member-index l.members))
