use Rattle.std.proofs.Common.{suc, false, drop}
use Rattle.json.specs.Tree.{json_tokens}
use Rattle.serde_json.specs.Data.{array}
use Rattle.serde_json.specs.Written.{outline}
use Rattle.dx_instance.specs.Stored.{rows_of}
use Rattle.dx_json.specs.Nesting.{object_of, objects, root_objects, with_sets}
use Rattle.dx_json.proofs.Tokens.{IsOnTheWay, item_tokens}
use Rattle.dx_json.proofs.nesting.Nesting.write_root.Given as goal

-- the objects so far, and those of the rows that are left, are all
abbrev pub invariant-loop-place : goal.invariant-loop-place
invariant-loop-place l =
    IsOnTheWay l.fn.out l.out (item_tokens (objects (object_of l.tree.label l.tree.inner (with_sets l.self.instance.now l.tree.inner (suc l.root)) false) (drop l.place (rows_of l.self.instance.now l.root))))
    (json_tokens (outline (array (root_objects l.self.instance.now l.tree l.root))))
