use Rattle.dx_schema_text.proofs.Among.{keys_push, deps_push, refs_push, sets_push}
use Rattle.dx_schema_text.proofs.clauses.tree_made.Goals as goal

pub clauses-preserved-in-Continue-1 : goal.clauses-preserved-in-Continue-1
clauses-preserved-in-Continue-1 c =
    let i = c.clauses.invariant in
    let r = keys_push c.clauses.yielded c.in-Some.clause c.in-Key.key c.clauses.keys c.push.new.self c.clauses.deps c.clauses.refs c.clauses.inner c.in-Key.is c.in_ok-push-in-Key.ensures.ok (i.keys_are, i.deps_are, i.refs_are, i.sets_are) in
    record { keys_are = r.0; deps_are = r.1; refs_are = r.2; sets_are = r.3 }

pub clauses-preserved-in-Continue-branch-2 : goal.clauses-preserved-in-Continue-branch-2
clauses-preserved-in-Continue-branch-2 c =
    let i = c.clauses.invariant in
    let r = deps_push c.clauses.yielded c.in-Some.clause c.in-Dep.dep c.clauses.keys c.clauses.deps c.push-in-Dep.new.self c.clauses.refs c.clauses.inner c.in-Dep.is c.in_ok-push-in-Dep.ensures.ok (i.keys_are, i.deps_are, i.refs_are, i.sets_are) in
    record { keys_are = r.0; deps_are = r.1; refs_are = r.2; sets_are = r.3 }

pub clauses-preserved-in-Continue-branch-3 : goal.clauses-preserved-in-Continue-branch-3
clauses-preserved-in-Continue-branch-3 c =
    let i = c.clauses.invariant in
    let r = refs_push c.clauses.yielded c.in-Some.clause c.in-Ref.reference c.clauses.keys c.clauses.deps c.clauses.refs c.push-in-Ref.new.self c.clauses.inner c.in-Ref.is c.in_ok-push-in-Ref.ensures.ok (i.keys_are, i.deps_are, i.refs_are, i.sets_are) in
    record { keys_are = r.0; deps_are = r.1; refs_are = r.2; sets_are = r.3 }

pub clauses-preserved : goal.clauses-preserved
clauses-preserved c =
    let i = c.clauses.invariant in
    let r = sets_push c.clauses.yielded c.in-Some.clause c.in-Set.tree c.clauses.keys c.clauses.deps c.clauses.refs c.clauses.inner c.push-in-Set.new.self c.in-Set.is c.in_ok-push-in-Set.ensures.ok (i.keys_are, i.deps_are, i.refs_are, i.sets_are) in
    record { keys_are = r.0; deps_are = r.1; refs_are = r.2; sets_are = r.3 }
