use Rattle.std.proofs.Common.{◌≡◌, ℕ, [], arith, rules, tests, subst}
use Rattle.std.specs.List.{range_with_len}
use Rattle.std.proofs.lemmas.Iterator.{cases_from_all, YieldsList-from_range}
use Rattle.std.proofs.lemmas.List.{get_or_default}
use Rattle.dx_base.proofs.Asked.{all_tells}
use Rattle.dx_base.proofs.Members.{contains_from_in, each_at}
use Rattle.dx_base.proofs.Ranges.{from_range, to_range}
use Rattle.dx_schema.specs.Tables.{TableOf, determinations_of, no_table, schema_table, tables_of}
use Rattle.dx_keys.proofs.keyless.has_no_determinations.Goals as goal

pub returns : goal.returns
returns c =
    let tables = tables_of c.args.schema.now in
    let free = λ (x : ℕ). determinations_of (schema_table c.args.schema.now x) ≡ [] in
    let n = c.tables.result in
    let by_call = cases_from_all _ _ _ free (λ x. ¬ (free x)) c.all.ensures.ran (YieldsList-from_range 0 n n (cc) (omega arith)) (λ x q k. search (rules, tests)) (λ x q k. search (rules, tests)) in
    let each = all_tells free (λ x. ¬ (free x)) c.all.result (range_with_len 0 n) (λ x p d. d p) by_call in (
      (λ t x m.
          let k = contains_from_in m in
          let f = each.0 t k.0 (to_range 0 n k.0 (omega arith) (omega (arith, k.1, c.tables.ensures.count))) in
          subst (λ (y : TableOf). determinations_of y ≡ []) k.2 (rw (get_or_default tables k.0 no_table x k.1) at f)),
      (λ e. each.1 (λ x m. let r = from_range 0 n x m in each_at (λ (y : TableOf). determinations_of y ≡ []) tables x no_table (omega (arith, r.1, c.tables.ensures.count)) e)),
    )
