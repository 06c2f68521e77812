use Rattle.std.proofs.Common.{None}
use Rattle.std.proofs.lemmas.Result.{IfOk-weaker}
use Rattle.dx_base.specs.Members.{Each}
use Rattle.dx_funcs.specs.Names.{call_named}
use Rattle.dx_funcs.specs.Serving.{offered}
use Rattle.dx_instance.specs.Shown.{shown_tables}
use Rattle.dx_instance.specs.Stored.{facts}
use Rattle.dx_schema.specs.Names.{table_names_of}
use Rattle.dx_eval.specs.Finding.{IsFoundUpTo, MatchingFits, matching_in}
use Rattle.dx_eval.proofs.Limits.{lent_matching, matching_at, not_matching, of_matching}
use Rattle.dx_eval.proofs.Tables.{of_step}
use Rattle.dx_eval.proofs.finding.matched_rows.Goals as goal

pub step_rows-requires-clause-fits : goal.step_rows-requires-clause-fits
step_rows-requires-clause-fits g c =
    let w = c.in-MatchRows in
    let m = matching_at (MatchingFits (table_names_of c.args.source.now.schema.now) (offered c.args.source.now.host.now)) c.args.step.now w.rule w.select w.sources w.equal w.is c.requires.fit in
    record {
      sources_named = rw c.items-in-MatchRows.ensures m.sources_named;
      selected = rw (c.items.ensures, c.items-in-MatchRows.ensures) m.selected;
      equal_cells = rw (c.items-in-MatchRows.ensures, c.items-in-MatchRows-2.ensures) m.equal_cells;
    }

pub returns-in-MatchRows-clause-rows : goal.returns-in-MatchRows-clause-rows
returns-in-MatchRows-clause-rows g c =
    let N = table_names_of c.args.source.now.schema.now in
    let C = call_named g.M.Meaning.apply (offered c.args.source.now.host.now) in
    let I = facts (shown_tables c.args.source.now.rows.now.symbols c.args.source.now.rows.now.tables) in
    let U = c.step_rows.new.symbols in
    let w = c.in-MatchRows in
    IfOk-weaker c.step_rows.result (λ o. IsFoundUpTo c.args.most N C I U o (of_step c.items.result.now c.items-in-MatchRows.result.now c.items-in-MatchRows-2.result.now))
    (λ o. Each (matching_in c.args.step.now) (IsFoundUpTo c.args.most N C I U o))
    (λ o h. of_matching (IsFoundUpTo c.args.most N C I U o) c.args.step.now w.rule w.select w.sources w.equal w.is
    (lent_matching c.args.most N C I U o c.items.result.now w.select c.items-in-MatchRows.result.now w.sources c.items-in-MatchRows-2.result.now w.equal c.items.ensures c.items-in-MatchRows.ensures c.items-in-MatchRows-2.ensures h))
    c.step_rows.ensures.rows

pub returns-in_default-clause-rows : goal.returns-in_default-clause-rows
returns-in_default-clause-rows g c =
    let N = table_names_of c.args.source.now.schema.now in
    let C = call_named g.M.Meaning.apply (offered c.args.source.now.host.now) in
    let I = facts (shown_tables c.args.source.now.rows.now.symbols c.args.source.now.rows.now.tables) in
    not_matching (IsFoundUpTo c.args.most N C I c.args.symbols.now None) c.args.step.now c.in_default.not-MatchRows
