use Rattle.std.proofs.Common.{◌+◌, ◌-◌, arith, length, Err, refl, sym, ◌∙◌, ap, subst}
use Rattle.dx_schema.specs.Tables.{count, tree_at}
use Rattle.dx_json.proofs.Fitting.{facts_fit}
use Rattle.dx_stages.specs.declared.stop.Stop.TheVariants as stops
use Rattle.clio_source.specs.declared.fault.SourceRefusal.{SourceRefusal}
use Rattle.clio_source.specs.declared.reading.Reading.{Reading}
use Rattle.clio_source.specs.Source.{loading, nested}
use Rattle.clio_source.specs.Fitting.{GivesTo}
use Rattle.clio_source.proofs.Blank.{blank_document}
use Rattle.clio_source.proofs.Fits.{holds_document}
use Rattle.clio_source.proofs.Ranges.{between}
use Rattle.clio_source.proofs.Runs.{loaded, no_cells_left}
use Rattle.clio_source.proofs.documents.load_document.Goals as goal

pub cells_after-requires : goal.cells_after-requires
cells_after-requires c =
    facts_fit c.args.bytes.now c.args.schema.now c.args.root c.in_ok-facts.facts c.requires.root.within c.requires.root.parent c.in_ok-facts.ensures.facts

pub returns-in_default-clause-read : goal.returns-in_default-clause-read
returns-in_default-clause-read c = λ used q h.
    subst (λ (e : SourceRefusal). GivesTo used (loading nested c.args.schema.now c.args.root) (q, c.args.bytes.now) (Err (stops.Refused e))) (sym c.too_many_cells.ensures)
    (no_cells_left used nested c.args.schema.now c.args.root c.args.before.cells_left q c.args.bytes.now c.in_ok-facts.facts c.in_ok-facts.ensures.facts h.cells c.in_default.ensures)

pub add_root-requires : goal.add_root-requires
add_root-requires c =
    let f = c.args.schema.now in
    let root = c.args.root in
    let facts = c.in_ok-facts.facts in record {
      inside = c.requires.root.within;
      widths = c.requires.fit.widths;
      below = c.requires.fit.below;
      fit = facts_fit c.args.bytes.now f root facts c.requires.root.within c.requires.root.parent c.in_ok-facts.ensures.facts;
      within = between f root (root + 1 + count (tree_at f root).inner) c.args.bytes.now facts (omega arith) c.in_ok-facts.ensures.facts;
      cells = omega (arith, c.in-Some.ensures.1, c.requires.fit.few);
    }

pub returns-clause-fit : goal.returns-clause-fit
returns-clause-fit c =
    let a = c.in_ok-add_root.ensures in record {
      widths = a.put.widths ∙ a.empty.widths;
      below = a.put.below;
      few = omega (arith, c.in-Some.ensures.0, c.requires.fit.few);
    }

pub returns-clause-read : goal.returns-clause-read
returns-clause-read c = λ used q h.
    let f = c.args.schema.now in
    let a = c.in_ok-add_root.ensures in
    let after : Reading = record { symbols = c.add_root.new.symbols; tables = c.add_root.new.tables; bytes_left = c.saturating_sub.result; cells_left = c.in-Some.cells_left } in
    loaded used nested f c.args.root c.args.before.cells_left q after c.args.bytes.now c.in_ok-facts.facts c.in_ok-facts.ensures.facts h.cells c.in-Some.ensures.1
    (holds_document used f (c.args.root + 1 + count (tree_at c.args.schema.now c.args.root).inner) c.args.before after a.between c.in_ok-facts.facts q h a.empty a.put)
    (c.saturating_sub.ensures ∙ ap (λ n. n - length c.args.bytes.now) h.bytes) c.in-Some.ensures.0

pub returns-clause-blank : goal.returns-clause-blank
returns-clause-blank c = λ used formed h.
    let f = c.args.schema.now in
    let a = c.in_ok-add_root.ensures in
    let last = c.args.root + 1 + count (tree_at c.args.schema.now c.args.root).inner in
    let after : Reading = record { symbols = c.add_root.new.symbols; tables = c.add_root.new.tables; bytes_left = c.saturating_sub.result; cells_left = c.in-Some.cells_left } in
    blank_document used f c.args.root last c.args.before after a.between c.in_ok-facts.facts c.requires.root.within c.requires.root.parent formed refl a.empty a.put
    (between f c.args.root last c.args.bytes.now c.in_ok-facts.facts (omega arith) c.in_ok-facts.ensures.facts) h
