use Rattle.std.proofs.Common.{◌≡◌, [], map, refl, subst}
use Rattle.std.specs.Prelude.{if◌then◌else◌}
use Rattle.dx_funcs.specs.Serving.{offered}
use Rattle.dx_instance.specs.NullMaps.{pairs_of}
use Rattle.clio_source.specs.Source.{roots}
use Rattle.clio_files.specs.Files.{printed_view}
use Rattle.clio_files.specs.Printing.{AddsRoots}
use Rattle.clio_files.specs.Sheets.{file_of, fold_sheet, nulls_sheet}
use Rattle.clio_files.specs.Texts.{texts_told}
use Rattle.clio_files.proofs.SheetLists.{two_more}
use Rattle.clio_files.proofs.TextFiles.{four_parts}
use Rattle.clio_files.proofs.RootFiles.{none_asked, roots_asked, with_documents}
use Rattle.clio_files.proofs.printing.print_files.Goals as goal
use Rattle.clio_files.proofs.printing.print_files.Goals.{then-output+in_ok-push_roots, else-output}

pub returns : goal.returns
returns g c =
    let e = c.args.exchange.now in
    let target = c.args.mapping.now.target in
    let nested = c.args.output.nested in
    let texts = texts_told c.args.mapping.now.source target (offered c.args.host.now) c.args.output.mode c.args.mapping.now.rules in
    let nulls = file_of (nulls_sheet c.args.mapping.now.rules e.matches c.in_ok-nulls.nulls.items) in
    let fold = file_of (fold_sheet (pairs_of e.fold)) in
    let added = c.in_ok-push_tables.ensures in
    let before = map printed_view c.push-2.new.self.items in
    let all = map printed_view c.if-output.printed.items in
    let records =
    subst (λ R. printed_view c.in_ok-nulls_file.field-0 ≡ file_of (nulls_sheet R e.matches c.in_ok-nulls.nulls.items)) c.items.ensures
    (rw c.deref.ensures.value at c.in_ok-nulls_file.ensures) in
    let two =
    two_more c.push_tables.new.files.items c.push.new.self.items c.push-2.new.self.items c.in_ok-nulls_file.field-0
    c.in_ok-fold_file.field-0 nulls fold records c.in_ok-fold_file.ensures
    c.in_ok-push.ensures.items c.in_ok-push-2.ensures.items in
    let parts =
    four_parts texts added.tables (map printed_view c.in_ok-printed.printed.items) (map printed_view c.push_tables.new.files.items) before nulls fold
    c.in_ok-printed.ensures added.is two in
    let more : AddsRoots target e.target (if nested then roots target else []) before all =
    elim c.if-output.branch [
      | then-output+in_ok-push_roots w ↦
          roots_asked nested target e.target before all w.if-output.true (rw w.printed-is w.in_ok-push_roots.ensures)
      | else-output w ↦ none_asked nested target e.target before all w.if-output.false (rw w.printed-is refl)
    ] in record {
      tables = added.tables;
      tables_are = added.are;
      nulls = c.in_ok-nulls.nulls.items;
      nulls_are = c.in_ok-nulls.ensures;
      documents = more.files;
      documents_are = more.are;
      is = with_documents texts added.tables more.files before all nulls fold parts more.is;
    }
