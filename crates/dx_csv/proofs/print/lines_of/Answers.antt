use Rattle.std.proofs.Common.{◌≡◌, ◌≤◌, ◌<◌, ◌∷◌, ◌∙◌, [], ap, map, sym, take, List, length, subst, arith, take_all}
use Rattle.std.specs.Prelude.{All, IsUtf8}
use Rattle.std.proofs.lemmas.List.{length-map}
use Rattle.std.proofs.lemmas.List.Elements.{All-append, All-cons, All-nil}
use Rattle.csv.specs.Records.{AllText}
use Rattle.dx_model.specs.declared.values.Value.{Value}
use Rattle.dx_instance.specs.Shown.{numbers_of_table, shown_row}
use Rattle.dx_instance.specs.Stored.{rows_of}
use Rattle.dx_instance.specs.ValueText.{value_text_of}
use Rattle.dx_csv.specs.Lines.{HavePrinted}
use Rattle.dx_csv.specs.Print.{records_of_table}
use Rattle.dx_csv.proofs.TextFacts.{utf8-records}
use Rattle.dx_csv.proofs.TableTextFacts.{as-many-tables, numbers-more, rows-are}
use Rattle.dx_csv.proofs.print.lines_of.Goals as goal

pub loop-place-init : goal.loop-place-init
loop-place-init c = record {
  printed = c.in_ok-print_record.ensures.printed [] (c.make_room.ensures [] [] c.new-lines.ensures);
  texts = All-cons AllText c.args.columns.now [] c.in_ok-print_record.ensures.texts (All-nil AllText);
}

pub count-place-end-requires : goal.count-place-end-requires
count-place-end-requires c =
    let many = as-many-tables c.numbers-numbers.result.symbols c.numbers-numbers.result.tables c.args.instance.now c.numbers-numbers.ensures.shown in
    omega (arith, many, c.requires)

pub loop-place-preserved : goal.loop-place-preserved
loop-place-preserved c =
    let symbols = c.numbers-numbers.result.symbols in
    let numbers = (numbers_of_table c.numbers-numbers.result.tables c.args.table).rows in
    let rows = rows_of c.args.instance.now c.args.table in
    let are = rows-are symbols c.numbers-numbers.result.tables c.args.instance.now c.args.table c.numbers-numbers.ensures.shown in
    let below : c.loop-place.place < length numbers = omega (arith, c.loop-place-test.true, c.count-place-end.ensures) in
    let more = numbers-more c.args.columns.now symbols rows numbers c.loop-place.place c.row.result.now are below c.row.ensures.row in
    record {
      printed = subst (λ l. HavePrinted c.print_row.new.lines l []) more (c.in_ok-print_row.ensures.printed _ c.loop-place.invariant.printed);
      texts = subst (All AllText) more
          (All-append AllText (records_of_table c.args.columns.now (take c.loop-place.place rows)) (map value_text_of (shown_row symbols c.row.result.now) ∷ []) c.loop-place.invariant.texts
          (All-cons AllText (map value_text_of (shown_row symbols c.row.result.now)) [] c.in_ok-print_row.ensures.texts (All-nil AllText)));
    }

pub returns : goal.returns
returns c =
    let rows = rows_of c.args.instance.now c.args.table in
    let numbers = (numbers_of_table c.numbers-numbers.result.tables c.args.table).rows in
    let are = rows-are c.numbers-numbers.result.symbols c.numbers-numbers.result.tables c.args.instance.now c.args.table c.numbers-numbers.ensures.shown in
    let many : length rows ≡ length numbers =
    ap (λ (rs : List (List Value)). length rs) are ∙ length-map numbers (shown_row c.numbers-numbers.result.symbols) in
    let all : length rows ≤ c.loop-place.place = omega (arith, many, c.count-place-end.ensures, c.loop-place-test.false) in
    let whole = take_all c.loop-place.place rows all in
    let done = subst (λ (l : List (List Value)). HavePrinted c.loop-place.lines (records_of_table c.args.columns.now l) []) whole c.loop-place.invariant.printed in
    let texts = subst (λ (l : List (List Value)). All AllText (records_of_table c.args.columns.now l)) whole c.loop-place.invariant.texts in
    let text = c.into_bytes.ensures (records_of_table c.args.columns.now rows) done in
    record { text = text; utf8 = subst IsUtf8 (sym text) (utf8-records (records_of_table c.args.columns.now rows) texts) }
