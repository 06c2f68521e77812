use Rattle.std.proofs.Common.{◌≤◌, ◌++◌, ◌∷◌, ◌∙◌, ℕ, List, [], length, take, sym, subst, ap, arith, take_all}
use Rattle.std.specs.Prelude.{All, IsUtf8}
use Rattle.std.proofs.lemmas.List.{take_more}
use Rattle.std.proofs.lemmas.List.Elements.{All-append, All-cons, All-nil}
use Rattle.csv.specs.Records.{AllText}
use Rattle.dx_csv.specs.Lines.{HavePrinted}
use Rattle.dx_csv.proofs.TextFacts.{utf8-records}
use Rattle.dx_csv.proofs.print.print_records_bytes.Goals as goal

pub loop-record-init : goal.loop-record-init
loop-record-init c = record { printed = c.new-lines.ensures; texts = All-nil AllText }

pub loop-record-preserved : goal.loop-record-preserved
loop-record-preserved c =
    let records = c.args.records.now in
    let i = c.loop-record.record-index in
    let fields = c.items.result.now in
    let more = ap (λ (x : List (List ℕ)). take i records ++ x ∷ []) (c.items.ensures ∙ c.record-item.is) ∙ sym (take_more records i c.record-item.result c.loop-record-test.true) in
    record {
      printed = subst (λ (l : List (List (List ℕ))). HavePrinted c.print_record.new.lines l []) more
          (c.in_ok-print_record.ensures.printed (take i records) c.loop-record.invariant.printed);
      texts = subst (All AllText) more
          (All-append AllText (take i records) (fields ∷ []) c.loop-record.invariant.texts (All-cons AllText fields [] c.in_ok-print_record.ensures.texts (All-nil AllText)));
    }

pub returns : goal.returns
returns c =
    let all : length c.args.records.now ≤ c.loop-record.record-index = omega (arith, c.loop-record-test.false) in
    let whole = take_all c.loop-record.record-index c.args.records.now all in
    let text = c.into_bytes.ensures c.args.records.now (subst (λ (l : List (List (List ℕ))). HavePrinted c.loop-record.lines l []) whole c.loop-record.invariant.printed) in
    record { text = text; utf8 = subst IsUtf8 (sym text) (utf8-records c.args.records.now (subst (All AllText) whole c.loop-record.invariant.texts)) }
