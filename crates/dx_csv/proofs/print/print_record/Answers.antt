use Rattle.std.proofs.Common.{◌++◌, ◌∷◌, ◌∙◌, [], ℕ, List, take, take_all, arith, ap, sym, subst, refl}
use Rattle.std.specs.Prelude.{IsUtf8}
use Rattle.std.proofs.lemmas.List.{take_more}
use Rattle.csv.specs.Records.{AllText}
use Rattle.csv.proofs.RecordFacts.{text-step}
use Rattle.dx_csv.specs.Lines.{HavePrinted}
use Rattle.dx_csv.proofs.TableFacts.{read-at}
use Rattle.dx_csv.proofs.TextFacts.{on-ok}
use Rattle.dx_csv.proofs.print.print_record.Goals as goal

pub loop-text-init : goal.loop-text-init
unfolding AllText
loop-text-init c = record { printed = λ records h. h; texts = tt }

pub loop-text-preserved : goal.loop-text-preserved
loop-text-preserved c =
    let fields = c.args.fields.now in
    let i = c.loop-text.text-index in
    let below = c.loop-text-test.true in
    let same = read-at fields i c.text-item.result c.text-item.result below refl c.text-item.is in
    let shown = read-at fields i c.text-item.result c.bytes.result.now below c.bytes.ensures.value c.text-item.is in
    record {
      printed = λ records h. subst (HavePrinted c.field.new.self records) (ap (λ (x : List ℕ). take i fields ++ x ∷ []) shown ∙ sym (take_more fields i [] below))
          (c.in_ok-field.ensures records (take i fields) (c.loop-text.invariant.printed records h));
      texts = text-step fields i below c.loop-text.invariant.texts (subst IsUtf8 same c.bytes.ensures.utf8);
    }

pub returns-clause-texts : goal.returns-clause-texts
returns-clause-texts c =
    on-ok c.end.result (AllText c.args.fields.now)
    (subst AllText (take_all c.loop-text.text-index c.args.fields.now (omega (arith, c.loop-text-test.false))) c.loop-text.invariant.texts)
