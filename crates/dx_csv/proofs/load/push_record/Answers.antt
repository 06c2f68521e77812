use Rattle.std.proofs.Common.{◌≡◌, ◌++◌, ◌∷◌, ◌+◌, ◌<◌, ◌∙◌, [], ℕ, List, length, take, arith, ap, sym, subst, append-nil, append_assoc}
use Rattle.std.specs.Prelude.{IsUtf8}
use Rattle.std.proofs.lemmas.List.{take_more}
use Rattle.csv.specs.Records.{AllText, fields_of}
use Rattle.csv.proofs.RecordFacts.{text-at, text-step}
use Rattle.dx_csv.specs.Fields.{HaveFields}
use Rattle.dx_csv.proofs.load.push_record.Goals as goal

pub loop-i-init : goal.loop-i-init
unfolding AllText
loop-i-init c = record { text = tt; pushed = λ old h. rw (append-nil old) h }

pub returns-in_default-clause-not_text : goal.returns-in_default-clause-not_text
returns-in_default-clause-not_text c e all =
    let fields = fields_of c.args.given.now in
    let n : c.loop-i.i < length fields = omega arith in
    c.in_default.ensures.cases.0 (subst IsUtf8 (sym c.field_at.ensures) (text-at fields c.loop-i.i n all))

pub loop-i-preserved : goal.loop-i-preserved
loop-i-preserved c =
    let fields = fields_of c.args.given.now in
    let i = c.loop-i.i in
    let field = c.field_at.result.now in
    let at = sym c.field_at.ensures in
    let n : i < length fields = omega arith in
    let more : take (i + 1) fields ≡ take i fields ++ field ∷ [] = take_more fields i [] n ∙ ap (λ x. take i fields ++ x ∷ []) at in
    let a = c.in-Ok.ensures.cases in
    record {
      text = text-step fields i n c.loop-i.invariant.text (subst IsUtf8 c.field_at.ensures a.1);
      pushed = λ old h. let p = c.in_ok-push.ensures (old ++ take i fields) (c.loop-i.invariant.pushed old h) in
          subst (HaveFields c.push.new.self) (ap (λ (t : List ℕ). (old ++ take i fields) ++ t ∷ []) a.0 ∙ append_assoc old (take i fields) (field ∷ []) ∙ ap (λ (l : List (List ℕ)). old ++ l) (sym more)) p;
    }
