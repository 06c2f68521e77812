use Rattle.std.proofs.Common.{◌≡◌, ◌∙◌, ◌++◌, sym, ap, subst, ℕ, List}
use Rattle.std.proofs.lemmas.List.{append-nil, take_all}
use Rattle.dx_base.proofs.Members.{item_in}
use Rattle.dx_model.specs.declared.rules.Derived.{Derived}
use Rattle.dx_instance.proofs.NumberFacts.{stays}
use Rattle.dx_instance.proofs.ShownFacts.{extends_both}
use Rattle.dx_joins.specs.Shown.{AllTexts, texts_of}
use Rattle.dx_joins.specs.Derivations.{derived_values}
use Rattle.dx_joins.proofs.Growing.{derive_more, texts_grow}
use Rattle.dx_joins.proofs.computed.Derivation.derive.Goals as goal

pub loop-one-init : goal.loop-one-init
loop-one-init g c =
    let e : c.extend_from_slice.new.self.items ≡ c.args.row.now = c.in_ok-extend_from_slice.ensures.items ∙ ap (λ (l : List ℕ). l ++ c.args.row.now) c.clear.ensures.items in
    record {
      grows = stays c.args.symbols.now;
      apart = c.requires.row.apart;
      texts = subst (λ (l : List ℕ). AllTexts c.args.symbols.now l) (sym e) c.requires.row.texts;
      shown = ap (texts_of c.args.symbols.now) e ∙ sym (append-nil (texts_of c.args.symbols.now c.args.row.now));
    }

pub derived_number-requires-clause-computed : goal.derived_number-requires-clause-computed
derived_number-requires-clause-computed g c = c.requires.computed _ (item_in c.args.self.now.derived.now c.loop-one.one-index c.one-item.result c.loop-one-test.true c.one-item.is)

pub derived_number-requires-clause-row : goal.derived_number-requires-clause-row
derived_number-requires-clause-row g c = record {
  apart = c.loop-one.invariant.apart;
  many = c.requires.row.many;
  texts = texts_grow c.args.symbols.now c.loop-one.symbols c.args.row.now c.loop-one.invariant.grows c.requires.row.texts;
}

pub returns-in_err-number-clause-grows : goal.returns-in_err-number-clause-grows
returns-in_err-number-clause-grows g c = extends_both c.args.symbols.now c.loop-one.symbols c.derived_number.new.symbols c.loop-one.invariant.grows c.derived_number.ensures.grows

pub returns-in_err-push-clause-grows : goal.returns-in_err-push-clause-grows
returns-in_err-push-clause-grows g c = extends_both c.args.symbols.now c.loop-one.symbols c.derived_number.new.symbols c.loop-one.invariant.grows c.derived_number.ensures.grows

pub loop-one-preserved : goal.loop-one-preserved
loop-one-preserved g c =
    let inv = c.loop-one.invariant in
    let more = derive_more g.M.Meaning.apply c.args.self.now.wanted.now c.args.self.now.derived.now c.args.row.now c.loop-one.buffer.items c.loop-one.one-index c.one-item.result c.in_ok-number.number c.args.symbols.now c.loop-one.symbols c.derived_number.new.symbols
    c.loop-one-test.true c.one-item.is inv.grows c.derived_number.ensures.grows c.requires.row.texts inv.texts c.in_ok-number.ensures.within c.in_ok-number.ensures.value inv.shown in
    record {
      grows = extends_both c.args.symbols.now c.loop-one.symbols c.derived_number.new.symbols inv.grows c.derived_number.ensures.grows;
      apart = c.derived_number.ensures.apart;
      texts = subst (λ (l : List ℕ). AllTexts c.derived_number.new.symbols l) (sym c.in_ok-push.ensures.items) more.0;
      shown = ap (texts_of c.derived_number.new.symbols) c.in_ok-push.ensures.items ∙ more.1;
    }

pub returns-clause-shown : goal.returns-clause-shown
returns-clause-shown g c = c.loop-one.invariant.shown ∙ ap (λ (l : List Derived). texts_of c.args.symbols.now c.args.row.now ++ derived_values g.M.Meaning.apply c.args.self.now.wanted.now l (texts_of c.args.symbols.now c.args.row.now)) (take_all c.loop-one.one-index c.args.self.now.derived.now c.loop-one-test.false)
