use Rattle.std.proofs.Common.{◌≡◌, ◌+◌, ◌<◌, refl, ap, sym, subst, Bor, List, [], ◌∷◌, ◌++◌, length, take, inl, inr}
use Rattle.std.specs.Prelude.{◌⊎◌, ⊤}
use Rattle.std.proofs.lemmas.List.{map-append}
use Rattle.dx_base.specs.Members.{◌∈◌, Each, behind}
use Rattle.dx_base.proofs.Members.{each_all}
use Rattle.dx_model.specs.declared.rules.Atom.{Atom}
use Rattle.dx_cover.specs.declared.pairs.Place.{Place}
use Rattle.dx_cover.specs.Pairs.{IsNeverChosen, IsShared}
use Rattle.dx_cover.proofs.Pairing.{behind_item, disagree_excludes, each_behind, each_pushed, one_left, one_out, unsupported}
use Rattle.dx_cover.proofs.pairs.narrow.Goals as goal
use Rattle.dx_cover.proofs.pairs.narrow.Goals.{then-is_supported+in_ok-push, else-is_supported}

pub loop-chosen-init : goal.loop-chosen-init
loop-chosen-init c = ((λ x m. elim (subst (λ z. x ∈ z) (ap behind c.new-left.ensures.items) m) [ ]), (λ x m. elim m [ ]))

pub is_supported-requires : goal.is_supported-requires
is_supported-requires c = λ next m p n.
    let chosen = c.chosen-item.result in
    let shared = c.in_ok-places.ensures p (subst (λ (z : List Place). p ∈ z) c.deref.ensures.value n) in
    let own = c.requires.own.wide chosen.now (subst (λ (z : List (Bor Atom)). chosen.now ∈ behind z) c.deref-chosen-items.ensures.value (behind_item c.deref-chosen-items.result.now c.loop-chosen.chosen-index chosen c.loop-chosen-test.true c.chosen-item.is)) in
    let its = c.requires.other.wide next (subst (λ (z : List (Bor Atom)). next ∈ behind z) c.deref-in-loop-chosen.ensures.value m) in
    (subst (λ z. p.own < z) own shared.0.0, subst (λ z. p.its < z) its shared.0.1)

pub loop-chosen-preserved : goal.loop-chosen-preserved
loop-chosen-preserved c =
    let part = c.args.part.now in
    let atom = c.args.choice.atom.now in
    let by = c.args.by.now in
    let items = c.deref-chosen-items.result.now in
    let chosen = c.chosen-item.result in
    let before = behind c.loop-chosen.left.items in
    let after = behind c.if-is_supported.left.items in
    let never = IsNeverChosen part.bound.now part.rest.now part.others.now atom in
    let wide : length atom.cells ≡ length chosen.now.cells =
    c.requires.own.wide chosen.now (subst (λ (z : List (Bor Atom)). chosen.now ∈ behind z) c.deref-chosen-items.ensures.value (behind_item items c.loop-chosen.chosen-index chosen c.loop-chosen-test.true c.chosen-item.is)) in
    elim c.if-is_supported.branch [
      | then-is_supported+in_ok-push w ↦
          let more : after ≡ before ++ chosen.now ∷ [] = rw (w.left-is, w.in_ok-push.ensures.items, map-append (λ (r : Bor Atom). r.now)) refl in (
            each_pushed (λ (b : Atom). length atom.cells ≡ length b.cells) before after chosen.now more c.loop-chosen.invariant.0 wide,
            one_left (λ (r : Bor Atom). r.now) never (λ b. ⊤) items c.loop-chosen.chosen-index chosen before after c.loop-chosen-test.true c.chosen-item.is more c.loop-chosen.invariant.1,
          )
      | else-is_supported w ↦
          subst (λ v. Each (behind v.items) (λ b. length atom.cells ≡ length b.cells) × Each (take (c.loop-chosen.chosen-index + 1) items) (λ r. ⊤ → (r.now ∈ behind v.items) ⊎ never r.now)) (sym w.left-is) (
            c.loop-chosen.invariant.0,
            one_out (λ (r : Bor Atom). r.now) never (λ b. ⊤) items c.loop-chosen.chosen-index chosen before c.loop-chosen-test.true c.chosen-item.is
                (λ t. unsupported part.bound.now part.rest.now part.others.now atom chosen.now by.atom.now (behind by.left.items) c.requires.other
                (λ d m. disagree_excludes c.deref.result.now atom chosen.now by.atom.now d (subst (λ z. Each z (IsShared atom by.atom.now)) (sym c.deref.ensures.value) c.in_ok-places.ensures) wide (c.requires.other.wide d m)
                (c.is_supported.ensures w.if-is_supported.false d (subst (λ (z : List (Bor Atom)). d ∈ behind z) (sym c.deref-in-loop-chosen.ensures.value) m))))
                c.loop-chosen.invariant.1,
          )
    ]

pub returns : goal.returns
returns c =
    let part = c.args.part.now in
    let atom = c.args.choice.atom.now in
    let items = c.deref-chosen-items.result.now in
    let never = IsNeverChosen part.bound.now part.rest.now part.others.now atom in
    let P = λ (b : Atom). (b ∈ behind c.loop-chosen.left.items) ⊎ never b in
    let kept : Each (behind items) P =
    each_behind P items (λ r m. each_all (λ (r : Bor Atom). ⊤ → P r.now) items c.loop-chosen.chosen-index c.loop-chosen-test.false c.loop-chosen.invariant.1 r m tt) in
    record {
      own = c.requires.own.own;
      wide = c.loop-chosen.invariant.0;
      all = λ b m t. elim (c.requires.own.all b m t) [
        | inl k ↦ kept b (subst (λ (z : List (Bor Atom)). b ∈ behind z) (sym c.deref-chosen-items.ensures.value) k)
        | inr n ↦ inr n
      ];
    }
