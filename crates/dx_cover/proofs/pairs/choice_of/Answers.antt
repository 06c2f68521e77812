use Rattle.std.proofs.Common.{◌≡◌, ◌+◌, refl, ap, subst, Bor, [], ◌∷◌, ◌++◌, length, take}
use Rattle.std.specs.Prelude.{◌⊎◌}
use Rattle.std.proofs.lemmas.List.{map-append}
use Rattle.dx_base.specs.Members.{◌∈◌, Each, behind}
use Rattle.dx_base.proofs.Members.{item_in}
use Rattle.dx_model.specs.declared.rules.Atom.{Atom}
use Rattle.dx_cover.specs.Pairs.{IsNeverChosen}
use Rattle.dx_cover.proofs.Pairing.{each_pushed, excluded_never, one_left, one_out}
use Rattle.dx_cover.proofs.pairs.choice_of.Goals as goal
use Rattle.dx_cover.proofs.pairs.choice_of.Goals.{then-atom-other+then-not-is_excluded_at+in_ok-push, else-atom-other, else-atom-other-via-then-atom-other+else-not-is_excluded_at, else-atom-other-via-else-atom-other}

pub loop-other-init : goal.loop-other-init
loop-other-init c = ((λ x m. elim (subst (λ z. x ∈ z) (ap behind c.new-left.ensures.items) m) [ ]), (λ x m. elim m [ ]))

pub is_excluded_at-requires-clause-width : goal.is_excluded_at-requires-clause-width
is_excluded_at-requires-clause-width c =
    c.requires.widths c.args.atom.now c.other-item.result c.requires.own
    (item_in c.args.part.now.others.now c.loop-other.other-index c.other-item.result c.loop-other-test.true c.other-item.is) c.if-atom-other.true

pub loop-other-preserved : goal.loop-other-preserved
loop-other-preserved c =
    let part = c.args.part.now in
    let atom = c.args.atom.now in
    let other = c.other-item.result in
    let before = behind c.loop-other.left.items in
    let after = behind c.if-atom-other.left.items in
    let never = IsNeverChosen part.bound.now part.rest.now part.others.now atom in
    elim c.if-atom-other.branch [
      | then-atom-other+then-not-is_excluded_at+in_ok-push w ↦
          let more : after ≡ before ++ other ∷ [] = rw (w.left-is, w.in_ok-push.ensures.items, map-append (λ (r : Bor Atom). r.now)) refl in (
            each_pushed (λ (b : Atom). length atom.cells ≡ length b.cells) before after other more c.loop-other.invariant.0
                (c.requires.widths atom other c.requires.own (item_in part.others.now c.loop-other.other-index other c.loop-other-test.true c.other-item.is) w.if-atom-other.true),
            one_left (λ (b : Atom). b) never (λ b. atom.table ≡ b.table) part.others.now c.loop-other.other-index other before after c.loop-other-test.true c.other-item.is more c.loop-other.invariant.1,
          )
      | else-atom-other w ↦
          let same : c.loop-other.left ≡ c.if-atom-other.left = cc in
          subst (λ v. Each (behind v.items) (λ b. length atom.cells ≡ length b.cells) × Each (take (c.loop-other.other-index + 1) part.others.now) (λ b. atom.table ≡ b.table → (b ∈ behind v.items) ⊎ never b)) same (
            c.loop-other.invariant.0,
            one_out (λ (b : Atom). b) never (λ b. atom.table ≡ b.table) part.others.now c.loop-other.other-index other before c.loop-other-test.true c.other-item.is
                (elim w.else-atom-other.branch [
                  | else-atom-other-via-then-atom-other+else-not-is_excluded_at v ↦ λ e. excluded_never part.bound.now part.rest.now part.others.now atom other (v.is_excluded_at.ensures v.if-not-is_excluded_at.false)
                  | else-atom-other-via-else-atom-other v ↦ λ e. absurd (v.if-atom-other.false e)
                ]) c.loop-other.invariant.1,
          )
    ]
