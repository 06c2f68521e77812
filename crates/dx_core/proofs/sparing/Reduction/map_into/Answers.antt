use Rattle.std.proofs.Common.{◌≡◌, ◌+◌, ℕ, List, drop, map, refl, subst}
use Rattle.std.specs.Prelude.{IfSome, None, Option, Some}
use Rattle.dx_base.proofs.Loops.{each_item}
use Rattle.dx_base.proofs.Members.{from_map}
use Rattle.dx_model.specs.declared.values.NullId.{NullId}
use Rattle.dx_model.specs.declared.facts.Fact.{Fact}
use Rattle.dx_instance.specs.Shown.{NumberedInstance}
use Rattle.dx_instance.specs.NullMaps.{becomes}
use Rattle.dx_model.specs.Instances.{Moves, given}
use Rattle.dx_blocks.specs.Numbered.{fact_of, null_under, shown_block}
use Rattle.dx_core.specs.Asking.{pairs_by}
use Rattle.dx_core.specs.Left.{facts_left, shown_by}
use Rattle.dx_core.specs.Sparing.{IsTried}
use Rattle.dx_core.proofs.Mapped.{mapped_listed, mapped_more, mapped_moves, mapped_null_map, mapped_start, next_shown, none_shown}
use Rattle.dx_core.proofs.sparing.Reduction.map_into.Goals as goal
use Rattle.dx_core.proofs.sparing.Reduction.map_into.Goals.{in-Some+in_ok-give_all, in_default}

some_is : {V : Type 0} (N : NumberedInstance) (nulls : List ℕ) (F T : List Fact) (items : V → List ℕ) (o : Option V) (v : V) → o ≡ Some v
    → IfSome o (λ x. Moves (given (pairs_by N nulls (items x))) F T) → Moves (given (pairs_by N nulls (items v))) F T
some_is N nulls F T items None v e p = absurd (cc e)
some_is {V} N nulls F T items (Some x) v e p =
    let d : x ≡ v = cc e in subst (λ (y : V). Moves (given (pairs_by N nulls (items y))) F T) d p

none_is : {V : Type 0} (o : Option V) → ((v : V) → ¬ (o ≡ Some v)) → ¬ (o ≡ None) → ⊥
none_is None f g = g refl
none_is (Some v) f g = f v refl

pub loop-block-init : goal.loop-block-init
loop-block-init c =
    let s = c.args.self.now in
    mapped_start (shown_by s.numbers) s.taken (map (shown_block s.numbers) c.args.blocks.now) c.new-map.result c.new-map.ensures
    c.requires.rest

pub find_block-requires-clause-block : goal.find_block-requires-clause-block
find_block-requires-clause-block c = each_item (IsTried c.args.self.now.numbers) c.args.blocks.now c.loop-block.block-index c.block-item.result
    c.loop-block-test.true c.block-item.is c.requires.blocks

pub give_all-requires : goal.give_all-requires
give_all-requires c =
    let t = each_item (IsTried c.args.self.now.numbers) c.args.blocks.now c.loop-block.block-index c.block-item.result
    c.loop-block-test.true c.block-item.is c.requires.blocks in
    record {
      nulls = rw c.items.ensures t.numbers.nulls;
      ascend = rw c.items.ensures t.ascend;
      long = rw (c.deref.ensures.value, c.items.ensures) (rw c.in-Some.is at c.in_ok-answer.ensures.long);
      within = rw c.deref.ensures.value (rw c.in-Some.is at c.in_ok-answer.ensures.within);
    }

pub loop-block-preserved : goal.loop-block-preserved
loop-block-preserved c =
    let s = c.args.self.now in
    let b = c.block-item.result in
    let t = each_item (IsTried s.numbers) c.args.blocks.now c.loop-block.block-index b c.loop-block-test.true c.block-item.is
    c.requires.blocks in
    let k = next_shown s.numbers s.taken c.args.blocks.now c.loop-block.block-index c.loop-block.map b c.loop-block-test.true c.block-item.is
    c.loop-block.invariant in
    elim c.match-branch-2.branch [
      | in-Some+in_ok-give_all w ↦
          let xs = w.in-Some.answer.items in
          let nulls = rw (w.items.ensures, w.deref.ensures.value) at w.in_ok-give_all.ensures.nulls in
          let others = rw w.items.ensures at w.in_ok-give_all.ensures.others in
          let moves = some_is s.numbers b.nulls (map (fact_of s.numbers) b.rows) (facts_left s.numbers s.taken) (λ v. v.items)
          c.in_ok-answer.field-0 w.in-Some.answer w.in-Some.is c.in_ok-answer.ensures.moves in
          rw w.map-is (mapped_more (shown_by s.numbers) s.taken (shown_block s.numbers b) t.block (given (pairs_by s.numbers b.nulls xs))
          c.loop-block.map w.give_all.new.made
          (record {
            nulls = λ n m. let k = from_map (null_under s.numbers) b.nulls m in
                subst (λ (i : NullId). becomes w.give_all.new.made i ≡ given (pairs_by s.numbers b.nulls xs) i) k.2 (nulls k.0 k.1);
            others = others;
            proper = w.in_ok-give_all.ensures.proper;
          })
          (map (shown_block s.numbers) (drop (c.loop-block.block-index + 1) c.args.blocks.now)) moves k)
      | in_default w ↦ absurd (none_is c.in_ok-answer.field-0 w.in_default.not-Some c.in_ok-answer.ensures.some)
    ]

pub returns-clause-moves : goal.returns-clause-moves
returns-clause-moves c =
    let s = c.args.self.now in
    mapped_moves (shown_by s.numbers) s.taken c.loop-block.map
    (none_shown s.numbers s.taken c.args.blocks.now c.loop-block.block-index c.loop-block.map c.loop-block-test.false c.loop-block.invariant)

pub returns-clause-null_map : goal.returns-clause-null_map
returns-clause-null_map c =
    let s = c.args.self.now in
    mapped_null_map (shown_by s.numbers) s.taken c.loop-block.map
    (none_shown s.numbers s.taken c.args.blocks.now c.loop-block.block-index c.loop-block.map c.loop-block-test.false c.loop-block.invariant)

pub returns-clause-listed : goal.returns-clause-listed
returns-clause-listed c =
    let s = c.args.self.now in
    mapped_listed (shown_by s.numbers) s.taken c.loop-block.map
    (none_shown s.numbers s.taken c.args.blocks.now c.loop-block.block-index c.loop-block.map c.loop-block-test.false c.loop-block.invariant)
