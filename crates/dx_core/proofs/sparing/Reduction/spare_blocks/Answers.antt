use Rattle.std.proofs.Common.{◌≡◌, ◌∙◌, ◌++◌, ◌∷◌, [], List, Bool, ap, inl, map, refl, sym, subst}
use Rattle.std.proofs.lemmas.List.{map-append}
use Rattle.dx_base.specs.Members.{Each}
use Rattle.dx_base.proofs.Lists.{none_of_length}
use Rattle.dx_model.proofs.Reduction.{reduct_of_reduct}
use Rattle.dx_instance.specs.Shown.{NumberedInstance}
use Rattle.dx_instance.specs.Stored.{facts}
use Rattle.dx_blocks.specs.declared.numbered.NumberBlock.{NumberBlock}
use Rattle.dx_blocks.specs.Numbered.{shown_block}
use Rattle.dx_core.specs.Left.{facts_left, shown_by}
use Rattle.dx_core.specs.Sparing.{IsLeftOrIn}
use Rattle.dx_core.proofs.Marked.{all_left_reduct}
use Rattle.dx_core.proofs.Passed.{all_to_try, core_left, each_more, last_in, needed_more, others_in, rest_more}
use Rattle.dx_core.proofs.sparing.Reduction.spare_blocks.Goals as goal

shown_more : (N : NumberedInstance) (old new : List NumberBlock) (b : NumberBlock) → old ≡ new ++ b ∷ []
    → map (shown_block N) old ≡ map (shown_block N) new ++ shown_block N b ∷ []
shown_more N old new b e = ap (map (shown_block N)) e ∙ map-append (shown_block N) new (b ∷ [])

pub loop-block-init : goal.loop-block-init
loop-block-init c =
    let N = c.args.self.now.numbers in record {
      numbers = refl;
      reduct = all_left_reduct (shown_by N) c.args.self.now.taken c.requires.whole;
      tried = c.requires.tried;
      changed = rw c.new-changed.ensures.items (λ b m. elim m [ ]);
      needed = all_to_try (map (shown_block N) c.args.blocks.items) (facts_left N c.args.self.now.taken);
      rest = λ f m. inl (c.requires.whole f m);
    }

pub spare_block-requires : goal.spare_block-requires
spare_block-requires c = record {
  block = rw c.loop-block.invariant.numbers (c.loop-block.invariant.tried c.in-Some.block
      (last_in c.loop-block.left.items c.pop.new.self.items c.in-Some.block c.in-Some.ensures.items));
}

pub loop-block-preserved : goal.loop-block-preserved
loop-block-preserved c =
    let N = c.args.self.now.numbers in
    let e = c.loop-block.invariant.numbers in
    let popped = shown_more N c.loop-block.left.items c.pop.new.self.items c.in-Some.block c.in-Some.ensures.items in
    let pushed = shown_more N c.push.new.self.items c.loop-block.changed.items c.in-Some.block c.in_ok-push.ensures.items in
    record {
      numbers = c.spare_block.ensures.numbers ∙ e;
      reduct = reduct_of_reduct _ _ _ c.loop-block.invariant.reduct (rw e at c.in_ok-spare_block.ensures.reduct);
      tried = λ b m. c.loop-block.invariant.tried b (others_in c.loop-block.left.items c.pop.new.self.items c.in-Some.block
          c.in-Some.ensures.items b m);
      changed = each_more c.loop-block.changed.items c.push.new.self.items c.in-Some.block c.in_ok-push.ensures.items
          (c.loop-block.invariant.tried c.in-Some.block (last_in c.loop-block.left.items c.pop.new.self.items c.in-Some.block
          c.in-Some.ensures.items)) c.loop-block.invariant.changed;
      needed = needed_more (map (shown_block N) c.args.blocks.items) (map (shown_block N) c.loop-block.left.items)
          (map (shown_block N) c.pop.new.self.items) (shown_block N c.in-Some.block) _ _ popped
          (rw e at c.in_ok-spare_block.ensures.reduct) (rw e at c.in_ok-spare_block.ensures.needed)
          c.loop-block.invariant.needed;
      rest = rest_more (facts (shown_by N)) _ _ (map (shown_block N) c.loop-block.changed.items) (map (shown_block N) c.push.new.self.items)
          (shown_block N c.in-Some.block) pushed (rw e at c.in_ok-spare_block.ensures.others) c.loop-block.invariant.rest;
    }

pub loop-block-preserved-then-not-branch : goal.loop-block-preserved-then-not-branch
loop-block-preserved-then-not-branch c =
    let N = c.args.self.now.numbers in
    let e = c.loop-block.invariant.numbers in
    let popped = shown_more N c.loop-block.left.items c.pop.new.self.items c.in-Some.block c.in-Some.ensures.items in
    record {
      numbers = c.spare_block.ensures.numbers ∙ e;
      reduct = reduct_of_reduct _ _ _ c.loop-block.invariant.reduct (rw e at c.in_ok-spare_block.ensures.reduct);
      tried = λ b m. c.loop-block.invariant.tried b (others_in c.loop-block.left.items c.pop.new.self.items c.in-Some.block
          c.in-Some.ensures.items b m);
      changed = c.loop-block.invariant.changed;
      needed = needed_more (map (shown_block N) c.args.blocks.items) (map (shown_block N) c.loop-block.left.items)
          (map (shown_block N) c.pop.new.self.items) (shown_block N c.in-Some.block) _ _ popped
          (rw e at c.in_ok-spare_block.ensures.reduct) (rw e at c.in_ok-spare_block.ensures.needed)
          c.loop-block.invariant.needed;
      rest = subst (λ (g : List (List Bool)). Each (facts (shown_by N)) (IsLeftOrIn (facts_left N g) (map (shown_block N) c.loop-block.changed.items)))
          (sym (c.in_ok-spare_block.ensures.same c.if-not-branch.true)) c.loop-block.invariant.rest;
    }

pub returns-clause-core : goal.returns-clause-core
returns-clause-core c =
    let N = c.args.self.now.numbers in
    core_left (facts (shown_by N)) (facts_left N c.loop-block.self.taken) (map (shown_block N) c.args.blocks.items)
    (map (shown_block N) c.loop-block.left.items) c.requires.blocks
    (ap (map (shown_block N)) (none_of_length c.loop-block.left.items (sym c.loop-block.left.ok.0 ∙ c.in_default.ensures.cases.0)))
    c.loop-block.invariant.reduct c.loop-block.invariant.needed
