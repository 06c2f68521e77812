-- Nulls and facts put into blocks.
use Rattle.std.proofs.Common.{◌≡◌, ℕ, ◌+◌, ◌<◌, ◌≤◌, List, [], ◌∷◌, ◌++◌, inl, inr, refl, sym, ◌∙◌, ap, arith}
use Rattle.std.proofs.Common.{length, get_or, set, take, replicate, length-set, get_or-set_same, get_or-set_other, append_assoc}
use Rattle.std.proofs.lemmas.Bool.{cases_eq}
use Rattle.dx_base.proofs.Members.{in_right}
use Rattle.std.proofs.lemmas.List.{take_more, take_all, length-replicate, get_or-replicate, get_or_read}
use Rattle.dx_base.specs.Members.{◌∈◌, here, Each}
use Rattle.dx_model.specs.declared.values.NullId.{NullId}
use Rattle.dx_model.specs.declared.values.Value.TheVariants.{Null}
use Rattle.dx_model.specs.declared.facts.Fact.{Fact}
use Rattle.dx_model.specs.Values.{FactsAscend, NullsAscend, null_cmp, fact_cmp, null_at}
use Rattle.std.specs.declared.cmp.Ordering.TheVariants.{Less}
use Rattle.dx_blocks.specs.declared.block.Block.{Block}
use Rattle.dx_blocks.specs.Nulls.{AreNulls, StandsIn}
use Rattle.dx_blocks.specs.Labels.{BlocksFilled, AreLabels, HasLabel, HoldsLabel, block_at}
use Rattle.dx_blocks.proofs.Connections.{connected_by}
use Rattle.dx_blocks.proofs.NullLists.{place_is_one}
use Rattle.dx_blocks.proofs.Placing.{placed_none, placed_as, placed_passed, placed_more, ascends_take, ascends_split}

abbrev at : List ℕ → ℕ → ℕ
at xs k = get_or xs k 0

abbrev NullLess : NullId → NullId → Type 0
NullLess m n = null_cmp m n ≡ Less

abbrev FactLess : Fact → Fact → Type 0
FactLess a b = fact_cmp a b ≡ Less

abbrev nulls_at : List Block → ℕ → List NullId
nulls_at bs k = (block_at bs k).nulls

abbrev facts_at : List Block → ℕ → List Fact
facts_at bs k = (block_at bs k).facts

pub no_block : Block
no_block = record { nulls = []; facts = [] }

-- ---- blocks without nulls and facts

pub start_filled : (ns : List NullId) (labels : List ℕ) (bs : List Block) → bs ≡ replicate (length ns) (record { nulls = []; facts = [] })
    → BlocksFilled ns labels [] [] bs
start_filled ns labels bs e = record {
  many = rw e (length-replicate (length ns) (record { nulls = []; facts = [] }));
  nulls = placed_none NullLess (HasLabel ns labels) (nulls_at bs) (length ns) (λ k h. ap (λ (b : Block). b.nulls) (empty k h));
  facts = placed_none FactLess (HoldsLabel ns labels) (facts_at bs) (length ns) (λ k h. ap (λ (b : Block). b.facts) (empty k h));
}
  where
    empty : (k : ℕ) → k < length ns → block_at bs k ≡ record { nulls = []; facts = [] }
    empty k h = rw e (get_or-replicate (length ns) k (record { nulls = []; facts = [] }) (record { nulls = []; facts = [] }) h)

-- ---- one block changed

module _ (bs : List Block) (l : ℕ) (b : Block) (h : l < length bs) where
  changed : (k : ℕ) → k ≡ l → block_at (set bs l b) k ≡ b
  changed k e = rw e (get_or-set_same bs l b (record { nulls = []; facts = [] }) h)

  kept : (k : ℕ) → ¬ (k ≡ l) → block_at (set bs l b) k ≡ block_at bs k
  kept k n = get_or-set_other bs l k b (record { nulls = []; facts = [] }) n

  facts_stay : b.facts ≡ facts_at bs l → (k : ℕ) → facts_at (set bs l b) k ≡ facts_at bs k
  facts_stay e k = elim (cases_eq k l) [
    | inl d ↦ ap (λ (c : Block). c.facts) (changed k d) ∙ (e ∙ ap (facts_at bs) (sym d))
    | inr n ↦ ap (λ (c : Block). c.facts) (kept k n)
  ]

  nulls_stay : b.nulls ≡ nulls_at bs l → (k : ℕ) → nulls_at (set bs l b) k ≡ nulls_at bs k
  nulls_stay e k = elim (cases_eq k l) [
    | inl d ↦ ap (λ (c : Block). c.nulls) (changed k d) ∙ (e ∙ ap (nulls_at bs) (sym d))
    | inr n ↦ ap (λ (c : Block). c.nulls) (kept k n)
  ]

-- ---- one null more

pub null_put : (A held : List Fact) (ns some : List NullId) (labels : List ℕ) (bs : List Block) (i : ℕ) (b : Block)
    → NullsAscend ns → AreLabels A ns labels → i < length ns → BlocksFilled ns labels some held bs → Each some (λ y. NullLess y (null_at ns i))
    → b.nulls ≡ nulls_at bs (at labels i) ++ null_at ns i ∷ [] → b.facts ≡ facts_at bs (at labels i)
    → BlocksFilled ns labels (some ++ null_at ns i ∷ []) held (set bs (at labels i) b)
null_put A held ns some labels bs i b up g h f after en ef = record {
  many = length-set bs l b ∙ f.many;
  nulls =
      placed_more NullLess (HasLabel ns labels) (nulls_at bs) (nulls_at (set bs l b)) (length ns) l some (null_at ns i)
      f.nulls (record { place = i; within = h; is = refl; labelled = refl }) only after
      (λ k e. ap (λ (c : Block). c.nulls) (changed bs l b inside k e) ∙ (en ∙ ap (λ z. nulls_at bs z ++ null_at ns i ∷ []) (sym e)))
      (λ k n. ap (λ (c : Block). c.nulls) (kept bs l b inside k n));
  facts = placed_as FactLess (HoldsLabel ns labels) (facts_at bs) (facts_at (set bs l b)) (length ns) held
      (λ k m. facts_stay bs l b inside ef k) f.facts;
}
  where
    l : ℕ
    l = at labels i

    inside : l < length bs
    inside = let e = f.many in let w = g.least i h in omega arith

    only : (k : ℕ) → HasLabel ns labels k (null_at ns i) → k ≡ l
    only k w = sym w.labelled ∙ ap (at labels) (place_is_one ns up w.place i w.within h w.is)

pub null_filled : (A : List Fact) (ns : List NullId) (labels : List ℕ) (bs : List Block) (i : ℕ) (b : Block)
    → AreNulls A ns → AreLabels A ns labels → i < length ns → BlocksFilled ns labels (take i ns) [] bs
    → b.nulls ≡ nulls_at bs (at labels i) ++ null_at ns i ∷ [] → b.facts ≡ facts_at bs (at labels i)
    → BlocksFilled ns labels (take (i + 1) ns) [] (set bs (at labels i) b)
null_filled A ns labels bs i b a g h f en ef = rw (take_more ns i none h)
    (null_put A [] ns (take i ns) labels bs i b a.ascend g h f (ascends_take NullLess ns i none h a.ascend) en ef)
  where
    none : NullId
    none = record { rule = 0; var = 0; row = 0 }

pub nulls_filled : (ns : List NullId) (labels : List ℕ) (bs : List Block) (i : ℕ) → length ns ≤ i → BlocksFilled ns labels (take i ns) [] bs
    → BlocksFilled ns labels ns [] bs
nulls_filled ns labels bs i h f = rw (take_all i ns h) at f

-- ---- one fact more

-- all nulls of a fact have one label
one_label : (A : List Fact) (ns : List NullId) (labels : List ℕ) (f : Fact) (p k : ℕ) → AreLabels A ns labels → f ∈ A → StandsIn ns f.row p
    → HoldsLabel ns labels k f → k ≡ at labels p
one_label A ns labels f p k g m s w =
    let v = w.2 in
    sym v.labelled ∙ (g.exactly v.place p v.within s.within).1 (connected_by f m (rw v.is w.1) s.there)

module _ (A : List Fact) (ns some : List NullId) (labels : List ℕ) (bs : List Block) (done rest : List Fact) (f : Fact)
    (e : done ++ f ∷ rest ≡ A) (x : BlocksFilled ns labels some done bs) where
  pub fact_filled : (p : ℕ) (b : Block) → AreLabels A ns labels → FactsAscend A → StandsIn ns f.row p
      → b.facts ≡ facts_at bs (at labels p) ++ f ∷ [] → b.nulls ≡ nulls_at bs (at labels p)
      → BlocksFilled ns labels some (done ++ f ∷ []) (set bs (at labels p) b)
  fact_filled p b g up s ef en = record {
    many = length-set bs l b ∙ x.many;
    nulls = placed_as NullLess (HasLabel ns labels) (nulls_at bs) (nulls_at (set bs l b)) (length ns) some
        (λ k m. nulls_stay bs l b inside en k) x.nulls;
    facts = placed_more FactLess (HoldsLabel ns labels) (facts_at bs) (facts_at (set bs l b)) (length ns) l done f
        x.facts (null_at ns p, s.there, record { place = p; within = s.within; is = refl; labelled = refl })
        (λ k w. one_label A ns labels f p k g (rw (← e) (in_right done (here refl))) s w)
        (ascends_split FactLess done f rest (rw e up))
        (λ k d. ap (λ (c : Block). c.facts) (changed bs l b inside k d) ∙ (ef ∙ ap (λ z. facts_at bs z ++ f ∷ []) (sym d)))
        (λ k n. ap (λ (c : Block). c.facts) (kept bs l b inside k n));
  }
    where
      l : ℕ
      l = at labels p

      inside : l < length bs
      inside = let q = x.many in let w = g.least p s.within in let i = s.within in omega arith

  pub fact_passed : ((n : NullId) → ¬ (Null n ∈ f.row)) → BlocksFilled ns labels some (done ++ f ∷ []) bs
  fact_passed none = record {
    many = x.many;
    nulls = x.nulls;
    facts = placed_passed FactLess (HoldsLabel ns labels) (facts_at bs) (length ns) done f (λ k w. none w.0 w.1) x.facts;
  }

-- ---- one step of the loop over facts

-- the facts in front of the rest are put into blocks
abbrev pub FilledTo : List NullId → List ℕ → List Fact → List Fact → List Block → Type 0
FilledTo ns labels start rest bs = (done : List Fact) × (done ++ rest ≡ start) × BlocksFilled ns labels ns done bs

module _ (A : List Fact) (ns : List NullId) (labels : List ℕ) (bs : List Block) (start rest next : List Fact) (f : Fact)
    (i : FilledTo ns labels start rest bs) (s : rest ≡ f ∷ next) (g : start ≡ A) where
  split : i.0 ++ f ∷ next ≡ A
  split = ap (λ z. i.0 ++ z) (sym s) ∙ (i.1 ∙ g)

  after : (i.0 ++ f ∷ []) ++ next ≡ start
  after = append_assoc (i.0) (f ∷ []) next ∙ (ap (λ z. i.0 ++ z) (sym s) ∙ i.1)

  pub is_there : f ∈ A
  is_there = rw (← split) (in_right i.0 (here refl))

  pub step_passed : ((n : NullId) → ¬ (Null n ∈ f.row)) → FilledTo ns labels start next bs
  step_passed none = (i.0 ++ f ∷ [], after, fact_passed A ns ns labels bs i.0 next f split i.2 none)

  pub step_filled : (p : ℕ) (b r : Block) → AreLabels A ns labels → FactsAscend A → StandsIn ns f.row p → r ≡ get_or bs (at labels p) r
      → b.facts ≡ (get_or bs (at labels p) r).facts ++ f ∷ [] → b.nulls ≡ (get_or bs (at labels p) r).nulls
      → FilledTo ns labels start next (set bs (at labels p) b)
  step_filled p b r l up st e ef en = (
    i.0 ++ f ∷ [],
    after,
    fact_filled A ns ns labels bs i.0 next f split i.2 p b l up st (ef ∙ ap (λ (c : Block). c.facts ++ f ∷ []) same)
        (en ∙ ap (λ (c : Block). c.nulls) same),
  )
    where
      inside : at labels p < length bs
      inside = let q = i.2.many in let w = l.least p st.within in let k = st.within in omega arith

      same : get_or bs (at labels p) r ≡ block_at bs (at labels p)
      same = sym e ∙ get_or_read bs (at labels p) r inside e (record { nulls = []; facts = [] })
