-- Blocks that are filled are the blocks of their facts.
use Rattle.std.proofs.Common.{◌≡◌, ℕ, suc, ◌<◌, true, List, [], ◌∷◌, inl, inr, refl, sym, ◌∙◌, ap, subst, arith}
use Rattle.std.proofs.Common.{nat_lt, length, get_or, map}
use Rattle.std.specs.Prelude.{◌↔◌}
use Rattle.std.specs.List.{filter}
use Rattle.std.specs.declared.cmp.Ordering.{Ordering}
use Rattle.std.specs.declared.cmp.Ordering.TheVariants.{Less, Equal, Greater}
use Rattle.std.proofs.lemmas.Bool.{cases_Bool, cases_order, lt-ltb, ltb-true}
use Rattle.dx_base.specs.Members.{◌∈◌, here, there, Each}
use Rattle.dx_base.proofs.Members.{in_at, in_flat_map, from_map}
use Rattle.dx_model.specs.declared.values.NullId.{NullId}
use Rattle.dx_model.specs.declared.values.Value.TheVariants.{Null}
use Rattle.dx_model.specs.declared.facts.Fact.{Fact}
use Rattle.dx_model.specs.Values.{NullsAscend, null_cmp, null_at}
use Rattle.dx_model.specs.Instances.{values}
use Rattle.dx_model.proofs.Lists.{in_filter}
use Rattle.dx_model.proofs.Orders.{null_total, null_exact}
use Rattle.std.specs.Ordering.{ordering_reverse}
use Rattle.dx_base.proofs.Tests.{from_filter}
use Rattle.dx_blocks.specs.declared.block.Block.{Block}
use Rattle.dx_blocks.specs.Blocks.{AreBlocks, IsBlockOf, least}
use Rattle.dx_model.specs.Blocks.{Connected}
use Rattle.dx_blocks.specs.Labels.{BlocksFilled, AreLabels, block_at, has_nulls}
use Rattle.dx_blocks.proofs.NullLists.{ascends_at, place_there, not_less}
use Rattle.dx_blocks.proofs.Connections.{connected_there}
use Rattle.dx_blocks.proofs.Labelling.{Knows}

abbrev no_null : NullId
no_null = record { rule = 0; var = 0; row = 0 }

-- ---- lists of nulls

-- the first of an ascending list is a member that is below no other
pub first_in : (ns : List NullId) (d n : NullId) → n ∈ ns → get_or ns 0 d ∈ ns
first_in [] d n m = elim m [ ]
first_in (x ∷ ns) d n m = here refl

first_below : (ns : List NullId) (d n : NullId) → NullsAscend ns → n ∈ ns → ¬ (null_cmp n (get_or ns 0 d) ≡ Less)
first_below [] d n a m = elim m [ ]
first_below (x ∷ ns) d n a (here e) = λ l. not_less n (rw e at l)
first_below (x ∷ ns) d n a (there m) = λ l. not_less n (null_total.trans n x n l (a.0 n m))

-- of two nulls, neither below the other, each is the other
not_apart : (m n : NullId) → ¬ (null_cmp m n ≡ Less) → ¬ (null_cmp n m ≡ Less) → m ≡ n
not_apart m n a b = by_order (null_cmp m n) refl
  where
    by_order : (o : Ordering) → null_cmp m n ≡ o → m ≡ n
    by_order Less e = absurd (a e)
    by_order Equal e = null_exact m n e
    by_order Greater e = absurd (b (null_total.antisymm n m ∙ ap ordering_reverse e))

-- ---- filled blocks

module _ (A : List Fact) (ns some : List NullId) (labels : List ℕ) (bs : List Block) (up : NullsAscend ns) (known : Knows A ns)
    (a : (n : NullId) → (n ∈ some) ↔ (Null n ∈ values A)) (g : AreLabels A ns labels) (f : BlocksFilled ns labels some A bs) where
  abbrev at : List ℕ → ℕ → ℕ
  at xs k = get_or xs k 0

  listed : (m : NullId) → Null m ∈ values A → (k : ℕ) × (k < length ns) × (null_at ns k ≡ m)
  listed m v = place_there ns m (known m v)

  -- a block with a null has the label of its place, and the null of that place as its least
  module _ (k : ℕ) (h : k < length ns) (m : NullId) (i : m ∈ (block_at bs k).nulls) where
    own : at labels k ≡ k
    own = let w = ((f.nulls k h).1 m).0 i in let e = g.itself w.1.place w.1.within in ap (at labels) (sym w.1.labelled) ∙ (e ∙ w.1.labelled)

    has_own : null_at ns k ∈ (block_at bs k).nulls
    has_own =
        let w = ((f.nulls k h).1 m).0 i in
        let c : Connected A (null_at ns k) m = rw w.1.is at ((g.exactly k w.1.place h w.1.within).0 (own ∙ sym w.1.labelled)) in
        let v = connected_there c ((a m).0 w.0) in
        ((f.nulls k h).1 (null_at ns k)).1 ((a (null_at ns k)).1 v, record { place = k; within = h; is = refl; labelled = own })

    -- its nulls are not before that of its place
    after_own : (n : NullId) → n ∈ (block_at bs k).nulls → ¬ (null_cmp n (null_at ns k) ≡ Less)
    after_own n j l =
        let w = ((f.nulls k h).1 n).0 j in
        let low = g.least w.1.place w.1.within in
        elim (cases_order w.1.place k) [
          | inl e ↦ not_less (null_at ns k) (rw (sym w.1.is ∙ ap (null_at ns) e) at l)
          | inr o ↦ elim o [
            | inl u ↦ (let e = w.1.labelled in absurd (omega arith))
            | inr u ↦
                let up = ascends_at (λ m n. null_cmp m n ≡ Less) ns up k w.1.place no_null u w.1.within in
                not_less n (null_total.trans n (null_at ns k) n l (rw w.1.is at up))
          ]
        ]

    least_is : least (block_at bs k) ≡ null_at ns k
    least_is = not_apart (least (block_at bs k)) (null_at ns k)
        (after_own (least (block_at bs k)) (first_in (block_at bs k).nulls _ m i))
        (first_below (block_at bs k).nulls _ (null_at ns k) (f.nulls k h).0 has_own)

    of_own : IsBlockOf A (null_at ns k) (block_at bs k)
    of_own = record {
      nulls = λ n. (
        (λ j.
            let w = ((f.nulls k h).1 n).0 j in
            ((a n).0 w.0, rw w.1.is at ((g.exactly k w.1.place h w.1.within).0 (own ∙ sym w.1.labelled)))),
        (λ v.
            let p = listed n v.0 in
            let e = (g.exactly k p.0 h p.1).1 (rw p.2 v.1) in
            ((f.nulls k h).1 n).1 ((a n).1 v.0, record { place = p.0; within = p.1; is = p.2; labelled = sym e ∙ own })),
      );
      facts = λ e. (
        (λ j.
            let w = ((f.facts k h).1 e).0 j in
            let v = w.1.2 in
            (w.0, w.1.0, rw v.is at ((g.exactly k v.place h v.within).0 (own ∙ sym v.labelled)), w.1.1)),
        (λ v.
            let p = listed v.1 (in_flat_map (λ (d : Fact). d.row) v.0 v.3) in
            let q = (g.exactly k p.0 h p.1).1 (rw p.2 v.2) in
            ((f.facts k h).1 e).1 (v.0, (v.1, v.3, record { place = p.0; within = p.1; is = p.2; labelled = sym q ∙ own }))),
      );
      nulls_ascend = (f.nulls k h).0;
      facts_ascend = (f.facts k h).0;
    }

-- ---- those that have nulls

any : (ns : List NullId) → nat_lt 0 (length ns) ≡ true → get_or ns 0 (record { rule = 0; var = 0; row = 0 }) ∈ ns
any [] e = absurd (omega (arith, ltb-true 0 0 e))
any (n ∷ ns) e = here refl

there_is : (ns : List NullId) (n : NullId) → n ∈ ns → nat_lt 0 (length ns) ≡ true
there_is [] n m = elim m [ ]
there_is (x ∷ ns) n m = lt-ltb 0 (length (x ∷ ns)) (omega arith)

block_there : (bs : List Block) (b : Block) → b ∈ bs → (k : ℕ) × (k < length bs) × (block_at bs k ≡ b)
block_there [] b m = elim m [ ]
block_there (x ∷ bs) b (here e) = (0, omega arith, e)
block_there (x ∷ bs) b (there m) = let w = block_there bs b m in (suc w.0, omega (arith, w.1), w.2)

-- the least nulls of the blocks with nulls ascend
abbrev LeastsAscend : List Block → Type 0
LeastsAscend bs =
    (i j : ℕ) → i < j → j < length bs → has_nulls (block_at bs i) ≡ true → has_nulls (block_at bs j) ≡ true
    → null_cmp (least (block_at bs i)) (least (block_at bs j)) ≡ Less

least_first : (b : Block) (bs : List Block) → LeastsAscend (b ∷ bs) → has_nulls b ≡ true
    → (n : NullId) → n ∈ map least (filter has_nulls bs) → null_cmp (least b) n ≡ Less
least_first b bs up t n m =
    let w = from_map least (filter has_nulls bs) m in
    let v = from_filter has_nulls bs w.1 in
    let k = block_there bs w.0 v.0 in
    let l = up 0 (suc k.0) (omega arith) (omega (arith, k.1)) t (ap has_nulls k.2 ∙ v.1) in
    rw (← w.2) (rw k.2 at l)

leasts_ascend : (bs : List Block) → LeastsAscend bs → NullsAscend (map least (filter has_nulls bs))
leasts_ascend [] up = tt
leasts_ascend (c ∷ bs) up = elim (cases_Bool (has_nulls c)) [
  | inl t ↦ rw t (least_first c bs up t, leasts_ascend bs (λ i j h k. up (suc i) (suc j) (omega arith) (omega arith)))
  | inr f ↦ rw f (leasts_ascend bs (λ i j h k. up (suc i) (suc j) (omega arith) (omega arith)))
]

module _ (A : List Fact) (ns some : List NullId) (labels : List ℕ) (bs : List Block) (up : NullsAscend ns) (known : Knows A ns)
    (a : (n : NullId) → (n ∈ some) ↔ (Null n ∈ values A)) (g : AreLabels A ns labels) (f : BlocksFilled ns labels some A bs) where
  least_here : (k : ℕ) → k < length bs → has_nulls (block_at bs k) ≡ true → least (block_at bs k) ≡ null_at ns k
  least_here k h t = least_is A ns some labels bs up known a g f k (rw (← f.many) h) (least (block_at bs k)) (any (block_at bs k).nulls t)

  pub filled_are : AreBlocks A (filter has_nulls bs)
  filled_are = record { each = each; all = all; ascend = leasts_ascend bs rise }
    where
      rise : LeastsAscend bs
      rise i j h k s t =
          rw (least_here i (omega arith) s, least_here j k t)
          (ascends_at (λ m n. null_cmp m n ≡ Less) ns up i j _ h (rw (← f.many) k))

      each : Each (filter has_nulls bs) (λ b. (least b ∈ b.nulls) × IsBlockOf A (least b) b)
      each b m =
          let v = from_filter has_nulls bs m in
          let k = block_there bs b v.0 in
          let t : has_nulls (block_at bs k.0) ≡ true = ap has_nulls k.2 ∙ v.1 in
          let i = any (block_at bs k.0).nulls t in
          let o = of_own A ns some labels bs up known a g f k.0 (rw (← f.many) k.1) _ i in
          subst (λ (c : Block). (least c ∈ c.nulls) × IsBlockOf A (least c) c) k.2
          (i, rw (least_here k.0 k.1 t) o)

      all : (n : NullId) → Null n ∈ values A → (b : Block) × (b ∈ filter has_nulls bs) × (n ∈ b.nulls)
      all n v =
          let p = place_there ns n (known n v) in
          let k = get_or labels p.0 0 in
          let low = g.least p.0 p.1 in
          let h : k < length ns = omega (arith, p.1) in
          let i = ((f.nulls k h).1 n).1 ((a n).1 v, record { place = p.0; within = p.1; is = p.2; labelled = refl }) in
          (block_at bs k, in_filter has_nulls bs (there_is (block_at bs k).nulls n i) (in_at bs k _ (rw f.many h)), i)
