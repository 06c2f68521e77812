-- The blocks of small instances: p(n0), p(n1) has two, and p(n0, n1) has one.
use Rattle.std.proofs.Common.{◌≡◌, ℕ, List, [], ◌∷◌, length, refl, sym, ◌∙◌, ap, subst, arith}
use Rattle.std.specs.declared.cmp.Ordering.TheVariants.{Less}
use Rattle.dx_base.specs.Members.{◌∈◌, here, there}
use Rattle.dx_model.specs.declared.values.NullId.{NullId}
use Rattle.dx_model.specs.declared.values.Value.{Value}
use Rattle.dx_model.specs.declared.values.Value.TheVariants.{Const, Null}
use Rattle.dx_model.specs.declared.facts.Fact.{Fact}
use Rattle.dx_model.specs.Values.{null_cmp}
use Rattle.dx_model.specs.Instances.{values}
use Rattle.dx_model.specs.Blocks.{Connected, itself, onward}
use Rattle.dx_blocks.specs.declared.block.Block.{Block}
use Rattle.dx_blocks.specs.Blocks.{AreBlocks, IsBlockOf, least}
use Rattle.dx_blocks.proofs.BlockLaws.{one_list}

abbrev null : ℕ → NullId
null v = record { rule = 0; var = v; row = 0 }

abbrev fact : List Value → Fact
fact row = record { table = 0; row = row }

-- ---- two facts that share no null

abbrev of_one : NullId → Fact
of_one n = fact (Null n ∷ [])

abbrev apart : List Fact
apart = of_one (null 0) ∷ of_one (null 1) ∷ []

same_in_row : (n m k : NullId) → Null m ∈ (Null n ∷ []) → Null k ∈ (Null n ∷ []) → m ≡ k
same_in_row n m k (here d) (here e) = let a : n ≡ m = cc in let b : n ≡ k = cc in sym a ∙ b
same_in_row n m k (here d) (there j) = elim j [ ]
same_in_row n m k (there i) y = elim i [ ]

one_null : (f : Fact) → f ∈ apart → (m k : NullId) → Null m ∈ f.row → Null k ∈ f.row → m ≡ k
one_null f (here e) m k x y = same_in_row (null 0) m k (subst (λ (g : Fact). Null m ∈ g.row) (sym e) x) (subst (λ (g : Fact). Null k ∈ g.row) (sym e) y)
one_null f (there (here e)) m k x y = same_in_row (null 1) m k (subst (λ (g : Fact). Null m ∈ g.row) (sym e) x) (subst (λ (g : Fact). Null k ∈ g.row) (sym e) y)
one_null f (there (there i)) m k x y = elim i [ ]

-- no null is connected with another
none_connected : {n m : NullId} → Connected apart n m → n ≡ m
none_connected itself = refl
none_connected (onward f c i x y) = none_connected c ∙ one_null f i _ _ x y

not_connected : ¬ (Connected apart (null 0) (null 1))
not_connected c = absurd (omega (arith, ap (λ (n : NullId). n.var) (none_connected c)))

of_same : (n m : NullId) → Null m ∈ (Null n ∷ []) → of_one m ≡ of_one n
of_same n m x = ap (λ (k : NullId). of_one k) (same_in_row n m n x (here refl))

fact_of : (f : Fact) → f ∈ apart → (m : NullId) → Null m ∈ f.row → of_one m ≡ f
fact_of f (here e) m x = of_same (null 0) m (subst (λ (g : Fact). Null m ∈ g.row) (sym e) x) ∙ e
fact_of f (there (here e)) m x = of_same (null 1) m (subst (λ (g : Fact). Null m ∈ g.row) (sym e) x) ∙ e
fact_of f (there (there i)) m x = elim i [ ]

abbrev own : NullId → Block
own n = record { nulls = n ∷ []; facts = of_one n ∷ [] }

own_is : (n : NullId) → Null n ∈ values apart → of_one n ∈ apart → IsBlockOf apart n (own n)
own_is n v i = record {
  nulls = λ m. ((λ j. holds m j), (λ w. here (none_connected w.1)));
  facts = λ f. ((λ j. has f j), (λ w. here (subst (λ (k : NullId). of_one k ≡ f) (sym (none_connected w.2)) (fact_of f w.0 w.1 w.3))));
  nulls_ascend = ((λ x j. elim j [ ]), tt);
  facts_ascend = ((λ x j. elim j [ ]), tt);
}
  where
    holds : (m : NullId) → m ∈ (n ∷ []) → (Null m ∈ values apart) × Connected apart n m
    holds m (here e) = subst (λ (k : NullId). (Null k ∈ values apart) × Connected apart n k) e (v, itself)
    holds m (there j) = elim j [ ]

    has : (f : Fact) → f ∈ (of_one n ∷ []) → (f ∈ apart) × (m : NullId) × Connected apart n m × (Null m ∈ f.row)
    has f (here e) = subst (λ (g : Fact). (g ∈ apart) × (m : NullId) × Connected apart n m × (Null m ∈ g.row)) e (i, n, itself, here refl)
    has f (there j) = elim j [ ]

-- each is a block of its own, in order
two_blocks : AreBlocks apart (own (null 0) ∷ own (null 1) ∷ [])
two_blocks = record {
  each = λ b j. is_own b j;
  all = λ n v. stands n v;
  ascend = ((λ n j. above n j), ((λ n j. elim j [ ]), tt));
}
  where
    is_own : (b : Block) → b ∈ (own (null 0) ∷ own (null 1) ∷ []) → (least b ∈ b.nulls) × IsBlockOf apart (least b) b
    is_own b (here e) = subst (λ (c : Block). (least c ∈ c.nulls) × IsBlockOf apart (least c) c) e (here refl, own_is (null 0) (here refl) (here refl))
    is_own b (there (here e)) = subst (λ (c : Block). (least c ∈ c.nulls) × IsBlockOf apart (least c) c) e (here refl, own_is (null 1) (there (here refl)) (there (here refl)))
    is_own b (there (there j)) = elim j [ ]

    stands : (n : NullId) → Null n ∈ values apart → (b : Block) × (b ∈ (own (null 0) ∷ own (null 1) ∷ [])) × (n ∈ b.nulls)
    stands n (here e) = (own (null 0), here refl, here (let d : null 0 ≡ n = cc in d))
    stands n (there (here e)) = (own (null 1), there (here refl), here (let d : null 1 ≡ n = cc in d))
    stands n (there (there j)) = elim j [ ]

    above : (n : NullId) → n ∈ (null 1 ∷ []) → null_cmp (null 0) n ≡ Less
    above n (here e) = subst (λ (k : NullId). null_cmp (null 0) k ≡ Less) e refl
    above n (there j) = elim j [ ]

-- they are not one block, nor is one of them left out
not_one_block : (b : Block) → ¬ (AreBlocks apart (b ∷ []))
not_one_block b a = absurd (omega (arith, ap length (one_list apart (b ∷ []) (own (null 0) ∷ own (null 1) ∷ []) a two_blocks)))

-- ---- a fact with two nulls, and one with none

abbrev both : Fact
both = fact (Null (null 0) ∷ Null (null 1) ∷ [])

abbrev bare : Fact
bare = fact (Const [] ∷ [])

abbrev together : List Fact
together = bare ∷ both ∷ []

abbrev whole : Block
whole = record { nulls = null 0 ∷ null 1 ∷ []; facts = both ∷ [] }

-- the fact connects its nulls
connected : Connected together (null 0) (null 1)
connected = onward both itself (there (here refl)) (here refl) (there (here refl))

whole_is : IsBlockOf together (null 0) whole
whole_is = record {
  nulls = λ m. ((λ j. holds m j), (λ w. is_one m w.0));
  facts = λ f. ((λ j. has f j), (λ w. is_both f w.0 w.1 w.3));
  nulls_ascend = ((λ n j. above n j), ((λ n j. elim j [ ]), tt));
  facts_ascend = ((λ x j. elim j [ ]), tt);
}
  where
    holds : (m : NullId) → m ∈ whole.nulls → (Null m ∈ values together) × Connected together (null 0) m
    holds m (here e) = subst (λ (k : NullId). (Null k ∈ values together) × Connected together (null 0) k) e (there (here refl), itself)
    holds m (there (here e)) = subst (λ (k : NullId). (Null k ∈ values together) × Connected together (null 0) k) e (there (there (here refl)), connected)
    holds m (there (there j)) = elim j [ ]

    is_one : (m : NullId) → Null m ∈ values together → m ∈ whole.nulls
    is_one m (here e) = absurd (cc)
    is_one m (there (here e)) = here (let d : null 0 ≡ m = cc in d)
    is_one m (there (there (here e))) = there (here (let d : null 1 ≡ m = cc in d))
    is_one m (there (there (there j))) = elim j [ ]

    has : (f : Fact) → f ∈ whole.facts → (f ∈ together) × (m : NullId) × Connected together (null 0) m × (Null m ∈ f.row)
    has f (here e) = subst (λ (g : Fact). (g ∈ together) × (m : NullId) × Connected together (null 0) m × (Null m ∈ g.row)) e (there (here refl), null 0, itself, here refl)
    has f (there j) = elim j [ ]

    no_null : (m : NullId) → Null m ∈ (Const [] ∷ []) → ⊥
    no_null m (here e) = absurd (cc)
    no_null m (there j) = elim j [ ]

    is_both : (f : Fact) → f ∈ together → (m : NullId) → Null m ∈ f.row → f ∈ whole.facts
    is_both f (here e) m x = absurd (no_null m (subst (λ (g : Fact). Null m ∈ g.row) (sym e) x))
    is_both f (there (here e)) m x = here e
    is_both f (there (there j)) m x = elim j [ ]

    above : (n : NullId) → n ∈ (null 1 ∷ []) → null_cmp (null 0) n ≡ Less
    above n (here e) = subst (λ (k : NullId). null_cmp (null 0) k ≡ Less) e refl
    above n (there j) = elim j [ ]

-- and is their one block; a fact without nulls stands in none
one_block : AreBlocks together (whole ∷ [])
one_block = record {
  each = λ b j. is_whole b j;
  all = λ n v. (whole, here refl, stands n v);
  ascend = ((λ n j. elim j [ ]), tt);
}
  where
    is_whole : (b : Block) → b ∈ (whole ∷ []) → (least b ∈ b.nulls) × IsBlockOf together (least b) b
    is_whole b (here e) = subst (λ (c : Block). (least c ∈ c.nulls) × IsBlockOf together (least c) c) e (here refl, whole_is)
    is_whole b (there j) = elim j [ ]

    stands : (n : NullId) → Null n ∈ values together → n ∈ whole.nulls
    stands n v = (whole_is.nulls n).1 (v, reached n v)
      where
        reached : (n : NullId) → Null n ∈ values together → Connected together (null 0) n
        reached n (here e) = absurd (cc)
        reached n (there (here e)) = subst (Connected together (null 0)) (let d : null 0 ≡ n = cc in d) itself
        reached n (there (there (here e))) = subst (Connected together (null 0)) (let d : null 1 ≡ n = cc in d) connected
        reached n (there (there (there j))) = elim j [ ]

-- no nulls, no blocks
no_blocks : AreBlocks (bare ∷ []) []
no_blocks = record {
  each = λ b j. elim j [ ];
  all = λ n v. absurd (none n v);
  ascend = tt;
}
  where
    none : (n : NullId) → Null n ∈ values (bare ∷ []) → ⊥
    none n (here e) = absurd (cc)
    none n (there j) = elim j [ ]
