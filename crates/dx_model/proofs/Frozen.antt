-- A rule follows from others exactly where its frozen premise gives its conclusion.
use Rattle.std.proofs.Common.{◌≡◌, ℕ, suc, ◌+◌, ◌<◌, ◌≤◌, true, false, List, [], ◌∷◌, ◌++◌, length, inl, inr, refl, sym, ◌∙◌, ap, Option, None, Some, arith}
use Rattle.std.specs.Prelude.{◌^◌, map, flat_map}
use Rattle.std.specs.Str.{bytes_eq}
use Rattle.std.specs.List.{find}
use Rattle.std.specs.Fmt.{decimal}
use Rattle.std.proofs.lemmas.Fmt.{decimal_injective}
use Rattle.std.proofs.lemmas.Slice.Eq.{bytes_eq-Decides}
use Rattle.std.proofs.lemmas.List.{length-append}
use Rattle.dx_model.specs.declared.values.NullId.{NullId}
use Rattle.dx_model.specs.declared.values.Value.{Value}
use Rattle.dx_model.specs.declared.values.Value.TheVariants.{Const, Null}
use Rattle.dx_model.specs.declared.facts.Fact.{Fact}
use Rattle.dx_model.specs.declared.rules.Cell.{Cell}
use Rattle.dx_model.specs.declared.rules.Cell.TheVariants.{Var, Ex, Lit}
use Rattle.dx_model.specs.declared.rules.Atom.{Atom}
use Rattle.dx_model.specs.declared.rules.Rule.{Rule}
use Rattle.dx_base.specs.Members.{◌∈◌, here, there}
use Rattle.dx_model.specs.Rules.{cell_value, fact_of_atom, cells_of, AreRows, canonical, premise_fact, IsMatch}
use Rattle.dx_base.proofs.Members.{from_map, in_map, in_left, in_right, in_flat_map, from_flat_map, from_append}
use Rattle.dx_model.specs.Following.{Follows, frozen, CanBeFrozen, frozen_text, IsClean}
use Rattle.dx_model.specs.Fitting.{ByFirstAppearance, IsVariable, cell_variable, premise_variables, IsRule}
use Rattle.dx_model.specs.Covers.{below}
use Rattle.dx_model.specs.Laws.{FollowsByFrozen, FollowsByPrefix}
use Rattle.dx_model.specs.Instances.{both, fact_both}
use Rattle.dx_model.proofs.Canonical.{atom_both, canonical_moves}
use Rattle.dx_model.proofs.Universal.{canonical_satisfies}
use Rattle.dx_model.proofs.Lists.{find_some, find_none, in_below, from_below}
use Rattle.dx_model.proofs.RowsExist.{below_after}

module _ (convert : ℕ → List (List ℕ) → List ℕ) (freeze : ℕ → List ℕ) (thaw : List ℕ → Option ℕ) (d : Rule)
    (back : (x : ℕ) → Var x ∈ cells_of (d.premise ++ d.conclusion) → thaw (freeze x) ≡ Some x) (dp : CanBeFrozen thaw d) where
  -- the frozen texts become those of a match, and the others stay
  by_thaw : (ℕ → List ℕ) → List ℕ → Option ℕ → List ℕ
  by_thaw texts t None = t
  by_thaw texts t (Some x) = texts x

  thawed : (ℕ → List ℕ) → List ℕ → List ℕ
  thawed texts t = by_thaw texts t (thaw t)

  thawed_frozen : (texts : ℕ → List ℕ) (x : ℕ) → Var x ∈ cells_of (d.premise ++ d.conclusion) → thawed texts (freeze x) ≡ texts x
  unfolding thawed by_thaw
  thawed_frozen texts x m = rw (back x m) refl

  thawed_plain : (texts : ℕ → List ℕ) (t : List ℕ) → thaw t ≡ None → thawed texts t ≡ t
  unfolding thawed by_thaw
  thawed_plain texts t e = rw e refl

  -- a premise's cells, thawed
  row_thawed : (texts : ℕ → List ℕ) (cs : List Cell) (t : ℕ → List ℕ) → ((c : Cell) → c ∈ cs → (x : ℕ) × (c ≡ Var x))
      → map (both (thawed texts) Null) (map (cell_value t (λ _. Const [])) cs) ≡ map (cell_value (λ x. thawed texts (t x)) (λ _. Const [])) cs
  row_thawed texts [] t v = refl
  row_thawed texts (c ∷ cs) t v =
      let w = v c (here refl) in
      let k = row_thawed texts cs t (λ y m. v y (there m)) in
      rw w.1 (cc)

  -- a match in the frozen premise, thawed, is a match wherever the rule has one
  match_thawed : (I : List Fact) (texts : ℕ → List ℕ) (w : IsMatch convert d I texts) (r : Rule) → CanBeFrozen thaw r → (t : ℕ → List ℕ)
      → IsMatch convert r (frozen freeze d) t → IsMatch convert r I (λ x. thawed texts (t x))
  match_thawed I texts w r rp t m = record {
    premise = λ a i.
        let b = from_map (premise_fact freeze) d.premise (m.premise a i) in
        let f : fact_both (thawed texts) Null (premise_fact t a) ≡ premise_fact (λ x. thawed texts (t x)) a =
        (let e = row_thawed texts a.cells t (rp.variables a i) in λ j. record { table = a.table; row = e j }) in
        let g : fact_both (thawed texts) Null (premise_fact freeze b.0) ≡ premise_fact texts b.0 =
        (let e = row_thawed texts b.0.cells freeze (dp.variables b.0 b.1) ∙ frozen_cells texts b.0.cells (λ x n. in_flat_map (λ (a : Atom). a.cells) (in_left d.conclusion b.1) n) in λ j. record { table = b.0.table; row = e j }) in
        rw (sym f ∙ (ap (fact_both (thawed texts) Null) (sym b.2) ∙ g)) (w.premise b.0 b.1);
    derived = rw rp.derived tt;
  }
    where
      frozen_cells : (texts : ℕ → List ℕ) (cs : List Cell) → ((x : ℕ) → Var x ∈ cs → Var x ∈ cells_of (d.premise ++ d.conclusion))
          → map (cell_value (λ x. thawed texts (freeze x)) (λ _. Const [])) cs ≡ map (cell_value texts (λ _. Const [])) cs
      frozen_cells texts [] h = refl
      frozen_cells texts (Var x ∷ cs) h = let e = thawed_frozen texts x (h x (here refl)) in let k = frozen_cells texts cs (λ y m. h y (there m)) in cc
      frozen_cells texts (Ex x ∷ cs) h = let k = frozen_cells texts cs (λ y m. h y (there m)) in cc
      frozen_cells texts (Lit x ∷ cs) h = let k = frozen_cells texts cs (λ y m. h y (there m)) in cc

  sufficient : (R : List Rule) (rows : List (List (List (List ℕ)))) → ((r : Rule) → r ∈ R → CanBeFrozen thaw r) → AreRows convert R (frozen freeze d) rows
      → (values : ℕ → Value) → ((a : Atom) → a ∈ d.conclusion → fact_of_atom freeze values a ∈ canonical 0 R rows) → Follows convert R d
  sufficient R rows p a values c I K s texts w =
      let G = canonical_moves convert R (frozen freeze d) I K rows (thawed texts) a
      (λ r m b n t l. thawed_plain texts t ((p r m).literals b n t l)) (λ r m. match_thawed I texts w r (p r m)) s in
      let g : NullId → Value = G.0 in (
        (λ v. both (thawed texts) g (values v)),
        λ b m.
            let e = atom_both (thawed texts) g freeze texts values (λ v. both (thawed texts) g (values v)) b (λ x n. thawed_frozen texts x (in_flat_map (λ (a : Atom). a.cells) (in_right d.premise m) n)) (λ t n. thawed_plain texts t (dp.literals b m t n)) (λ x. refl) in
            rw (sym e) (G.1 _ (c b m)),
      )

pub follows_by_frozen : FollowsByFrozen
follows_by_frozen convert freeze thaw R d rows back dp p a = (
  (λ h. h (frozen freeze d) (canonical 0 R rows) (λ r m. canonical_satisfies convert (frozen freeze d) 0 R rows (canonical 0 R rows) a (λ f k. k) r m)
      freeze (record { premise = λ b m. in_map (premise_fact freeze) m; derived = rw dp.derived tt })),
  (λ w. sufficient convert freeze thaw d back dp R rows p a w.0 w.1),
)

-- ---- a prefix and digits

-- there are no more variables than places at which they are numbered
pub few_numbered : (n m : ℕ) (xs : List ℕ) → ByFirstAppearance n xs m → m ≤ n + length xs
few_numbered n m [] e = omega (arith, e)
few_numbered n m (x ∷ xs) (inl (l, r)) = let i = few_numbered n m xs r in omega (arith, i)
few_numbered n m (x ∷ xs) (inr (e, r)) = let i = few_numbered (suc n) m xs r in omega (arith, i)

few_in_cell : (c : Cell) → length (cell_variable c) ≤ 1
few_in_cell (Var x) = omega arith
few_in_cell (Ex v) = omega arith
few_in_cell (Lit t) = omega arith

pub few_in_cells : (cs : List Cell) → length (flat_map cell_variable cs) ≤ length cs
few_in_cells [] = omega arith
few_in_cells (c ∷ cs) = let a = few_in_cell c in let b = few_in_cells cs in let e = length-append (cell_variable c) (flat_map cell_variable cs) in omega (arith, a, b, e)

few_variables : (d : Rule) → IsRule d → premise_variables d < 2 ^ 64
few_variables d r =
    let a = few_numbered 0 (premise_variables d) (flat_map cell_variable (cells_of d.premise)) r.numbered in
    let b = few_in_cells (cells_of d.premise) in
    let c = r.few_variables in
    omega (arith, a, b, c)

prefix_back : (prefix s t : List ℕ) → prefix ++ s ≡ prefix ++ t → s ≡ t
prefix_back [] s t e = e
prefix_back (b ∷ prefix) s t e = prefix_back prefix s t (cc)

module _ (prefix : List ℕ) (n : ℕ) (small : n < 2 ^ 64) where
  -- the variable below n that a text stands for
  thaw_below : List ℕ → Option ℕ
  thaw_below t = find (λ x. bytes_eq (frozen_text prefix x) t) (below n)

  thaws : (x : ℕ) → x < n → thaw_below (frozen_text prefix x) ≡ Some x
  unfolding thaw_below
  thaws x h = go (find (λ y. bytes_eq (frozen_text prefix y) (frozen_text prefix x)) (below n)) refl
    where
      clash : false ≡ true → ⊥
      clash e = cc

      go : (o : Option ℕ) → find (λ y. bytes_eq (frozen_text prefix y) (frozen_text prefix x)) (below n) ≡ o → o ≡ Some x
      go None e =
          absurd (clash (sym (find_none (λ y. bytes_eq (frozen_text prefix y) (frozen_text prefix x)) {x = x} (below n) e (in_below x n h)) ∙ (bytes_eq-Decides (frozen_text prefix x) (frozen_text prefix x)).1 refl))
      go (Some y) e =
          let w = find_some (λ y. bytes_eq (frozen_text prefix y) (frozen_text prefix x)) y (below n) e in
          let l = from_below y n w.0 in
          let d = prefix_back prefix (decimal y) (decimal x) ((bytes_eq-Decides (frozen_text prefix y) (frozen_text prefix x)).0 w.1) in
          ap Some (decimal_injective y x (omega (arith, l, small)) (omega (arith, h, small)) d)

  thaws_none : (t : List ℕ) → ((rest : List ℕ) → ¬ (t ≡ prefix ++ rest)) → thaw_below t ≡ None
  unfolding thaw_below
  thaws_none t clean = go (find (λ y. bytes_eq (frozen_text prefix y) t) (below n)) refl
    where
      go : (o : Option ℕ) → find (λ y. bytes_eq (frozen_text prefix y) t) (below n) ≡ o → o ≡ None
      go None e = refl
      go (Some y) e =
          let w = find_some (λ y. bytes_eq (frozen_text prefix y) t) y (below n) e in
          absurd (clean (decimal y) (sym ((bytes_eq-Decides (frozen_text prefix y) t).0 w.1)))

  plain_by : (r : Rule) → IsRule r × (r.derived ≡ []) × IsClean prefix r → CanBeFrozen thaw_below r
  plain_by r h = record {
    derived = h.1;
    variables = λ a m c k. variable_of c (h.0.plain a m c k);
    literals = λ a m t k. thaws_none t (h.2 a m t k);
  }
    where
      variable_of : (c : Cell) → IsVariable c → (x : ℕ) × (c ≡ Var x)
      variable_of (Var x) v = (x, refl)
      variable_of (Ex x) v = absurd v
      variable_of (Lit t) v = absurd v

-- the variables of a rule without derived variables are those of its premise
within : (d : Rule) → IsRule d → d.derived ≡ [] → (x : ℕ) → Var x ∈ cells_of (d.premise ++ d.conclusion) → x < premise_variables d
within d r none x m =
    let w = from_flat_map (λ (a : Atom). a.cells) (d.premise ++ d.conclusion) m in
    elim (from_append d.premise w.1) [
      | inl k ↦ below_after x (cells_of d.premise) (in_flat_map (λ (a : Atom). a.cells) k w.2)
      | inr k ↦ let b = r.known x (in_flat_map (λ (a : Atom). a.cells) k w.2) in let e = ap length none in omega (arith, b, e)
    ]

pub follows_by_prefix : FollowsByPrefix
follows_by_prefix convert prefix R d rows each a =
    let h = each d (here refl) in
    let n : ℕ = premise_variables d in
    let small = few_variables d h.0 in
    follows_by_frozen convert (frozen_text prefix) (thaw_below prefix n small) R d rows (λ x m. thaws prefix n small x (within d h.0 h.1 x m))
    (plain_by prefix n small d h) (λ r m. plain_by prefix n small r (each r (there m))) a
