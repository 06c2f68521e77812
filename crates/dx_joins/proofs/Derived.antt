-- Derived variables: over texts, and collected as rows of numbers.
use Rattle.std.proofs.Common.{◌≡◌, ◌∙◌, ◌<◌, ◌≤◌, ◌+◌, ◌-◌, ◌++◌, ◌∷◌, ℕ, suc, cond, List, [], true, false, refl, sym, ap, subst, arith, length, get_or, inl, inr}
use Rattle.std.specs.Prelude.{map, nat_lt}
use Rattle.std.specs.List.{range_with_len}
use Rattle.std.proofs.lemmas.Bool.{cases_Bool, cond-true, cond-false, ltb-true, ltb-false}
use Rattle.std.proofs.lemmas.List.{map-append, length-map}
use Rattle.dx_base.specs.Members.{◌∈◌, ◌⊆◌, here, there, Each}
use Rattle.dx_base.proofs.Members.{in_flat_map}
use Rattle.dx_base.proofs.Tests.{map_same}
use Rattle.dx_model.specs.declared.facts.Fact.{Fact}
use Rattle.dx_model.specs.declared.rules.Cell.{Cell}
use Rattle.dx_model.specs.declared.rules.Cell.TheVariants.{Var, Ex, Lit}
use Rattle.dx_model.specs.declared.values.Value.TheVariants.{Const}
use Rattle.dx_model.specs.declared.rules.Atom.{Atom}
use Rattle.dx_model.specs.declared.rules.Derived.{Derived}
use Rattle.dx_model.specs.Values.{Conversions, Tuple}
use Rattle.dx_base.specs.Texts.{Text}
use Rattle.dx_model.specs.Rules.{Derive, cells_of, after_cells, text_of, cell_value}
use Rattle.dx_model.proofs.Canonical.{text_of-map}
use Rattle.dx_model.proofs.RowsExist.{below_after}
use Rattle.dx_joins.specs.Shown.{IsMatchTuple}
use Rattle.dx_joins.specs.Derivations.{derived_values, given_to}

pub map_range : {X : Type 0} (F : ℕ → X) (n : ℕ) (es : List X) (d : X) → ((i : ℕ) → i < length es → F (n + i) ≡ get_or es i d) → map F (range_with_len n (length es)) ≡ es
map_range F n [] d h = refl
map_range {X} F n (e ∷ es) d h =
    let z : n + 0 ≡ n = omega arith in
    let first : F n ≡ e = ap F (sym z) ∙ h 0 (omega arith) in
    let rest = map_range F (n + 1) es d (λ i k. let s : n + 1 + i ≡ n + suc i = omega arith in ap F s ∙ h (suc i) (omega (arith, k))) in
    cc (first, rest)

said_same : (f g : ℕ → Text) (cells : List Cell) → ((x : ℕ) → Var x ∈ cells → f x ≡ g x) → map (cell_value f (λ _. Const [])) cells ≡ map (cell_value g (λ _. Const [])) cells
said_same f g [] h = refl
said_same f g (Var x ∷ cells) h = let a = h x (here refl) in let r = said_same f g cells (λ y m. h y (there m)) in cc (a, r)
said_same f g (Ex v ∷ cells) h = let r = said_same f g cells (λ y m. h y (there m)) in cc r
said_same f g (Lit t ∷ cells) h = let r = said_same f g cells (λ y m. h y (there m)) in cc r

module _ (convert : Conversions) (wanted : List ℕ) where
  args_same : (g : ℕ → Text) (u : Tuple) (args : List ℕ) → u ≡ map g wanted → args ⊆ wanted → map (text_of wanted u) args ≡ map g args
  args_same g u args e s = ap (λ (t : Tuple). map (text_of wanted t) args) e ∙ map_same (text_of wanted (map g wanted)) g args (λ x m. text_of-map g x wanted (s x m))

  derive_is : (g : ℕ → Text) (u : Tuple) (n : ℕ) (ds : List Derived) → u ≡ map g wanted → Each ds (λ (e : Derived). e.args ⊆ wanted) → Derive convert g n ds → map g (range_with_len n (length ds)) ≡ derived_values convert wanted ds u
  derive_is g u n [] e s h = refl
  derive_is g u n (d ∷ ds) e s h =
      let first : g n ≡ convert d.code (map (text_of wanted u) d.args) = h.0 ∙ ap (convert d.code) (sym (args_same g u d.args e (s d (here refl)))) in
      let next : suc n ≡ n + 1 = omega arith in
      let rest = derive_is g u (n + 1) ds e (λ x m. s x (there m)) (rw next at h.1) in
      cc (first, rest)

  derive_from : (g : ℕ → Text) (u : Tuple) (n : ℕ) (ds : List Derived) → u ≡ map g wanted → Each ds (λ (e : Derived). e.args ⊆ wanted) → map g (range_with_len n (length ds)) ≡ derived_values convert wanted ds u → Derive convert g n ds
  derive_from g u n [] e s h = tt
  derive_from g u n (d ∷ ds) e s h =
      let first : g n ≡ convert d.code (map (text_of wanted u) d.args) = cc h in
      let next : n + 1 ≡ suc n = omega arith in
      (first ∙ ap (convert d.code) (args_same g u d.args e (s d (here refl))), subst (λ (k : ℕ). Derive convert g k ds) next (derive_from g u (n + 1) ds e (λ x m. s x (there m)) (cc h)))

  given_is : (g : ℕ → Text) (u : Tuple) (derived : List Derived) (first : ℕ) (shown : List ℕ) → u ≡ map g wanted → map g (range_with_len first (length derived)) ≡ derived_values convert wanted derived u
      → shown ⊆ (wanted ++ range_with_len first (length derived)) → given_to convert wanted derived first shown u ≡ map g shown
  given_is g u derived first shown e d s =
      let names = wanted ++ range_with_len first (length derived) in
      let both : u ++ derived_values convert wanted derived u ≡ map g names = ap (λ (t : Tuple). t ++ derived_values convert wanted derived u) e ∙ ap (λ (t : Tuple). map g wanted ++ t) (sym d) ∙ sym (map-append g wanted (range_with_len first (length derived))) in
      ap (λ (t : Tuple). map (text_of names t) shown) both ∙ map_same (text_of names (map g names)) g shown (λ x m. text_of-map g x names (s x m))

  module _ (premise : List Atom) (derived : List Derived) (I : List Fact) (first : ℕ) (shown : List ℕ) (is : first ≡ after_cells (cells_of premise)) (below : Each wanted (λ x. x < first))
      (args : Each derived (λ (e : Derived). e.args ⊆ wanted)) (known : shown ⊆ (wanted ++ range_with_len first (length derived))) where
    pub derived_to : (t : Tuple) → (u : Tuple) × IsMatchTuple convert premise [] I wanted u × (t ≡ given_to convert wanted derived first shown u) → IsMatchTuple convert premise derived I shown t
    derived_to t (u, w, e) =
        let texts : ℕ → Text = w.0 in
        let ds = derived_values convert wanted derived u in
        let g : ℕ → Text = λ x. cond (nat_lt x first) (texts x) (get_or ds (x - first) []) in
        let low : (x : ℕ) → x < first → g x ≡ texts x = λ x h. cond-true (nat_lt x first) (texts x) (get_or ds (x - first) []) (lt_true x first h) in
        let onto : u ≡ map g wanted = w.2 ∙ sym (map_same g texts wanted (λ x m. low x (below x m))) in
        let count : length ds ≡ length derived = length-map derived _ in
        let high : map g (range_with_len first (length ds)) ≡ ds = map_range g first ds [] (λ i k.
        let s : first + i - first ≡ i = omega arith in cond-false (nat_lt (first + i) first) (texts (first + i)) (get_or ds (first + i - first) []) (lt_false (first + i) first (omega arith)) ∙ ap (λ (j : ℕ). get_or ds j []) s) in
        let over : map g (range_with_len first (length derived)) ≡ ds = ap (λ (n : ℕ). map g (range_with_len first n)) (sym count) ∙ high in (
          g,
          record {
            atoms = λ a m. subst (λ (f : Fact). f ∈ I) (λ i. record { table = a.table; row = sym (said_same g texts a.cells (λ x v. low x (rw is (below_after x (cells_of premise) (in_flat_map (λ (b : Atom). b.cells) m v))))) i }) (w.1.atoms a m);
            derives = subst (λ (n : ℕ). Derive convert g n derived) is (derive_from g u first derived onto args over);
          },
          e ∙ given_is g u derived first shown onto over known,
        )
      where
        lt_true : (a b : ℕ) → a < b → nat_lt a b ≡ true
        lt_true a b h = elim (cases_Bool (nat_lt a b)) [ inl t ↦ t | inr f ↦ absurd (omega (arith, h, ltb-false a b f)) ]

        lt_false : (a b : ℕ) → b ≤ a → nat_lt a b ≡ false
        lt_false a b h = elim (cases_Bool (nat_lt a b)) [ inl t ↦ absurd (omega (arith, h, ltb-true a b t)) | inr f ↦ f ]

    pub derived_from : (t : Tuple) → IsMatchTuple convert premise derived I shown t → (u : Tuple) × IsMatchTuple convert premise [] I wanted u × (t ≡ given_to convert wanted derived first shown u)
    derived_from t (texts, f, e) =
        let u = map texts wanted in
        let over = derive_is texts u first derived refl args (rw is f.derives) in
        (u, (texts, record { atoms = f.atoms; derives = tt }, refl), e ∙ sym (given_is texts u derived first shown refl over known))
