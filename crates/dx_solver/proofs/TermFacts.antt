-- Answers, and what is left of variables.
use Rattle.std.proofs.Common.{◌≡◌, ◌∙◌, ℕ, ◌<◌, ◌≤◌, ◌^◌, Bool, List, [], ◌∷◌, refl, sym, ap, inl, inr, subst}
use Rattle.std.proofs.Common.{length, get_or}
use Rattle.std.specs.Prelude.{map, Option, Some, None}
use Rattle.std.proofs.lemmas.Bool.{cases_lt}
use Rattle.std.proofs.lemmas.List.{get_or_default, get_or_past}
use Rattle.dx_base.specs.Members.{◌∈◌, Each, here, there}
use Rattle.dx_base.proofs.Members.{in_at, in_map, item_in}
use Rattle.dx_instance.specs.Cells.{NumberTable, numbers_at}
use Rattle.dx_instance.specs.Indexes.{number_in}
use Rattle.dx_instance.specs.Shown.{numbers_of_table}
use Rattle.dx_solver.specs.declared.atom.Term.{Term}
use Rattle.dx_solver.specs.declared.atom.Term.TheVariants.{Number, Variable}
use Rattle.dx_solver.specs.declared.atom.PatternAtom.{PatternAtom}
use Rattle.dx_solver.specs.declared.domain.Domain.{Domain}
use Rattle.dx_solver.specs.declared.domain.Domain.TheVariants.{Any}
use Rattle.dx_solver.specs.Domains.{DomainHas, IsBound, IsFreeTerm, IsImageRow, pattern_atom_at, IsLeftNumber, Keeps, choice_count, domain_size, term_at}
use Rattle.dx_solver.specs.Questions.{FitsAtom, Solves, HasImageRow, answered, number_under, row_under}
use Rattle.dx_solver.proofs.RowFacts.{column_of}

map_same : (f g : Term → ℕ) (ts : List Term) → ((t : Term) → t ∈ ts → f t ≡ g t) → map f ts ≡ map g ts
map_same f g [] h = refl
map_same f g (t ∷ ts) h = let e = h t (here refl) in let d = map_same f g ts (λ u m. h u (there m)) in cc

none_some : (o : Option ℕ) (n : ℕ) → o ≡ None → o ≡ Some n → ⊥
none_some o n e d = let k : ◌≡◌ {A = Option ℕ} None (Some n) = sym e ∙ d in cc

-- what is left of one variable
pub left_known : (known : Option ℕ) (n : ℕ) (d : Domain) → known ≡ Some n → IsLeftNumber known d n
left_known known n d e = record {
  fixed = λ m k. let s : ◌≡◌ {A = Option ℕ} (Some n) (Some m) = sym e ∙ k in cc;
  left = λ m k h l. absurd (none_some known n k e);
}

pub left_other : (known : Option ℕ) (d : Domain) (x : ℕ) → known ≡ None → ((n : ℕ) → DomainHas d n → domain_size (2 ^ 32) d ≤ 1 → x ≡ n)
    → IsLeftNumber known d x
left_other known d x e h = record {
  fixed = λ m k. absurd (none_some known m e k);
  left = λ m k i l. h m i l;
}

module _ (T : List NumberTable) (out : List (List Bool)) (atoms : List PatternAtom) (known : List (Option ℕ)) (ds : List Domain) (xs : List ℕ)
    (left : (v : ℕ) → v < length known → IsLeftNumber (get_or known v None) (get_or ds v Any) (answered xs v)) where
  number_same : (a : ℕ → ℕ) → Keeps ds a → Solves T out atoms known a → (atom : PatternAtom) → FitsAtom T (length known) atom
      → IsBound ds atom → (t : Term) → t ∈ atom.terms → number_under a t ≡ number_under (answered xs) t
  number_same a k s atom f b (Number n) m = refl
  number_same a k s atom f b (Variable v) m = by (get_or known v None) refl
    where
      h : v < length known
      h = f.variables v m

      by : (o : Option ℕ) → get_or known v None ≡ o → a v ≡ answered xs v
      by None e = sym ((left v h).left (a v) e (k v) (b (Variable v) m))
      by (Some n) e = s.keeps v n e ∙ sym ((left v h).fixed n e)

  pub none_left : Each atoms (FitsAtom T (length known)) → Each atoms (IsBound ds) → ¬ (Each atoms (HasImageRow T out (answered xs)))
      → (a : ℕ → ℕ) → Keeps ds a → ¬ (Solves T out atoms known a)
  none_left fits bound none a k s = none (λ atom m.
      let p = s.stands atom m in
      let e : row_under a atom ≡ row_under (answered xs) atom =
      map_same (number_under a) (number_under (answered xs)) atom.terms (number_same a k s atom (fits atom m) (bound atom m)) in
      (p.0, p.1, p.2, p.3 ∙ e))

  pub found_left : Each atoms (HasImageRow T out (answered xs)) → Solves T out atoms known (answered xs)
  found_left s = record {
    stands = s;
    keeps = λ v n e. elim (cases_lt v (length known)) [
      | inl h ↦ (left v h).fixed n e
      | inr h ↦ absurd (none_some (get_or known v None) n (get_or_past known v None h) e)
    ];
  }

-- the variable in a column is below the bound
pub variable_below : (T : List NumberTable) (n : ℕ) (atom : PatternAtom) (c v : ℕ) → FitsAtom T n atom → c < length atom.terms
    → term_at atom.terms c ≡ Variable v → v < n
variable_below T n atom c v f h e =
    f.variables v (subst (λ (t : Term). t ∈ atom.terms) e (in_at atom.terms c (Number 0) h))

-- the number that a variable has stands in its column
pub value_in : (T : List NumberTable) (out : List (List Bool)) (a : ℕ → ℕ) (atom : PatternAtom) (p c v : ℕ) (places numbers : List ℕ)
    → IsImageRow T out a atom p → c < length atom.terms → term_at atom.terms c ≡ Variable v → p ∈ places
    → numbers ≡ map (number_in (numbers_of_table T atom.table).rows c) places → a v ∈ numbers
value_in T out a atom p c v places numbers i h e m d =
    let row = numbers_at (numbers_of_table T atom.table).rows p in
    let there : number_in (numbers_of_table T atom.table).rows c p ∈ map (number_in (numbers_of_table T atom.table).rows c) places =
    in_map (number_in (numbers_of_table T atom.table).rows c) m in
    let is : get_or row c 0 ≡ number_under a (get_or atom.terms c (Number 0)) =
    column_of (number_under a) atom.terms row c (Number 0) h i.row in
    let v_is : number_under a (get_or atom.terms c (Number 0)) ≡ a v = ap (number_under a) e in
    subst (λ (l : List ℕ). a v ∈ l) (sym d)
    (subst (λ (x : ℕ). x ∈ map (number_in (numbers_of_table T atom.table).rows c) places) (is ∙ v_is) there)

-- the same atom is among the atoms
pub in_atoms : (atoms : List PatternAtom) (k : ℕ) (atom same : PatternAtom) → k < length atoms → atom ≡ get_or atoms k atom
    → same ≡ atom → same ∈ atoms
in_atoms atoms k atom same h e is = subst (λ (x : PatternAtom). x ∈ atoms) (sym is) (item_in atoms k atom h e)

-- a term that is free, in its atom
pub free_here : (atoms : List PatternAtom) (ds : List Domain) (k c : ℕ) (atom : PatternAtom) → IsFreeTerm atoms ds k c
    → atom ≡ get_or atoms k atom → (c < length atom.terms) × (1 < choice_count ds (term_at atom.terms c))
free_here atoms ds k c atom f e =
    let is : pattern_atom_at atoms k ≡ atom = get_or_default atoms k (record { table = 0; terms = [] }) atom f.atom ∙ sym e in
    (subst (λ (x : PatternAtom). c < length x.terms) is f.column, subst (λ (x : PatternAtom). 1 < choice_count ds (term_at x.terms c)) is f.many)
