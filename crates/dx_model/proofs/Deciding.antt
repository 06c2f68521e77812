-- Following is decided for rules without derived variables, so each list of rules has a pruned list.
use Rattle.std.proofs.Common.{◌≡◌, ℕ, ◌<◌, true, cond, eqb, List, [], ◌∷◌, ◌++◌, ◌⊎◌, inl, inr, length, refl, sym, ◌∙◌, ap, subst, arith}
use Rattle.std.specs.Prelude.{map, flat_map}
use Rattle.std.proofs.lemmas.Bool.{cases_eq, eq-eqb, ne_eqb}
use Rattle.std.proofs.lemmas.List.{length-append}
use Rattle.dx_model.specs.declared.values.Value.{Value}
use Rattle.dx_model.specs.declared.values.Value.TheVariants.{Const}
use Rattle.dx_model.specs.declared.facts.Fact.{Fact}
use Rattle.dx_model.specs.declared.rules.Cell.{Cell}
use Rattle.dx_model.specs.declared.rules.Cell.TheVariants.{Var, Ex, Lit}
use Rattle.dx_model.specs.declared.rules.Atom.{Atom}
use Rattle.dx_model.specs.declared.rules.Derived.{Derived}
use Rattle.dx_model.specs.declared.rules.Rule.{Rule}
use Rattle.dx_base.specs.Members.{◌∈◌, ◌⊆◌, here, there, Each}
use Rattle.dx_base.proofs.Members.{from_append, in_map, in_flat_map, from_flat_map}
use Rattle.dx_base.proofs.Tests.{from_filter}
use Rattle.dx_model.specs.Values.{Conversions}
use Rattle.dx_base.specs.Texts.{Text}
use Rattle.dx_model.specs.Instances.{values}
use Rattle.dx_model.specs.Rules.{cell_value, fact_of_atom, cells_of, existential_in, existentials, canonical}
use Rattle.dx_model.specs.Fitting.{IsRule}
use Rattle.dx_model.specs.Following.{frozen, frozen_text, IsClean, are_none, underived, CanGo, PrunedAfter}
use Rattle.dx_model.specs.Laws.{FollowsIsDecided, PrunedExists}
use Rattle.dx_model.proofs.Decided.{same_fact, decide_in}
use Rattle.dx_model.proofs.RowsExist.{rows_of_all_exist}
use Rattle.dx_model.proofs.Frozen.{follows_by_prefix}
use Rattle.dx_model.proofs.Pruning.{part_after}

-- ---- values for existential variables

pub cells_with : (texts : ℕ → Text) (u v : ℕ → Value) (cs : List Cell) → ((x : ℕ) → Ex x ∈ cs → u x ≡ v x) → map (cell_value texts u) cs ≡ map (cell_value texts v) cs
cells_with texts u v [] s = refl
cells_with texts u v (Var x ∷ cs) s = let r = cells_with texts u v cs (λ y m. s y (there m)) in cc
cells_with texts u v (Ex x ∷ cs) s = let e = s x (here refl) in let r = cells_with texts u v cs (λ y m. s y (there m)) in cc
cells_with texts u v (Lit t ∷ cs) s = let r = cells_with texts u v cs (λ y m. s y (there m)) in cc

said_with : (texts : ℕ → Text) (u v : ℕ → Value) (a : Atom) → ((x : ℕ) → Ex x ∈ a.cells → u x ≡ v x) → fact_of_atom texts u a ≡ fact_of_atom texts v a
said_with texts u v a s = let e = cells_with texts u v a.cells s in (λ i. record { table = a.table; row = e i })

pub from_existential : (v : ℕ) (c : Cell) → v ∈ existential_in c → c ≡ Ex v
from_existential v (Var x) m = elim m [ ]
from_existential v (Ex x) (here e) = ap Ex e
from_existential v (Ex x) (there m) = elim m [ ]
from_existential v (Lit t) m = elim m [ ]

stands_at : (v : ℕ) (atoms : List Atom) → v ∈ existentials atoms → (a : Atom) × (a ∈ atoms) × (Ex v ∈ a.cells)
stands_at v atoms m =
    let w = from_flat_map existential_in (cells_of atoms) m in
    let a = from_flat_map (λ (a : Atom). a.cells) atoms w.1 in
    (a.0, a.1, subst (λ c. c ∈ a.0.cells) (from_existential v w.0 w.2) a.2)

in_existentials : (v : ℕ) (atoms : List Atom) (a : Atom) → a ∈ atoms → Ex v ∈ a.cells → v ∈ existentials atoms
in_existentials v atoms a m n = in_flat_map existential_in (in_flat_map (λ (a : Atom). a.cells) m n) (here refl)

module _ (texts : ℕ → Text) (atoms : List Atom) (K : List Fact) where
  abbrev AllIn : (ℕ → Value) → List Atom → Type 0
  AllIn vs list = Each list (λ a. fact_of_atom texts vs a ∈ K)

  all_in : (vs : ℕ → Value) (list : List Atom) → AllIn vs list ⊎ (¬ (AllIn vs list))
  all_in vs [] = inl (λ a m. elim m [ ])
  all_in vs (a ∷ list) = elim (decide_in same_fact (fact_of_atom texts vs a) K) [
    | inr n ↦ inr (λ h. n (h a (here refl)))
    | inl h ↦ elim (all_in vs list) [
      | inr n ↦ inr (λ k. n (λ b m. k b (there m)))
      | inl k ↦ inl (both h k)
    ]
  ]
    where
      both : fact_of_atom texts vs a ∈ K → AllIn vs list → AllIn vs (a ∷ list)
      both h k b (here e) = subst (λ (c : Atom). fact_of_atom texts vs c ∈ K) e h
      both h k b (there m) = k b m

  -- the value of an existential variable of the atoms stands in K
  value_there : (vs : ℕ → Value) → AllIn vs atoms → (v : ℕ) → v ∈ existentials atoms → vs v ∈ values K
  value_there vs h v m =
      let w = stands_at v atoms m in
      in_flat_map (λ (f : Fact). f.row) (h w.0 w.1) (in_map (cell_value texts vs) w.2)

  -- the same values, but for one variable
  abbrev with_value : (ℕ → Value) → ℕ → Value → ℕ → Value
  with_value base v c w = cond (eqb w v) c (base w)

  -- values that hold, and are the given ones but for these variables
  abbrev Found : List ℕ → (ℕ → Value) → Type 0
  Found rest base = (vs : ℕ → Value) × ((w : ℕ) → ¬ (w ∈ rest) → vs w ≡ base w) × AllIn vs atoms

  abbrev NoneFound : List ℕ → (ℕ → Value) → ℕ → List Value → Type 0
  NoneFound rest base v candidates = Each candidates (λ c. ¬ (Found rest (with_value base v c)))

  at_itself : (base : ℕ → Value) (v : ℕ) (c : Value) → with_value base v c v ≡ c
  at_itself base v c = rw (eq-eqb v v refl) refl

  elsewhere : (base : ℕ → Value) (v w : ℕ) (c : Value) → ¬ (w ≡ v) → with_value base v c w ≡ base w
  elsewhere base v w c n = rw (ne_eqb w v n) refl

  widened : (rest : List ℕ) (base : ℕ → Value) (v : ℕ) (c : Value) → Found rest (with_value base v c) → Found (v ∷ rest) base
  widened rest base v c f = (f.0, (λ w n. f.1 w (λ m. n (there m)) ∙ elsewhere base v w c (λ e. n (here (sym e)))), f.2)

  among : (rest : List ℕ) (base : ℕ → Value) (v : ℕ) → ((next : ℕ → Value) → Found rest next ⊎ (¬ (Found rest next))) → (candidates : List Value)
      → Found (v ∷ rest) base ⊎ NoneFound rest base v candidates
  among rest base v decide [] = inr (λ c m. elim m [ ])
  among rest base v decide (c ∷ cs) = elim (decide (with_value base v c)) [
    | inl f ↦ inl (widened rest base v c f)
    | inr n ↦ elim (among rest base v decide cs) [ inl f ↦ inl f | inr k ↦ inr (both n k) ]
  ]
    where
      both : ¬ (Found rest (with_value base v c)) → NoneFound rest base v cs → NoneFound rest base v (c ∷ cs)
      both n k d (here e) = subst (λ x. ¬ (Found rest (with_value base v x))) e n
      both n k d (there m) = k d m

  narrowed : (rest : List ℕ) (base : ℕ → Value) (v : ℕ) (f : Found (v ∷ rest) base) → Found rest (with_value base v (f.0 v))
  narrowed rest base v f = (
    f.0,
    (λ w n. elim (cases_eq w v) [
      | inl e ↦ ap f.0 e ∙ (sym (at_itself base v (f.0 v)) ∙ ap (with_value base v (f.0 v)) (sym e))
      | inr k ↦ f.1 w (not_in w k n) ∙ sym (elsewhere base v w (f.0 v) k)
    ]),
    f.2,
  )
    where
      not_in : (w : ℕ) → ¬ (w ≡ v) → ¬ (w ∈ rest) → w ∈ (v ∷ rest) → ⊥
      not_in w k n (here e) = k (sym e)
      not_in w k n (there m) = n m

  found : (rest : List ℕ) → rest ⊆ existentials atoms → (base : ℕ → Value) → Found rest base ⊎ (¬ (Found rest base))
  found [] s base = elim (all_in base atoms) [
    | inl h ↦ inl (base, (λ w n. refl), h)
    | inr n ↦ inr (λ f. n (λ a m. subst (λ e. e ∈ K) (said_with texts f.0 base a (λ x k. f.1 x (λ i. elim i [ ]))) (f.2 a m)))
  ]
  found (v ∷ rest) s base = elim (among rest base v (found rest (λ w m. s w (there m))) (values K)) [
    | inl f ↦ inl f
    | inr n ↦ inr (λ f. n (f.0 v) (value_there f.0 f.2 v (s v (here refl))) (narrowed rest base v f))
  ]

  -- whether there are values for the existential variables with all that the atoms say in K
  values_found : ((vs : ℕ → Value) × AllIn vs atoms) ⊎ (¬ ((vs : ℕ → Value) × AllIn vs atoms))
  values_found = elim (found (existentials atoms) (λ v m. m) (λ _. Const [])) [
    | inl f ↦ inl (f.0, f.2)
    | inr n ↦ inr (λ h. n (only h.0 h.1))
  ]
    where
      mixed : (vs : ℕ → Value) (v : ℕ) → (v ∈ existentials atoms) ⊎ (¬ (v ∈ existentials atoms)) → Value
      mixed vs v (inl m) = vs v
      mixed vs v (inr n) = Const []

      mixed_there : (vs : ℕ → Value) (v : ℕ) (o : (v ∈ existentials atoms) ⊎ (¬ (v ∈ existentials atoms))) → v ∈ existentials atoms → mixed vs v o ≡ vs v
      mixed_there vs v (inl m) k = refl
      mixed_there vs v (inr n) k = absurd (n k)

      mixed_out : (vs : ℕ → Value) (v : ℕ) (o : (v ∈ existentials atoms) ⊎ (¬ (v ∈ existentials atoms))) → ¬ (v ∈ existentials atoms) → mixed vs v o ≡ Const []
      mixed_out vs v (inl m) k = absurd (k m)
      mixed_out vs v (inr n) k = refl

      only : (vs : ℕ → Value) → AllIn vs atoms → Found (existentials atoms) (λ _. Const [])
      only vs h = (
        (λ v. mixed vs v (decide_in cases_eq v (existentials atoms))),
        (λ w n. mixed_out vs w (decide_in cases_eq w (existentials atoms)) n),
        (λ a m. subst (λ e. e ∈ K)
            (sym (said_with texts (λ v. mixed vs v (decide_in cases_eq v (existentials atoms))) vs a
            (λ x k. mixed_there vs x (decide_in cases_eq x (existentials atoms)) (in_existentials x atoms a m k)))) (h a m)),
      )

-- ---- a prefix with which no literal begins

literal_in : Cell → List Text
literal_in (Var x) = []
literal_in (Ex v) = []
literal_in (Lit t) = t ∷ []

abbrev literals : List Rule → List Text
literals R = flat_map (λ (d : Rule). flat_map literal_in (cells_of d.conclusion)) R

-- a list longer than each of these
abbrev longer : List Text → List ℕ
longer [] = 0 ∷ []
longer (t ∷ ts) = t ++ longer ts

is_longer : (ts : List Text) (t : Text) → t ∈ ts → length t < length (longer ts)
is_longer [] t m = elim m [ ]
is_longer (u ∷ ts) t (here e) = let a = length-append u (longer ts) in let b = some ts in let c = ap length e in omega (arith, a, b, c)
  where
    some : (ts : List Text) → 0 < length (longer ts)
    some [] = omega arith
    some (t ∷ ts) = let a = length-append t (longer ts) in let b = some ts in omega (arith, a, b)
is_longer (u ∷ ts) t (there m) = let a = length-append u (longer ts) in let b = is_longer ts t m in omega (arith, a, b)

clean : (R : List Rule) (d : Rule) → d ∈ R → IsClean (longer (literals R)) d
unfolding literal_in
clean R d m a n t k rest e =
    let in_cells : Lit t ∈ cells_of d.conclusion = in_flat_map (λ (a : Atom). a.cells) n k in
    let there_too : t ∈ literals R = in_flat_map (λ (d : Rule). flat_map literal_in (cells_of d.conclusion)) m (in_flat_map literal_in in_cells (here refl)) in
    let short = is_longer (literals R) t there_too in
    let l = length-append (longer (literals R)) rest in
    let q = ap length e in
    omega (arith, short, l, q)

-- ---- following

pub follows_is_decided : FollowsIsDecided
follows_is_decided convert R d each =
    let prefix : List ℕ = longer (literals (d ∷ R)) in
    let rows = rows_of_all_exist convert R (frozen (frozen_text prefix) d) (λ r m. (each r (there m)).0) in
    let tells = follows_by_prefix convert prefix R d rows.0 (λ r m. ((each r m).0, (each r m).1, clean (d ∷ R) r m)) rows.1 in
    elim (values_found (frozen_text prefix) d.conclusion (canonical 0 R rows.0)) [ inl h ↦ inl (tells.1 h) | inr n ↦ inr (λ f. n (tells.0 f)) ]

pub none_derived : (ds : List Derived) → are_none ds ≡ true → ds ≡ []
none_derived [] e = refl
none_derived (d ∷ ds) e = absurd (cc)

go_decided : (convert : Conversions) (others : List Rule) (d : Rule) → Each others IsRule → IsRule d → CanGo convert others d ⊎ (¬ (CanGo convert others d))
go_decided convert others d each r = go d.derived refl
  where
    plain : (c : Rule) → c ∈ underived others → IsRule c × (c.derived ≡ [])
    plain c m = let w = from_filter (λ (d : Rule). are_none d.derived) others m in (each c w.0, none_derived c.derived w.1)

    go : (ds : List Derived) → d.derived ≡ ds → CanGo convert others d ⊎ (¬ (CanGo convert others d))
    go (e ∷ ds) h = inr (λ c. some e ds (sym h ∙ c.0))
      where
        some : (e : Derived) (ds : List Derived) → e ∷ ds ≡ [] → ⊥
        some e ds h = cc
    go [] h = elim (follows_is_decided convert (underived others) d (λ c m. each_of c m)) [ inl f ↦ inl (h, f) | inr n ↦ inr (λ c. n c.1) ]
      where
        each_of : (c : Rule) → c ∈ (d ∷ underived others) → IsRule c × (c.derived ≡ [])
        each_of c (here e) = subst (λ (x : Rule). IsRule x × (x.derived ≡ [])) e (r, h)
        each_of c (there m) = plain c m

exists_after : (convert : Conversions) (front R : List Rule) → Each front IsRule → Each R IsRule → (P : List Rule) × PrunedAfter convert front R P
exists_after convert front [] f r = ([], refl)
exists_after convert front (d ∷ R) f r =
    let rest = exists_after convert (front ++ d ∷ []) R (one_more front f) (λ e m. r e (there m)) in
    let part = part_after convert (front ++ d ∷ []) R rest.0 rest.1 in
    elim (go_decided convert (front ++ rest.0) d (λ e m. elim (from_append front m) [ inl k ↦ f e k | inr k ↦ r e (there (part e k)) ]) (r d (here refl))) [
      | inl c ↦ (rest.0, (rest.0, rest.1, inl (c, refl)))
      | inr n ↦ (d ∷ rest.0, (rest.0, rest.1, inr (n, refl)))
    ]
  where
    one_more : (front : List Rule) → Each front IsRule → Each (front ++ d ∷ []) IsRule
    one_more front f e m = elim (from_append front m) [ inl k ↦ f e k | inr k ↦ only e k ]
      where
        only : (e : Rule) → e ∈ (d ∷ []) → IsRule e
        only e (here q) = subst IsRule q (r d (here refl))
        only e (there k) = elim k [ ]

pub pruned_exists : PrunedExists
pruned_exists convert R r = exists_after convert [] R (λ d m. elim m [ ]) r
