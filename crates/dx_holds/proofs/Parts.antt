-- Atoms that are done, and what the others exclude.
use Rattle.std.proofs.Common.{◌≡◌, ◌∙◌, ℕ, ◌+◌, ◌<◌, ◌≤◌, List, [], ◌∷◌, ◌++◌, ◌⊎◌, inl, inr, refl, sym, ap, subst, arith, length, drop}
use Rattle.std.specs.Prelude.{map, ◌↔◌, cond, eqb, Bool, true, false, IfSome, IsTrue, MatchBool, Option, None, Some}
use Rattle.std.proofs.lemmas.Bool.{cases_Bool, cases_eq, cases_lt, eqb-true, eq-eqb, false≢true, ne_eqb}
use Rattle.std.proofs.lemmas.List.{map-append, length-append, get_or_default}
use Rattle.dx_base.specs.Members.{◌∈◌, Distinct, Each, here, there, IsPrefix}
use Rattle.dx_base.proofs.Members.{contains_from_in, from_append, in_at, in_left, in_map, in_right, distinct_more}
use Rattle.dx_model.specs.declared.values.Value.{Value}
use Rattle.dx_model.specs.declared.values.Value.TheVariants.{Const}
use Rattle.dx_model.specs.declared.facts.Fact.{Fact}
use Rattle.dx_model.specs.declared.rules.Atom.{Atom}
use Rattle.dx_model.specs.declared.rules.Cell.TheVariants.{Ex}
use Rattle.dx_base.specs.Texts.{Text}
use Rattle.dx_model.specs.Rules.{cell_value, fact_of_atom, atom_at}
use Rattle.dx_model.proofs.Deciding.{cells_with}
use Rattle.dx_instance.specs.Stored.{TableRows, facts, rows_of}
use Rattle.dx_instance.specs.Places.{row_at}
use Rattle.dx_instance.proofs.StoredFacts.{fact_from_row, row_from_fact}
use Rattle.dx_holds.specs.declared.matching.Found.{Found}
use Rattle.dx_holds.specs.Searching.{FoundCells, HaveNoMatch, ExtendsFound, IsState, AtomSaysRow, AddsExactly, NoneLeft, Rest, HasNoMatchBetween, found_variables, variable_value}
use Rattle.dx_holds.proofs.Narrowing.{distinct_few, each_last, room_more}

-- ---- values of what was found

-- the values of the cells, and these for variables that were not found
abbrev pub mixed : List TableRows → List Found → (ℕ → Value) → ℕ → Value
mixed I [] values v = values v
mixed I (b ∷ found) values v = cond (eqb b.variable v) (variable_value I b) (mixed I found values v)

mixed_found : (I : List TableRows) (found : List Found) (values : ℕ → Value) → Distinct (found_variables found) → ExtendsFound I found (mixed I found values)
mixed_found I [] values d b m = elim m [ ]
mixed_found I (c ∷ found) values d b (here e) = subst (λ (x : Found). mixed I (c ∷ found) values x.variable ≡ variable_value I x) e (rw (eq-eqb c.variable c.variable refl) refl)
mixed_found I (c ∷ found) values d b (there m) = elim (cases_Bool (eqb c.variable b.variable)) [
  | inl t ↦ absurd (d.0 (subst (λ (v : ℕ). v ∈ found_variables found) (sym (eqb-true c.variable b.variable t)) (in_map (λ (x : Found). x.variable) m)))
  | inr f ↦ rw f (mixed_found I found values d.1 b m)
]

mixed_other : (I : List TableRows) (found : List Found) (values : ℕ → Value) (v : ℕ) → ¬ (v ∈ found_variables found) → mixed I found values v ≡ values v
mixed_other I [] values v n = refl
mixed_other I (c ∷ found) values v n = rw (ne_eqb c.variable v (λ e. n (here e))) (mixed_other I found values v (λ m. n (there m)))

distinct_tail : {X : Type 0} (xs ys : List X) → Distinct (xs ++ ys) → Distinct ys
distinct_tail [] ys d = d
distinct_tail (x ∷ xs) ys d = distinct_tail xs ys d.1

distinct_cross : {X : Type 0} (xs ys : List X) (z : X) → Distinct (xs ++ ys) → z ∈ xs → ¬ (z ∈ ys)
distinct_cross [] ys z d m k = elim m [ ]
distinct_cross {X} (x ∷ xs) ys z d (here e) k = d.0 (in_right xs (subst (λ (w : X). w ∈ ys) (sym e) k))
distinct_cross (x ∷ xs) ys z d (there m) k = distinct_cross xs ys z d.1 m k

mixed_gives : (I : List TableRows) (n : ℕ) (old new : List Found) (b : IsPrefix old new) (values : ℕ → Value) → FoundCells I n new → ExtendsFound I old values → ExtendsFound I new (mixed I b.0 values)
mixed_gives I n old new b values good g x m =
    let d : Distinct (found_variables old ++ found_variables b.0) = subst (λ (l : List ℕ). Distinct l) (ap found_variables b.1 ∙ map-append (λ (y : Found). y.variable) old b.0) good.once in
    elim (from_append old (subst (λ (l : List Found). x ∈ l) b.1 m)) [
      | inl l ↦ mixed_other I b.0 values x.variable (distinct_cross (found_variables old) (found_variables b.0) x.variable d (in_map (λ (y : Found). y.variable) l)) ∙ g x l
      | inr r ↦ mixed_found I b.0 values (distinct_tail (found_variables old) (found_variables b.0) d) x r
    ]

-- ---- atoms

drop_front : {X : Type 0} (xs ys : List X) → drop (length xs) (xs ++ ys) ≡ ys
drop_front [] [] = refl
drop_front [] (y ∷ ys) = refl
drop_front (x ∷ xs) ys = drop_front xs ys

-- values that fail after more was done fail before
pub fails_after : (T : ℕ → Text) (A : List Atom) (I : List TableRows) (n : ℕ) (old new : List Found) (before done : List ℕ) → IsPrefix old new → IsPrefix before done → FoundCells I n new → NoneLeft A new done (Some (length old))
    → HaveNoMatch T A I new done → HaveNoMatch T A I old before
fails_after T A I n old new before done b d good none fails values g rest =
    let newer : drop (length old) new ≡ b.0 = ap (drop (length old)) b.1 ∙ drop_front old b.0 in
    fails (mixed I b.0 values) (mixed_gives I n old new b values good g)
    (λ i h k. same i (λ v m. mixed_other I b.0 values v (λ q. none i h k (v, m, subst (λ (l : List Found). v ∈ found_variables l) (sym newer) q)))
    (rest i h (λ m. k (subst (λ (l : List ℕ). i ∈ l) (sym d.1) (in_left d.0 m)))))
  where
    same : (i : ℕ) → ((v : ℕ) → Ex v ∈ (atom_at A i).cells → mixed I b.0 values v ≡ values v) → fact_of_atom T values (atom_at A i) ∈ facts I → fact_of_atom T (mixed I b.0 values) (atom_at A i) ∈ facts I
    same i h m = subst (λ (row : List Value). ◌∈◌ {X = Fact} (record { table = (atom_at A i).table; row = row }) (facts I)) (sym (cells_with T (mixed I b.0 values) values (atom_at A i).cells h)) m

-- an atom more is done
pub state_more : (T : ℕ → Text) (A : List Atom) (I : List TableRows) (n : ℕ) (old new : List Found) (done : List ℕ) (i p : ℕ) → IsState T A I n old done → i < length A → ¬ (i ∈ done) → p < length (rows_of I (atom_at A i).table)
    → AddsExactly I n old (AtomSaysRow T I (atom_at A i) p) new → IsState T A I n new (done ++ i ∷ [])
state_more T A I n old new done i p s h k b m = record {
  good = m.good;
  once = distinct_more done i s.once k;
  within = each_last (λ (j : ℕ). j < length A) done i s.within h;
  says = λ values g. let w = (m.exact values).0 g in each_last (λ (j : ℕ). fact_of_atom T values (atom_at A j) ∈ facts I) done i (s.says values w.0)
      (subst (λ (row : List Value). ◌∈◌ {X = Fact} (record { table = (atom_at A i).table; row = row }) (facts I)) (sym w.1) (fact_from_row I (atom_at A i).table (row_at I (atom_at A i).table p) (in_at (rows_of I (atom_at A i).table) p [] b)));
}

-- ---- places that were tried

-- values with which the rest are facts don't make an atom the row at a place below m
abbrev pub Tried : (ℕ → Text) → List Atom → List TableRows → List Found → List ℕ → ℕ → ℕ → Type 0
Tried T A I found done i m = (values : ℕ → Value) → ExtendsFound I found values → Rest T A (facts I) done values → (p : ℕ) → p < m → ¬ (AtomSaysRow T I (atom_at A i) p values)

module _ (T : ℕ → Text) (A : List Atom) (I : List TableRows) (found : List Found) (done : List ℕ) (i : ℕ) where
  pub tried_none : Tried T A I found done i 0
  tried_none values g r p h = absurd (omega arith)

  pub tried_skip : (m q : ℕ) → Tried T A I found done i m → HasNoMatchBetween T I found (atom_at A i) m q → Tried T A I found done i q
  tried_skip m q t s values g r p h = elim (cases_lt p m) [ inl l ↦ t values g r p l | inr l ↦ s p values l h g ]

  pub tried_fail : (n m : ℕ) (new : List Found) → Tried T A I found done i m → AddsExactly I n found (AtomSaysRow T I (atom_at A i) m) new → HaveNoMatch T A I new (done ++ i ∷ []) → Tried T A I found done i (m + 1)
  tried_fail n m new t k f values g r p h = elim (cases_lt p m) [
    | inl l ↦ t values g r p l
    | inr l ↦ let e : p ≡ m = omega (arith, h, l) in λ q. f values ((k.exact values).1 (g, subst (λ (x : ℕ). AtomSaysRow T I (atom_at A i) x values) e q)) (λ j b w. r j b (λ o. w (in_left (i ∷ []) o)))
  ]

  pub tried_all : (m : ℕ) → i < length A → ¬ (i ∈ done) → Tried T A I found done i m → HasNoMatchBetween T I found (atom_at A i) m (length (rows_of I (atom_at A i).table)) → HaveNoMatch T A I found done
  tried_all m h k t s values g r =
      let row = row_from_fact I (fact_of_atom T values (atom_at A i)) (r i h k) in
      let at = contains_from_in row in
      tried_skip m (length (rows_of I (atom_at A i).table)) t s values g r at.0 at.1
      (sym (get_or_default (rows_of I (atom_at A i).table) at.0 [] (map (cell_value T values) (atom_at A i).cells) at.1 ∙ at.2))

-- ---- all atoms

member_or : (x : ℕ) (xs : List ℕ) → (x ∈ xs) ⊎ (¬ (x ∈ xs))
member_or x [] = inr (λ m. elim m [ ])
member_or x (y ∷ ys) = elim (cases_eq x y) [
  | inl e ↦ inl (here (sym e))
  | inr n ↦ elim (member_or x ys) [ inl m ↦ inl (there m) | inr k ↦ inr (neither n k) ]
]
  where
    neither : ¬ (x ≡ y) → ¬ (x ∈ ys) → ¬ (x ∈ (y ∷ ys))
    neither n k (here e) = n (sym e)
    neither n k (there m) = k m

-- once all atoms are done there are values with which they are facts
pub all_done : (T : ℕ → Text) (A : List Atom) (I : List TableRows) (n : ℕ) (found : List Found) (done : List ℕ) → IsState T A I n found done → NoneLeft A found done None
    → (values : ℕ → Value) × Each A (λ a. fact_of_atom T values a ∈ facts I)
all_done T A I n found done s none = (mixed I found (λ _. Const []), each)
  where
    is_done : (i : ℕ) → i < length A → i ∈ done
    is_done i h = elim (member_or i done) [ inl m ↦ m | inr k ↦ absurd (none i h k tt) ]

    each : Each A (λ a. fact_of_atom T (mixed I found (λ _. Const [])) a ∈ facts I)
    each a m =
        let k = contains_from_in m in
        let e : atom_at A k.0 ≡ a = get_or_default A k.0 (record { table = 0; cells = [] }) a k.1 ∙ k.2 in
        subst (λ (x : Atom). fact_of_atom T (mixed I found (λ _. Const [])) x ∈ facts I) e (s.says (mixed I found (λ _. Const [])) (mixed_found I found (λ _. Const []) s.good.once) k.0 (is_done k.0 k.1))

-- if nothing can make all of them facts, no values do
pub none_do : (T : ℕ → Text) (A : List Atom) (I : List TableRows) → HaveNoMatch T A I [] [] → ¬ ((values : ℕ → Value) × Each A (λ a. fact_of_atom T values a ∈ facts I))
none_do T A I f q = f q.0 (λ b m. elim m [ ]) (λ i h k. q.1 (atom_at A i) (in_at A i (record { table = 0; cells = [] }) h))

-- nothing is done yet
pub state_none : (T : ℕ → Text) (A : List Atom) (I : List TableRows) (n : ℕ) → IsState T A I n [] []
state_none T A I n = record {
  good = record { once = tt; cells = λ b m. elim m [ ]; below = λ b m. elim m [ ] };
  once = tt;
  within = λ i m. elim m [ ];
  says = λ values g i m. elim m [ ];
}

-- atoms that are done are no more than there are
pub done_few : (T : ℕ → Text) (A : List Atom) (I : List TableRows) (n : ℕ) (found : List Found) (done : List ℕ) → IsState T A I n found done → length done ≤ length A
done_few T A I n found done s = distinct_few done (length A) s.once s.within

-- ---- answers

pub begins_longer : {X : Type 0} (old new : List X) → IsPrefix old new → length old ≤ length new
begins_longer old new b = let e = ap length b.1 ∙ length-append old b.0 in omega (arith, e)

pub since_longer : (o : Option ℕ) (a b : ℕ) → a ≤ b → IfSome o (λ m. m ≤ a) → IfSome o (λ m. m ≤ b)
since_longer None a b h s = tt
since_longer (Some m) a b h s = omega (arith, h, s)

pub or_else : (P Q R : Type 0) (r : Bool) → (Q → R) → MatchBool r P Q → MatchBool r P R
or_else P Q R true f m = m
or_else P Q R false f m = f m

-- there is room to do an atom more
pub done_room : (T : ℕ → Text) (A : List Atom) (I : List TableRows) (n : ℕ) (found : List Found) (done : List ℕ) (i : ℕ) → IsState T A I n found done → i < length A → ¬ (i ∈ done) → length done < length A
done_room T A I n found done i s h k = room_more done (length A) i s.once s.within k h

-- a search from nothing decides whether there are values
pub decided : (T : ℕ → Text) (A : List Atom) (I : List TableRows) (n : ℕ) (found : List Found) (done : List ℕ) (r : Bool) → MatchBool r (IsState T A I n found done × NoneLeft A found done None) (HaveNoMatch T A I [] [])
    → IsTrue r ↔ ((values : ℕ → Value) × Each A (λ a. fact_of_atom T values a ∈ facts I))
decided T A I n found done true m = ((λ t. all_done T A I n found done m.0 m.1), (λ q. refl))
decided T A I n found done false m = ((λ t. absurd (false≢true t)), (λ q. absurd (none_do T A I m q)))
