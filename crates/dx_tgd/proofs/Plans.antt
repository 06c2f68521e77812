-- Plans stay as symbols grow, and say what the conclusion says.
use Rattle.std.proofs.Common.{◌≡◌, ◌∙◌, ℕ, zero, suc, ◌+◌, ◌-◌, ◌<◌, List, [], ◌∷◌, ◌++◌, inl, inr, refl, sym, ap, subst, arith, length, get_or, take, drop}
use Rattle.std.specs.Prelude.{map, slice_index}
use Rattle.std.specs.List.{AllZip}
use Rattle.std.specs.declared.cmp.Ordering.TheVariants.{Less}
use Rattle.std.proofs.lemmas.Bool.{cases_lt, eq-eqb}
use Rattle.std.proofs.lemmas.List.{length-append, length-map, get_or_append_left, get_or_default, get_or_push, get_or-map, map_push, take_more}
use Rattle.dx_base.specs.Members.{◌∈◌, here, there, Each}
use Rattle.dx_base.proofs.Members.{contains_from_in, from_map, in_at, in_flat_map}
use Rattle.dx_base.proofs.Lists.{zip_push, zip_grow}
use Rattle.dx_model.specs.declared.values.Value.{Value}
use Rattle.dx_model.specs.declared.values.Value.TheVariants.{Const}
use Rattle.dx_model.specs.declared.rules.Cell.{Cell}
use Rattle.dx_model.specs.declared.rules.Cell.TheVariants.{Var, Ex, Lit}
use Rattle.dx_model.specs.declared.rules.Atom.{Atom}
use Rattle.dx_model.specs.declared.rules.Rule.{Rule}
use Rattle.dx_model.specs.Values.{Tuple, value_cmp}
use Rattle.dx_model.specs.Rules.{cell_value, exported, fact_of_atom, text_of}
use Rattle.dx_model.proofs.Canonical.{exported_exactly}
use Rattle.dx_model.proofs.Orders.{value_total}
use Rattle.dx_instance.specs.Numbers.{Extends, ValuesAscend, value_of}
use Rattle.dx_instance.specs.Shown.{shown_row}
use Rattle.dx_instance.proofs.ShownFacts.{grown_value, longer}
use Rattle.dx_tgd.specs.declared.planned.PlannedCell.{PlannedCell}
use Rattle.dx_tgd.specs.declared.planned.PlannedCell.TheVariants.{Column, Fixed, Nulls}
use Rattle.dx_tgd.specs.declared.planned.PlannedAtom.{PlannedAtom}
use Rattle.dx_tgd.specs.Placed.{place_null}
use Rattle.dx_tgd.specs.Planned.{NumbersOfNulls, HasNumber, IsCellPlan, IsPlannedAtom, StandsAs, planned_number, planned_fact}
use Rattle.dx_joins.specs.Shown.{AllTexts, texts_of}
use Rattle.dx_instance.specs.Ranks.{text_of_value}
use Rattle.dx_joins.proofs.Translating.{text_back}

pub grown_stands : (S T : List Value) (n : ℕ) (v : Value) → Extends S T → StandsAs S n v → StandsAs T n v
grown_stands S T n v e s = record { within = omega (arith, s.within, longer S T e); value = grown_value S T n e s.within ∙ s.value }

grown_nulls : (S T : List Value) (i v n : ℕ) (ns : List ℕ) → Extends S T → NumbersOfNulls S i v n ns → NumbersOfNulls T i v n ns
grown_nulls S T i v n ns e h = record { many = h.many; each = λ k b. grown_stands S T (slice_index ns k) (place_null i k v) e (h.each k b) }

pub grown_plan : (S T : List Value) (i : ℕ) (vars : List ℕ) (n : ℕ) (p : PlannedCell) (c : Cell) → Extends S T → IsCellPlan S i vars n p c → IsCellPlan T i vars n p c
grown_plan S T i vars n (Column j) (Var x) e h = h
grown_plan S T i vars n (Column j) (Ex v) e h = absurd h
grown_plan S T i vars n (Column j) (Lit t) e h = absurd h
grown_plan S T i vars n (Fixed m) (Var x) e h = absurd h
grown_plan S T i vars n (Fixed m) (Ex v) e h = absurd h
grown_plan S T i vars n (Fixed m) (Lit t) e h = grown_stands S T m (Const t) e h
grown_plan S T i vars n (Nulls ns) (Var x) e h = absurd h
grown_plan S T i vars n (Nulls ns) (Ex v) e h = grown_nulls S T i v n ns.items e h
grown_plan S T i vars n (Nulls ns) (Lit t) e h = absurd h

-- one pair more, whose second is read at a place
zip_more : {X Y : Type 0} (R : X → Y → Type 0) (xs : List X) (ys : List Y) (i : ℕ) (x : X) (y : Y) → i < length ys → y ≡ get_or ys i y → AllZip R xs (take i ys) → R x y → AllZip R (xs ++ x ∷ []) (take (i + 1) ys)
zip_more {X} {Y} R xs ys i x y h e z r = rw (take_more ys i y h, ← e) (zip_push R xs (take i ys) x y z r)

-- one cell more
pub plans_more : (S T : List Value) (i : ℕ) (vars : List ℕ) (n : ℕ) (ps : List PlannedCell) (cs : List Cell) (k : ℕ) (p : PlannedCell) (c : Cell) → k < length cs → c ≡ get_or cs k c → Extends S T
    → AllZip (IsCellPlan S i vars n) ps (take k cs) → IsCellPlan T i vars n p c → AllZip (IsCellPlan T i vars n) (ps ++ p ∷ []) (take (k + 1) cs)
plans_more S T i vars n ps cs k p c h e g z r =
    zip_more (IsCellPlan T i vars n) ps cs k p c h e (zip_grow (IsCellPlan S i vars n) (IsCellPlan T i vars n) ps (take k cs) (λ q d. grown_plan S T i vars n q d g) z) r

grown_atom : (S T : List Value) (i : ℕ) (vars : List ℕ) (n : ℕ) (p : PlannedAtom) (a : Atom) → Extends S T → IsPlannedAtom S i vars n p a → IsPlannedAtom T i vars n p a
grown_atom S T i vars n p a g h = record { table = h.table; cells = zip_grow (IsCellPlan S i vars n) (IsCellPlan T i vars n) p.cells.items a.cells (λ q d. grown_plan S T i vars n q d g) h.cells }

-- one atom more
pub atoms_more : (S T : List Value) (i : ℕ) (vars : List ℕ) (n : ℕ) (ps : List PlannedAtom) (atoms : List Atom) (k : ℕ) (p : PlannedAtom) (a : Atom) → k < length atoms → a ≡ get_or atoms k a → Extends S T
    → AllZip (IsPlannedAtom S i vars n) ps (take k atoms) → IsPlannedAtom T i vars n p a → AllZip (IsPlannedAtom T i vars n) (ps ++ p ∷ []) (take (k + 1) atoms)
atoms_more S T i vars n ps atoms k p a h e g z r =
    zip_more (IsPlannedAtom T i vars n) ps atoms k p a h e (zip_grow (IsPlannedAtom S i vars n) (IsPlannedAtom T i vars n) ps (take k atoms) (λ q d. grown_atom S T i vars n q d g) z) r

-- one null more
pub nulls_more : (S T : List Value) (i v k n : ℕ) (ns : List ℕ) → Extends S T → NumbersOfNulls S i v k ns → n < length T → value_of T n ≡ place_null i k v → NumbersOfNulls T i v (k + 1) (ns ++ n ∷ [])
nulls_more S T i v k n ns g h b e = record { many = omega (arith, h.many, length-append ns (n ∷ [])); each = each }
  where
    each : (j : ℕ) → j < k + 1 → StandsAs T (slice_index (ns ++ n ∷ []) j) (place_null i j v)
    each j l = elim (cases_lt j k) [
      | inl s ↦ subst (λ (x : ℕ). StandsAs T x (place_null i j v)) (sym (get_or_append_left ns (n ∷ []) 0 j (omega (arith, s, h.many)))) (grown_stands S T (slice_index ns j) (place_null i j v) g (h.each j s))
      | inr s ↦
          let q : j ≡ k = omega arith in
          let at : slice_index (ns ++ n ∷ []) j ≡ n = get_or_push ns n 0 j (omega (arith, q, h.many)) in
          subst (λ (x : ℕ). StandsAs T x (place_null i j v)) (sym at) (record { within = b; value = rw q e })
    ]

pub no_nulls : (S : List Value) (i v : ℕ) → NumbersOfNulls S i v 0 []
no_nulls S i v = record { many = refl; each = λ k h. absurd (omega arith) }

-- where the text of a variable stands
pub text_found : (vars : List ℕ) (t : Tuple) (i x : ℕ) → i < length vars → length t ≡ length vars → get_or vars i 0 ≡ x → text_of (drop i vars) (drop i t) x ≡ get_or t i []
text_found [] t i x h l e = absurd (omega arith)
text_found (y ∷ ys) [] i x h l e = absurd (omega arith)
text_found (y ∷ ys) (t ∷ ts) zero x h l e = rw (eq-eqb x y (sym e)) refl
text_found (y ∷ ys) (t ∷ ts) (suc i) x h l e = text_found ys ts i x (omega arith) (omega arith) e

-- what is above the last symbol is above all
pub last_above : (S : List Value) (n : ℕ) (v w : Value) → ValuesAscend S → n ≡ length S → 0 < n → w ≡ value_of S (n - 1) → value_cmp w v ≡ Less → Each S (λ x. value_cmp x v ≡ Less)
last_above S n v w up l p e h x m =
    let at = contains_from_in m in
    let is : value_of S at.0 ≡ x = get_or_default S at.0 (Const []) x at.1 ∙ at.2 in
    elim (cases_lt at.0 (n - 1)) [
      | inl b ↦ let one = up at.0 (n - 1) (Const []) b (omega (arith, l, p)) in value_total.trans x w v (rw (is, ← e) at one) h
      | inr b ↦ let q : at.0 ≡ n - 1 = omega (arith, at.1, l, b) in rw (← is, q, ← e) h
    ]

-- the variables of each atom are listed
pub atoms_listed : (d : Rule) (atoms : List Atom) (vars : List ℕ) → atoms ≡ d.conclusion → vars ≡ exported d → Each atoms (λ a. (x : ℕ) → Var x ∈ a.cells → x ∈ vars)
atoms_listed d atoms vars w v a m x k = rw v (((exported_exactly d).1 x).1 (in_flat_map (λ (z : Atom). z.cells) (subst (λ (z : List Atom). a ∈ z) w m) k))

-- one image more
pub maps_more : {X Y : Type 0} (f : X → Y) (xs : List X) (i : ℕ) (x : X) (ys : List Y) → i < length xs → x ≡ get_or xs i x → ys ≡ map f (take i xs) → ys ++ f x ∷ [] ≡ map f (take (i + 1) xs)
maps_more {X} {Y} f xs i x ys h e g = rw g (sym (ap (map f) (take_more xs i x h ∙ ap (λ (z : X). take i xs ++ z ∷ []) (sym e)) ∙ map_push f (take i xs) x))

-- ---- what a plan says

-- what is known of a row at a place
pub record Stands (S : List Value) (d : Rule) (places : ℕ) (row : List ℕ) (k : ℕ) : Type 0 where
  pub texts : AllTexts S row
  pub wide : length row ≡ length (exported d)
  pub place : k < places

cell_stands : (S : List Value) (i : ℕ) (d : Rule) (n k : ℕ) (row : List ℕ) (p : PlannedCell) (c : Cell) → Stands S d n row k → IsCellPlan S i (exported d) n p c
    → HasNumber row k p × StandsAs S (planned_number row k p) (cell_value (text_of (exported d) (texts_of S row)) (place_null i k) c)
cell_stands S i d n k row (Column j) (Var x) s h =
    let b : j < length row = omega (arith, h.within, s.wide) in
    let at = s.texts (get_or row j 0) (in_at row j 0 b) in
    let t : text_of (exported d) (texts_of S row) x ≡ text_of_value (value_of S (get_or row j 0)) =
    h.text (texts_of S row) (length-map row (λ (m : ℕ). text_of_value (value_of S m)) ∙ s.wide) ∙ get_or-map (λ (m : ℕ). text_of_value (value_of S m)) row j 0 [] b in
    (b, record { within = at.0; value = sym (text_back (value_of S (get_or row j 0)) at.1) ∙ ap Const (sym t) })
cell_stands S i d n k row (Column j) (Ex v) s h = absurd h
cell_stands S i d n k row (Column j) (Lit t) s h = absurd h
cell_stands S i d n k row (Fixed m) (Var x) s h = absurd h
cell_stands S i d n k row (Fixed m) (Ex v) s h = absurd h
cell_stands S i d n k row (Fixed m) (Lit t) s h = (tt, h)
cell_stands S i d n k row (Nulls ns) (Var x) s h = absurd h
cell_stands S i d n k row (Nulls ns) (Ex v) s h = (omega (arith, h.many, s.place), h.each k s.place)
cell_stands S i d n k row (Nulls ns) (Lit t) s h = absurd h

pub cells_stand : (S : List Value) (i : ℕ) (d : Rule) (n k : ℕ) (row : List ℕ) (ps : List PlannedCell) (cs : List Cell) → Stands S d n row k → AllZip (IsCellPlan S i (exported d) n) ps cs
    → Each ps (λ p. HasNumber row k p × (planned_number row k p < length S)) × (shown_row S (map (planned_number row k) ps) ≡ map (cell_value (text_of (exported d) (texts_of S row)) (place_null i k)) cs) × (length ps ≡ length cs)
cells_stand S i d n k row [] [] s z = ((λ p m. elim m [ ]), refl, refl)
cells_stand S i d n k row [] (c ∷ cs) s z = absurd z
cells_stand S i d n k row (p ∷ ps) [] s z = absurd z
cells_stand S i d n k row (p ∷ ps) (c ∷ cs) s z =
    let one = cell_stands S i d n k row p c s z.0 in
    let rest = cells_stand S i d n k row ps cs s z.1 in
    let first = one.1.value in
    let after = rest.1 in
    (each one rest.0, cc (first, after), ap suc rest.2)
  where
    each : HasNumber row k p × StandsAs S (planned_number row k p) (cell_value (text_of (exported d) (texts_of S row)) (place_null i k) c) → Each ps (λ q. HasNumber row k q × (planned_number row k q < length S))
        → Each (p ∷ ps) (λ q. HasNumber row k q × (planned_number row k q < length S))
    each one rest q (here e) = subst (λ (x : PlannedCell). HasNumber row k x × (planned_number row k x < length S)) e (one.0, one.1.within)
    each one rest q (there m) = rest q m

-- the planned atoms say what the conclusion says at the place
pub plan_says : (S : List Value) (i : ℕ) (d : Rule) (n k : ℕ) (row : List ℕ) (ps : List PlannedAtom) (atoms : List Atom) → Stands S d n row k → AllZip (IsPlannedAtom S i (exported d) n) ps atoms
    → map (planned_fact S row k) ps ≡ map (fact_of_atom (text_of (exported d) (texts_of S row)) (place_null i k)) atoms
plan_says S i d n k row [] [] s z = refl
plan_says S i d n k row [] (a ∷ atoms) s z = absurd z
plan_says S i d n k row (p ∷ ps) [] s z = absurd z
plan_says S i d n k row (p ∷ ps) (a ∷ atoms) s z =
    let one : planned_fact S row k p ≡ fact_of_atom (text_of (exported d) (texts_of S row)) (place_null i k) a =
    (λ j. record { table = z.0.table j; row = (cells_stand S i d n k row p.cells.items a.cells s z.0.cells).1 j }) in
    let rest = plan_says S i d n k row ps atoms s z.1 in
    cc (one, rest)

pub some_below : (row : List ℕ) (k : ℕ) (cells : List PlannedCell) (n : ℕ) → Each cells (λ c. planned_number row k c < n) → Each (map (planned_number row k) cells) (λ x. x < n)
some_below row k cells n h x m = let r = from_map (planned_number row k) cells m in rw (← r.2) (h r.0 r.1)
