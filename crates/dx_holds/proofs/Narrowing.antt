-- Cells that say what a search found.
use Rattle.std.proofs.Common.{◌≡◌, ◌∙◌, ℕ, ◌+◌, ◌<◌, ◌≤◌, List, [], ◌∷◌, ◌++◌, inl, inr, refl, sym, ap, subst, arith, length, get_or, take, append_assoc}
use Rattle.std.specs.Prelude.{map, ◌↔◌, Bool, true, false, IsTrue, MatchBool, MatchOption, IfSome, Option, None, Some}
use Rattle.std.specs.List.{range_with_len}
use Rattle.std.proofs.lemmas.Bool.{cases_eq, cases_lt, false≢true}
use Rattle.std.proofs.lemmas.List.{take_more, map-append, take_all, take-map, length-append, length-map, append-nil, same_from_push, get_or-map}
use Rattle.std.proofs.lemmas.List.FromFn.{length-range_with_len}
use Rattle.std.proofs.Math.Seq.{take-append_seam}
use Rattle.dx_base.specs.Members.{◌∈◌, Distinct, Each, here, there, IsPrefix}
use Rattle.dx_base.proofs.Members.{from_append, from_map, in_at, in_flat_map, in_left, in_right, distinct_more, no_longer}
use Rattle.dx_base.proofs.Ranges.{to_range}
use Rattle.dx_model.specs.declared.values.Value.{Value}
use Rattle.dx_model.specs.declared.values.Value.TheVariants.{Const}
use Rattle.dx_model.specs.declared.rules.Atom.{Atom}
use Rattle.dx_model.specs.declared.rules.Cell.{Cell}
use Rattle.dx_model.specs.declared.rules.Cell.TheVariants.{Ex}
use Rattle.dx_base.specs.Texts.{Text}
use Rattle.dx_model.specs.Rules.{cell_value, cells_of}
use Rattle.dx_instance.specs.Stored.{TableRows, rows_of, table_at}
use Rattle.dx_instance.specs.Places.{IsFirstWith, HasValues, row_at, value_at}
use Rattle.dx_holds.specs.declared.matching.Found.{Found}
use Rattle.dx_holds.specs.Searching.{FoundCells, ExtendsFound, IsVariableCell, AtomSaysRow, Misses, AddsExactly, HasNoMatchBetween, found_variables, variable_value}

-- ---- lists

-- distinct numbers below n are at most n
pub distinct_few : (xs : List ℕ) (n : ℕ) → Distinct xs → Each xs (λ x. x < n) → length xs ≤ n
distinct_few xs n d b = let h = no_longer xs (range_with_len 0 n) d (λ x m. to_range 0 n x (omega arith) (let k = b x m in omega (arith, k))) in omega (arith, h, length-range_with_len 0 n)

pub each_last : {X : Type 0} (P : X → Type 0) (xs : List X) (x : X) → Each xs P → P x → Each (xs ++ x ∷ []) P
each_last {X} P xs x h p y m = elim (from_append xs m) [ inl l ↦ h y l | inr r ↦ at r ]
  where
    at : y ∈ (x ∷ []) → P y
    at (here e) = subst P e p
    at (there i) = elim i [ ]

-- with one more there is room
pub room_more : (xs : List ℕ) (n x : ℕ) → Distinct xs → Each xs (λ y. y < n) → ¬ (x ∈ xs) → x < n → length xs < n
room_more xs n x d b k h =
    let l = distinct_few (xs ++ x ∷ []) n (distinct_more xs x d k) (each_last (λ y. y < n) xs x b h) in
    omega (arith, l, length-append xs (x ∷ []))

pub begins_none : {X : Type 0} (xs : List X) → IsPrefix xs xs
begins_none xs = ([], sym (append-nil xs))

pub begins_on : {X : Type 0} (a b c : List X) → IsPrefix a b → IsPrefix b c → IsPrefix a c
begins_on a b c x y = (x.0 ++ y.0, y.1 ∙ (ap (λ l. l ++ y.0) x.1 ∙ append_assoc a x.0 y.0))

-- a list that begins with another, cut where it began
pub cut : {X : Type 0} (old new : List X) (n : ℕ) → n ≡ length old → IsPrefix old new → take n new ≡ old
cut old new n e b = rw (e, b.1) (take-append_seam old b.0)

names_below : (n : ℕ) (found : List Found) → Each found (λ b. b.variable < n) → Each (found_variables found) (λ v. v < n)
names_below n found h v m = let r = from_map (λ (b : Found). b.variable) found m in subst (λ (k : ℕ). k < n) r.2 (h r.0 r.1)

-- ---- one variable

module _ (I : List TableRows) (n : ℕ) (found : List Found) (cell : Found) where
  -- there is room for a variable that was not found
  pub room_for : FoundCells I n found → ¬ (cell.variable ∈ found_variables found) → cell.variable < n → length found < n
  room_for good k b = let h = room_more (found_variables found) n cell.variable good.once (names_below n found good.below) k b in omega (arith, h, length-map found (λ (x : Found). x.variable))

  met_before : (b : Found) → FoundCells I n found → b ∈ found → b.variable ≡ cell.variable → variable_value I b ≡ variable_value I cell → AddsExactly I n found (λ values. values cell.variable ≡ variable_value I cell) found
  met_before b good m e v = record {
    begins = begins_none found;
    good = good;
    exact = λ values. ((λ w. (w, ap values (sym e) ∙ (w b m ∙ v))), (λ w. w.0));
  }

  failed_before : (b : Found) → b ∈ found → b.variable ≡ cell.variable → ¬ (variable_value I b ≡ variable_value I cell) → Misses I found (λ values. values cell.variable ≡ variable_value I cell) found
  failed_before b m e v = record {
    begins = begins_none found;
    none = λ values w d. v (sym (w b m) ∙ (ap values e ∙ d));
  }

  pub answer_before : (b : Found) → FoundCells I n found → b ∈ found → b.variable ≡ cell.variable → (r : Bool) → (IsTrue r ↔ (variable_value I b ≡ variable_value I cell))
      → MatchBool r (AddsExactly I n found (λ values. values cell.variable ≡ variable_value I cell) found) (Misses I found (λ values. values cell.variable ≡ variable_value I cell) found)
  answer_before b good m e true h = met_before b good m e (h.0 refl)
  answer_before b good m e false h = failed_before b m e (λ q. absurd (false≢true (h.1 q)))

  pub met_now : FoundCells I n found → IsVariableCell I cell → ¬ (cell.variable ∈ found_variables found) → cell.variable < n → AddsExactly I n found (λ values. values cell.variable ≡ variable_value I cell) (found ++ cell ∷ [])
  met_now good c new b = record {
    begins = (cell ∷ [], refl);
    good = record {
      once = rw map-append (distinct_more (found_variables found) cell.variable good.once new);
      cells = each_last (IsVariableCell I) found cell good.cells c;
      below = each_last (λ (x : Found). x.variable < n) found cell good.below b;
    };
    exact = λ values. (
      (λ w. ((λ x m. w x (in_left _ m)), w cell (in_right found (here refl)))),
      (λ w. each_last (λ (x : Found). values x.variable ≡ variable_value I x) found cell w.0 w.1),
    );
  }

-- ---- one cell

-- a cell whose value is known
pub answer_known : (I : List TableRows) (n : ℕ) (found : List Found) (f : (ℕ → Value) → Value) (w : Value) (r : Bool) → FoundCells I n found → ((values : ℕ → Value) → IsTrue r ↔ (f values ≡ w))
    → MatchBool r (AddsExactly I n found (λ values. f values ≡ w) found) (Misses I found (λ values. f values ≡ w) found)
answer_known I n found f w true good h = record {
  begins = begins_none found;
  good = good;
  exact = λ values. ((λ a. (a, (h values).0 refl)), (λ a. a.0));
}
answer_known I n found f w false good h = record { begins = begins_none found; none = λ values a d. absurd (false≢true ((h values).1 d)) }

-- ---- rows

-- the first i cells say the first i values
abbrev pub MeetsFirst : (ℕ → Text) → List Cell → List Value → ℕ → (ℕ → Value) → Type 0
MeetsFirst T a b i values = map (cell_value T values) (take i a) ≡ take i b

pub row_start : (T : ℕ → Text) (I : List TableRows) (n : ℕ) (a : List Cell) (b : List Value) (found : List Found) → FoundCells I n found → AddsExactly I n found (MeetsFirst T a b 0) found
row_start T I n a b found good = record { begins = begins_none found; good = good; exact = λ values. ((λ w. (w, refl)), (λ w. w.0)) }

module _ (T : ℕ → Text) (I : List TableRows) (n : ℕ) (a : List Cell) (b : List Value) (start now : List Found) (i : ℕ) (x : Cell) (y : Value)
    (l : length a ≡ length b) (h : i < length a) (p : x ≡ get_or a i x) (q : y ≡ get_or b i y) (s : AddsExactly I n start (MeetsFirst T a b i) now) where
  parts : (values : ℕ → Value) → MeetsFirst T a b (i + 1) values → MeetsFirst T a b i values × (cell_value T values x ≡ y)
  parts values e =
      let within : i < length b = omega arith in
      let f : map (cell_value T values) (take i a) ++ cell_value T values (get_or a i x) ∷ [] ≡ take i b ++ get_or b i y ∷ [] =
      sym (map-append (cell_value T values) (take i a) (get_or a i x ∷ [])) ∙ (ap (map (cell_value T values)) (sym (take_more a i x h)) ∙ (e ∙ take_more b i y within)) in
      let w = same_from_push (map (cell_value T values) (take i a)) (take i b) _ _ f in
      (w.0, ap (cell_value T values) p ∙ (w.1 ∙ sym q))

  joined : (values : ℕ → Value) → MeetsFirst T a b i values → cell_value T values x ≡ y → MeetsFirst T a b (i + 1) values
  joined values e d =
      let within : i < length b = omega arith in
      rw (take_more a i x h, take_more b i y within, map-append (cell_value T values), e) (let z : cell_value T values (get_or a i x) ≡ get_or b i y = ap (cell_value T values) (sym p) ∙ (d ∙ q) in ap (λ v. take i b ++ v ∷ []) z)

  pub row_more : (more : List Found) → AddsExactly I n now (λ values. cell_value T values x ≡ y) more → AddsExactly I n start (MeetsFirst T a b (i + 1)) more
  row_more more t = record {
    begins = begins_on start now more s.begins t.begins;
    good = t.good;
    exact = λ values. (
      (λ m. let u = (t.exact values).0 m in let w = (s.exact values).0 u.0 in (w.0, joined values w.1 u.1)),
      (λ w. (t.exact values).1 ((s.exact values).1 (w.0, (parts values w.1).0), (parts values w.1).1)),
    );
  }

  pub row_failed : (more : List Found) → Misses I now (λ values. cell_value T values x ≡ y) more → Misses I start (λ values. map (cell_value T values) a ≡ b) more
  row_failed more t = record {
    begins = begins_on start now more s.begins t.begins;
    none = λ values m e.
        let whole : MeetsFirst T a b (i + 1) values = sym (take-map (cell_value T values) (i + 1) a) ∙ ap (take (i + 1)) e in
        t.none values ((s.exact values).1 (m, (parts values whole).0)) (parts values whole).1;
  }

pub row_whole : (T : ℕ → Text) (I : List TableRows) (n : ℕ) (a : List Cell) (b : List Value) (start now : List Found) (i : ℕ) → length a ≡ length b → length a ≤ i
    → AddsExactly I n start (MeetsFirst T a b i) now → AddsExactly I n start (λ values. map (cell_value T values) a ≡ b) now
row_whole T I n a b start now i l h s =
    subst (λ (c : List Cell). AddsExactly I n start (λ values. map (cell_value T values) c ≡ b) now) (take_all i a h)
    (subst (λ (d : List Value). AddsExactly I n start (λ values. map (cell_value T values) (take i a) ≡ d) now) (take_all i b (omega (arith, l, h))) s)

-- ---- places

module _ (T : ℕ → Text) (I : List TableRows) (n : ℕ) where
  pub skips_more : (found : List Found) (a : Atom) (x p : ℕ) → HasNoMatchBetween T I found a x p → ((values : ℕ → Value) → ExtendsFound I found values → ¬ (AtomSaysRow T I a p values)) → HasNoMatchBetween T I found a x (p + 1)
  skips_more found a x p s h q values l k w e = elim (cases_eq q p) [
    | inl d ↦ h values w (rw d at e)
    | inr d ↦ let m : q < p = omega arith in s q values l m w e
  ]

  pub skips_on : (found : List Found) (a : Atom) (x y z : ℕ) → HasNoMatchBetween T I found a x y → HasNoMatchBetween T I found a y z → HasNoMatchBetween T I found a x z
  skips_on found a x y z s t q values l k w e = elim (cases_lt q y) [ inl b ↦ s q values l b w e | inr b ↦ t q values b k w e ]

-- what a look-up by a known cell tells
abbrev pub Next : (ℕ → Text) → List TableRows → List Found → Atom → ℕ → Option ℕ → Type 0
Next T I found a n o = MatchOption o (HasNoMatchBetween T I found a n (length (rows_of I a.table))) (λ p. (n ≤ p) × (p < length (rows_of I a.table)) × HasNoMatchBetween T I found a n p)

other_column : (T : ℕ → Text) (I : List TableRows) (found : List Found) (a : Atom) (c p : ℕ) (x : Cell) (v : Value) → c < length a.cells → x ≡ get_or a.cells c x
    → ((values : ℕ → Value) → ExtendsFound I found values → cell_value T values x ≡ v) → ¬ (HasValues I a.table (c ∷ []) (v ∷ []) p) → (values : ℕ → Value) → ExtendsFound I found values → ¬ (AtomSaysRow T I a p values)
other_column T I found a c p x v h e known none values w r =
    let d : get_or (row_at I a.table p) c (Const []) ≡ cell_value T values x = ap (λ l. get_or l c (Const [])) (sym r) ∙ (get_or-map (cell_value T values) a.cells c x (Const []) h ∙ ap (cell_value T values) (sym e)) in
    let k : value_at I a.table p c ≡ v = d ∙ known values w in
    none (ap (λ y. y ∷ []) k)

pub by_column : (T : ℕ → Text) (I : List TableRows) (found : List Found) (a : Atom) (c n : ℕ) (x : Cell) (v : Value) → c < length a.cells → x ≡ get_or a.cells c x
    → ((values : ℕ → Value) → ExtendsFound I found values → cell_value T values x ≡ v) → (o : Option ℕ) → IsFirstWith I a.table (c ∷ []) (v ∷ []) n o → Next T I found a n o
by_column T I found a c n x v h e known None k = λ p values l b w. other_column T I found a c p x v h e known (k p l b) values w
by_column T I found a c n x v h e known (Some q) k = (k.0, k.1, λ p values l b w. other_column T I found a c p x v h e known (k.2 p l b) values w)

pub by_none : (T : ℕ → Text) (I : List TableRows) (found : List Found) (a : Atom) (n : ℕ) (o : Option ℕ) → IsFirstWith I a.table [] [] n o → Next T I found a n o
by_none T I found a n None k = λ p values l b w d. k p l b refl
by_none T I found a n (Some q) k = (k.0, k.1, λ p values l b w d. k.2 p l b refl)

pub known_value : (T : ℕ → Text) (I : List TableRows) (found : List Found) (x : Cell) (v : ℕ) (b : Found) → x ≡ Ex v → b ∈ found → b.variable ≡ v → (values : ℕ → Value) → ExtendsFound I found values → cell_value T values x ≡ variable_value I b
known_value T I found x v b e m d values w = ap (cell_value T values) e ∙ (ap values (sym d) ∙ w b m)

-- what holds of the one value that there may be
pub some_known : (o : Option Value) (w : Value) (P : Value → Type 0) → IfSome o (λ v. v ≡ w) → P w → IfSome o P
some_known None w P h p = tt
some_known (Some v) w P h p = subst P (sym h) p

-- a cell of an atom is one of the cells
-- the member of a list of one is that one
pub only_member : (c x : Cell) → x ∈ (c ∷ []) → c ≡ x
only_member c x (here e) = e
only_member c x (there m) = elim m [ ]

pub in_cells : (A : List Atom) (a : Atom) (c : Cell) → a ∈ A → c ∈ a.cells → c ∈ cells_of A
in_cells A a c m k = in_flat_map (λ (x : Atom). x.cells) m k

-- an atom is as wide as the rows of its table
pub row_wide : (I : List TableRows) (a : Atom) (p : ℕ) → a.table < length I → length a.cells ≡ (table_at I a.table).width → p < length (rows_of I a.table) → Each I (λ t. Each t.rows (λ (r : List Value). length r ≡ t.width)) → length a.cells ≡ length (row_at I a.table p)
row_wide I a p h e b wide = e ∙ sym (wide (table_at I a.table) (in_at I a.table (record { width = 0; rows = [] }) h) (row_at I a.table p) (in_at (rows_of I a.table) p [] b))
