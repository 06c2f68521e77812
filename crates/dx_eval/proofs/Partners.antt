-- Partners are found by keys, and places are left step by step.
use Rattle.std.proofs.Common.{◌≡◌, ◌↔◌, ℕ, ◌+◌, ◌<◌, ◌≤◌, true, false, Bool, List, [], ◌∷◌, ◌++◌, length, get_or, take, refl, sym, ◌∙◌, ap, subst, inl, inr}
use Rattle.std.specs.Prelude.{IsTrue, map, slice_index, slice_index_or}
use Rattle.std.proofs.lemmas.List.{get_or-map, length-map, take_all, take_more}
use Rattle.std.proofs.lemmas.Bool.{false≢true}
use Rattle.dx_base.specs.Members.{◌∈◌, here, there, Each}
use Rattle.dx_base.proofs.Members.{from_append, from_map, in_at, in_left, in_map, in_right, at_last}
use Rattle.dx_model.specs.declared.values.NullId.{NullId}
use Rattle.dx_model.specs.declared.values.Value.{Value}
use Rattle.dx_model.specs.declared.values.Value.TheVariants.{Const, Null}
use Rattle.dx_model.specs.Values.{Tuple}
use Rattle.dx_base.specs.Texts.{Text}
use Rattle.dx_instance.specs.Cells.{NumberTable, numbers_at}
use Rattle.dx_instance.specs.Numbers.{ValuesDiffer, value_of}
use Rattle.dx_instance.specs.Shown.{numbers_of_table}
use Rattle.dx_joins.specs.Shown.{AllTexts, is_text, texts_of}
use Rattle.dx_instance.specs.Ranks.{text_of_value}
use Rattle.dx_joins.proofs.Translating.{texts_same}
use Rattle.dx_script.specs.declared.form.Test.{Test}
use Rattle.dx_script.specs.declared.form.Test.TheVariants.{Columns, Literal}
use Rattle.dx_script.specs.declared.form.Unless.{Unless}
use Rattle.dx_script.specs.declared.form.Step.{Step}
use Rattle.dx_script.specs.declared.form.Step.TheVariants.{KeepRows}
use Rattle.dx_script.specs.Meaning.{MakesTrue, in_column, match_table}
use Rattle.dx_model.specs.Covers.{tuple_at}
use Rattle.dx_tgd.specs.Texts.{tuples_in}
use Rattle.dx_tgd.proofs.Ascending.{row_there}
use Rattle.dx_eval.specs.Keeping.{AreKeys, HoldsAlone, IsPartnered, LacksPartner, LacksPartners, KeepsPlaces, Stay, TestStands, column_numbers, other_columns, own_columns}

pub each_cons : {X : Type 0} (P : X → Type 0) (x : X) (xs : List X) → P x → Each xs P → Each (x ∷ xs) P
each_cons P x xs p h y (here e) = subst P e p
each_cons P x xs p h y (there m) = h y m

-- ---- columns

-- the text in a column is that of its number
pub column_is : (S : List Value) (row : List ℕ) (c : ℕ) → c < length row → in_column (texts_of S row) c ≡ text_of_value (value_of S (slice_index row c))
column_is S row c h = get_or-map (λ n. text_of_value (value_of S n)) row c 0 [] h

number_texts : (S : List Value) (row : List ℕ) (c : ℕ) → AllTexts S row → c < length row → AllTexts S (slice_index row c ∷ [])
number_texts S row c t h n (here e) = subst (λ x. (x < length S) × (is_text (value_of S x) ≡ true)) e (t (slice_index row c) (in_at row c 0 h))
number_texts S row c t h n (there m) = elim m [ ]

-- one text, one number
one_number : (S : List Value) (a b : List ℕ) (c d : ℕ) → ValuesDiffer S → AllTexts S a → AllTexts S b → c < length a → d < length b → in_column (texts_of S a) c ≡ in_column (texts_of S b) d → slice_index a c ≡ slice_index b d
one_number S a b c d apart s t h k e =
    let x : texts_of S (slice_index a c ∷ []) ≡ texts_of S (slice_index b d ∷ []) = ap (λ z. z ∷ []) (sym (column_is S a c h) ∙ (e ∙ column_is S b d k)) in
    let y = texts_same S (slice_index a c ∷ []) (slice_index b d ∷ []) apart (number_texts S a c s h) (number_texts S b d t k) x in
    cc

one_text : (S : List Value) (a b : List ℕ) (c d : ℕ) → c < length a → d < length b → slice_index a c ≡ slice_index b d → in_column (texts_of S a) c ≡ in_column (texts_of S b) d
one_text S a b c d h k e = column_is S a c h ∙ (ap (λ n. text_of_value (value_of S n)) e ∙ sym (column_is S b d k))

-- a constant is told by its text
pub constant_is : (v : Value) (text : Text) → is_text v ≡ true → (v ≡ Const text) ↔ (text_of_value v ≡ text)
constant_is (Const t) text e = ((λ q. ap text_of_value q), (λ q. ap Const q))
constant_is (Null n) text e = absurd (cc e)

-- ---- tests

module _ (S : List Value) (own other : List ℕ) (apart : ValuesDiffer S) (mine : AllTexts S own) (theirs : AllTexts S other) where
  -- all tests hold: those of the tuple's own columns, and the compared columns have one key
  meets_to : (tests : List Test) → Each tests (TestStands (length own) (length other)) → Each tests (MakesTrue (texts_of S own) (texts_of S other))
      → Each tests (HoldsAlone (texts_of S own)) × (column_numbers (own_columns tests) own ≡ column_numbers (other_columns tests) other)
  meets_to [] f h = ((λ t m. elim m [ ]), refl)
  meets_to (Columns c d ∷ tests) f h =
      let s = f (Columns c d) (here refl) in
      let rest = meets_to tests (λ t m. f t (there m)) (λ t m. h t (there m)) in
      let one : slice_index own d ≡ slice_index other c = one_number S own other d c apart mine theirs s.1 s.0 (sym (h (Columns c d) (here refl))) in
      let tail = rest.1 in
      (each_cons (HoldsAlone (texts_of S own)) (Columns c d) tests tt rest.0, cc)
  meets_to (Literal d text ∷ tests) f h =
      let rest = meets_to tests (λ t m. f t (there m)) (λ t m. h t (there m)) in
      (each_cons (HoldsAlone (texts_of S own)) (Literal d text) tests (h (Literal d text) (here refl)) rest.0, rest.1)

  meets_from : (tests : List Test) → Each tests (TestStands (length own) (length other)) → Each tests (HoldsAlone (texts_of S own)) → column_numbers (own_columns tests) own ≡ column_numbers (other_columns tests) other
      → Each tests (MakesTrue (texts_of S own) (texts_of S other))
  meets_from [] f h e = λ t m. elim m [ ]
  meets_from (Columns c d ∷ tests) f h e =
      let s = f (Columns c d) (here refl) in
      let one : slice_index own d ≡ slice_index other c = cc in
      let more : column_numbers (own_columns tests) own ≡ column_numbers (other_columns tests) other = cc in
      each_cons (MakesTrue (texts_of S own) (texts_of S other)) (Columns c d) tests (sym (one_text S own other d c s.1 s.0 one)) (meets_from tests (λ t m. f t (there m)) (λ t m. h t (there m)) more)
  meets_from (Literal d text ∷ tests) f h e =
      each_cons (MakesTrue (texts_of S own) (texts_of S other)) (Literal d text) tests (h (Literal d text) (here refl)) (meets_from tests (λ t m. f t (there m)) (λ t m. h t (there m)) e)

-- a tuple has a partner exactly if its own tests hold and its key is there
pub partnered_is : (S : List Value) (own : List ℕ) (others keys : List (List ℕ)) (tests : List Test) (w : ℕ) → ValuesDiffer S → AllTexts S own → Each others (AllTexts S) → Each others (λ r. length r ≡ w)
    → Each tests (TestStands (length own) w) → AreKeys (other_columns tests) others keys
    → IsPartnered (map (texts_of S) others) tests (texts_of S own) ↔ (Each tests (HoldsAlone (texts_of S own)) × (column_numbers (own_columns tests) own ∈ keys))
partnered_is S own others keys tests w apart mine theirs wide stand k = (
  (λ (other, m, h).
      let r = from_map (texts_of S) others m in
      let g = subst (λ (z : Tuple). Each tests (MakesTrue (texts_of S own) z)) (sym r.2) h in
      let p = meets_to S own r.0 apart mine (theirs r.0 r.1) tests (rw (wide r.0 r.1) stand) g in
      (p.0, (k.exact (column_numbers (own_columns tests) own)).1 (r.0, r.1, p.1))),
  (λ q.
      let r = (k.exact (column_numbers (own_columns tests) own)).0 q.1 in
      (texts_of S r.0, in_map (texts_of S) r.1, meets_from S own r.0 apart mine (theirs r.0 r.1) tests (rw (wide r.0 r.1) stand) q.0 r.2)),
)

-- ---- places

pub leaves_none : (P : ℕ → Type 0) → KeepsPlaces P [] []
leaves_none P k = ((λ m. elim m [ ]), (λ q. q.0))

-- a place that is left
pub leaves_one : (P : ℕ → Type 0) (places old : List ℕ) (i k : ℕ) → i < length places → k ≡ get_or places i k → P k → KeepsPlaces P (take i places) old → KeepsPlaces P (take (i + 1) places) (old ++ k ∷ [])
leaves_one P places old i k h e p l =
    let all : take (i + 1) places ≡ take i places ++ k ∷ [] = take_more places i k h ∙ ap (λ z. take i places ++ z ∷ []) (sym e) in
    rw all (λ j. (
      (λ m. elim (at_last old k j m) [ inl q ↦ (in_left (k ∷ []) ((l j).0 q).0, ((l j).0 q).1) | inr q ↦ (in_right (take i places) (here q), subst P q p) ]),
      (λ q. elim (at_last (take i places) k j q.0) [ inl m ↦ in_left (k ∷ []) ((l j).1 (m, q.1)) | inr m ↦ in_right old (here m) ]),
    ))

-- a place that is not
pub leaves_not : (P : ℕ → Type 0) (places old : List ℕ) (i k : ℕ) → i < length places → k ≡ get_or places i k → ¬ (P k) → KeepsPlaces P (take i places) old → KeepsPlaces P (take (i + 1) places) old
leaves_not P places old i k h e n l =
    let all : take (i + 1) places ≡ take i places ++ k ∷ [] = take_more places i k h ∙ ap (λ z. take i places ++ z ∷ []) (sym e) in
    rw all (λ j. (
      (λ m. (in_left (k ∷ []) ((l j).0 m).0, ((l j).0 m).1)),
      (λ q. elim (at_last (take i places) k j q.0) [ inl m ↦ (l j).1 (m, q.1) | inr m ↦ absurd (n (subst P (sym m) q.1)) ]),
    ))

-- ---- parts

pub parts_none : (S : List Value) (tables : List NumberTable) (r : ℕ) (places : List ℕ) → KeepsPlaces (LacksPartners S tables r []) places places
parts_none S tables r places k = ((λ m. (m, λ u n. elim n [ ])), (λ q. q.0))

pub parts_more : (S : List Value) (tables : List NumberTable) (r : ℕ) (unless : List Unless) (i : ℕ) (u : Unless) (own other : NumberTable) (old mid new : List ℕ) → i < length unless → u ≡ get_or unless i u
    → own ≡ numbers_of_table tables r → other ≡ numbers_of_table tables u.rule
    → KeepsPlaces (LacksPartners S tables r (take i unless)) old mid → KeepsPlaces (LacksPartner S own.rows other.rows u.tests) mid new → KeepsPlaces (LacksPartners S tables r (take (i + 1) unless)) old new
parts_more S tables r unless i u own other old mid new h e eo et a b =
    let all : take (i + 1) unless ≡ take i unless ++ u ∷ [] = take_more unless i u h ∙ ap (λ z. take i unless ++ z ∷ []) (sym e) in
    rw all (λ k. (
      (λ m. let q = (b k).0 m in let p = (a k).0 q.0 in (p.0, both k p.1 q.1)),
      (λ q. (b k).1 ((a k).1 (q.0, λ v n. q.1 v (in_left (u ∷ []) n)), rw (eo, et) (q.1 u (in_right (take i unless) (here refl))))),
    ))
  where
    both : (k : ℕ) → LacksPartners S tables r (take i unless) k → LacksPartner S own.rows other.rows u.tests k → LacksPartners S tables r (take i unless ++ u ∷ []) k
    both k p q v n = elim (from_append (take i unless) n) [ inl l ↦ p v l | inr x ↦ one x ]
      where
        one : v ∈ (u ∷ []) → LacksPartner S (numbers_of_table tables r).rows (numbers_of_table tables v.rule).rows v.tests k
        one (here d) = subst (λ (z : Unless). LacksPartner S (numbers_of_table tables r).rows (numbers_of_table tables z.rule).rows z.tests k) d (rw (eo, et) at q)
        one (there x) = elim x [ ]

pub left_within : (P : ℕ → Type 0) (n : ℕ) (old new : List ℕ) → Each old (λ k. k < n) → KeepsPlaces P old new → Each new (λ k. k < n)
left_within P n old new h l k m = h k ((l k).0 m).0

-- ---- steps

-- the places that the keep steps among the first ones leave
abbrev pub StaySoFar : List Value → List NumberTable → ℕ → List Step → List ℕ → Type 0
StaySoFar S tables r steps places = (k : ℕ) → (k ∈ places) ↔ ((k < length (numbers_of_table tables r).rows) × ((unless : List Unless) → KeepRows r unless ∈ steps → LacksPartners S tables r unless k))

pub stay_start : (S : List Value) (tables : List NumberTable) (r n : ℕ) (places : List ℕ) → n ≡ length (numbers_of_table tables r).rows → ((k : ℕ) → (k ∈ places) ↔ (k < n)) → StaySoFar S tables r [] places
stay_start S tables r n places e f k = ((λ m. (rw (← e) ((f k).0 m), λ unless q. elim q [ ])), (λ q. (f k).1 (rw e q.0)))

module _ (S : List Value) (tables : List NumberTable) (r : ℕ) (steps : List Step) (i : ℕ) (s : Step) (h : i < length steps) (is : s ≡ get_or steps i s) where
  all_are : take (i + 1) steps ≡ take i steps ++ s ∷ []
  all_are = take_more steps i s h ∙ ap (λ z. take i steps ++ z ∷ []) (sym is)

  -- a step that leaves the places of this rule
  pub stay_other : (places : List ℕ) → ((unless : List Unless) → ¬ (s ≡ KeepRows r unless)) → StaySoFar S tables r (take i steps) places → StaySoFar S tables r (take (i + 1) steps) places
  stay_other places n f = rw all_are (λ k. (
    (λ m. let q = (f k).0 m in (q.0, λ unless z. elim (from_append (take i steps) z) [ inl l ↦ q.1 unless l | inr x ↦ absurd (none unless x) ])),
    (λ q. (f k).1 (q.0, λ unless z. q.1 unless (in_left (s ∷ []) z))),
  ))
    where
      none : (unless : List Unless) → KeepRows r unless ∈ (s ∷ []) → ⊥
      none unless (here e) = n unless e
      none unless (there x) = elim x [ ]

  -- its keep step
  pub stay_keep : (places new : List ℕ) (unless : List Unless) → s ≡ KeepRows r unless → StaySoFar S tables r (take i steps) places → KeepsPlaces (LacksPartners S tables r unless) places new → StaySoFar S tables r (take (i + 1) steps) new
  stay_keep places new unless e f l = rw all_are (λ k. (
    (λ m.
        let a = (l k).0 m in
        let q = (f k).0 a.0 in
        (q.0, λ us z. elim (from_append (take i steps) z) [ inl y ↦ q.1 us y | inr y ↦ one k us a.1 y ])),
    (λ q. (l k).1 ((f k).1 (q.0, λ us z. q.1 us (in_left (s ∷ []) z)), q.1 unless (in_right (take i steps) (here e)))),
  ))
    where
      one : (k : ℕ) (us : List Unless) → LacksPartners S tables r unless k → KeepRows r us ∈ (s ∷ []) → LacksPartners S tables r us k
      one k us a (here d) = let same : unless ≡ us = let g = sym e ∙ d in cc in subst (λ z. LacksPartners S tables r z k) same a
      one k us a (there x) = elim x [ ]

-- what keep steps mean of the tuples
pub stay_all : (S : List Value) (tables : List NumberTable) (r : ℕ) (steps done : List Step) (places : List ℕ) → r < length tables → done ≡ steps
    → ((q : ℕ) (unless : List Unless) → KeepRows q unless ∈ steps → Each unless (λ u. u.rule < length tables))
    → StaySoFar S tables r done places → Stay steps (tuples_in S tables) r places
stay_all S tables r steps done places h e known f k = (
  (λ m. let q = (f k).0 m in (rw long q.0, λ unless z u n other o y. q.1 unless (rw e z) u n (to_partner unless z u n q.0 other o y))),
  (λ q. (f k).1 (rw (← long) q.0, λ unless z u n p. from_partner unless (rw (← e) z) u n (rw (← long) q.0) p (q.1 unless (rw (← e) z) u n))),
)
  where
    table : (j : ℕ) → j < length tables → match_table (tuples_in S tables) j ≡ map (texts_of S) (numbers_of_table tables j).rows
    table j l = get_or-map (λ (t : NumberTable). map (texts_of S) t.rows) tables j (record { width = 0; rows = [] }) [] l

    long : length (match_table (tuples_in S tables) r) ≡ length (numbers_of_table tables r).rows
    long = ap length (table r h) ∙ length-map (numbers_of_table tables r).rows (texts_of S)

    tuple : k < length (numbers_of_table tables r).rows → tuple_at (tuples_in S tables) r k ≡ texts_of S (numbers_at (numbers_of_table tables r).rows k)
    tuple l = ap (λ z. slice_index_or z k []) (table r h) ∙ get_or-map (texts_of S) (numbers_of_table tables r).rows k [] [] l

    to_partner : (unless : List Unless) → KeepRows r unless ∈ steps → (u : Unless) → u ∈ unless → k < length (numbers_of_table tables r).rows → (other : Tuple) → other ∈ match_table (tuples_in S tables) u.rule
        → ((t : Test) → t ∈ u.tests → MakesTrue (tuple_at (tuples_in S tables) r k) other t) → IsPartnered (map (texts_of S) (numbers_of_table tables u.rule).rows) u.tests (texts_of S (numbers_at (numbers_of_table tables r).rows k))
    to_partner unless z u n l other o y = (other, subst (λ (ts : List Tuple). other ∈ ts) (table u.rule (known r unless z u n)) o, subst (λ (w : Tuple). Each u.tests (MakesTrue w other)) (tuple l) y)

    from_partner : (unless : List Unless) → KeepRows r unless ∈ steps → (u : Unless) → u ∈ unless → k < length (numbers_of_table tables r).rows → IsPartnered (map (texts_of S) (numbers_of_table tables u.rule).rows) u.tests (texts_of S (numbers_at (numbers_of_table tables r).rows k))
        → ((other : Tuple) → other ∈ match_table (tuples_in S tables) u.rule → ¬ ((t : Test) → t ∈ u.tests → MakesTrue (tuple_at (tuples_in S tables) r k) other t)) → ⊥
    from_partner unless z u n l p f = f p.0 (subst (λ (ts : List Tuple). p.0 ∈ ts) (sym (table u.rule (known r unless z u n))) p.1) (subst (λ (w : Tuple). Each u.tests (MakesTrue w p.0)) (sym (tuple l)) p.2)

-- ---- columns that tests read

pub own_within : (tests : List Test) (own other : ℕ) → Each tests (TestStands own other) → Each (own_columns tests) (λ c. c < own)
own_within [] own other f x m = elim m [ ]
own_within (Columns c d ∷ tests) own other f x (here e) = subst (λ (z : ℕ). z < own) e (f (Columns c d) (here refl)).1
own_within (Columns c d ∷ tests) own other f x (there m) = own_within tests own other (λ t n. f t (there n)) x m
own_within (Literal d text ∷ tests) own other f x m = own_within tests own other (λ t n. f t (there n)) x m

pub other_within : (tests : List Test) (own other : ℕ) → Each tests (TestStands own other) → Each (other_columns tests) (λ c. c < other)
other_within [] own other f x m = elim m [ ]
other_within (Columns c d ∷ tests) own other f x (here e) = subst (λ (z : ℕ). z < other) e (f (Columns c d) (here refl)).0
other_within (Columns c d ∷ tests) own other f x (there m) = other_within tests own other (λ t n. f t (there n)) x m
other_within (Literal d text ∷ tests) own other f x m = other_within tests own other (λ t n. f t (there n)) x m

-- ---- tests of the tuple alone

pub const_is : (v : Value) (own text : Text) (b : Bool) → v ≡ Const own → (IsTrue b ↔ (own ≡ text)) → IsTrue b ↔ (v ≡ Const text)
const_is v own text b e k = ((λ t. e ∙ ap Const (k.0 t)), (λ q. k.1 (ap text_of_value (sym e ∙ q))))

pub null_is_not : (v : Value) (n : NullId) (text : Text) → v ≡ Null n → IsTrue false ↔ (v ≡ Const text)
null_is_not v n text e = ((λ t. absurd (false≢true t)), (λ q. absurd (apart (sym e ∙ q))))
  where
    apart : Null n ≡ Const text → ⊥
    apart d = cc

pub literal_stands : (own other d : ℕ) (text : Text) (t : Test) → t ≡ Literal d text → TestStands own other t → d < own
literal_stands own other d text t e s = subst (TestStands own other) e s

pub literal_holds : (S : List Value) (row : List ℕ) (d : ℕ) (text : Text) (t : Test) (b : Bool) → AllTexts S row → d < length row → t ≡ Literal d text → (IsTrue b ↔ (value_of S (slice_index row d) ≡ Const text))
    → IsTrue b ↔ HoldsAlone (texts_of S row) t
literal_holds S row d text t b r h v k = subst (λ (z : Test). IsTrue b ↔ HoldsAlone (texts_of S row) z) (sym v) own
  where
    own : IsTrue b ↔ (in_column (texts_of S row) d ≡ text)
    own =
        let p = r (slice_index row d) (in_at row d 0 h) in
        let q = constant_is (value_of S (slice_index row d)) text p.1 in
        let e = column_is S row d h in
        ((λ w. e ∙ q.0 (k.0 w)), (λ w. k.1 (q.1 (sym e ∙ w))))

pub alone_other : (own : Tuple) (t : Test) → ((d : ℕ) (text : Text) → ¬ (t ≡ Literal d text)) → HoldsAlone own t
alone_other own (Columns c d) n = tt
alone_other own (Literal d text) n = absurd (n d text refl)

-- ---- the tuple at a place

pub partner_is : (S : List Value) (own : NumberTable) (others keys : List (List ℕ)) (tests : List Test) (w k : ℕ) (row cols columns : List ℕ) (b : Bool) → ValuesDiffer S → Each own.rows (AllTexts S)
    → k < length own.rows → row ≡ numbers_at own.rows k → length row ≡ own.width → Each others (AllTexts S) → Each others (λ r. length r ≡ w) → Each tests (TestStands own.width w)
    → AreKeys cols others keys → cols ≡ other_columns tests → columns ≡ own_columns tests → (IsTrue b ↔ (Each tests (HoldsAlone (texts_of S row)) × (column_numbers columns row ∈ keys)))
    → IsPartnered (map (texts_of S) others) tests (texts_of S (numbers_at own.rows k)) ↔ IsTrue b
partner_is S own others keys tests w k row cols columns b apart mine h is wide theirs long stand ks ce oe t =
    let texts : AllTexts S row = row_there S own.rows k row mine h is in
    let stands : Each tests (TestStands (length row) w) = subst (λ (z : ℕ). Each tests (TestStands z w)) (sym wide) stand in
    let keyed : AreKeys (other_columns tests) others keys = subst (λ (z : List ℕ). AreKeys z others keys) ce ks in
    let p = partnered_is S row others keys tests w apart texts theirs long stands keyed in
    subst (λ (z : List ℕ). IsPartnered (map (texts_of S) others) tests (texts_of S z) ↔ IsTrue b) is (
      (λ q. let r = p.0 q in t.1 (r.0, subst (λ (z : List ℕ). column_numbers z row ∈ keys) (sym oe) r.1)),
      (λ q. let r = t.0 q in p.1 (r.0, subst (λ (z : List ℕ). column_numbers z row ∈ keys) oe r.1)),
    )

pub leaves_all : (P : ℕ → Type 0) (places left : List ℕ) (i : ℕ) → length places ≤ i → KeepsPlaces P (take i places) left → KeepsPlaces P places left
leaves_all P places left i h l = subst (λ (z : List ℕ). KeepsPlaces P z left) (take_all i places h) l

-- ---- tables

pub texts_at : (S : List Value) (tables : List NumberTable) (r : ℕ) (t : NumberTable) → r < length tables → t ≡ get_or tables r t → Each tables (λ (u : NumberTable). Each u.rows (AllTexts S)) → Each t.rows (AllTexts S)
texts_at S tables r t h is f = f t (subst (λ (z : NumberTable). z ∈ tables) (sym is) (in_at tables r t h))

pub parts_all : (S : List Value) (tables : List NumberTable) (r i : ℕ) (unless : List Unless) (old left : List ℕ) → length unless ≤ i → KeepsPlaces (LacksPartners S tables r (take i unless)) old left → KeepsPlaces (LacksPartners S tables r unless) old left
parts_all S tables r i unless old left h l = subst (λ (z : List Unless). KeepsPlaces (LacksPartners S tables r z) old left) (take_all i unless h) l

-- ---- other steps

pub keep_of_another : (s : Step) (q r : ℕ) (us : List Unless) → s ≡ KeepRows q us → ¬ (q ≡ r) → (unless : List Unless) → ¬ (s ≡ KeepRows r unless)
keep_of_another s q r us e n unless d = n (same (sym e ∙ d))
  where
    same : KeepRows q us ≡ KeepRows r unless → q ≡ r
    same g = cc

pub no_keep : (s : Step) (r : ℕ) → ((q : ℕ) (us : List Unless) → ¬ (s ≡ KeepRows q us)) → (unless : List Unless) → ¬ (s ≡ KeepRows r unless)
no_keep s r n unless = n r unless

-- ---- the loop over places

pub place_left : (S : List Value) (own others : List (List ℕ)) (tests : List Test) (places old : List ℕ) (i k : ℕ) (b : Bool) → i < length places → k ≡ get_or places i k → b ≡ false
    → (IsPartnered (map (texts_of S) others) tests (texts_of S (numbers_at own k)) ↔ IsTrue b) → KeepsPlaces (LacksPartner S own others tests) (take i places) old
    → KeepsPlaces (LacksPartner S own others tests) (take (i + 1) places) (old ++ k ∷ [])
place_left S own others tests places old i k b h e f p l = leaves_one (LacksPartner S own others tests) places old i k h e (λ q. false≢true (sym f ∙ p.0 q)) l

pub place_gone : (S : List Value) (own others : List (List ℕ)) (tests : List Test) (places old : List ℕ) (i k : ℕ) (b : Bool) → i < length places → k ≡ get_or places i k → b ≡ true
    → (IsPartnered (map (texts_of S) others) tests (texts_of S (numbers_at own k)) ↔ IsTrue b) → KeepsPlaces (LacksPartner S own others tests) (take i places) old
    → KeepsPlaces (LacksPartner S own others tests) (take (i + 1) places) old
place_gone S own others tests places old i k b h e f p l = leaves_not (LacksPartner S own others tests) places old i k h e (λ n. n (p.1 f)) l
