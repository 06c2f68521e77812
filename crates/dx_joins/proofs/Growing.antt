-- Collected rows whose symbols grow.
use Rattle.std.proofs.Common.{◌≡◌, ◌↔◌, ◌⊎◌, ◌∙◌, ◌<◌, ◌≤◌, ◌+◌, ◌++◌, ◌∷◌, ℕ, eqb, List, [], Bool, true, false, refl, sym, ap, subst, arith, length, get_or, take, inl, inr, Result, Ok, Err, Option, None, Some}
use Rattle.std.specs.Prelude.{map, slice_index, slice_index_or, IfOk, MatchOption}
use Rattle.std.specs.List.{range_with_len}
use Rattle.std.specs.declared.alloc.AllocError.{AllocError}
use Rattle.std.proofs.lemmas.Bool.{cases_Bool, cases_lt, eqb-false}
use Rattle.std.proofs.lemmas.List.{length-map, length-append, get_or_default, get_or-map, map-append, append_assoc, take_more}
use Rattle.std.proofs.lemmas.Simd.{map-map}
use Rattle.dx_joins.specs.Looking.{numbers_at_places}
use Rattle.dx_base.specs.Members.{◌∈◌, ◌⊆◌, here, there, Each}
use Rattle.dx_base.proofs.Members.{from_append, in_map, from_map, in_at, contains_from_in}
use Rattle.dx_base.proofs.Tests.{map_same}
use Rattle.dx_model.specs.declared.values.Value.{Value}
use Rattle.dx_model.specs.declared.values.Value.TheVariants.{Const}
use Rattle.dx_model.specs.declared.rules.Derived.{Derived}
use Rattle.dx_model.specs.Values.{Conversions, Tuple}
use Rattle.dx_base.specs.Texts.{Text}
use Rattle.dx_model.specs.Rules.{text_of}
use Rattle.dx_instance.specs.Numbers.{ValuesDiffer, Extends, value_of}
use Rattle.dx_instance.specs.Cells.{NumberTable, numbers_at}
use Rattle.dx_instance.proofs.ShownFacts.{grown_value, longer}
use Rattle.dx_joins.specs.Collecting.{RowsExactly, Collection, Collects, CollectsRows, MoreThan}
use Rattle.dx_joins.specs.Planning.{first_place}
use Rattle.dx_joins.specs.Shown.{AllTexts, MoreTuples, StandFor, is_text, texts_of}
use Rattle.dx_instance.specs.Ranks.{text_of_value}
use Rattle.dx_joins.specs.Derivations.{DerivesTo, GivenBy, derived_values, given_to}
use Rattle.dx_joins.proofs.Translating.{distinct_texts}

pub texts_grow : (S S' : List Value) (row : List ℕ) → Extends S S' → AllTexts S row → AllTexts S' row
texts_grow S S' row e h n m = let k = h n m in (omega (arith, k.0, longer S S' e), ap is_text (grown_value S S' n e k.0) ∙ k.1)

pub texts_stay : (S S' : List Value) (row : List ℕ) → Extends S S' → AllTexts S row → texts_of S' row ≡ texts_of S row
texts_stay S S' row e h = map_same (λ n. text_of_value (value_of S' n)) (λ n. text_of_value (value_of S n)) row (λ n m. ap text_of_value (grown_value S S' n e (h n m).0))

-- the text of a variable is the one at its place
pub text_at : (names : List ℕ) (ts : Tuple) (x : ℕ) → length ts ≡ length names → x ∈ names → text_of names ts x ≡ slice_index_or ts (first_place names x) []
text_at [] ts x l m = elim m [ ]
text_at (y ∷ ys) [] x l m = absurd (omega arith)
text_at (y ∷ ys) (t ∷ ts) x l m = elim (cases_Bool (eqb x y)) [
  | inl e ↦ rw e refl
  | inr f ↦ rw f (text_at ys ts x (omega arith) (rest f m))
]
  where
    rest : eqb x y ≡ false → x ∈ (y ∷ ys) → x ∈ ys
    rest f (here d) = absurd (eqb-false x y f (sym d))
    rest f (there k) = k

-- rows that stand for tuples, while the symbols grow
pub record Standing (S : List Value) (out : Collection) (P : Tuple → Type 0) : Type 0 where
  pub texts : Each out.rows (AllTexts S)
  pub exact : (t : Tuple) → (t ∈ map (texts_of S) out.rows) ↔ P t

pub standing_more : (S S' : List Value) (before after : Collection) (got : List ℕ) (P Q : Tuple → Type 0) → Extends S S' → AllTexts S' got → CollectsRows before after (λ r. r ≡ got)
    → ((t : Tuple) → (P t ⊎ (t ≡ texts_of S' got)) ↔ Q t) → Standing S before P → Standing S' after Q
standing_more S S' before after got P Q e g gains s st = record {
  texts = λ r m. elim ((gains.exact r).0 m) [ inl l ↦ texts_grow S S' r e (st.texts r l) | inr q ↦ rw q g ];
  exact = λ t. (
    (λ m. let r = from_map (texts_of S') after.rows m in
        elim ((gains.exact r.0).0 r.1) [
          | inl l ↦ (s t).0 (inl ((st.exact t).0 (subst (λ (u : Tuple). u ∈ map (texts_of S) before.rows) (sym (texts_stay S S' r.0 e (st.texts r.0 l)) ∙ r.2) (in_map (texts_of S) l))))
          | inr q ↦ (s t).0 (inr (sym r.2 ∙ ap (texts_of S') q))
        ]),
    (λ q. elim ((s t).1 q) [
      | inl p ↦ let r = from_map (texts_of S) before.rows ((st.exact t).1 p) in
          subst (λ (u : Tuple). u ∈ map (texts_of S') after.rows) (texts_stay S S' r.0 e (st.texts r.0 r.1) ∙ r.2) (in_map (texts_of S') ((gains.exact r.0).1 (inl r.1)))
      | inr k ↦ subst (λ (u : Tuple). u ∈ map (texts_of S') after.rows) (sym k) (in_map (texts_of S') ((gains.exact got).1 (inr refl)))
    ]),
  );
}

pub standing_full : (S S' : List Value) (before : Collection) (most : ℕ) (got : List ℕ) (P Q : Tuple → Type 0) → ValuesDiffer S' → Extends S S' → AllTexts S' got → MoreThan most (λ r. (r ∈ before.rows) ⊎ (r ≡ got))
    → ((t : Tuple) → P t → Q t) → Q (texts_of S' got) → Standing S before P → MoreTuples most Q
standing_full S S' before most got P Q apart e g m s q st =
    let texts : Each m.some (AllTexts S') = λ r k. elim (m.each r k) [ inl l ↦ texts_grow S S' r e (st.texts r l) | inr i ↦ rw i g ] in
    let long = length-map m.some (texts_of S') in
    record {
      tuples = map (texts_of S') m.some;
      distinct = distinct_texts S' m.some apart texts m.distinct;
      each = λ t k. let r = from_map (texts_of S') m.some k in
          elim (m.each r.0 r.1) [
            | inl l ↦ s t ((st.exact t).0 (subst (λ (u : Tuple). u ∈ map (texts_of S) before.rows) (sym (texts_stay S S' r.0 e (st.texts r.0 l)) ∙ r.2) (in_map (texts_of S) l)))
            | inr i ↦ subst Q (ap (texts_of S') (sym i) ∙ r.2) q
          ];
      more = let a = m.more in omega (arith, a, long);
      few = let a = m.few in omega (arith, a, long);
    }

-- one of the first rows gives t
abbrev pub Upto : Conversions → List ℕ → List Derived → ℕ → List ℕ → List Value → List (List ℕ) → ℕ → Tuple → Type 0
Upto convert wanted derived first shown S0 rows i t = (q : ℕ) × (q < i) × (t ≡ given_to convert wanted derived first shown (texts_of S0 (numbers_at rows q)))

-- the loop over rows
module _ (convert : Conversions) (wanted : List ℕ) (derived : List Derived) (first : ℕ) (shown places : List ℕ) (S0 : List Value) (rows : List (List ℕ)) (texts : Each rows (AllTexts S0)) (wide : Each rows (λ (r : List ℕ). length r ≡ length wanted))
    (at : places ≡ map (first_place (wanted ++ range_with_len first (length derived))) shown) (known : shown ⊆ (wanted ++ range_with_len first (length derived))) (count : length (range_with_len first (length derived)) ≡ length derived) where
  abbrev First : ℕ → Tuple → Type 0
  First = Upto convert wanted derived first shown S0 rows

  abbrev Whole : Tuple → Type 0
  Whole = GivenBy convert wanted derived first shown S0 rows

  got_is : (S S' : List Value) (full : Bool) (before after : Collection) (q : ℕ) → q < length rows → Extends S0 S → (d : DerivesTo convert wanted derived places S S' (numbers_at rows q) full before after)
      → texts_of S' d.got ≡ given_to convert wanted derived first shown (texts_of S0 (numbers_at rows q))
  got_is S S' full before after q h e d =
      let row = numbers_at rows q in
      let m = in_at rows q [] h in
      let stay = texts_stay S0 S row e (texts row m) in
      let names = wanted ++ range_with_len first (length derived) in
      let u = texts_of S0 row in
      let all = u ++ derived_values convert wanted derived u in
      let long : length all ≡ length names =
      omega (arith, length-append u (derived_values convert wanted derived u), length-append wanted (range_with_len first (length derived)), length-map row (λ n. text_of_value (value_of S0 n)), wide row m, count, long_derived u) in
      d.shown ∙ ap (λ (v : Tuple). map (λ i. slice_index_or (v ++ derived_values convert wanted derived v) i []) places) stay
      ∙ ap (λ (l : List ℕ). map (λ i. slice_index_or all i []) l) at ∙ map-map (λ i. slice_index_or all i []) (first_place names) shown
      ∙ sym (map_same (text_of names all) (λ x. slice_index_or all (first_place names x) []) shown (λ x k. text_at names all x long (known x k)))
    where
      long_derived : (u : Tuple) → length (derived_values convert wanted derived u) ≡ length derived
      long_derived u = length-map derived (λ (e : Derived). convert e.code (map (text_of wanted u) e.args))

  pub upto_none : (width most : ℕ) (c : Collection) → c.rows ≡ [] → Standing S0 c (First 0)
  upto_none width most c e = record {
    texts = λ r m. none (rw e at m);
    exact = λ t. ((λ m. none2 (rw e at m)), (λ p. absurd (omega (arith, p.1))));
  }
    where
      none : {Z : Type 0} {r : List ℕ} → r ∈ [] → Z
      none m = elim m [ ]

      none2 : {Z : Type 0} {r : Tuple} → r ∈ [] → Z
      none2 m = elim m [ ]

  pub upto_more : (S S' : List Value) (before after : Collection) (q : ℕ) → q < length rows → Extends S0 S → Extends S S' → DerivesTo convert wanted derived places S S' (numbers_at rows q) false before after
      → Standing S before (First q) → Standing S' after (First (q + 1))
  upto_more S S' before after q h e0 e d st =
      let is = got_is S S' false before after q h e0 d in
      standing_more S S' before after d.got (First q) (First (q + 1)) e d.texts d.collects (λ t. (
        (λ k. elim k [ inl p ↦ (p.0, omega (arith, p.1), p.2) | inr i ↦ (q, omega arith, i ∙ is) ]),
        (λ p. elim (cases_lt p.0 q) [
          | inl b ↦ inl (p.0, b, p.2)
          | inr b ↦ let same : p.0 ≡ q = omega (arith, b, p.1) in
              inr (p.2 ∙ ap (λ (j : ℕ). given_to convert wanted derived first shown (texts_of S0 (numbers_at rows j))) same ∙ sym is)
        ]),
      )) st

  pub upto_full : (S S' : List Value) (before after : Collection) (q most : ℕ) → q < length rows → before.most ≡ most → ValuesDiffer S' → Extends S0 S → Extends S S' → DerivesTo convert wanted derived places S S' (numbers_at rows q) true before after
      → Standing S before (First q) → MoreTuples most Whole
  upto_full S S' before after q most h m apart e0 e d st =
      let is = got_is S S' true before after q h e0 d in
      standing_full S S' before most d.got (First q) Whole apart e d.texts (subst (λ (k : ℕ). MoreThan k (λ r. (r ∈ before.rows) ⊎ (r ≡ d.got))) m d.collects)
      (λ t p. (numbers_at rows p.0, in_at rows p.0 [] (omega (arith, p.1, h)), p.2)) (numbers_at rows q, in_at rows q [] h, is) st

  pub upto_all : (result : Result (Option NumberTable) AllocError) (S : List Value) (out : Collection) (q most : ℕ) → q ≡ length rows → out.most ≡ most → out.width ≡ length shown → ValuesDiffer S → Standing S out (First q)
      → IfOk result (λ o. MatchOption o (MoreThan out.most (λ t. t ∈ out.rows)) (λ r. RowsExactly out.width (λ t. t ∈ out.rows) r × (length r.rows ≤ out.most)))
      → IfOk result (λ o. MatchOption o (MoreTuples most Whole) (StandFor (length shown) Whole S))
  upto_all (Err x) S out q most h m w apart st k = tt
  upto_all (Ok None) S out q most h m w apart st k =
      let r = subst (λ (n : ℕ). MoreThan n (λ t. t ∈ out.rows)) m k in
      let long = length-map r.some (texts_of S) in
      record {
        tuples = map (texts_of S) r.some;
        distinct = distinct_texts S r.some apart (λ x i. st.texts x (r.each x i)) r.distinct;
        each = λ t i. let z = from_map (texts_of S) r.some i in
            whole q h t ((st.exact t).0 (subst (λ (u : Tuple). u ∈ map (texts_of S) out.rows) z.2 (in_map (texts_of S) (r.each z.0 z.1))));
        more = let a = r.more in omega (arith, a, long);
        few = let a = r.few in omega (arith, a, long);
      }
    where
      whole : (q : ℕ) → q ≡ length rows → (t : Tuple) → First q t → Whole t
      whole q h t p = (numbers_at rows p.0, in_at rows p.0 [] (omega (arith, p.1, h)), p.2)
  upto_all (Ok (Some r)) S out q most h m w apart st k = record {
    width = k.0.width ∙ w;
    ascend = k.0.ascend;
    texts = λ x i. st.texts x ((k.0.exact x).0 i);
    exact = λ t. (
      (λ i. let z = from_map (texts_of S) r.rows i in
          let p = (st.exact t).0 (subst (λ (u : Tuple). u ∈ map (texts_of S) out.rows) z.2 (in_map (texts_of S) ((k.0.exact z.0).0 z.1))) in
          (numbers_at rows p.0, in_at rows p.0 [] (omega (arith, p.1, h)), p.2)),
      (λ g. let a = contains_from_in g.1 in
          let at_row : numbers_at rows a.0 ≡ g.0 = get_or_default rows a.0 [] g.0 a.1 ∙ a.2 in
          let p : First q t = (a.0, omega (arith, a.1, h), g.2 ∙ ap (λ (x : List ℕ). given_to convert wanted derived first shown (texts_of S0 x)) (sym at_row)) in
          let z = from_map (texts_of S) out.rows ((st.exact t).1 p) in
          subst (λ (u : Tuple). u ∈ map (texts_of S) r.rows) z.2 (in_map (texts_of S) ((k.0.exact z.0).1 z.1))),
    );
  }

-- a number of a row of texts
pub one_text : (S : List Value) (row : List ℕ) (i : ℕ) → i < length row → AllTexts S row → AllTexts S (get_or row i 0 ∷ [])
one_text S row i h t n (here e) = subst (λ (k : ℕ). (k < length S) × (is_text (value_of S k) ≡ true)) e (t (get_or row i 0) (in_at row i 0 h))
one_text S row i h t n (there m) = elim m [ ]

-- one derived variable more
pub derive_more : (convert : Conversions) (names : List ℕ) (derived : List Derived) (row buffer : List ℕ) (i : ℕ) (e : Derived) (n : ℕ) (S0 S S' : List Value) → i < length derived → e ≡ get_or derived i e → Extends S0 S → Extends S S'
    → AllTexts S0 row → AllTexts S buffer → n < length S' → value_of S' n ≡ Const (convert e.code (map (text_of names (texts_of S row)) e.args))
    → texts_of S buffer ≡ texts_of S0 row ++ derived_values convert names (take i derived) (texts_of S0 row)
    → AllTexts S' (buffer ++ n ∷ []) × (texts_of S' (buffer ++ n ∷ []) ≡ texts_of S0 row ++ derived_values convert names (take (i + 1) derived) (texts_of S0 row))
derive_more convert names derived row buffer i e n S0 S S' h is g0 g r b k v s = (all, whole)
  where
    all : AllTexts S' (buffer ++ n ∷ [])
    all m j = elim (from_append buffer j) [ inl l ↦ texts_grow S S' buffer g b m l | inr q ↦ last m q ]
      where
        last : (m : ℕ) → m ∈ (n ∷ []) → (m < length S') × (is_text (value_of S' m) ≡ true)
        last m (here q) = subst (λ (z : ℕ). (z < length S') × (is_text (value_of S' z) ≡ true)) q (k, ap is_text v)
        last m (there q) = elim q [ ]

    one : text_of_value (value_of S' n) ≡ convert e.code (map (text_of names (texts_of S0 row)) e.args)
    one = ap text_of_value v ∙ ap (λ (t : Tuple). convert e.code (map (text_of names t) e.args)) (texts_stay S0 S row g0 r)

    more : derived_values convert names (take (i + 1) derived) (texts_of S0 row) ≡ derived_values convert names (take i derived) (texts_of S0 row) ++ convert e.code (map (text_of names (texts_of S0 row)) e.args) ∷ []
    more = ap (λ (l : List Derived). derived_values convert names l (texts_of S0 row)) (take_more derived i e h ∙ ap (λ (d : Derived). take i derived ++ d ∷ []) (sym is))
        ∙ map-append (λ (d : Derived). convert d.code (map (text_of names (texts_of S0 row)) d.args)) (take i derived) (e ∷ [])

    whole : texts_of S' (buffer ++ n ∷ []) ≡ texts_of S0 row ++ derived_values convert names (take (i + 1) derived) (texts_of S0 row)
    whole =
        map-append (λ (m : ℕ). text_of_value (value_of S' m)) buffer (n ∷ [])
        ∙ ap (λ (t : Tuple). t ++ text_of_value (value_of S' n) ∷ []) (texts_stay S S' buffer g b ∙ s)
        ∙ ap (λ (t : Text). (texts_of S0 row ++ derived_values convert names (take i derived) (texts_of S0 row)) ++ t ∷ []) one
        ∙ append_assoc (texts_of S0 row) (derived_values convert names (take i derived) (texts_of S0 row)) (convert e.code (map (text_of names (texts_of S0 row)) e.args) ∷ [])
        ∙ ap (λ (t : Tuple). texts_of S0 row ++ t) (sym more)

pub derive_length : (convert : Conversions) (names : List ℕ) (derived : List Derived) (row buffer : List ℕ) (S S' : List Value) → texts_of S' buffer ≡ texts_of S row ++ derived_values convert names derived (texts_of S row) → length buffer ≡ length row + length derived
derive_length convert names derived row buffer S S' e =
    let a = ap length e in
    let b = length-map buffer (λ (n : ℕ). text_of_value (value_of S' n)) in
    let c = length-append (texts_of S row) (derived_values convert names derived (texts_of S row)) in
    let d = length-map row (λ (n : ℕ). text_of_value (value_of S n)) in
    let f = length-map derived (λ (e : Derived). convert e.code (map (text_of names (texts_of S row)) e.args)) in
    omega (arith, a, b, c, d, f)

pub picked : (S : List Value) (row places : List ℕ) → Each places (λ i. i < length row) → AllTexts S row
    → AllTexts S (numbers_at_places row places) × (texts_of S (numbers_at_places row places) ≡ map (λ (i : ℕ). slice_index_or (texts_of S row) i []) places)
picked S row places w t = (
  (λ n m. let r = from_map (slice_index row) places m in subst (λ (k : ℕ). (k < length S) × (is_text (value_of S k) ≡ true)) r.2 (t (get_or row r.0 0) (in_at row r.0 0 (w r.0 r.1)))),
  map-map (λ (n : ℕ). text_of_value (value_of S n)) (slice_index row) places
      ∙ map_same (λ (i : ℕ). text_of_value (value_of S (get_or row i 0))) (λ (i : ℕ). slice_index_or (texts_of S row) i []) places (λ i m. sym (get_or-map (λ (n : ℕ). text_of_value (value_of S n)) row i 0 [] (w i m))),
)

pub derives_result : (result : Result Bool AllocError) (convert : Conversions) (wanted : List ℕ) (derived : List Derived) (places : List ℕ) (S S' : List Value) (row got : List ℕ) (before after : Collection) → AllTexts S' got
    → texts_of S' got ≡ map (λ (i : ℕ). slice_index_or (texts_of S row ++ derived_values convert wanted derived (texts_of S row)) i []) places
    → IfOk result (λ full. Collects full before after (λ t. t ≡ got)) → IfOk result (λ full. DerivesTo convert wanted derived places S S' row full before after)
derives_result (Err e) convert wanted derived places S S' row got before after t s k = tt
derives_result (Ok full) convert wanted derived places S S' row got before after t s k = record { got = got; texts = t; shown = s; collects = k }
