-- Two lists pass the limit, or they have a comparison.
use Rattle.std.proofs.Common.{◌≡◌, ◌⊎◌, ℕ, zero, suc, ◌+◌, ◌<◌, false, List, [], ◌∷◌, ◌++◌, length, get_or, take, refl, ◌∙◌, subst, arith, inl, inr}
use Rattle.std.specs.Prelude.{map, max}
use Rattle.std.proofs.lemmas.Bool.{cases_eq, false≢true}
use Rattle.dx_base.specs.Members.{◌∈◌, ◌≈◌, here, there, Each}
use Rattle.dx_base.proofs.Members.{from_append, from_map}
use Rattle.dx_model.specs.declared.values.Value.{Value}
use Rattle.dx_model.specs.declared.values.Value.TheVariants.{Const, Null}
use Rattle.dx_model.specs.declared.facts.Fact.{Fact}
use Rattle.dx_model.specs.declared.rules.Cell.{Cell}
use Rattle.dx_model.specs.declared.rules.Cell.TheVariants.{Var, Ex, Lit}
use Rattle.dx_model.specs.declared.rules.Atom.{Atom}
use Rattle.dx_model.specs.declared.rules.Rule.{Rule}
use Rattle.dx_model.specs.Values.{Tuple, Rows, Conversions}
use Rattle.dx_base.specs.Texts.{Text}
use Rattle.dx_model.specs.Rules.{at_place, at_places, canonical, exported, premise_fact, fact_of_atom, text_of}
use Rattle.dx_model.specs.Fitting.{RuleFits}
use Rattle.dx_model.specs.Following.{Follows, IsClean, frozen, frozen_text}
use Rattle.dx_model.specs.Solutions.{AtomFits}
use Rattle.dx_model.specs.Tables.{FactFits, IsInstance, Table}
use Rattle.dx_model.proofs.Deciding.{follows_is_decided}
use Rattle.dx_model.proofs.Frozen.{follows_by_prefix}
use Rattle.dx_model.proofs.Pruning.{said_fits}
use Rattle.dx_model.proofs.RowsExist.{rows_of_all_by_members, rows_of_all_exist}
use Rattle.dx_schema.specs.Forest.{Forest}
use Rattle.dx_schema.specs.Tables.{model_tables, schema_widths}
use Rattle.dx_schema.proofs.ModelWidths.{model_widths}
use Rattle.dx_instance.specs.Stored.{TableRows, facts, widths}
use Rattle.dx_instance.proofs.Placed.{placed, placed_facts, placed_widths}
use Rattle.dx_implies.specs.declared.refuting.Refutation.{Refutation}
use Rattle.dx_implies.specs.Refuting.{IsRefutation}
use Rattle.dx_implies.proofs.Plain.{follows_any}
use Rattle.dx_implies.proofs.Pruned.{passes_or_not}
use Rattle.dx_implies.proofs.Shown.{made_refutes}
use Rattle.dx_compare.specs.declared.comparing.Answer.{Answer}
use Rattle.dx_compare.specs.declared.comparing.Answer.TheVariants as answers
use Rattle.dx_compare.specs.Comparing.{IsDirectionAnswer, RulePassesLimit}
use Rattle.dx_compare.specs.Laws.{ComparedOrPast}
use Rattle.dx_compare.specs.Letters.{AtomBegins, BeginsWithLetters, CellBegins, IsGreatest, IsLeastLetters, RuleBegins, letters}
use Rattle.dx_compare.proofs.Answered.{Followed, all_follow, beside, first_refuted, none_passed, none_passes, none_yet, one_followed, refuted_within, swapped, test_passes}
use Rattle.dx_compare.proofs.Begun.{One, greatest_all, greatest_more, greatest_none, least_letters, one_atom, one_lit, one_other, one_rule, other_byte, too_many}

none : Conversions
none code texts = []

-- ---- the least letters

-- with how many letters a text begins
record Front (t : Text) : Type 0 where
  number : ℕ
  begins : BeginsWithLetters number t
  no_more : (m : ℕ) → number < m → ¬ (BeginsWithLetters m t)

front : (t : Text) → Front t
front [] = record { number = 0; begins = ([], refl); no_more = λ m h. too_many [] m h }
front (b ∷ t) = elim (cases_eq b 118) [
  | inr n ↦ record { number = 0; begins = (b ∷ t, refl); no_more = λ m h. other_byte (b ∷ t) 0 m n h }
  | inl e ↦ of e (front t)
]
  where
    of : b ≡ 118 → Front t → Front (b ∷ t)
    of e f = record {
      number = suc f.number;
      begins = (f.begins.0, let h = f.begins.1 in cc);
      no_more = more;
    }
      where
        more : (m : ℕ) → suc f.number < m → ¬ (BeginsWithLetters m (b ∷ t))
        more zero h w = absurd (omega (arith, h))
        more (suc m) h w = let s : t ≡ letters m ++ w.0 = (let q = w.1 in cc) in f.no_more m (omega (arith, h)) (w.0, s)

module _ {X : Type 0} (Begin : ℕ → X → Type 0) (each : (n : ℕ) (x : X) → (k : ℕ) × One Begin n k x) where
  -- from the greatest of the first i on
  greatest_from : (xs : List X) (least n : ℕ) (more i : ℕ) → i + more ≡ length xs → IsGreatest Begin least (take i xs) n → (k : ℕ) × IsGreatest Begin least xs k
  greatest_from xs least n zero i e g = (n, greatest_all Begin least n xs i (omega (arith, e)) g)
  greatest_from [] least n (suc more) i e g = absurd (omega (arith, e))
  greatest_from (x ∷ xs) least n (suc more) i e g =
      let y = get_or (x ∷ xs) i x in
      let lt : i < length (x ∷ xs) = omega (arith, e) in
      let is : y ≡ get_or (x ∷ xs) i y = get_any (x ∷ xs) i x y lt in
      let o = each n y in
      greatest_from (x ∷ xs) least o.0 more (i + 1) (omega (arith, e)) (greatest_more Begin least n o.0 (x ∷ xs) i y lt is g o.1)
    where
      get_any : (ys : List X) (i : ℕ) (d e : X) → i < length ys → get_or ys i d ≡ get_or ys i e
      get_any [] i d e h = absurd (omega (arith, h))
      get_any (z ∷ ys) zero d e h = refl
      get_any (z ∷ ys) (suc i) d e h = get_any ys i d e (omega (arith, h))

  greatest_of : (xs : List X) (least : ℕ) → (k : ℕ) × IsGreatest Begin least xs k
  greatest_of xs least = greatest_from xs least least (length xs) 0 (omega arith) (greatest_none Begin least least xs refl)

each_cell : (n : ℕ) (c : Cell) → (k : ℕ) × One CellBegins n k c
each_cell n (Var x) = (n, one_other n (Var x) (λ t e. cc))
each_cell n (Ex v) = (n, one_other n (Ex v) (λ t e. cc))
each_cell n (Lit t) = let f = front t in (max n f.number, one_lit n f.number (max n f.number) (Lit t) t refl refl f.begins f.no_more)

each_atom : (n : ℕ) (a : Atom) → (k : ℕ) × One AtomBegins n k a
each_atom n a = let g = greatest_of CellBegins each_cell a.cells n in (g.0, one_atom n g.0 a a.cells refl g.1)

each_rule : (n : ℕ) (d : Rule) → (k : ℕ) × One RuleBegins n k d
each_rule n d = let g = greatest_of AtomBegins each_atom d.conclusion n in (g.0, one_rule n g.0 d g.1)

letters_exist : (P Q : List Rule) → (n : ℕ) × IsLeastLetters (P ++ Q) n
letters_exist P Q =
    let a = greatest_of RuleBegins each_rule P 0 in
    let b = greatest_of RuleBegins each_rule Q a.0 in
    let w = least_letters P Q a.0 b.0 a.1 b.1 (letters (b.0 + 1)) refl in
    (w.0, w.1)

-- ---- instances

places_fit : (schema : List Table) (i : ℕ) (d : Rule) (k : ℕ) (ts : List Tuple) → Each d.conclusion (AtomFits schema) → IsInstance schema (at_places i d k ts)
places_fit schema i d k [] h f m = elim m [ ]
places_fit schema i d k (t ∷ ts) h f m = elim (from_append (at_place i d k t) m) [
  | inl l ↦
      let texts : ℕ → Text = text_of (exported d) t in
      let nulls : ℕ → Value = λ v. Null (record { rule = i; var = v; row = k }) in
      let w = from_map (fact_of_atom texts nulls) d.conclusion l in
      subst (FactFits schema) w.2 (said_fits schema texts nulls w.0 (h w.0 w.1))
  | inr r ↦ places_fit schema i d (suc k) ts h f r
]

pub canonical_fit : (schema : List Table) (i : ℕ) (R : List Rule) (rows : Rows) → Each R (λ d. Each d.conclusion (AtomFits schema)) → IsInstance schema (canonical i R rows)
canonical_fit schema i [] rows h f m = elim m [ ]
canonical_fit schema i (d ∷ R) [] h f m = elim m [ ]
canonical_fit schema i (d ∷ R) (ts ∷ rows) h f m = elim (from_append (at_places i d 0 ts) m) [
  | inl l ↦ places_fit schema i d 0 ts (h d (here refl)) f l
  | inr r ↦ canonical_fit schema (suc i) R rows (λ e n. h e (there n)) f r
]

pub frozen_fit : (schema : List Table) (freeze : ℕ → Text) (d : Rule) → Each d.premise (AtomFits schema) → IsInstance schema (frozen freeze d)
frozen_fit schema freeze d h f m =
    let w = from_map (premise_fact freeze) d.premise m in
    subst (FactFits schema) w.2 (said_fits schema freeze (λ _. Const []) w.0 (h w.0 w.1))

-- the instance of these facts
stored : Forest → List Fact → List TableRows
stored f A = placed 0 (map (λ (t : Table). t.width) (model_tables f)) A

stored_widths : (f : Forest) (A : List Fact) → widths (stored f A) ≡ schema_widths f
unfolding stored
stored_widths f A = placed_widths 0 (map (λ (t : Table). t.width) (model_tables f)) A ∙ model_widths f

stored_facts : (f : Forest) (A : List Fact) → IsInstance (model_tables f) A → facts (stored f A) ≈ A
unfolding stored
stored_facts f A fits = placed_facts (model_tables f) A fits

-- ---- what refutes a rule

module _ (limit : ℕ) (prefix : Text) (source target : Forest) (P Q : List Rule) (fits : Each (P ++ Q) (RuleFits (model_tables source) (model_tables target)))
    (plain : Each (P ++ Q) (λ d. d.derived ≡ [])) (clean : Each (P ++ Q) (IsClean prefix)) where
  refutation : (d : Rule) → Each (d ∷ P) (RuleFits (model_tables source) (model_tables target)) → Each (d ∷ P) (λ r. r.derived ≡ []) → Each (d ∷ P) (IsClean prefix)
      → ¬ (Follows none P d) → (r : Refutation) × IsRefutation prefix source target P d r
  refutation d f p k unfollowed =
      let A : List Fact = frozen (frozen_text prefix) d in
      let I = stored source A in
      let same : facts I ≈ A = stored_facts source A (frozen_fit (model_tables source) (frozen_text prefix) d (f d (here refl)).premise) in
      let w = rows_of_all_exist none P (facts I) (λ r m. (f r (there m)).rule) in
      let C : List Fact = canonical 0 P w.0 in
      let K = stored target C in
      let there_too : facts K ≈ C = stored_facts target C (canonical_fit (model_tables target) 0 P w.0 (λ r m. (f r (there m)).conclusion)) in
      let tells = follows_by_prefix none prefix P d w.0 (λ r m. ((f r m).rule, p r m, k r m)) (rows_of_all_by_members none P (facts I) A w.0 same w.1) in
      let fails : ¬ ((values : ℕ → Value) × Each d.conclusion (λ a. fact_of_atom (frozen_text prefix) values a ∈ facts K)) =
      (λ v. unfollowed (tells.1 (v.0, λ a m. there_too.0 (fact_of_atom (frozen_text prefix) v.0 a) (v.1 a m)))) in
      let r : Refutation = record { source = I; target = K } in
      (r, made_refutes none source target prefix P d I f p k same w.0 r false refl w.1 there_too (stored_widths source A) (stored_widths target C) ((λ t. absurd (false≢true t)), (λ v. absurd (fails v))) refl)

  -- what is answered from rule number i on
  answer_from : (more i : ℕ) → i + more ≡ length Q → Followed limit P Q i
      → RulePassesLimit limit P Q ⊎ ((¬ (RulePassesLimit limit P Q)) × ((a : Answer) × IsDirectionAnswer prefix source target P Q a))
  answer_from zero i e f = inr (none_passes limit P Q i f (omega (arith, e)), (answers.Implies, all_follow limit P Q i f (omega (arith, e))))
  answer_from (suc more) i e f =
      let lt : i < length Q = omega (arith, e) in
      let d = get_or Q i nothing in
      let is : d ≡ get_or Q i d = get_any Q i nothing d lt in
      let fits_too = beside (RuleFits (model_tables source) (model_tables target)) P Q i d lt is fits in
      let plain_too = beside (λ r. r.derived ≡ []) P Q i d lt is plain in
      elim (passes_or_not limit P d (λ r m. (fits_too r (there m)).rule) (λ r m. plain_too r (there m))) [
        | inl p ↦ inl (test_passes limit P Q i f d lt is p)
        | inr n ↦ elim (follows_is_decided none P d (λ r m. ((fits_too r m).rule, plain_too r m))) [
          | inl h ↦ answer_from more (i + 1) (omega (arith, e))
              (one_followed limit P Q i f d lt is (λ convert. follows_any none convert P d (λ r m. plain_too r (there m)) (plain_too d (here refl)) h) n)
          | inr h ↦
              let r = refutation d fits_too plain_too (beside (IsClean prefix) P Q i d lt is clean) h in
              inr (
                refuted_within limit P Q i f d lt is prefix source target r.0 r.1 n,
                (answers.Refuted i r.0.source r.0.target, first_refuted limit P Q i f d lt is prefix source target r.0 r.1),
              )
        ]
      ]
    where
      nothing : Rule
      nothing = record { premise = []; derived = []; conclusion = [] }

      get_any : (ys : List Rule) (i : ℕ) (d e : Rule) → i < length ys → get_or ys i d ≡ get_or ys i e
      get_any [] i d e h = absurd (omega (arith, h))
      get_any (z ∷ ys) zero d e h = refl
      get_any (z ∷ ys) (suc i) d e h = get_any ys i d e (omega (arith, h))

  answered : RulePassesLimit limit P Q ⊎ ((¬ (RulePassesLimit limit P Q)) × ((a : Answer) × IsDirectionAnswer prefix source target P Q a))
  answered = answer_from (length Q) 0 (omega arith) (none_yet limit P Q)

pub compared_or_past : ComparedOrPast
compared_or_past limit source target P Q h =
    let n = letters_exist P Q in
    let prefix : Text = letters n.0 in
    elim (answered limit prefix source target P Q h.fit h.plain n.1.clean) [
      | inl p ↦ inl (inl p)
      | inr a ↦ elim (answered limit prefix source target Q P (swapped (RuleFits (model_tables source) (model_tables target)) P Q h.fit)
          (swapped (λ (d : Rule). d.derived ≡ []) P Q h.plain) (swapped (IsClean prefix) P Q n.1.clean)) [
            | inl p ↦ inl (inr p)
            | inr b ↦ inr (none_passed limit P Q a.0 b.0, (record { forward = a.1.0; backward = b.1.0 }, record { number = n.0; letters = n.1; forward = a.1.1; backward = b.1.1 }))
          ]
    ]
