-- Where one level of sets more makes a difference: at the word `set` of a set in the deepest one.
use Rattle.std.proofs.Common.{◌≡◌, ◌⊎◌, ℕ, zero, suc, ◌+◌, ◌-◌, ◌≤◌, Bool, true, false, cond, List, [], ◌∷◌, ◌++◌, length, take, Result, Ok, Err, refl, sym, ap, ◌∙◌, subst, append_assoc, arith, inl, inr}
use Rattle.std.specs.Prelude.{codes}
use Rattle.std.proofs.lemmas.Bool.{cases_Bool}
use Rattle.std.proofs.lemmas.List.{length-append, take_all}
use Rattle.dx_tokens.specs.declared.scanner.Lexeme.{Lexeme}
use Rattle.dx_grammar.specs.Forms.{Starts}
use Rattle.dx_grammar.specs.Readers.{Reader, pass_on, ◌>>=◌, give, token, next_is, either, many_within, many, whole_of, whole, Many, no_more, one_more, TellsOfTokens}
use Rattle.dx_grammar.proofs.Exact.{whole_start}
use Rattle.dx_grammar.proofs.Told.{start_take, fault_is_one}
use Rattle.dx_grammar.proofs.Spelled.{Found, Finds, many_finds}
use Rattle.dx_schema.specs.Forest.{Tree}
use Rattle.dx_schema_text.specs.declared.clauses.Clause.{Clause}
use Rattle.dx_schema_text.specs.declared.texts.MappingText.{MappingText}
use Rattle.dx_schema_text.specs.Grammar.{word_is, digit_is, mark_is, since_two, since_three}
use Rattle.dx_schema_text.specs.Reading.{determination_reader, begins_determination, ref_reader, ref_clause, set_clause, tree_of_clauses, begins_clause, last_clause_reader, clause_reader_with, set_head_reader, set_reader_of, clause_reader, set_reader, side_reader, body_reader, mapping_reader}
use Rattle.dx_schema_text.specs.Spelling.{IsKeyword, IsVersion, version_one, version_two, version_three, SpellsHead, SpellsSet, SpellsClause, SpellsSide}
use Rattle.dx_schema_text.specs.Texts.{deepest, mapping_form, deeper_form, judged_tokens, IsUnexpectedInMapping, StandsDeeper, OpenSets, one_set, and_inner, OpenSide, open_side, OpenMapping, in_source, in_target, IsSetTooDeep}
use Rattle.dx_schema_text.proofs.Apart.{apart_word_mark}
use Rattle.dx_schema_text.proofs.Found.{set_head_finds, clause_finds, clauses_of, set_finds, side_finds}
use Rattle.dx_schema_text.proofs.Telling.{mapping_tells}

-- ---- two readers that differ at a word `set` alone

-- the reader stops at a token that is the word `set`, after tokens with S
abbrev Cut : {A : Type 0} → (List Lexeme → Type 0) → List Lexeme → Result (A × List Lexeme) ℕ → Type 0
Cut S xs (Ok p) = ⊥
Cut S xs (Err left) = (front : List Lexeme) × (x : Lexeme) × (back : List Lexeme) × (xs ≡ front ++ x ∷ back) × (left ≡ suc (length back)) × IsKeyword (codes "set") x × S front

-- the second answers as the first, or the first stops so
pub record Alike {A : Type 0} (r q : Reader Lexeme A) (S : List Lexeme → Type 0) : Type 0 where
  pub alike : (xs : List Lexeme) → (q xs ≡ r xs) ⊎ Cut S xs (r xs)

abbrev Never : List Lexeme → Type 0
Never front = ⊥

same_alike : {A : Type 0} (r : Reader Lexeme A) (S : List Lexeme → Type 0) → Alike r r S
same_alike r S = record { alike = λ xs. inl refl }

cut_moved : {B : Type 0} (u ys xs : List Lexeme) (r : Result (B × List Lexeme) ℕ) (S T : List Lexeme → Type 0) → xs ≡ u ++ ys → ((front : List Lexeme) → S front → T (u ++ front)) → Cut S ys r → Cut T xs r
cut_moved u ys xs (Ok p) S T e h c = absurd c
cut_moved u ys xs (Err left) S T e h c = (u ++ c.0, c.1, c.2, e ∙ (ap (λ t. u ++ t) c.3 ∙ sym (append_assoc u c.0 (c.1 ∷ c.2))), c.4, c.5, h c.0 c.6)

cut_as : (A B : Type 0) (xs : List Lexeme) (left : ℕ) (S T : List Lexeme → Type 0) → ((front : List Lexeme) → S front → T front) → Cut {A = A} S xs (Err left) → Cut {A = B} T xs (Err left)
cut_as A B xs left S T h c = (c.0, c.1, c.2, c.3, c.4, c.5, h c.0 c.6)

then_cases : {A B : Type 0} (xs : List Lexeme) (rr qq : Result (A × List Lexeme) ℕ) (f g : A → Reader Lexeme B) (R : A → List Lexeme → Type 0) (S T : List Lexeme → Type 0)
    → (qq ≡ rr) ⊎ Cut S xs rr → Found R xs rr → ((front : List Lexeme) → S front → T front) → ((a : A) (u : List Lexeme) → R a u → Alike (f a) (g a) (λ front. T (u ++ front)))
    → (pass_on qq g ≡ pass_on rr f) ⊎ Cut T xs (pass_on rr f)
then_cases xs (Ok p) qq f g R S T (inl e) h w rest = elim ((rest p.0 h.0 h.2).alike p.1) [
  | inl s ↦ inl (ap (λ r. pass_on r g) e ∙ s)
  | inr c ↦ inr (cut_moved h.0 p.1 xs (f p.0 p.1) (λ front. T (h.0 ++ front)) T h.1 (λ front t. t) c)
]
then_cases xs (Ok p) qq f g R S T (inr c) h w rest = absurd c
then_cases xs (Err left) qq f g R S T (inl e) h w rest = inl (ap (λ r. pass_on r g) e)
then_cases {A = A} {B = B} xs (Err left) qq f g R S T (inr c) h w rest = inr (cut_as A B xs left S T w c)

then_alike : {A B : Type 0} (r q : Reader Lexeme A) (f g : A → Reader Lexeme B) (R : A → List Lexeme → Type 0) (S T : List Lexeme → Type 0)
    → Alike r q S → Finds r R → ((front : List Lexeme) → S front → T front) → ((a : A) (u : List Lexeme) → R a u → Alike (f a) (g a) (λ front. T (u ++ front)))
    → Alike (r >>= f) (q >>= g) T
then_alike r q f g R S T one finds w rest = record { alike = λ xs. then_cases xs (r xs) (q xs) f g R S T (one.alike xs) (finds.found xs) w rest }

-- the same first reader
after_alike : {A B : Type 0} (r : Reader Lexeme A) (f g : A → Reader Lexeme B) (R : A → List Lexeme → Type 0) (T : List Lexeme → Type 0)
    → Finds r R → ((a : A) (u : List Lexeme) → R a u → Alike (f a) (g a) (λ front. T (u ++ front))) → Alike (r >>= f) (r >>= g) T
after_alike r f g R T finds rest = then_alike r r f g R Never T (same_alike r Never) finds (λ front n. absurd n) rest

-- the same last readers, of whatever was read
map_cases : {A B : Type 0} (xs : List Lexeme) (rr qq : Result (A × List Lexeme) ℕ) (f : A → Reader Lexeme B) (S : List Lexeme → Type 0) → (qq ≡ rr) ⊎ Cut S xs rr → (pass_on qq f ≡ pass_on rr f) ⊎ Cut S xs (pass_on rr f)
map_cases xs rr qq f S (inl e) = inl (ap (λ r. pass_on r f) e)
map_cases xs (Ok p) qq f S (inr c) = absurd c
map_cases {A = A} {B = B} xs (Err left) qq f S (inr c) = inr (cut_as A B xs left S S (λ front t. t) c)

before_alike : {A B : Type 0} (r q : Reader Lexeme A) (f : A → Reader Lexeme B) (S : List Lexeme → Type 0) → Alike r q S → Alike (r >>= f) (q >>= f) S
before_alike r q f S one = record { alike = λ xs. map_cases xs (r xs) (q xs) f S (one.alike xs) }

head_by : {B : Type 0} (p : Lexeme → Bool) (f g : Lexeme → Reader Lexeme B) (T : List Lexeme → Type 0) (x : Lexeme) (xs : List Lexeme) (b : Bool) (left : ℕ) → (b ≡ true → Alike (f x) (g x) (λ front. T (x ∷ front)))
    → (pass_on (cond b (Ok (x, xs)) (Err left)) g ≡ pass_on (cond b (Ok (x, xs)) (Err left)) f) ⊎ Cut T (x ∷ xs) (pass_on (cond b (Ok (x, xs)) (Err left)) f)
head_by p f g T x xs true left rest = elim ((rest refl).alike xs) [
  | inl s ↦ inl s
  | inr c ↦ inr (cut_moved (x ∷ []) xs (x ∷ xs) (f x xs) (λ front. T (x ∷ front)) T refl (λ front t. t) c)
]
head_by p f g T x xs false left rest = inl refl

-- the same token first
head_alike : {B : Type 0} (p : Lexeme → Bool) (f g : Lexeme → Reader Lexeme B) (T : List Lexeme → Type 0) → ((x : Lexeme) → p x ≡ true → Alike (f x) (g x) (λ front. T (x ∷ front))) → Alike (token p >>= f) (token p >>= g) T
head_alike p f g T rest = record { alike = at }
  where
    at : (xs : List Lexeme) → ((token p >>= g) xs ≡ (token p >>= f) xs) ⊎ Cut T xs ((token p >>= f) xs)
    at [] = inl refl
    at (x ∷ xs) = head_by p f g T x xs (p x) (1 + length xs) (rest x)

either_by : {A : Type 0} (b : Bool) (xs : List Lexeme) (r q s t : Result (A × List Lexeme) ℕ) (T : List Lexeme → Type 0) → (q ≡ r) ⊎ Cut T xs r → (t ≡ s) ⊎ Cut T xs s → (cond b q t ≡ cond b r s) ⊎ Cut T xs (cond b r s)
either_by true xs r q s t T h k = h
either_by false xs r q s t T h k = k

either_alike : {A : Type 0} (p : Lexeme → Bool) (r q s t : Reader Lexeme A) (T : List Lexeme → Type 0) → Alike r q T → Alike s t T → Alike (either p r s) (either p q t) T
either_alike p r q s t T one other = record { alike = λ xs. either_by (next_is p xs) xs (r xs) (q xs) (s xs) (t xs) T (one.alike xs) (other.alike xs) }

-- whole values before tokens with S
pub record After {A : Type 0} (R : A → List Lexeme → Type 0) (S : List Lexeme → Type 0) (front : List Lexeme) : Type 0 where
  pub values : List A
  pub before : List Lexeme
  pub rest : List Lexeme
  pub are : front ≡ before ++ rest
  pub read : Many R values before
  pub has : S rest

module _ {A : Type 0} (p : Lexeme → Bool) (r q : Reader Lexeme A) (R : A → List Lexeme → Type 0) (S : List Lexeme → Type 0) (finds : Finds r R) (one : Alike r q S) where
  within_by : (n : ℕ) (xs : List Lexeme) (b : Bool) → Alike (many_within p r n) (many_within p q n) (After R S)
      → (cond b ((q >>= λ a. many_within p q n >>= λ others. give (a ∷ others)) xs) (Ok ([], xs)) ≡ cond b ((r >>= λ a. many_within p r n >>= λ others. give (a ∷ others)) xs) (Ok ([], xs)))
      ⊎ Cut (After R S) xs (cond b ((r >>= λ a. many_within p r n >>= λ others. give (a ∷ others)) xs) (Ok ([], xs)))
  within_by n xs true rest =
      (then_alike r q (λ a. many_within p r n >>= λ others. give (a ∷ others)) (λ a. many_within p q n >>= λ others. give (a ∷ others)) R S (After R S) one finds
      (λ front s. record { values = []; before = []; rest = front; are = refl; read = no_more; has = s })
      (λ a u h. record {
        alike = λ ys. elim (map_cases ys (many_within p r n ys) (many_within p q n ys) (λ others. give (a ∷ others)) (After R S) (rest.alike ys)) [
          | inl e ↦ inl e
          | inr c ↦ inr (cut_moved [] ys ys (pass_on (many_within p r n ys) (λ others. give (a ∷ others))) (After R S) (λ front. After R S (u ++ front)) refl (λ front t. longer a u h front t) c)
        ];
      })).alike xs
    where
      longer : (a : A) (u : List Lexeme) → R a u → (front : List Lexeme) → After R S front → After R S (u ++ front)
      longer a u h front t = record {
        values = a ∷ t.values;
        before = u ++ t.before;
        rest = t.rest;
        are = ap (λ v. u ++ v) t.are ∙ sym (append_assoc u t.before t.rest);
        read = one_more h t.read;
        has = t.has;
      }
  within_by n xs false rest = inl refl

  within_alike : (n : ℕ) → Alike (many_within p r n) (many_within p q n) (After R S)
  within_alike zero = record { alike = λ xs. inl refl }
  within_alike (suc n) = record { alike = λ xs. within_by n xs (next_is p xs) (within_alike n) }

  many_alike : Alike (many p r) (many p q) (After R S)
  unfolding many
  many_alike = record { alike = λ xs. (within_alike (length xs)).alike xs }

-- ---- the deepest set

-- the closing brace, and the tree
abbrev closed : (List Clause → Tree) → List Clause → Reader Lexeme Tree
closed h cs = token (mark_is (codes "}")) >>= λ closing. give (h cs)

abbrev no_level : ℕ → ℕ → Reader Lexeme (List Clause)
no_level version n = many_within (begins_clause version 0) (clause_reader version 0) n

abbrev a_level : ℕ → ℕ → Reader Lexeme (List Clause)
a_level version n = many_within (begins_clause version 1) (clause_reader version 1) n

-- whole clauses
abbrev Clauses : ℕ → List Lexeme → Type 0
Clauses version front = (cs : List Clause) × Many (SpellsClause version 0) cs front

-- first one clause and then more are read, and then h
joined_as : (a : Clause) (h : List Clause → Tree) (rr : Result (List Clause × List Lexeme) ℕ) → pass_on (pass_on rr (λ others. give (a ∷ others))) (closed h) ≡ pass_on rr (closed (λ cs. h (a ∷ cs)))
joined_as a h (Ok p) = refl
joined_as a h (Err left) = refl

-- a clause that both read
clause_by : (version n : ℕ) (h : List Clause → Tree) (xs : List Lexeme) (rr qq : Result (Clause × List Lexeme) ℕ) → qq ≡ rr → Found (SpellsClause version 0) xs rr
    → ((k : List Clause → Tree) (ys : List Lexeme) → (pass_on (a_level version n ys) (closed k) ≡ pass_on (no_level version n ys) (closed k)) ⊎ Cut (Clauses version) ys (pass_on (no_level version n ys) (closed k)))
    → (pass_on (pass_on qq (λ a. a_level version n >>= λ others. give (a ∷ others))) (closed h) ≡ pass_on (pass_on rr (λ a. no_level version n >>= λ others. give (a ∷ others))) (closed h))
    ⊎ Cut (Clauses version) xs (pass_on (pass_on rr (λ a. no_level version n >>= λ others. give (a ∷ others))) (closed h))
clause_by version n h xs (Ok p) qq e f more = elim (more (λ cs. h (p.0 ∷ cs)) p.1) [
  | inl s ↦ inl (ap (λ r. pass_on (pass_on r (λ a. a_level version n >>= λ others. give (a ∷ others))) (closed h)) e ∙ (joined_as p.0 h (a_level version n p.1) ∙ (s ∙ sym (joined_as p.0 h (no_level version n p.1)))))
  | inr c ↦ inr (subst (Cut (Clauses version) xs) (sym (joined_as p.0 h (no_level version n p.1)))
      (cut_moved f.0 p.1 xs (pass_on (no_level version n p.1) (closed (λ cs. h (p.0 ∷ cs)))) (Clauses version) (Clauses version) f.1 (λ front t. (p.0 ∷ t.0, one_more f.2 t.1)) c))
]
clause_by version n h xs (Err left) qq e f more = inl (ap (λ r. pass_on (pass_on r (λ a. a_level version n >>= λ others. give (a ∷ others))) (closed h)) e)

determined_same : (version : ℕ) (x : Lexeme) (xs : List Lexeme) → begins_determination (since_three version) x ≡ true → clause_reader version 1 (x ∷ xs) ≡ clause_reader version 0 (x ∷ xs)
unfolding clause_reader last_clause_reader clause_reader_with
determined_same version x xs e = rw e refl

ref_same : (version : ℕ) (x : Lexeme) (xs : List Lexeme) → begins_determination (since_three version) x ≡ false → word_is (codes "ref") x ≡ true → clause_reader version 1 (x ∷ xs) ≡ clause_reader version 0 (x ∷ xs)
unfolding clause_reader last_clause_reader clause_reader_with
ref_same version x xs e f = rw (e, f) refl

no_level_finds : (version : ℕ) → Finds (clause_reader version 0) (SpellsClause version 0)
no_level_finds version = clause_finds version 0

loop : (version n : ℕ) (h : List Clause → Tree) (xs : List Lexeme) → (pass_on (a_level version n xs) (closed h) ≡ pass_on (no_level version n xs) (closed h)) ⊎ Cut (Clauses version) xs (pass_on (no_level version n xs) (closed h))
loop version zero h xs = inl refl
loop version (suc n) h [] = inl refl
loop version (suc n) h (x ∷ xs) = elim (cases_Bool (begins_determination (since_three version) x)) [
  | inl k ↦ rw k (clause_by version n h (x ∷ xs) (clause_reader version 0 (x ∷ xs)) (clause_reader version 1 (x ∷ xs)) (determined_same version x xs k) ((no_level_finds version).found (x ∷ xs)) (loop version n))
  | inr k ↦ elim (cases_Bool (word_is (codes "ref") x)) [
    | inl r ↦ rw (k, r) (clause_by version n h (x ∷ xs) (clause_reader version 0 (x ∷ xs)) (clause_reader version 1 (x ∷ xs)) (ref_same version x xs k r) ((no_level_finds version).found (x ∷ xs)) (loop version n))
    | inr r ↦ elim (cases_Bool (word_is (codes "set") x)) [
      | inl s ↦ let m = apart_word_mark (codes "set") (codes "}") x s in inr (rw (k, r, m) ([], x, xs, refl, omega arith, s, ([], no_more)))
      | inr s ↦ inl (rw (k, r, s) refl)
    ]
  ]
]

-- ---- sets by their levels

deepest_alike : (version : ℕ) → Alike (set_reader version 0) (set_reader version 1) (OpenSets version 1)
unfolding set_reader_of many
deepest_alike version =
    after_alike set_head_reader _ _ (λ head u. SpellsHead head.0 head.1 u) (OpenSets version 1) set_head_finds (λ head u h. record {
      alike = λ xs. elim (loop version (length xs) (tree_of_clauses head.0 head.1) xs) [
        | inl e ↦ inl e
        | inr c ↦ inr (cut_moved [] xs xs _ (Clauses version) (λ front. OpenSets version 1 (u ++ front)) refl (λ front t. one_set h (clauses_of version 0 t.1)) c)
      ];
    })

clause_alike : (version levels : ℕ) → Alike (set_reader version levels) (set_reader version (suc levels)) (OpenSets version (suc levels)) → Alike (clause_reader version (suc levels)) (clause_reader version (suc (suc levels))) (OpenSets version (suc levels))
unfolding clause_reader clause_reader_with
clause_alike version levels inner =
    either_alike (begins_determination (since_three version)) _ _ _ _ (OpenSets version (suc levels)) (same_alike (determination_reader (since_three version)) (OpenSets version (suc levels)))
    (either_alike (word_is (codes "ref")) _ _ _ _ (OpenSets version (suc levels)) (same_alike (ref_reader (since_two version) >>= λ r. give (ref_clause r)) (OpenSets version (suc levels)))
    (before_alike (set_reader version levels) (set_reader version (suc levels)) (λ t. give (set_clause t)) (OpenSets version (suc levels)) inner))

-- a set whose clauses may have inner sets
with_inner : (version l : ℕ) → Alike (clause_reader version (suc l)) (clause_reader version (suc (suc l))) (OpenSets version (suc l)) → Alike (set_reader version (suc l)) (set_reader version (suc (suc l))) (OpenSets version (suc (suc l)))
unfolding set_reader_of
with_inner version l one =
    after_alike set_head_reader _ _ (λ head u. SpellsHead head.0 head.1 u) (OpenSets version (suc (suc l))) set_head_finds (λ head u h.
    then_alike (many (begins_clause version (suc l)) (clause_reader version (suc l))) (many (begins_clause version (suc (suc l))) (clause_reader version (suc (suc l)))) _ _ (Many (SpellsClause version (suc l))) (After (SpellsClause version (suc l)) (OpenSets version (suc l))) (λ front. OpenSets version (suc (suc l)) (u ++ front))
    (many_alike (begins_clause version (suc l)) (clause_reader version (suc l)) (clause_reader version (suc (suc l))) (SpellsClause version (suc l)) (OpenSets version (suc l)) (clause_finds version (suc l)) one)
    (many_finds (begins_clause version (suc l)) (clause_reader version (suc l)) (SpellsClause version (suc l)) (clause_finds version (suc l)))
    (λ front t. subst (λ v. OpenSets version (suc (suc l)) (u ++ v)) (sym t.are) (and_inner h (clauses_of version (suc l) t.read) t.has))
    (λ cs v m. same_alike _ _))

set_alike : (version levels : ℕ) → Alike (set_reader version levels) (set_reader version (suc levels)) (OpenSets version (suc levels))
set_alike version zero = deepest_alike version
set_alike version (suc levels) = with_inner version levels (clause_alike version levels (set_alike version levels))

-- ---- sides and mappings

side_alike : (version : ℕ) (name : List ℕ) → Alike (side_reader version name deepest) (side_reader version name 16) (OpenSide version name 16)
unfolding side_reader
side_alike version name =
    head_alike (word_is name) _ _ (OpenSide version name 16) (λ k kw. head_alike (mark_is (codes "{")) _ _ (λ front. OpenSide version name 16 (k ∷ front)) (λ o ow.
    then_alike (many (word_is (codes "set")) (set_reader version deepest)) (many (word_is (codes "set")) (set_reader version 16)) _ _ (Many (SpellsSet version deepest)) (After (SpellsSet version deepest) (OpenSets version 16)) (λ front. OpenSide version name 16 (k ∷ o ∷ front))
    (many_alike (word_is (codes "set")) (set_reader version deepest) (set_reader version 16) (SpellsSet version deepest) (OpenSets version 16) (set_finds version deepest) (set_alike version deepest))
    (many_finds (word_is (codes "set")) (set_reader version deepest) (SpellsSet version deepest) (set_finds version deepest))
    (λ front t. subst (λ v. OpenSide version name 16 (k ∷ o ∷ v)) (sym t.are) (open_side k o kw ow t.read t.has))
    (λ trees u m. same_alike _ _)))

body_alike : (version : ℕ) (k n : Lexeme) → IsKeyword (codes "mapping") k → IsVersion version n → Alike (body_reader version deepest) (body_reader version 16) (λ front. OpenMapping 16 (k ∷ n ∷ front))
unfolding body_reader
body_alike version k n kw nw =
    head_alike (mark_is (codes ";")) _ _ (λ front. OpenMapping 16 (k ∷ n ∷ front)) (λ e ew.
    then_alike (side_reader version (codes "source") deepest) (side_reader version (codes "source") 16) _ _ (SpellsSide version (codes "source") deepest) (OpenSide version (codes "source") 16) (λ front. OpenMapping 16 (k ∷ n ∷ e ∷ front))
    (side_alike version (codes "source")) (side_finds version (codes "source") deepest) (λ front t. in_source k n e kw nw ew t)
    (λ from u h. before_alike (side_reader version (codes "target") deepest) (side_reader version (codes "target") 16) _ (λ front. OpenMapping 16 (k ∷ n ∷ e ∷ (u ++ front)))
    (record {
      alike = λ xs. elim ((side_alike version (codes "target")).alike xs) [
        | inl s ↦ inl s
        | inr c ↦ inr (cut_moved [] xs xs (side_reader version (codes "target") deepest xs) (OpenSide version (codes "target") 16) (λ front. OpenMapping 16 (k ∷ n ∷ e ∷ (u ++ front))) refl (λ front t. in_target k n e kw nw ew h t) c)
      ];
    })))

mapping_alike : Alike (mapping_reader deepest) (mapping_reader 16) (OpenMapping 16)
unfolding mapping_reader
mapping_alike =
    head_alike (word_is (codes "mapping")) _ _ (OpenMapping 16) (λ k kw.
    either_alike (digit_is (codes "1")) _ _ _ _ (λ front. OpenMapping 16 (k ∷ front))
    (head_alike (digit_is (codes "1")) _ _ (λ front. OpenMapping 16 (k ∷ front)) (λ n nw. body_alike 1 k n kw (version_one nw)))
    (either_alike (digit_is (codes "2")) _ _ _ _ (λ front. OpenMapping 16 (k ∷ front))
    (head_alike (digit_is (codes "2")) _ _ (λ front. OpenMapping 16 (k ∷ front)) (λ n nw. body_alike 2 k n kw (version_two nw)))
    (head_alike (digit_is (codes "3")) _ _ (λ front. OpenMapping 16 (k ∷ front)) (λ n nw. body_alike 3 k n kw (version_three nw)))))

-- ---- the fault

le_same : (n : ℕ) → n ≤ n
le_same n = omega arith

not_all : (text : List ℕ) (place : ℕ) (u : IsUnexpectedInMapping text place) → ¬ (Starts mapping_form (judged_tokens text))
not_all text place u s =
    let xs = judged_tokens text in
    u.first.here (start_take mapping_form (suc u.number) (length xs) xs u.first.inside (subst (Starts mapping_form) (sym (take_all (length xs) xs (le_same (length xs)))) s))

-- the readers don't answer the same
never_same : (text : List ℕ) (place : ℕ) (u : IsUnexpectedInMapping text place) → StandsDeeper text u.number → (r : Result MappingText ℕ) → TellsOfTokens mapping_form (judged_tokens text) r → TellsOfTokens deeper_form (judged_tokens text) r → ⊥
never_same text place u d (Ok m) t k = not_all text place u (whole_start mapping_form (judged_tokens text) t)
never_same text place u d (Err zero) t k = not_all text place u t.0
never_same text place u d (Err (suc left)) t k =
    let xs = judged_tokens text in
    let n = fault_is_one mapping_form xs (length xs - suc left) u.number t.1 u.first in
    k.1.here (subst (λ i. Starts deeper_form (take (suc i) xs)) (sym n) d)

set_there : (text : List ℕ) (place : ℕ) (u : IsUnexpectedInMapping text place) (rr : Result (MappingText × List Lexeme) ℕ) → TellsOfTokens mapping_form (judged_tokens text) (whole_of rr) → Cut (OpenMapping 16) (judged_tokens text) rr → IsSetTooDeep text u.number
set_there text place u (Ok p) t c = absurd c
set_there text place u (Err left) t c =
    let xs = judged_tokens text in
    let front = c.0 in
    let x = c.1 in
    let back = c.2 in
    let h = subst (λ (l : ℕ). TellsOfTokens mapping_form xs (whole_of {X = Lexeme} {A = MappingText} (Err l))) c.4 t in
    let size : length xs ≡ length front + suc (length back) = ap length c.3 ∙ length-append front (x ∷ back) in
    let n : u.number ≡ length front = sym (fault_is_one mapping_form xs (length xs - suc (length back)) u.number h.1 u.first) ∙ omega (arith, size) in
    record { front = front; token = x; back = back; are = c.3; at = n; word = c.5; inside = c.6 }

pub deeper_at_set : (text : List ℕ) (place : ℕ) (u : IsUnexpectedInMapping text place) → StandsDeeper text u.number → IsSetTooDeep text u.number
deeper_at_set text place u d =
    let xs = judged_tokens text in
    let t = mapping_tells deepest xs in
    elim (mapping_alike.alike xs) [
      | inl s ↦ absurd (never_same text place u d (whole (mapping_reader deepest) xs) t (subst (TellsOfTokens deeper_form xs) (ap (λ r. whole_of r) s) (mapping_tells 16 xs)))
      | inr c ↦ set_there text place u (mapping_reader deepest xs) t c
    ]
