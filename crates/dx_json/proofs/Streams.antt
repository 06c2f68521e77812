-- The items of an array, gone through as they are read.
use Rattle.std.proofs.Common.{◌≡◌, ℕ, suc, ◌+◌, ◌-◌, ◌<◌, ◌≤◌, List, [], ◌∷◌, ◌++◌, length, map, Option, Some, None, is_some, option_map, Bool, true, false, true≢false, Result, Ok, Err, IfOk, IfErr, IsUtf8, refl, sym, ap, ◌∙◌, subst, arith, append_assoc, append-nil, length-append}
use Rattle.json.specs.Token.{Token}
use Rattle.json.specs.Json as json
use Rattle.json.specs.Json.{Parse, parse_map, after_end_array, items, value, value_with}
use Rattle.json.specs.Reads.{token_of}
use Rattle.json.specs.declared.token.Token as read
use Rattle.json.specs.declared.token.Token.TheVariants.{BeginObject, EndObject, BeginArray, EndArray, Key, String, Number, Bool as Truth, Null, Bad}
use Rattle.json.proofs.Grammar.{value_is, value-begin_array}
use Rattle.serde_json.specs.Data.{Data, Num, null, boolean, number, string, array, object, Items, no_items, item, Members, no_members}
use Rattle.serde_json.specs.Read.{converted, number_of, of_items, of_json, of_members}
use Rattle.serde_json.specs.Read.{read as read_text}
use Rattle.dx_model.specs.declared.facts.Fact.{Fact}
use Rattle.dx_schema.specs.Forest.{Label, Forest, Tree}
use Rattle.dx_schema.specs.Tables.{tree_at}
use Rattle.std.specs.Result.{IsErrAnd}
use Rattle.dx_json.specs.declared.fault.JsonFault.{JsonFault}
use Rattle.dx_json.specs.declared.fault.JsonFault.TheVariants as fault
use Rattle.dx_json.specs.declared.fault.JsonKind.{JsonKind}
use Rattle.dx_json.specs.declared.fault.JsonKind.TheVariants as kind
use Rattle.dx_json.specs.declared.place.Place.{Place}
use Rattle.dx_json.specs.declared.reading.Unread.{Unread}
use Rattle.dx_json.specs.Said.{DocumentItem, says, item_says, items_say, sets_say}
use Rattle.dx_json.specs.Documents.{TellsFirstFault, HasDocumentFault, IsFirstDocumentFault, Refuses, SaysFacts, FactsOrFirstFault, first_fault, tree_says, without_mark}
use Rattle.dx_json.proofs.Grammar.{converted-array, converted_some, item_read, item_refused, items_over, none_before}
use Rattle.dx_json.proofs.Steps.{first_fault-left, first_fault-more, refused_document}

-- ---- what was met, and one thing more

-- a fault stays the first
pub still_told : (met : Option JsonKind) (old now : List Fact) (before here : List DocumentItem) → is_some met ≡ true → FactsOrFirstFault met old now before → FactsOrFirstFault met old now (before ++ here)
still_told None old now before here some h = absurd (true≢false (sym some))
still_told (Some k) old now before here some h = first_fault-more k before here h

pub told_more : (met : Option JsonKind) (old now then : List Fact) (before here : List DocumentItem) → is_some met ≡ false → FactsOrFirstFault met old now before → map says then ≡ map says now ++ here → map says then ≡ map says old ++ (before ++ here)
told_more None old now then before here none h more = more ∙ ap (λ xs. xs ++ here) h ∙ append_assoc (map says old) before here
told_more (Some k) old now then before here none h more = absurd (true≢false none)

pub told_fault : (met : Option JsonKind) (e : JsonFault) (k : JsonKind) (old now : List Fact) (before here : List DocumentItem) → is_some met ≡ false → FactsOrFirstFault met old now before → e ≡ fault.Bad k → TellsFirstFault here e → first_fault (before ++ here) ≡ Some k
told_fault None e k old now before here none h is f =
    first_fault-left k old now (before ++ here) here here [] (sym (append_assoc (map says old) before here) ∙ ap (λ xs. xs ++ here) (sym h)) (sym (append-nil here)) (subst (TellsFirstFault here) is f)
told_fault (Some j) e k old now before here none h is f = absurd (true≢false none)

-- ---- the items that were read

-- these, then others
abbrev pub ahead : List Data → Items → Items
ahead [] rest = rest
ahead (d ∷ ds) rest = item d (ahead ds rest)

ahead-push : (ds : List Data) (d : Data) (rest : Items) → ahead ds (item d rest) ≡ ahead (ds ++ d ∷ []) rest
ahead-push [] d rest = refl
ahead-push (c ∷ ds) d rest = ap (item c) (ahead-push ds d rest)

one_more_ahead : (ds : List Data) (d : Data) (r : Option (Items × List Token)) → parse_map (ahead ds) (parse_map (item d) r) ≡ parse_map (ahead (ds ++ d ∷ [])) r
one_more_ahead ds d None = refl
one_more_ahead ds d (Some p) = ap (λ es. Some (es, p.1)) (ahead-push ds d p.0)

said_more : (l : Label) (inner : Forest) (deeper : Place → Members → List DocumentItem) (at : Place) (k : ℕ) (ds : List Data) (d : Data)
    → items_say l inner deeper at k (ahead (ds ++ d ∷ []) no_items) ≡ items_say l inner deeper at k (ahead ds no_items) ++ item_says l inner deeper at (k + length ds) d
said_more l inner deeper at k [] d =
    let here : k ≡ k + 0 = omega arith in
    append-nil (item_says l inner deeper at k d) ∙ ap (λ n. item_says l inner deeper at n d) here
said_more l inner deeper at k (c ∷ ds) d =
    let next : suc k + length ds ≡ k + suc (length ds) = omega arith in
    ap (λ xs. item_says l inner deeper at k c ++ xs) (said_more l inner deeper at (suc k) ds d ∙ ap (λ n. items_say l inner deeper at (suc k) (ahead ds no_items) ++ item_says l inner deeper at n d) next)
    ∙ sym (append_assoc (item_says l inner deeper at k c) (items_say l inner deeper at (suc k) (ahead ds no_items)) (item_says l inner deeper at (k + suc (length ds)) d))

-- of the items of an array, so many were read, and what they say was told
pub record Passed (p : Parse json.Json) (l : Label) (inner : Forest) (at : Place) (all : List Token) (old : List Fact) (left : List Token) (place : ℕ) (met : Option JsonKind) (now : List Fact) : Type 0 where
  pub front : List Data
  pub turns : ℕ
  pub enough : length left ≤ turns
  pub read : converted of_items (items p (length all) all) ≡ parse_map (ahead front) (converted of_items (items p turns left))
  pub many : length front ≡ place
  pub told : FactsOrFirstFault met old now (items_say l inner (sets_say inner) at 0 (ahead front no_items))

pub none_passed : (p : Parse json.Json) (l : Label) (inner : Forest) (at : Place) (all : List Token) (old : List Fact) → Passed p l inner at all old all 0 None old
none_passed p l inner at all old = record {
  front = [];
  turns = length all;
  enough = omega arith;
  read = none_before (converted of_items (items p (length all) all));
  many = refl;
  told = sym (append-nil (map says old));
}

module _ (p : Parse json.Json) (l : Label) (inner : Forest) (at : Place) (all : List Token) (old : List Fact) (left : List Token) (place : ℕ) (met : Option JsonKind) (now : List Fact) (passed : Passed p l inner at all old left place met now) where
  pub one_passed : (rest : List Token) (d : Data) (next : ℕ) (met2 : Option JsonKind) (then : List Fact) → next ≡ place + 1 → after_end_array left ≡ None → converted of_json (p left) ≡ Some (d, rest) → length rest < length left
      → ((before : List DocumentItem) → FactsOrFirstFault met old now before → FactsOrFirstFault met2 old then (before ++ item_says l inner (sets_say inner) at place d)) → Passed p l inner at all old rest next met2 then
  one_passed rest d next met2 then n going e less f =
      let some : 0 < passed.turns = omega (arith, passed.enough, less) in
      let turn = item_read p passed.turns left rest d some going e in
      let before = items_say l inner (sets_say inner) at 0 (ahead passed.front no_items) in
      let there : place ≡ 0 + length passed.front = omega (arith, passed.many) in
      let said : before ++ item_says l inner (sets_say inner) at place d ≡ items_say l inner (sets_say inner) at 0 (ahead (passed.front ++ d ∷ []) no_items) =
      ap (λ n. before ++ item_says l inner (sets_say inner) at n d) there ∙ sym (said_more l inner (sets_say inner) at 0 passed.front d) in
      record {
        front = passed.front ++ d ∷ [];
        turns = passed.turns - 1;
        enough = omega (arith, passed.enough, less);
        read = passed.read ∙ ap (parse_map (ahead passed.front)) turn ∙ one_more_ahead passed.front d _;
        many = omega (arith, length-append passed.front (d ∷ []), passed.many, n);
        told = subst (FactsOrFirstFault met2 old then) said (f before passed.told);
      }

  pub all_passed : (rest : List Token) → after_end_array left ≡ Some rest → (ds : Items) × (converted of_items (items p (length all) all) ≡ Some (ds, rest)) × FactsOrFirstFault met old now (items_say l inner (sets_say inner) at 0 ds)
  all_passed rest e = (ahead passed.front no_items, passed.read ∙ ap (parse_map (ahead passed.front)) (items_over p passed.turns left rest passed.enough e), passed.told)

  pub passed_refused : after_end_array left ≡ None → converted of_json (p left) ≡ None → converted of_items (items p (length all) all) ≡ None
  passed_refused going e = passed.read ∙ ap (parse_map (ahead passed.front)) (item_refused p passed.turns left going e)

-- ---- the value that a document is

pub nothing_read : (ts : List Token) → ts ≡ [] → converted of_json (value 127 ts) ≡ None
nothing_read ts e = ap (λ us. converted of_json (value 127 us)) e ∙ ap (converted of_json) (value_is 127 [])

array_read : (ts : List Token) → converted of_json (value 127 (Token.begin_array ∷ ts)) ≡ parse_map array (converted of_items (items (value 126) (length ts) ts))
array_read ts = ap (converted of_json) (value-begin_array 127 ts (omega arith)) ∙ converted-array (items (value 126) (length ts) ts)

pub array_told : (r : Result (Option JsonKind) Unread) (all ts rest : List Token) (t : Tree) (table : ℕ) (path : List ℕ) (old now : List Fact) → all ≡ Token.begin_array ∷ ts → path ≡ []
    → IfOk r (λ met. (ds : Items) × (converted of_items (items (value 126) (length ts) ts) ≡ Some (ds, rest)) × FactsOrFirstFault met old now (items_say t.label t.inner (sets_say t.inner) (record { table = table; up = None; path = path }) 0 ds))
    → IfOk r (λ met. (d : Data) × (converted of_json (value 127 all) ≡ Some (d, rest)) × FactsOrFirstFault met old now (tree_says t table d))
array_told (Err e) all ts rest t table path old now a p h = tt
array_told (Ok met) all ts rest t table path old now a p h = (
  array h.0,
  ap (λ us. converted of_json (value 127 us)) a ∙ array_read ts ∙ ap (parse_map array) h.1,
  subst (λ q. FactsOrFirstFault met old now (items_say t.label t.inner (sets_say t.inner) (record { table = table; up = None; path = q }) 0 h.0)) p h.2,
)

pub array_refused : (all ts : List Token) → all ≡ Token.begin_array ∷ ts → converted of_items (items (value 126) (length ts) ts) ≡ None → converted of_json (value 127 all) ≡ None
array_refused all ts a h = ap (λ us. converted of_json (value 127 us)) a ∙ array_read ts ∙ ap (parse_map array) h

abbrev is_list : Option (json.Json × List Token) → Bool
is_list None = false
is_list (Some (json.null, ts)) = false
is_list (Some (json.boolean b, ts)) = false
is_list (Some (json.number s, ts)) = false
is_list (Some (json.string s, ts)) = false
is_list (Some (json.array js, ts)) = true
is_list (Some (json.object ms, ts)) = false

abbrev is_array : Option Data → Bool
is_array None = false
is_array (Some null) = false
is_array (Some (boolean b)) = false
is_array (Some (number n)) = false
is_array (Some (string s)) = false
is_array (Some (array ds)) = true
is_array (Some (object ms)) = false

no_number : (o : Option Num) → is_array (option_map number o) ≡ false
no_number None = refl
no_number (Some n) = refl

no_object : (o : Option Members) → is_array (option_map object o) ≡ false
no_object None = refl
no_object (Some ms) = refl

no_array : (j : json.Json) (ts : List Token) → is_list (Some (j, ts)) ≡ false → is_array (of_json j) ≡ false
no_array json.null ts e = refl
no_array (json.boolean b) ts e = refl
no_array (json.number s) ts e = no_number (number_of s)
no_array (json.string s) ts e = refl
no_array (json.array js) ts e = absurd (true≢false e)
no_array (json.object ms) ts e = no_object (of_members ms no_members)

no_list : (r : Option (json.Members × List Token)) → is_list (parse_map json.object r) ≡ false
no_list None = refl
no_list (Some p) = refl

begins_no_list : (t : read.Token) (a : Parse json.Items) (o : Parse json.Members) (ts : List Token) → (t ≡ BeginArray → ⊥) → is_list (value_with a o (token_of t ∷ ts)) ≡ false
begins_no_list BeginObject a o ts n = no_list (o ts)
begins_no_list EndObject a o ts n = refl
begins_no_list BeginArray a o ts n = absurd (n refl)
begins_no_list EndArray a o ts n = refl
begins_no_list (Key s) a o ts n = refl
begins_no_list (String s) a o ts n = refl
begins_no_list (Number s) a o ts n = refl
begins_no_list (Truth b) a o ts n = refl
begins_no_list Null a o ts n = refl
begins_no_list Bad a o ts n = refl

wrong_document : (t : Tree) (table : ℕ) (d : Data) → is_array (Some d) ≡ false → first_fault (tree_says t table d) ≡ Some (kind.Shape [])
wrong_document t table null e = refl
wrong_document t table (boolean b) e = refl
wrong_document t table (number n) e = refl
wrong_document t table (string s) e = refl
wrong_document t table (array ds) e = absurd (true≢false e)
wrong_document t table (object ms) e = refl

-- a document that begins with no bracket of an array is none
pub shape_told : (t : Tree) (table : ℕ) (token : read.Token) (ts rest : List Token) (d : Data) (path : List ℕ) → (token ≡ BeginArray → ⊥) → converted of_json (value 127 (token_of token ∷ ts)) ≡ Some (d, rest) → path ≡ []
    → first_fault (tree_says t table d) ≡ Some (kind.Shape path)
shape_told t table token ts rest d path n e p =
    let j = converted_some of_json (value 127 (token_of token ∷ ts)) d rest e in
    let list : is_list (Some (j.0, rest)) ≡ false = sym (ap is_list j.1) ∙ ap is_list (value_is 127 (token_of token ∷ ts)) ∙ begins_no_list token _ _ ts n in
    wrong_document t table d (sym (ap is_array j.2) ∙ no_array j.0 rest list) ∙ ap (λ q. Some (kind.Shape q)) (sym p)

-- ---- the bytes of a document

pub says_facts : (bytes text : List ℕ) (schema : Forest) (root : ℕ) (t : Tree) (d : Data) (facts shared : List Fact) → text ≡ without_mark bytes → IsUtf8 (without_mark bytes) → t ≡ tree_at schema root → read_text text ≡ Some d
    → tree_says t root d ≡ map says facts → shared ≡ facts → SaysFacts bytes schema root shared
says_facts bytes text schema root t d facts shared is utf8 tree r says_so same =
    (d, (utf8, ap read_text (sym is) ∙ r), ap (λ u. tree_says u root d) (sym tree) ∙ says_so ∙ ap (map says) (sym same))

refuses : (bytes : List ℕ) (schema : Forest) (root : ℕ) (o : Option Data) (e : JsonFault) → IsUtf8 (without_mark bytes) → read_text (without_mark bytes) ≡ o → Refuses o (tree_says (tree_at schema root) root) e → HasDocumentFault bytes schema root e
refuses bytes schema root None (fault.Bad k) utf8 r h = subst (IsFirstDocumentFault bytes schema root) (sym h) (λ d doc. (let never : None ≡ Some d = sym r ∙ doc.1 in cc never))
refuses bytes schema root (Some d) (fault.Bad k) utf8 r h = refused_document bytes schema root d (fault.Bad k) (utf8, r) h
refuses bytes schema root None fault.Memory utf8 r h = tt
refuses bytes schema root (Some d) fault.Memory utf8 r h = tt

pub has_fault : {A : Type 0} (r : Result A JsonFault) (bytes text : List ℕ) (schema : Forest) (root : ℕ) (t : Tree) (e : JsonFault) → text ≡ without_mark bytes → IsUtf8 (without_mark bytes) → t ≡ tree_at schema root → IsErrAnd r (λ x. x ≡ e)
    → Refuses (read_text text) (tree_says t root) e → IfErr r (HasDocumentFault bytes schema root)
has_fault (Ok v) bytes text schema root t e is utf8 tree same h = tt
has_fault (Err x) bytes text schema root t e is utf8 tree same h = rw same (refuses bytes schema root (read_text text) e utf8 (ap read_text (sym is)) (subst (λ u. Refuses (read_text text) (tree_says u root) e) tree h))
