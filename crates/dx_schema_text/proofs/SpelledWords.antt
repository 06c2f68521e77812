-- The names of sets that are read are words, each list of them has one, and no set is too deep.
use Rattle.std.proofs.Common.{◌≡◌, ℕ, suc, ◌≤◌, Bool, true, List, [], ◌∷◌, ◌++◌, refl, arith}
use Rattle.dx_base.specs.Members.{Each}
use Rattle.dx_base.proofs.Members.{each_cons}
use Rattle.dx_tokens.specs.declared.tokenizer.TokenKind.{TokenKind}
use Rattle.dx_tokens.specs.declared.tokenizer.TokenKind.TheVariants.{Word, Number, Str, Mark}
use Rattle.dx_tokens.specs.declared.scanner.Lexeme.{Lexeme}
use Rattle.dx_tokens.specs.Lexing.{IsWord}
use Rattle.dx_tokens.proofs.TokenTexts.{IsRightWord, WordsAreRight, words_are_words}
use Rattle.dx_grammar.specs.Readers.{Many, no_more, one_more}
use Rattle.dx_schema.specs.declared.sets.KeyDecl.{KeyDecl}
use Rattle.dx_schema.specs.declared.sets.DepDecl.{DepDecl}
use Rattle.dx_schema.specs.declared.sets.RefDecl.{RefDecl}
use Rattle.dx_schema.specs.Forest.{Forest, Tree, forest_of}
use Rattle.dx_schema.specs.Faults.{depth}
use Rattle.dx_schema_text.specs.declared.clauses.Clause.{Clause}
use Rattle.dx_schema_text.specs.declared.texts.MappingText.{MappingText}
use Rattle.dx_schema_text.specs.Grammar.{is_word_kind}
use Rattle.dx_schema_text.specs.Reading.{keys_among, deps_among, refs_among, sets_among}
use Rattle.dx_schema_text.specs.Spelling.{IsWordToken, Comma, comma_then, SpellsCommaList, parted, SpellsName, name_of, SpellsKey, key_of, SpellsDep, dep_of, SpellsRef, ref_of, SpellsHead, head_of, SpellsSet, set_of, SpellsClauses, no_clause, clause_first, SpellsClause, a_key, a_dep, a_ref, a_set, SpellsSide, side_of, SpellsMapping, mapping_of}
use Rattle.dx_schema_text.specs.Texts.{IsMappingText}
use Rattle.dx_schema_text.proofs.Versions.{said_sayable}
use Rattle.dx_schema_text.specs.Print.{AreNames, IsNamedDep, IsNamedRef, HasWordNames, HaveWordNames, AreWritable}

-- a token that can stand for a word is one
pub kind_word : (k : TokenKind) → is_word_kind k ≡ true → k ≡ Word
kind_word Word e = refl
kind_word Number e = absurd cc
kind_word Str e = absurd cc
kind_word Mark e = absurd cc

right_front : (u v : List Lexeme) → WordsAreRight (u ++ v) → WordsAreRight u
right_front [] v h = tt
right_front (x ∷ u) v h = (h.0, right_front u v h.1)

right_back : (u v : List Lexeme) → WordsAreRight (u ++ v) → WordsAreRight v
right_back [] v h = h
right_back (x ∷ u) v h = right_back u v h.1

pub each_none : {X : Type 0} (P : X → Type 0) → Each {X = X} [] P
each_none P y m = elim m [ ]

-- ---- names

word_right : (w : Lexeme) → IsWordToken w → IsRightWord w → IsWord w.text
word_right w e h = h (kind_word w.kind e)

name_right : {name : List ℕ} {u : List Lexeme} → SpellsName name u → WordsAreRight u → IsWord name
name_right (name_of w e) h = word_right w e h.0

comma_right : {name : List ℕ} {u : List Lexeme} → Comma SpellsName name u → WordsAreRight u → IsWord name
comma_right (comma_then c e n) h = name_right n h.1

many_right : {names : List (List ℕ)} {u : List Lexeme} → Many (Comma SpellsName) names u → WordsAreRight u → Each names IsWord
many_right no_more h = each_none _
many_right (one_more {a = a} {others = others} {u = u} {v = v} c m) h = each_cons a others (comma_right c (right_front u v h)) (many_right m (right_back u v h))

names_right : {names : List (List ℕ)} {u : List Lexeme} → SpellsCommaList SpellsName names u → WordsAreRight u → AreNames names
names_right (parted {u = u} {v = v} n m) h = (name_right n (right_front u v h), many_right m (right_back u v h))

-- ---- sets

key_right : {k : KeyDecl} {a : List Lexeme} → SpellsKey k a → WordsAreRight a → AreNames k.columns
key_right (key_of {u = u} k o c e kw ow names cw ew) h = names_right names (right_front u (c ∷ e ∷ []) h.1.1)

dep_right : {d : DepDecl} {a : List Lexeme} → SpellsDep d a → WordsAreRight a → IsNamedDep d
dep_right (dep_of {u = u} {v = v} k o c arrow p d e kw ow names cw aw pw decides dw ew) h =
    let tail = d ∷ e ∷ [] in
    let back = right_back u (c ∷ arrow ∷ p ∷ (v ++ tail)) h.1.1 in
    record { columns = names_right names (right_front u (c ∷ arrow ∷ p ∷ (v ++ tail)) h.1.1); decides = names_right decides (right_front v tail back.1.1.1) }

ref_right : {optionals : Bool} {r : RefDecl} {a : List Lexeme} → SpellsRef optionals r a → WordsAreRight a → IsNamedRef r
ref_right (ref_of {u = u} {v = v} {w = w} k o c arrow s p d e kw ow names cw aw sw pw more dw is ew) h =
    let tail = d ∷ (w ++ e ∷ []) in
    let back = right_back u (c ∷ arrow ∷ s ∷ p ∷ (v ++ tail)) h.1.1 in
    record { columns = names_right names (right_front u (c ∷ arrow ∷ s ∷ p ∷ (v ++ tail)) h.1.1); refers = word_right s sw back.1.1.0; referred = names_right more (right_front v tail back.1.1.1.1) }

head_right : {name : List ℕ} {columns : List (List ℕ)} {a : List Lexeme} → SpellsHead name columns a → WordsAreRight a → IsWord name × AreNames columns
head_right (head_of {u = u} k n o e kw nw ow names ew) h = (word_right n nw h.1.0, names_right names (right_front u (e ∷ []) h.1.1.1))

-- what clauses say of a set
abbrev AreRight : ℕ → List Clause → Type 0
AreRight levels cs = Each (keys_among cs) (λ (k : KeyDecl). AreNames k.columns) × Each (deps_among cs) IsNamedDep × Each (refs_among cs) IsNamedRef × HaveWordNames (sets_among cs) × (depth (sets_among cs) ≤ levels)

mutual
  set_right : {version levels : ℕ} {t : Tree} {a : List Lexeme} → SpellsSet version levels t a → WordsAreRight a → HasWordNames t.label × HaveWordNames t.inner × (depth t.inner ≤ levels)
  set_right (set_of {u = u} {v = v} c head cs cw) h =
      let front = head_right head (right_front u (v ++ c ∷ []) h) in
      let inside = clauses_right cs (right_front v (c ∷ []) (right_back u (v ++ c ∷ []) h)) in
      (record { name = front.0; columns = front.1; keys = inside.0; deps = inside.1; refs = inside.2 }, inside.3, inside.4)

  clauses_right : {version levels : ℕ} {cs : List Clause} {a : List Lexeme} → SpellsClauses version levels cs a → WordsAreRight a → AreRight levels cs
  clauses_right no_clause h = (each_none _, each_none _, each_none _, tt, omega arith)
  clauses_right (clause_first {cs = cs} {u = u} {v = v} c more) h = clause_right c cs (right_front u v h) (clauses_right more (right_back u v h))

  clause_right : {version levels : ℕ} {c : Clause} {u : List Lexeme} → SpellsClause version levels c u → (cs : List Clause) → WordsAreRight u → AreRight levels cs → AreRight levels (c ∷ cs)
  clause_right (a_key {k = k} s) cs h rest = (each_cons k (keys_among cs) (key_right s h) rest.0, rest.1, rest.2, rest.3, rest.4)
  clause_right (a_dep {d = d} is s) cs h rest = (rest.0, each_cons d (deps_among cs) (dep_right s h) rest.1, rest.2, rest.3, rest.4)
  clause_right (a_ref {r = r} s) cs h rest = (rest.0, rest.1, each_cons r (refs_among cs) (ref_right s h) rest.2, rest.3, rest.4)
  clause_right (a_set {t = t} s) cs h rest = let one = set_right s h in (rest.0, rest.1, rest.2, (one.0, one.1, rest.3), omega (arith, one.2, rest.4))

trees_right : {version levels : ℕ} {trees : List Tree} {u : List Lexeme} → Many (SpellsSet version levels) trees u → WordsAreRight u → HaveWordNames (forest_of trees) × (depth (forest_of trees) ≤ suc levels)
trees_right no_more h = (tt, omega arith)
trees_right (one_more {u = u} {v = v} s m) h =
    let one = set_right s (right_front u v h) in
    let rest = trees_right m (right_back u v h) in
    ((one.0, one.1, rest.0), omega (arith, one.2, rest.1))

side_right : {version : ℕ} {name : List ℕ} {levels : ℕ} {f : Forest} {a : List Lexeme} → SpellsSide version name levels f a → WordsAreRight a → HaveWordNames f × (depth f ≤ suc levels)
side_right (side_of {u = u} k o c kw ow m cw) h = trees_right m (right_front u (c ∷ []) h.1.1)

mapping_right : {levels : ℕ} {m : MappingText} {a : List Lexeme} → SpellsMapping levels m a → WordsAreRight a → (HaveWordNames m.source × (depth m.source ≤ suc levels)) × (HaveWordNames m.target × (depth m.target ≤ suc levels))
mapping_right (mapping_of {u = u} {v = v} {w = w} k n e kw nw ew from to items) h =
    let back = right_back u (v ++ w) h.1.1.1 in
    (side_right from (right_front u (v ++ w) h.1.1.1), side_right to (right_front v w back))

-- the sets that a text says are written again as they are
pub said_is_writable : (text : List ℕ) (m : MappingText) → IsMappingText text m → AreWritable m.version m.source × AreWritable m.version m.target
said_is_writable text m says =
    let r = mapping_right says.spelled (words_are_words text) in
    let v = said_sayable says.spelled in
    (record { named = r.0.0; sayable = v.0; levels = r.0.1 }, record { named = r.1.0; sayable = v.1; levels = r.1.1 })
