-- A set has fewer keys and dependencies together, and fewer refs, than its text has tokens, and these are no more than the text has bytes.
use Rattle.std.proofs.Common.{ℕ, ◌+◌, ◌<◌, ◌≤◌, Bool, List, [], ◌∷◌, ◌++◌, length, arith, length-append}
use Rattle.dx_tokens.specs.declared.scanner.Lexeme.{Lexeme}
use Rattle.dx_tokens.proofs.Few.{lexemes_few}
use Rattle.dx_grammar.specs.Readers.{Many, no_more, one_more}
use Rattle.dx_schema.specs.declared.sets.KeyDecl.{KeyDecl}
use Rattle.dx_schema.specs.declared.sets.DepDecl.{DepDecl}
use Rattle.dx_schema.specs.declared.sets.RefDecl.{RefDecl}
use Rattle.dx_schema.specs.Forest.{Forest, Tree, forest_of}
use Rattle.dx_schema.specs.Bounds.{RulesBelow}
use Rattle.dx_schema_text.specs.declared.texts.MappingText.{MappingText}
use Rattle.dx_schema_text.specs.declared.clauses.Clause.{Clause}
use Rattle.dx_schema_text.specs.Reading.{keys_among, deps_among, refs_among, sets_among}
use Rattle.dx_schema_text.specs.Spelling.{SpellsKey, key_of, SpellsDep, dep_of, SpellsRef, ref_of, SpellsSet, set_of, SpellsClauses, no_clause, clause_first, a_key, a_dep, a_ref, a_set, SpellsSide, side_of, SpellsMapping, mapping_of}
use Rattle.dx_schema_text.specs.Laws.{TextsHaveFewRules}

key_some : {k : KeyDecl} {xs : List Lexeme} → SpellsKey k xs → 1 ≤ length xs
key_some (key_of k o c e a b d f g) = omega arith

dep_some : {d : DepDecl} {xs : List Lexeme} → SpellsDep d xs → 1 ≤ length xs
dep_some (dep_of k o c arrow p d e a b f g h i j l m) = omega arith

ref_some : {optionals : Bool} {r : RefDecl} {xs : List Lexeme} → SpellsRef optionals r xs → 1 ≤ length xs
ref_some (ref_of k o c arrow s p d e a b f g h i j l m q n) = omega arith

mutual
  -- a set has fewer keys and dependencies together, and fewer refs, than tokens, and so has each of its inner sets
  set_few : {version levels : ℕ} {t : Tree} {xs : List Lexeme} (n : ℕ) → length xs ≤ n → SpellsSet version levels t xs → (length t.label.keys + length t.label.deps < n) × (length t.label.refs < n) × RulesBelow n t.inner
  set_few n le (set_of {u = u} {v = v} c head clauses closing) =
      let all : length u + (length v + 1) ≤ n = omega (arith, le, length-append u (v ++ c ∷ []), length-append v (c ∷ [])) in
      let r = clauses_few n (omega (arith, all)) clauses in
      (omega (arith, all, r.0), omega (arith, all, r.1), r.2)

  clauses_few : {version levels : ℕ} {cs : List Clause} {xs : List Lexeme} (n : ℕ) → length xs ≤ n → SpellsClauses version levels cs xs
      → (length (keys_among cs) + length (deps_among cs) ≤ length xs) × (length (refs_among cs) ≤ length xs) × RulesBelow n (sets_among cs)
  clauses_few n le no_clause = (omega arith, omega arith, tt)
  clauses_few n le (clause_first {u = u} {v = v} (a_key key) rest) =
      let r = clauses_few n (omega (arith, le, length-append u v)) rest in
      let some = key_some key in
      (omega (arith, r.0, some, length-append u v), omega (arith, r.1, length-append u v), r.2)
  clauses_few n le (clause_first {u = u} {v = v} (a_dep is dep) rest) =
      let r = clauses_few n (omega (arith, le, length-append u v)) rest in
      let some = dep_some dep in
      (omega (arith, r.0, some, length-append u v), omega (arith, r.1, length-append u v), r.2)
  clauses_few n le (clause_first {u = u} {v = v} (a_ref ref) rest) =
      let r = clauses_few n (omega (arith, le, length-append u v)) rest in
      let some = ref_some ref in
      (omega (arith, r.0, length-append u v), omega (arith, r.1, some, length-append u v), r.2)
  clauses_few n le (clause_first {u = u} {v = v} (a_set set) rest) =
      let r = clauses_few n (omega (arith, le, length-append u v)) rest in
      let s = set_few n (omega (arith, le, length-append u v)) set in
      (omega (arith, r.0, length-append u v), omega (arith, r.1, length-append u v), (s.0, s.1, s.2, r.2))

sets_few : {version levels : ℕ} {ts : List Tree} {xs : List Lexeme} (n : ℕ) → length xs ≤ n → Many (SpellsSet version levels) ts xs → RulesBelow n (forest_of ts)
sets_few n le no_more = tt
sets_few n le (one_more {u = u} {v = v} set rest) =
    let s = set_few n (omega (arith, le, length-append u v)) set in
    (s.0, s.1, s.2, sets_few n (omega (arith, le, length-append u v)) rest)

side_few : {version : ℕ} {name : List ℕ} {levels : ℕ} {f : Forest} {xs : List Lexeme} (n : ℕ) → length xs ≤ n → SpellsSide version name levels f xs → RulesBelow n f
side_few n le (side_of {u = u} k o c keyword opening sets closing) = sets_few n (omega (arith, le, length-append u (c ∷ []))) sets

mapping_few : {levels : ℕ} {m : MappingText} {xs : List Lexeme} (n : ℕ) → length xs ≤ n → SpellsMapping levels m xs → RulesBelow n m.source × RulesBelow n m.target
mapping_few n le (mapping_of {u = u} {v = v} {w = w} k v1 e keyword version ending from to rest) =
    (side_few n (omega (arith, le, length-append u (v ++ w), length-append v w)) from, side_few n (omega (arith, le, length-append u (v ++ w), length-append v w)) to)

pub texts_have_few_rules : TextsHaveFewRules
texts_have_few_rules text m h = mapping_few (length text) (lexemes_few text) h.spelled
