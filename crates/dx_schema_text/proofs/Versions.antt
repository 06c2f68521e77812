-- What a text says is of its version: before version 3 it has no dependencies, and before version 2 no optional refs and no conditions.
use Rattle.std.proofs.Common.{◌≡◌, ℕ, Bool, true, false, List, [], refl}
use Rattle.dx_base.specs.Members.{Each}
use Rattle.dx_base.proofs.Members.{each_cons}
use Rattle.dx_tokens.specs.declared.scanner.Lexeme.{Lexeme}
use Rattle.dx_grammar.specs.Readers.{Many, no_more, one_more}
use Rattle.dx_schema.specs.declared.sets.RefDecl.{RefDecl}
use Rattle.dx_schema.specs.Forest.{Forest, Tree, forest_of}
use Rattle.dx_schema_text.specs.declared.texts.MappingText.{MappingText}
use Rattle.dx_schema_text.specs.declared.clauses.Clause.{Clause}
use Rattle.dx_schema_text.specs.declared.mapping.ItemText.{ItemText}
use Rattle.dx_schema_text.specs.Grammar.{since_two, since_three}
use Rattle.dx_schema_text.specs.Reading.{deps_among, refs_among, sets_among, conditions_among}
use Rattle.dx_schema_text.specs.Spelling.{SpellsOptional, not_optional, is_optional, SpellsRef, ref_of, SpellsSet, set_of, SpellsClauses, no_clause, clause_first, a_key, a_dep, a_ref, a_set, SpellsItem, a_line, a_rule, SpellsSide, side_of, IsVersion, version_one, version_two, version_three, SpellsMapping, mapping_of}
use Rattle.dx_schema_text.specs.Laws.{SaidIsOfVersion}
use Rattle.dx_schema_text.specs.Print.{IsOfVersion, FitsVersion, IsKnownVersion, the_first, the_second, the_third}

optional_sayable : {optionals b : Bool} {xs : List Lexeme} → SpellsOptional optionals b xs → b ≡ true → optionals ≡ true
optional_sayable not_optional e = absurd cc
optional_sayable (is_optional k kw) e = refl

ref_sayable : {optionals : Bool} {r : RefDecl} {xs : List Lexeme} → SpellsRef optionals r xs → r.optional ≡ true → optionals ≡ true
ref_sayable (ref_of k o c arrow s p d e a b f g h i j l m is n) said = optional_sayable is said

-- a ref that a text of this version can say
abbrev IsSayable : ℕ → RefDecl → Type 0
IsSayable version r = r.optional ≡ true → since_two version ≡ true

-- what the clauses of a set may say in a text of this version
abbrev AreSayable : ℕ → List Clause → Type 0
AreSayable version cs = Each (deps_among cs) (λ d. since_three version ≡ true) × Each (refs_among cs) (IsSayable version) × FitsVersion version (sets_among cs)

mutual
  set_sayable : {version levels : ℕ} {t : Tree} {xs : List Lexeme} → SpellsSet version levels t xs → IsOfVersion version t.label × FitsVersion version t.inner
  set_sayable (set_of c head clauses closing) = let r = clauses_sayable clauses in (record { deps = r.0; refs = r.1 }, r.2)

  clauses_sayable : {version levels : ℕ} {cs : List Clause} {xs : List Lexeme} → SpellsClauses version levels cs xs → AreSayable version cs
  clauses_sayable no_clause = (λ x m. elim m [ ], λ x m. elim m [ ], tt)
  clauses_sayable (clause_first (a_key key) rest) = clauses_sayable rest
  clauses_sayable (clause_first {cs = cs} (a_dep {d = d} is dep) rest) = let q = clauses_sayable rest in (each_cons d (deps_among cs) is q.0, q.1, q.2)
  clauses_sayable (clause_first {cs = cs} (a_ref {r = r} ref) rest) = let q = clauses_sayable rest in (q.0, each_cons r (refs_among cs) (ref_sayable ref) q.1, q.2)
  clauses_sayable (clause_first (a_set set) rest) = let q = clauses_sayable rest in let s = set_sayable set in (q.0, q.1, (s.0, s.1, q.2))

sets_sayable : {version levels : ℕ} {ts : List Tree} {xs : List Lexeme} → Many (SpellsSet version levels) ts xs → FitsVersion version (forest_of ts)
sets_sayable no_more = tt
sets_sayable (one_more set rest) = let s = set_sayable set in (s.0, s.1, sets_sayable rest)

side_sayable : {version : ℕ} {name : List ℕ} {levels : ℕ} {f : Forest} {xs : List Lexeme} → SpellsSide version name levels f xs → FitsVersion version f
side_sayable (side_of k o c keyword opening sets closing) = sets_sayable sets

pub said_sayable : {levels : ℕ} {m : MappingText} {xs : List Lexeme} → SpellsMapping levels m xs → FitsVersion m.version m.source × FitsVersion m.version m.target
said_sayable (mapping_of k n e keyword version ending from to rest) = (side_sayable from, side_sayable to)

-- ---- conditions

none_said : {items : List ItemText} {xs : List Lexeme} → Many (SpellsItem false) items xs → conditions_among items ≡ []
none_said no_more = refl
none_said (one_more (a_line line) rest) = none_said rest
none_said (one_more (a_rule rule) rest) = none_said rest

without_conditions : {items : List ItemText} {xs : List Lexeme} (conditions : Bool) → Many (SpellsItem conditions) items xs → conditions ≡ false → conditions_among items ≡ []
without_conditions false said e = none_said said
without_conditions true said e = absurd cc

known : {version : ℕ} {n : Lexeme} → IsVersion version n → IsKnownVersion version
known (version_one e) = the_first
known (version_two e) = the_second
known (version_three e) = the_third

is_of_version : {levels : ℕ} {m : MappingText} {xs : List Lexeme} → SpellsMapping levels m xs → IsKnownVersion m.version × (since_two m.version ≡ false → m.conditions ≡ [])
is_of_version (mapping_of {version = version} k n e keyword number ending from to rest) = (known number, without_conditions (since_two version) rest)

pub said_is_of_version : SaidIsOfVersion
said_is_of_version text m says = is_of_version says.spelled
