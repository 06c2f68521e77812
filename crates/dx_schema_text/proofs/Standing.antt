-- A set at depth 17 stands with one level of sets more.
use Rattle.std.proofs.Common.{◌≡◌, ℕ, suc, List, [], ◌∷◌, ◌++◌, length, take, Ok, refl, sym, ap, ◌∙◌, subst, append_assoc}
use Rattle.std.specs.Prelude.{codes}
use Rattle.std.proofs.lemmas.List.{append-nil}
use Rattle.dx_tokens.specs.declared.scanner.Lexeme.{Lexeme}
use Rattle.dx_grammar.specs.Forms.{Form, repeated, Derives, is_one, Starts, at_one, in_first, in_second, in_left, in_right, in_again}
use Rattle.dx_grammar.specs.Readers.{Reader, whole_of, whole, Many, no_more, one_more, TellsOfTokens}
use Rattle.dx_grammar.proofs.Told.{answers}
use Rattle.dx_grammar.proofs.Verdicts.{IsReader, Anything}
use Rattle.dx_schema.specs.Forest.{Tree, Forest}
use Rattle.dx_schema_text.specs.declared.clauses.Clause.{Clause}
use Rattle.dx_schema_text.specs.Grammar.{set_head, set_of, clause_with, clause, set, side, body, mapping}
use Rattle.dx_schema_text.specs.Reading.{set_head_reader, clause_reader, set_reader, side_reader}
use Rattle.dx_schema_text.specs.Spelling.{IsKeyword, IsVersion, version_one, version_two, version_three, SpellsHead, SpellsSet, set_of as a_whole_set, SpellsClauses, no_clause, clause_first, SpellsClause, a_key, a_dep, a_ref, a_set, SpellsSide, side_of}
use Rattle.dx_schema_text.specs.Texts.{deeper_form, judged_tokens, StandsDeeper, OpenSets, one_set, and_inner, OpenSide, open_side, OpenMapping, in_source, in_target, IsSetTooDeep}
use Rattle.dx_schema_text.specs.Laws.{TooDeepAreSets}
use Rattle.dx_schema_text.proofs.Follows.{set_head_reads, clause_reads, set_reads, side_reads}
use Rattle.dx_schema_text.proofs.Again.{head_behind, clause_behind, set_behind, side_behind}
use Rattle.dx_schema_text.proofs.Deeper.{deeper_at_set}

-- ---- what is spelled is a text

whole_text : {A : Type 0} (f : Form Lexeme) (r : Reader Lexeme A) → IsReader Anything f r → (a : A) (u : List Lexeme) → r (u ++ []) ≡ Ok (a, []) → Derives f u
whole_text f r reads a u e =
    let read : r u ≡ Ok (a, []) = subst (λ xs. r xs ≡ Ok (a, [])) (append-nil u) e in
    let all : whole r u ≡ Ok a = ap (λ x. whole_of x) read in
    subst (TellsOfTokens f u) all (answers Anything f r reads tt u)

head_text : {name : List ℕ} {columns : List (List ℕ)} {u : List Lexeme} → SpellsHead name columns u → Derives set_head u
head_text {name = name} {columns = columns} {u = u} h = whole_text set_head set_head_reader set_head_reads (name, columns) u (head_behind h [])

clause_text : {version levels : ℕ} {c : Clause} {u : List Lexeme} → SpellsClause version levels c u → Derives (clause version levels) u
clause_text {version = version} {levels = levels} {c = c} {u = u} h = whole_text (clause version levels) (clause_reader version levels) (clause_reads version levels) c u (clause_behind h [])

set_text : {version levels : ℕ} {t : Tree} {u : List Lexeme} → SpellsSet version levels t u → Derives (set version levels) u
set_text {version = version} {levels = levels} {t = t} {u = u} h = whole_text (set version levels) (set_reader version levels) (set_reads version levels) t u (set_behind h [])

side_text : {version : ℕ} {name : List ℕ} {levels : ℕ} {f : Forest} {u : List Lexeme} → SpellsSide version name levels f u → Derives (side version name levels) u
side_text {version = version} {name = name} {levels = levels} {f = f} {u = u} h = whole_text (side version name levels) (side_reader version name levels) (side_reads version name levels) f u (side_behind h [])

-- ---- one level more has room for all that one fewer has

mutual
  set_wider : {version levels : ℕ} {t : Tree} {u : List Lexeme} → SpellsSet version levels t u → SpellsSet version (suc levels) t u
  set_wider (a_whole_set c h cs e) = a_whole_set c h (clauses_wider cs) e

  clauses_wider : {version levels : ℕ} {cs : List Clause} {u : List Lexeme} → SpellsClauses version levels cs u → SpellsClauses version (suc levels) cs u
  clauses_wider no_clause = no_clause
  clauses_wider (clause_first h m) = clause_first (clause_wider h) (clauses_wider m)

  clause_wider : {version levels : ℕ} {c : Clause} {u : List Lexeme} → SpellsClause version levels c u → SpellsClause version (suc levels) c u
  clause_wider (a_key h) = a_key h
  clause_wider (a_dep is h) = a_dep is h
  clause_wider (a_ref h) = a_ref h
  clause_wider (a_set h) = a_set (set_wider h)

sets_wider : {version levels : ℕ} {trees : List Tree} {u : List Lexeme} → Many (SpellsSet version levels) trees u → Many (SpellsSet version (suc levels)) trees u
sets_wider no_more = no_more
sets_wider (one_more h m) = one_more (set_wider h) (sets_wider m)

side_wider : {version : ℕ} {name : List ℕ} {levels : ℕ} {f : Forest} {u : List Lexeme} → SpellsSide version name levels f u → SpellsSide version name (suc levels) f u
side_wider (side_of k o c kw ow m cw) = side_of k o c kw ow (sets_wider m) cw

-- ---- open sets and one inner set more are a start

clauses_start : {version levels : ℕ} {cs : List Clause} {v : List Lexeme} → SpellsClauses version levels cs v → (w : List Lexeme) → Starts (clause version (suc levels)) w → Starts (repeated (clause version (suc levels))) (v ++ w)
clauses_start no_clause w s = in_again (in_first s)
clauses_start {version = version} {levels = levels} (clause_first {u = u} {v = v} h m) w s =
    subst (Starts (repeated (clause version (suc levels)))) (sym (append_assoc u v w)) (in_again (in_second (clause_text (clause_wider h)) (clauses_start m w s)))

sets_start : {version levels : ℕ} {trees : List Tree} {u : List Lexeme} → Many (SpellsSet version levels) trees u → (w : List Lexeme) → Starts (set version levels) w → Starts (repeated (set version levels)) (u ++ w)
sets_start no_more w s = in_again (in_first s)
sets_start {version = version} {levels = levels} (one_more {u = u} {v = v} h m) w s =
    subst (Starts (repeated (set version levels))) (sym (append_assoc u v w)) (in_again (in_second (set_text h) (sets_start m w s)))

word_starts : (version levels : ℕ) (x : Lexeme) → IsKeyword (codes "set") x → Starts (set version levels) (x ∷ [])
unfolding set_of set_head
word_starts version levels x e = in_first (in_first (at_one e))

inner_starts : (version levels : ℕ) (w : List Lexeme) → Starts (set version levels) w → Starts (clause version (suc levels)) w
unfolding clause clause_with
inner_starts version levels w s = in_right (in_right s)

set_starts : (version levels : ℕ) {name : List ℕ} {columns : List (List ℕ)} {u : List Lexeme} → SpellsHead name columns u → (w : List Lexeme) → Starts (repeated (clause version levels)) w → Starts (set version levels) (u ++ w)
unfolding set_of
set_starts version levels h w s = in_second (head_text h) (in_first s)

open_starts : {version n : ℕ} {front : List Lexeme} → OpenSets version n front → (x : Lexeme) → IsKeyword (codes "set") x → Starts (set version n) (front ++ x ∷ [])
open_starts (one_set {version = version} {u = u} {v = v} h cs) x e =
    subst (Starts (set version 1)) (sym (append_assoc u v (x ∷ []))) (set_starts version 1 h (v ++ x ∷ []) (clauses_start cs (x ∷ []) (inner_starts version 0 (x ∷ []) (word_starts version 0 x e))))
open_starts (and_inner {version = version} {n = n} {u = u} {v = v} {w = w} h cs o) x e =
    subst (Starts (set version (suc n))) (sym (append_assoc u (v ++ w) (x ∷ []) ∙ ap (λ ys. u ++ ys) (append_assoc v w (x ∷ []))))
    (set_starts version (suc n) h (v ++ (w ++ x ∷ [])) (clauses_start cs (w ++ x ∷ []) (inner_starts version n (w ++ x ∷ []) (open_starts o x e))))

side_starts : {version : ℕ} {name : List ℕ} {front : List Lexeme} → OpenSide version name 16 front → (x : Lexeme) → IsKeyword (codes "set") x → Starts (side version name 16) (front ++ x ∷ [])
unfolding side
side_starts {version = version} {name = name} (open_side {u = u} {w = w} k o kw ow m s) x e =
    subst (λ ys. Starts (side version name 16) (k ∷ o ∷ ys)) (sym (append_assoc u w (x ∷ [])))
    (in_second (is_one kw) (in_second (is_one ow) (in_first (sets_start (sets_wider m) (w ++ x ∷ []) (open_starts s x e)))))

-- the number of a version, and then a start of its body
body_starts : {version : ℕ} {v : Lexeme} {ys : List Lexeme} (k : Lexeme) → IsKeyword (codes "mapping") k → IsVersion version v → Starts (body version 16) ys → Starts deeper_form (k ∷ v ∷ ys)
unfolding mapping
body_starts k kw (version_one vw) s = in_second (is_one kw) (in_left (in_second (is_one vw) s))
body_starts k kw (version_two vw) s = in_second (is_one kw) (in_right (in_left (in_second (is_one vw) s)))
body_starts k kw (version_three vw) s = in_second (is_one kw) (in_right (in_right (in_second (is_one vw) s)))

mapping_starts : {front : List Lexeme} → OpenMapping 16 front → (x : Lexeme) → IsKeyword (codes "set") x → Starts deeper_form (front ++ x ∷ [])
unfolding body
mapping_starts (in_source k v t kw vw tw s) x e = body_starts k kw vw (in_second (is_one tw) (in_first (side_starts s x e)))
mapping_starts (in_target {u = u} {w = w} k v t kw vw tw h s) x e =
    subst (λ ys. Starts deeper_form (k ∷ v ∷ t ∷ ys)) (sym (append_assoc u w (x ∷ [])))
    (body_starts k kw vw (in_second (is_one tw) (in_second (side_text (side_wider h)) (in_first (side_starts s x e)))))

-- ---- exactly there

taken : (front : List Lexeme) (x : Lexeme) (back : List Lexeme) → take (suc (length front)) (front ++ x ∷ back) ≡ front ++ x ∷ []
taken [] x back = refl
taken (y ∷ front) x back = ap (λ ys. y ∷ ys) (taken front x back)

set_stands_deeper : (text : List ℕ) (number : ℕ) → IsSetTooDeep text number → StandsDeeper text number
set_stands_deeper text number s =
    let e : take (suc number) (judged_tokens text) ≡ s.front ++ s.token ∷ [] =
    ap (λ n. take (suc n) (judged_tokens text)) s.at ∙ (ap (take (suc (length s.front))) s.are ∙ taken s.front s.token s.back) in
    subst (Starts deeper_form) (sym e) (mapping_starts s.inside s.token s.word)

pub too_deep_are_sets : TooDeepAreSets
too_deep_are_sets text place = ((λ f. (f.0, deeper_at_set text place f.0 f.1)), (λ s. (s.0, set_stands_deeper text s.0.number s.1)))
