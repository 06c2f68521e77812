-- A part has no more cells than its text has bytes.
use Rattle.std.proofs.Common.{◌+◌, ◌<◌, ◌≤◌, ◌-◌, ◌^◌, ℕ, true, List, [], ◌∷◌, ◌++◌, length, subst, arith, length-append}
use Rattle.dx_tokens.specs.declared.scanner.Lexeme.{Lexeme}
use Rattle.dx_tokens.proofs.Few.{lexemes_few}
use Rattle.dx_grammar.specs.Readers.{Many, no_more, one_more}
use Rattle.dx_base.specs.Members.{here, there, Each}
use Rattle.dx_tgd_text.specs.Numbering.{text_cells}
use Rattle.dx_tgd_text.proofs.Written.{atoms_few, cells_few}
use Rattle.dx_query_text.specs.declared.texts.PartText.{PartText}
use Rattle.dx_query_text.specs.Naming.{PartHasFewCells}
use Rattle.dx_query_text.specs.Spelling.{SpellsPart, part_of, SpellsQuery, query_of}
use Rattle.dx_query_text.specs.Texts.{IsQueryText}
use Rattle.dx_query_text.specs.Laws.{TextsHaveFewCells}

abbrev cells_in : PartText → ℕ
cells_in p = length p.answer + length (text_cells p.atoms)

part_few : (p : PartText) (xs : List Lexeme) → SpellsPart p xs → cells_in p ≤ length xs
part_few _ _ (part_of {answer = answer} {atoms = atoms} {u = u} {v = v} k o c from e kw ow h cw fw g ew) =
    let some = cells_few true answer u h in
    let others = atoms_few true atoms v g in
    omega (arith, some, others, length-append u (c ∷ from ∷ (v ++ e ∷ [])), length-append v (e ∷ []))

parts_few : (n : ℕ) (parts : List PartText) (xs : List Lexeme) → length xs ≤ n → Many SpellsPart parts xs → Each parts (λ p. cells_in p ≤ n)
parts_few n _ _ le no_more p m = elim m [ ]
parts_few n _ _ le (one_more {a = first} {u = u} {v = v} h rest) p (here e) =
    let f = part_few first u h in
    subst (λ (q : PartText). cells_in q ≤ n) e (omega (arith, le, f, length-append u v))
parts_few n _ _ le (one_more {others = others} {u = u} {v = v} h rest) p (there m) = parts_few n others v (omega (arith, le, length-append u v)) rest p m

query_few : (n : ℕ) (parts : List PartText) (xs : List Lexeme) → length xs ≤ n → SpellsQuery parts xs → Each parts (λ p. cells_in p ≤ n)
query_few n _ _ le (query_of {first = first} {u = u} {v = v} k number e kw nw ew h m) p (here is) =
    let f = part_few first u h in
    subst (λ (q : PartText). cells_in q ≤ n) is (omega (arith, le, f, length-append u v))
query_few n _ _ le (query_of {others = others} {u = u} {v = v} k number e kw nw ew h m) p (there i) = parts_few n others v (omega (arith, le, length-append u v)) m p i

pub texts_have_few_cells : TextsHaveFewCells
texts_have_few_cells text parts says = query_few (length text) parts _ (lexemes_few text) says.spelled

-- the parts of a short text are narrow
pub short_are_narrow : (text : List ℕ) (parts : List PartText) → length text < 2 ^ 32 - 1 → IsQueryText text parts → Each parts PartHasFewCells
short_are_narrow text parts short says p m =
    let few = texts_have_few_cells text parts says p m in
    record { atoms = omega (arith, short, few); answer = omega (arith, short, few) }
