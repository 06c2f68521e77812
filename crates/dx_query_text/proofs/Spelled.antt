-- What is read is spelled, and what is spelled is read.
use Rattle.std.proofs.Common.{◌≡◌, true, List, [], ◌∷◌, ◌++◌, Ok, refl, ap, ◌∙◌, append_assoc}
use Rattle.std.specs.Prelude.{codes}
use Rattle.dx_tokens.specs.declared.scanner.Lexeme.{Lexeme}
use Rattle.dx_grammar.specs.Readers.{many, Many}
use Rattle.dx_grammar.proofs.Spelled.{Finds, give_finds, then_finds, last_finds, head_finds, many_finds, Again, NotNext, many_again}
use Rattle.dx_schema_text.specs.Grammar.{word_is, digit_is, mark_is}
use Rattle.dx_schema_text.specs.Reading.{cells_reader, atoms_reader}
use Rattle.dx_schema_text.proofs.Found.{cells_finds, atoms_finds}
use Rattle.dx_schema_text.proofs.Again.{cells_again, atoms_again, no_comma}
use Rattle.dx_schema_text.specs.Spelling.{IsKeyword, SpellsCommaList, SpellsAtom, SpellsCell}
use Rattle.dx_query_text.specs.declared.texts.PartText.{PartText}
use Rattle.dx_query_text.specs.Reading.{part_reader, query_reader}
use Rattle.dx_query_text.specs.Spelling.{SpellsPart, part_of, SpellsQuery, query_of}
use Rattle.dx_query_text.proofs.Follows.{begins_part, part_consumes}

-- ---- what is read is spelled

part_finds : Finds part_reader SpellsPart
unfolding part_reader
part_finds =
    head_finds begins_part _ SpellsPart (λ k kw. head_finds (mark_is (codes "(")) _ _ (λ o ow. then_finds (cells_reader true) _ (SpellsCommaList (SpellsCell true)) _ (cells_finds true) (λ answer u h.
    head_finds (mark_is (codes ")")) _ _ (λ c cw. head_finds (word_is (codes "from")) _ _ (λ f fw. then_finds (atoms_reader true) _ (SpellsCommaList (SpellsAtom true)) _ (atoms_finds true) (λ atoms v g.
    head_finds (mark_is (codes ";")) _ _ (λ e ew. give_finds _ _ (part_of k o c f e kw ow h cw fw g ew))))))))

pub query_finds : Finds query_reader SpellsQuery
unfolding query_reader
query_finds =
    head_finds (word_is (codes "query")) _ SpellsQuery (λ k kw. head_finds (digit_is (codes "1")) _ _ (λ n nw. head_finds (mark_is (codes ";")) _ _ (λ e ew. then_finds part_reader _ SpellsPart _ part_finds (λ first u h.
    last_finds (many begins_part part_reader) _ (Many SpellsPart) _ (many_finds begins_part part_reader SpellsPart part_finds) (λ others v m. query_of k n e kw nw ew h m)))))

-- ---- what is spelled is read

part_behind : {p : PartText} {a : List Lexeme} → SpellsPart p a → (rest : List Lexeme) → part_reader (a ++ rest) ≡ Ok (p, rest)
unfolding part_reader
part_behind (part_of {answer = answer} {atoms = atoms} {u = u} {v = v} k o c f e kw ow h cw fw g ew) rest =
    let all : (u ++ c ∷ f ∷ (v ++ e ∷ [])) ++ rest ≡ u ++ c ∷ f ∷ (v ++ e ∷ rest) = append_assoc u (c ∷ f ∷ (v ++ e ∷ [])) rest ∙ ap (λ ys. u ++ c ∷ f ∷ ys) (append_assoc v (e ∷ []) rest) in
    rw (
      all,
      kw,
      ow,
      (cells_again true).again answer u (c ∷ f ∷ (v ++ e ∷ rest)) h (no_comma (codes ")") c refl cw),
      cw,
      fw,
      (atoms_again true).again atoms v (e ∷ rest) g (no_comma (codes ";") e refl ew),
      ew,
    ) refl

part_first : {p : PartText} {a : List Lexeme} → SpellsPart p a → (x : Lexeme) × (v : List Lexeme) × (a ≡ x ∷ v) × IsKeyword (codes "answer") x
part_first (part_of {u = u} {v = v} k o c f e kw ow h cw fw g ew) = (k, o ∷ (u ++ c ∷ f ∷ (v ++ e ∷ [])), refl, kw)

parts_again : Again (many begins_part part_reader) (Many SpellsPart) (NotNext begins_part)
parts_again = many_again begins_part part_reader SpellsPart part_consumes (record { begin = λ p a h. part_first h }) (record { again = λ p a rest h ok. part_behind h rest })

query_behind : {parts : List PartText} {a : List Lexeme} → SpellsQuery parts a → (rest : List Lexeme) → NotNext begins_part rest → query_reader (a ++ rest) ≡ Ok (parts, rest)
unfolding query_reader
query_behind (query_of {others = others} {u = u} {v = v} k n e kw nw ew h m) rest stop = rw (append_assoc u v rest, kw, nw, ew, part_behind h (v ++ rest), parts_again.again others v rest m stop) refl

pub query_again : Again query_reader SpellsQuery (NotNext begins_part)
query_again = record { again = λ parts a rest h stop. query_behind h rest stop }
