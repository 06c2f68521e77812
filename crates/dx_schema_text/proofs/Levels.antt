-- Clauses by the levels of inner sets.
use Rattle.std.proofs.Common.{◌≡◌, ℕ, zero, suc, ◌-◌, ◌<◌, List, Ok, ◌∙◌, refl, arith}
use Rattle.std.specs.Prelude.{codes}
use Rattle.dx_tokens.specs.declared.scanner.Lexeme.{Lexeme}
use Rattle.dx_grammar.specs.declared.reading.ReadError.{ReadError}
use Rattle.dx_grammar.specs.declared.reading.ReadError.TheVariants as errors
use Rattle.dx_grammar.specs.Readers.{Reader, ◌>>=◌, give, token, many, FailsAs}
use Rattle.dx_schema.specs.Forest.{Tree}
use Rattle.dx_schema_text.specs.declared.clauses.Clause.{Clause}
use Rattle.dx_schema_text.specs.Grammar.{mark_is}
use Rattle.dx_schema_text.specs.Reading.{last_clause_reader, clause_reader_with, clause_reader, begins_clause, set_head_reader, set_reader_of, set_reader, tree_of_clauses}

pub no_level : (version levels : ℕ) (xs : List Lexeme) → levels ≡ 0 → last_clause_reader version xs ≡ clause_reader version levels xs
unfolding clause_reader
no_level version levels xs e = rw e refl

pub one_level : (version levels : ℕ) (xs : List Lexeme) → 0 < levels → clause_reader_with version (set_reader version (levels - 1)) xs ≡ clause_reader version levels xs
unfolding clause_reader
one_level version zero xs lt = absurd (omega arith)
one_level version (suc levels) xs lt = let e : suc levels - 1 ≡ levels = omega arith in rw e refl

-- ---- a set after its head

abbrev clauses_in : ℕ → ℕ → Reader Lexeme (List Clause)
clauses_in version levels = many (begins_clause version levels) (clause_reader version levels)

set_begun : (version levels : ℕ) (xs rest : List Lexeme) (name : List ℕ) (columns : List (List ℕ)) → set_head_reader xs ≡ Ok ((name, columns), rest)
    → set_reader version levels xs ≡ (clauses_in version levels >>= λ cs. token (mark_is (codes "}")) >>= λ closing. give (tree_of_clauses name columns cs)) rest
unfolding set_reader_of
set_begun version levels xs rest name columns e = rw e refl

pub clauses_fail : (error : ReadError) (version levels : ℕ) (xs rest : List Lexeme) (name : List ℕ) (columns : List (List ℕ)) → set_head_reader xs ≡ Ok ((name, columns), rest) → FailsAs error (clauses_in version levels rest) → FailsAs error (set_reader version levels xs)
clauses_fail errors.Memory version levels xs rest name columns e h = tt
clauses_fail (errors.Left n) version levels xs rest name columns e h = set_begun version levels xs rest name columns e ∙ rw h refl

pub closing_fails : (error : ReadError) (version levels : ℕ) (xs rest after : List Lexeme) (name : List ℕ) (columns : List (List ℕ)) (cs : List Clause) → set_head_reader xs ≡ Ok ((name, columns), rest) → clauses_in version levels rest ≡ Ok (cs, after)
    → FailsAs error (token (mark_is (codes "}")) after) → FailsAs error (set_reader version levels xs)
closing_fails errors.Memory version levels xs rest after name columns cs e f h = tt
closing_fails (errors.Left n) version levels xs rest after name columns cs e f h = set_begun version levels xs rest name columns e ∙ rw (f, h) refl

pub set_is : (version levels : ℕ) (xs rest after behind : List Lexeme) (name : List ℕ) (columns : List (List ℕ)) (cs : List Clause) (closing : Lexeme) (t : Tree) → set_head_reader xs ≡ Ok ((name, columns), rest) → clauses_in version levels rest ≡ Ok (cs, after)
    → token (mark_is (codes "}")) after ≡ Ok (closing, behind) → t ≡ tree_of_clauses name columns cs → set_reader version levels xs ≡ Ok (t, behind)
set_is version levels xs rest after behind name columns cs closing t e f h is = set_begun version levels xs rest name columns e ∙ rw (f, h, is) refl
