-- The query that a text says over a target is answered, or its first fault.
use Rattle.std.proofs.Common.{◌≡◌, ◌<◌, ◌-◌, ◌^◌, ℕ, List, Result, Ok, Err, Option, Some, None, length, refl, sym, ap, ◌∙◌, subst, inl, inr}
use Rattle.std.specs.Prelude.{IfErr, IfOk}
use Rattle.dx_base.specs.Members.{Each}
use Rattle.dx_schema.specs.Forest.{Forest}
use Rattle.dx_schema.specs.Tables.{schema_widths}
use Rattle.dx_tokens.specs.declared.faults.TextFault.{TextFault}
use Rattle.dx_tokens.specs.declared.faults.TextFault.TheVariants.{At, Memory, TooDeep}
use Rattle.dx_tokens.specs.Judged.{Reads}
use Rattle.dx_tokens.proofs.Judged.{reads_err, reads_ok, said_or_faulty}
use Rattle.dx_grammar.proofs.Faults.{same_ok, same_err}
use Rattle.dx_line_text.specs.Answers.{ReadsOrMemory}
use Rattle.dx_queries.specs.declared.query.Query.{Query}
use Rattle.dx_queries.specs.Results.{FitsQuery}
use Rattle.dx_query_text.specs.declared.texts.PartText.{PartText}
use Rattle.dx_query_text.specs.Naming.{PartHasFewCells, query_fault, query_of}
use Rattle.dx_query_text.specs.Texts.{IsQueryText, IsQueryTextFault, query_of_text}
use Rattle.dx_query_text.specs.Queries.{HasFewAtoms, IsFaultOver, IsPlaced, IsQueryOver, IsQueryFaultOrMemory, query_unless_fault, named_read, read_over}
use Rattle.dx_query_text.specs.Laws.{FaultsArePlaced, NeverSaidAndFaulty, OneQueryFault, OneQuery, QueryOrFault}
use Rattle.dx_query_text.proofs.Answered.{fault_read, query_read, text_fault, text_query}
use Rattle.dx_query_text.proofs.Few.{short_are_narrow}
use Rattle.dx_query_text.proofs.Fitting.{read_queries_fit}
use Rattle.dx_query_text.proofs.Placed.{placed_parts, placed_text}

module _ (target : Forest) (text : List ℕ) where
  -- ---- what is said is answered

  said_read : (q : Query) → IsQueryOver target text q → read_over target text ≡ Ok q
  said_read q (parts, says, none, is) =
      ap (named_read target) (query_read text parts says) ∙ ap (query_unless_fault target parts) none ∙ ap (λ (p : Query). Ok p) (sym is)

  faulty_read : (e : TextFault) → IsFaultOver target text e → read_over target text ≡ Err e
  faulty_read e (inl fault) = ap (named_read target) (fault_read text e fault)
  faulty_read e (inr (parts, says, some)) = ap (named_read target) (query_read text parts says) ∙ ap (query_unless_fault target parts) some

  -- ---- what is answered is said

  named_said : (parts : List PartText) (o : Option TextFault) (q : Query) → IsQueryText text parts → query_fault target parts ≡ o → query_unless_fault target parts o ≡ Ok q → IsQueryOver target text q
  named_said parts None q says is e = (parts, says, is, sym (same_ok (query_of target parts) q e))
  named_said parts (Some f) q says is e = absurd cc

  read_said : (q : Query) (r : Result (List PartText) TextFault) → query_of_text text ≡ r → named_read target r ≡ Ok q → IsQueryOver target text q
  read_said q (Ok parts) is e = named_said parts (query_fault target parts) q (text_query text parts is) refl e
  read_said q (Err f) is e = absurd cc

  over_said : (q : Query) → read_over target text ≡ Ok q → IsQueryOver target text q
  over_said q e = read_said q (query_of_text text) refl e

  named_faulty : (parts : List PartText) (o : Option TextFault) (e : TextFault) → IsQueryText text parts → query_fault target parts ≡ o → query_unless_fault target parts o ≡ Err e → IsFaultOver target text e
  named_faulty parts None e says is k = absurd cc
  named_faulty parts (Some f) e says is k = inr (parts, says, is ∙ ap (λ (g : TextFault). Some g) (same_err f e k))

  read_faulty : (e : TextFault) (r : Result (List PartText) TextFault) → query_of_text text ≡ r → named_read target r ≡ Err e → IsFaultOver target text e
  read_faulty e (Ok parts) is k = named_faulty parts (query_fault target parts) e (text_query text parts is) refl k
  read_faulty e (Err f) is k = inl (subst (IsQueryTextFault text) (same_err f e k) (text_fault text f is))

  over_faulty : (e : TextFault) → read_over target text ≡ Err e → IsFaultOver target text e
  over_faulty e k = read_faulty e (query_of_text text) refl k

  is_placed : (e : TextFault) → IsFaultOver target text e → IsPlaced e
  is_placed e (inl fault) = placed_text text e fault
  is_placed e (inr (parts, says, some)) = placed_parts target parts e some

-- ---- a text says one query over a target

pub one_query : OneQuery
one_query target text p q a b = same_ok p q (sym (said_read target text p a) ∙ said_read target text q b)

pub one_fault : OneQueryFault
one_fault target text e f a b = same_err e f (sym (faulty_read target text e a) ∙ faulty_read target text f b)

pub query_or_fault : QueryOrFault
query_or_fault target text = said_or_faulty (IsQueryOver target text) (IsFaultOver target text) (read_over target text) (over_said target text) (over_faulty target text)

pub never_said_and_faulty : NeverSaidAndFaulty
never_said_and_faulty target text q e a b =
    let both : Ok q ≡ Err e = sym (said_read target text q a) ∙ faulty_read target text e b in
    absurd cc

pub faults_are_placed : FaultsArePlaced
faults_are_placed = is_placed

-- ---- the clauses of the call

pub reads_query : (target : Forest) (text : List ℕ) (r : Result Query TextFault) → Reads r (read_over target text) → IfOk r (IsQueryOver target text)
reads_query target text r h = reads_ok (IsQueryOver target text) r (read_over target text) h (over_said target text)

pub reads_query_only : (target : Forest) (text : List ℕ) (r : Result Query TextFault) → Reads r (read_over target text) → (q : Query) → IsQueryOver target text q → Reads r (Ok q)
reads_query_only target text r h q says = subst (Reads r) (said_read target text q says) h

pub reads_told : (target : Forest) (text : List ℕ) (r : Result Query TextFault) → Reads r (read_over target text) → IfErr r (IsQueryFaultOrMemory target text)
reads_told target text r h = reads_err (IsFaultOver target text) r (read_over target text) h (over_faulty target text)

pub reads_fault_only : (target : Forest) (text : List ℕ) (r : Result Query TextFault) → Reads r (read_over target text) → (e : TextFault) → IsFaultOver target text e → Reads r (Err e)
reads_fault_only target text r h e fault = subst (Reads r) (faulty_read target text e fault) h

pub reads_fit : (target : Forest) (text : List ℕ) (r : Result Query TextFault) → Reads r (read_over target text) → IfOk r (λ q. HasFewAtoms q → FitsQuery (schema_widths target) q)
reads_fit target text r h = reads_ok (λ q. HasFewAtoms q → FitsQuery (schema_widths target) q) r (read_over target text) h (λ q is. read_queries_fit target text q (over_said target text q is))

-- ---- the steps of the call

-- the parts that are read of a short text are narrow
pub read_narrow : (text : List ℕ) (parts : List PartText) → length text < 2 ^ 32 - 1 → query_of_text text ≡ Ok parts → Each parts PartHasFewCells
read_narrow text parts short e = short_are_narrow text parts short (text_query text parts e)

-- the text is at fault
pub parts_refused : (target : Forest) (text : List ℕ) (e : TextFault) → Reads (Err e) (query_of_text text) → Reads (Err e) (read_over target text)
parts_refused target text Memory h = tt
parts_refused target text (At place kind) h = ap (named_read target) h
parts_refused target text (TooDeep place) h = ap (named_read target) h

-- its parts are read, and then their names
by_names : (target : Forest) (parts : List PartText) (r : Result Query TextFault) → ReadsOrMemory r (query_of target parts) (query_fault target parts) → Reads r (query_unless_fault target parts (query_fault target parts))
by_names target parts (Ok q) h = ap (query_unless_fault target parts) h.1 ∙ ap (λ (p : Query). Ok p) (sym h.0)
by_names target parts (Err Memory) h = tt
by_names target parts (Err (At place kind)) (inl m) = absurd cc
by_names target parts (Err (At place kind)) (inr s) = ap (query_unless_fault target parts) s
by_names target parts (Err (TooDeep place)) (inl m) = absurd cc
by_names target parts (Err (TooDeep place)) (inr s) = ap (query_unless_fault target parts) s

pub names_read : (target : Forest) (text : List ℕ) (parts : List PartText) (r : Result Query TextFault) → query_of_text text ≡ Ok parts → ReadsOrMemory r (query_of target parts) (query_fault target parts) → Reads r (read_over target text)
names_read target text parts r is h = subst (Reads r) (sym (ap (named_read target) is)) (by_names target parts r h)
