-- The query of a command: one reason to refuse it, or one query over the target.
use Rattle.std.proofs.Common.{◌≡◌, ◌⊎◌, ◌≤◌, ℕ, List, [], ◌∷◌, length, refl, sym, ◌∙◌, subst, inl, inr, arith, Some, Result, Ok, Err}
use Rattle.std.proofs.lemmas.Bool.{cases_order}
use Rattle.std.proofs.lemmas.Option.{none-some, same_Some}
use Rattle.dx_base.specs.Members.{◌∈◌, Each, here, there}
use Rattle.dx_base.specs.declared.file.Count.TheVariants.{QueryAtoms}
use Rattle.dx_base.specs.declared.file.Limit.{Limit}
use Rattle.dx_ports.specs.States.{InputState}
use Rattle.dx_schema.specs.Forest.{Forest}
use Rattle.dx_schema.specs.Tables.{schema_widths}
use Rattle.dx_tokens.specs.declared.faults.TextFault.{TextFault}
use Rattle.dx_tokens.specs.declared.faults.TextFault.TheVariants as text_faults
use Rattle.dx_tokens.specs.declared.faults.TextKind.{TextKind}
use Rattle.dx_queries.specs.declared.query.Part.{Part}
use Rattle.dx_queries.specs.declared.query.Query.{Query}
use Rattle.dx_queries.specs.Results.{FitsQuery}
use Rattle.dx_query_text.specs.Queries.{HasFewAtoms, IsFaultOver, IsQueryOver, IsQueryFaultOrMemory}
use Rattle.dx_query_text.proofs.Over.{faults_are_placed, never_said_and_faulty, one_fault, one_query, query_or_fault}
use Rattle.dx_query_text.proofs.Fitting.{read_queries_fit}
use Rattle.dx_stages.specs.Worlds.{World}
use Rattle.dx_stages.specs.declared.stop.Stop.{Stop}
use Rattle.dx_stages.specs.declared.stop.Stop.TheVariants as stops
use Rattle.dx_stages.specs.Stages.{by, file, saying_if}
use Rattle.dx_stages.specs.Running.{Gives, Ran}
use Rattle.dx_stages.specs.Laws.{AsksOnly, HasWords, IsDecided, PassesOne}
use Rattle.dx_stages.proofs.Decided.{Any, by_decided, by_one, checking_decided, checking_one, file_decided, file_one, into_decided, into_one, next_decided, next_one, notions_decided, one_word, saying_if_decided, weaker}
use Rattle.dx_stages.proofs.Running.{ran_file, ran_next, ran_passes, ran_stop, ran_value, silent_apart}
use Rattle.clio_accept.specs.declared.mapping.Mapping.{Mapping}
use Rattle.clio_ending.specs.declared.ending.Refusal.{Refusal}
use Rattle.clio_ending.specs.declared.ending.Refusal.TheVariants as refusals
use Rattle.clio_ending.specs.declared.faults.QueryFault.{QueryFault}
use Rattle.clio_ending.specs.declared.faults.QueryFault.TheVariants as query_faults
use Rattle.clio_ending.specs.Ending.{AreAlike, query_refusal}
use Rattle.clio_ending.proofs.Alike.{alike, same_alike}
use Rattle.clio_answer.specs.Answering.{HasManyAtoms, MappingAndQuery, absent_query, few_atoms, long_query, query_over, query_bytes, query_file, query_name, query_stages, query_in_text, text_query}

-- ---- the number of atoms

many_or_few : (q : Query) (parts : List Part) → ((p : Part) → p ∈ parts → p ∈ q.parts) → Each parts (λ p. length p.atoms ≤ 64) ⊎ ((e : Refusal) × HasManyAtoms q e)
many_or_few q [] inside = inl (λ p m. elim m [ ])
many_or_few q (p ∷ parts) inside = elim (cases_order 64 (length p.atoms)) [
  | inl e ↦ more (many_or_few q parts (λ r m. inside r (there m))) (omega (arith, e))
  | inr o ↦ elim o [
    | inl many ↦ inr (refusals.Limit (record { what = QueryAtoms; number = 64 }), (p, inside p (here refl), many, refl))
    | inr few ↦ more (many_or_few q parts (λ r m. inside r (there m))) (omega (arith, few))
  ]
]
  where
    both : length p.atoms ≤ 64 → Each parts (λ r. length r.atoms ≤ 64) → Each (p ∷ parts) (λ r. length r.atoms ≤ 64)
    both few others r (here e) = subst (λ (s : Part). length s.atoms ≤ 64) e few
    both few others r (there m) = others r m

    more : Each parts (λ r. length r.atoms ≤ 64) ⊎ ((e : Refusal) × HasManyAtoms q e) → length p.atoms ≤ 64
        → Each (p ∷ parts) (λ r. length r.atoms ≤ 64) ⊎ ((e : Refusal) × HasManyAtoms q e)
    more (inl others) few = inl (both few others)
    more (inr many) few = inr many

few_decided : IsDecided AreAlike Any few_atoms
few_decided =
    checking_decided AreAlike Any HasManyAtoms HasFewAtoms
    (λ q e f a b. same_alike e f (a.3 ∙ sym b.3))
    (λ q e few many. let f = few many.0 many.1 in let m = many.2 in absurd (omega (arith, f, m)))
    (λ q. many_or_few q q.parts (λ p m. m))

-- ---- the text

said_one : (target : Forest) → PassesOne (query_in_text target)
said_one target c text p q a b = one_query target text p q a b

said_decided : (target : Forest) → IsDecided (λ e k. e ≡ k) Any (query_in_text target)
said_decided target =
    notions_decided (λ e k. e ≡ k) Any (IsFaultOver target) (IsQueryOver target) (λ text e f g a b. one_fault target text e f a b)
    (λ text q e g a b. never_said_and_faulty target text q e a b) (λ text g. query_or_fault target text)

-- each fault of a query's text has its word
pub queries_have_words : (target : Forest) → HasWords query_refusal (query_in_text target)
queries_have_words target c text (text_faults.At place kind) fault = (refusals.Query (query_faults.Text place kind), refl)
queries_have_words target c text (text_faults.TooDeep place) fault = absurd (faults_are_placed target text (text_faults.TooDeep place) fault)
queries_have_words target c text text_faults.Memory fault = absurd (faults_are_placed target text text_faults.Memory fault)

text_one : (target : Forest) → PassesOne (text_query target)
text_one target = next_one (saying_if query_refusal (query_in_text target)) few_atoms (said_one target) (checking_one HasManyAtoms HasFewAtoms)

text_decided : (target : Forest) → IsDecided AreAlike Any (text_query target)
text_decided target =
    next_decided AreAlike Any Any (saying_if query_refusal (query_in_text target)) few_atoms (said_one target) (λ c a b g p. tt)
    (saying_if_decided (λ e k. e ≡ k) AreAlike Any query_refusal (query_in_text target) (λ e k x y is p q. same_alike x y (one_word query_refusal e k x y is p q)) (queries_have_words target)
    (said_decided target)) few_decided

-- ---- the file

posed_one : (M : Mapping) → PassesOne (query_over M)
posed_one M = next_one query_file (text_query M.target) (file_one Mapping query_name query_bytes absent_query long_query) (text_one M.target)

posed_decided : (M : Mapping) → IsDecided AreAlike Any (query_over M)
posed_decided M =
    next_decided AreAlike Any Any query_file (text_query M.target) (file_one Mapping query_name query_bytes absent_query long_query) (λ c a b g p. tt)
    (file_decided AreAlike Any query_name query_bytes absent_query long_query alike) (text_decided M.target)

beside : Mapping → Query → MappingAndQuery
beside M q = (M, q)

pub query_one : PassesOne query_stages
unfolding beside
query_one = into_one beside (by query_over) (by_one query_over posed_one)

pub query_decided : (Given : Mapping → Type 0) → IsDecided AreAlike Given query_stages
unfolding beside
query_decided Given =
    into_decided AreAlike Given beside (by query_over) (by_decided AreAlike Given query_over (λ M g. weaker AreAlike Any Given (query_over M) (λ N h. tt) (posed_decided M)))

-- ---- what is passed on

-- a query that was passed on fits the target
pub query_fits : (c : World) (M : Mapping) (q : Query) → (query_over M).passes c M q → FitsQuery (schema_widths M.target) q
query_fits c M q (text, held, (p, said, (few, is))) =
    subst (FitsQuery (schema_widths M.target)) (sym is) (read_queries_fit M.target text p said few)

-- ---- the file that is asked for

text_silent : (target : Forest) (c : World) (text n : List ℕ) → ¬ ((text_query target).asks c text n)
text_silent target c text n (inl h) = h
text_silent target c text n (inr (q, said, h)) = h

pub query_asks : AsksOnly (λ n. n ≡ query_name) query_stages
query_asks c M n (inl h) = h
query_asks c M n (inr (text, held, h)) = absurd (text_silent M.target c text n h)

-- ---- what a text answers

pub never_deep : (target : Forest) (text : List ℕ) (place : ℕ) → ¬ (IsQueryFaultOrMemory target text (text_faults.TooDeep place))
never_deep target text place (inl e) = cc
never_deep target text place (inr h) = faults_are_placed target text (text_faults.TooDeep place) h

fault_there : (target : Forest) (text : List ℕ) (place : ℕ) (kind : TextKind) → IsQueryFaultOrMemory target text (text_faults.At place kind) → IsFaultOver target text (text_faults.At place kind)
fault_there target text place kind (inl e) = absurd cc
fault_there target text place kind (inr h) = h

pub text_refused : (target : Forest) (text : List ℕ) (place : ℕ) (kind : TextKind) → IsQueryFaultOrMemory target text (text_faults.At place kind)
    → Gives (text_query target) text (Err (stops.Refused (refusals.Query (query_faults.Text place kind))))
text_refused target text place kind h = λ c. inl (text_faults.At place kind, fault_there target text place kind h, refl)

pub too_many : (target : Forest) (text : List ℕ) (q : Query) → IsQueryOver target text q → ¬ (HasFewAtoms q)
    → Gives (text_query target) text (Err (stops.Refused (refusals.Limit (record { what = QueryAtoms; number = 64 }))))
too_many target text q said none = λ c. inr (q, said, many (many_or_few q q.parts (λ p m. m)))
  where
    many : HasFewAtoms q ⊎ ((e : Refusal) × HasManyAtoms q e) → HasManyAtoms q (refusals.Limit (record { what = QueryAtoms; number = 64 }))
    many (inl few) = absurd (none few)
    many (inr (e, (p, m, large, is))) = (p, m, large, refl)

pub text_said : (target : Forest) (text : List ℕ) (q : Query) → IsQueryOver target text q → HasFewAtoms q → Gives (text_query target) text (Ok q)
text_said target text q said few = λ c. (q, said, (few, refl))

-- ---- the file, fetched

-- the file that was fetched is that of the query
its_file : (M : Mapping) (called : List ℕ) (r : Result (List ℕ) (Stop Refusal)) (old new : InputState) → called ≡ query_name
    → Ran (file {A = Unit {0}} called query_bytes absent_query long_query) (tt {0}) r old new → Ran query_file M r old new
its_file M called r old new is x = ran_file called query_name query_bytes query_bytes absent_query absent_query long_query long_query M r old new is refl refl refl x

pub query_stopped : (M : Mapping) (called : List ℕ) (e : Stop Refusal) (old new : InputState) → called ≡ query_name
    → Ran (file {A = Unit {0}} called query_bytes absent_query long_query) (tt {0}) (Err e) old new → Ran (query_over M) M (Err e) old new
query_stopped M called e old new is x = ran_stop query_file (text_query M.target) M e old new (its_file M called (Err e) old new is x)

pub query_passed : (M : Mapping) (called text bytes : List ℕ) (r : Result Query (Stop Refusal)) (old new : InputState) → called ≡ query_name → bytes ≡ text
    → Ran (file {A = Unit {0}} called query_bytes absent_query long_query) (tt {0}) (Ok text) old new → Gives (text_query M.target) bytes r → Ran (query_over M) M r old new
query_passed M called text bytes r old new is same x g =
    ran_next query_file (text_query M.target) M text r old new new (silent_apart query_file (text_query M.target) (text_silent M.target))
    (its_file M called (Ok text) old new is x) (ran_value (text_query M.target) text r new (subst (λ v. Gives (text_query M.target) v r) same g))

pub query_within : (called text bytes : List ℕ) (old new : InputState) → bytes ≡ text → Ran (file {A = Unit {0}} called query_bytes absent_query long_query) (tt {0}) (Ok text) old new
    → length bytes ≤ query_bytes
query_within called text bytes old new same x =
    let p = ran_passes (file {A = Unit {0}} called query_bytes absent_query long_query) (tt {0}) text old new x in
    subst (λ v. length v ≤ query_bytes) (sym same) p.1.1

-- ---- which refusals there are

-- it is one of the query, or of a limit
abbrev pub IsOfQuery : Refusal → Type 0
IsOfQuery e = ((fault : QueryFault) × (e ≡ refusals.Query fault)) ⊎ ((l : Limit) × (e ≡ refusals.Limit l))

fault_said : (k : TextFault) (e : Refusal) → query_refusal k ≡ Some e → IsOfQuery e
fault_said (text_faults.At place kind) e is = inl (query_faults.Text place kind, sym (same_Some (refusals.Query (query_faults.Text place kind)) e is))
fault_said (text_faults.TooDeep place) e is = absurd (none-some e is)
fault_said text_faults.Memory e is = absurd (none-some e is)

pub query_refusals : (c : World) (M : Mapping) (e : Refusal) → query_stages.refuses c M e → IsOfQuery e
query_refusals c M e (inl (inl (none, is))) = inl (query_faults.Absent, is)
query_refusals c M e (inl (inr (bytes, held, many, is))) = inr (_, is)
query_refusals c M e (inr (text, held, inl (k, fault, is))) = fault_said k e is
query_refusals c M e (inr (text, held, inr (q, said, (p, m, many, is)))) = inr (_, is)
