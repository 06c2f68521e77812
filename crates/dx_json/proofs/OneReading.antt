-- Bytes have one reading.
use Rattle.std.proofs.Common.{◌≡◌, ◌⊎◌, inl, inr, ℕ, List, [], ◌∷◌, Option, Some, None, map, refl, sym, ap, ◌∙◌, IsUtf8}
use Rattle.std.proofs.lemmas.Bool.{cases_Bool, true≢false}
use Rattle.std.proofs.lemmas.Str.{IsUtf8-from_is_utf8, is_utf8-from_IsUtf8}
use Rattle.std.specs.Str.{is_utf8}
use Rattle.serde_json.specs.Data.{Data}
use Rattle.serde_json.specs.Read.{read}
use Rattle.dx_model.specs.declared.facts.Fact.{Fact}
use Rattle.dx_schema.specs.Forest.{Forest}
use Rattle.dx_json.specs.declared.fault.JsonFault.TheVariants.{Bad}
use Rattle.dx_json.specs.declared.fault.JsonKind.{JsonKind}
use Rattle.dx_json.specs.declared.fault.JsonKind.TheVariants as kind
use Rattle.dx_json.specs.Said.{DocumentItem, says, wrong_shape, wrong_number, unknown_member}
use Rattle.dx_json.specs.Documents.{IsDocument, IsFirstDocumentFault, SaysFacts, document_says, first_fault, without_mark}
use Rattle.dx_json.specs.Laws.{FactsAreOne, FactsOrFault, OneDocumentFault, NeverFactsAndFault}
use Rattle.dx_json.proofs.Steps.{refused_document}

same_facts : (a b : List Fact) → map says a ≡ map says b → a ≡ b
same_facts [] [] e = refl
same_facts [] (y ∷ b) e = cc e
same_facts (x ∷ a) [] e = cc e
same_facts (x ∷ a) (y ∷ b) e =
    let first : x ≡ y = cc e in
    let rest : map says a ≡ map says b = cc e in
    rw (first, same_facts a b rest) refl

one_document : (bytes : List ℕ) (c d : Data) → IsDocument bytes c → IsDocument bytes d → c ≡ d
one_document bytes c d p q = let e : Some c ≡ Some d = sym p.1 ∙ q.1 in cc e

no_fault : (facts : List Fact) → first_fault (map says facts) ≡ None
no_fault [] = refl
no_fault (f ∷ facts) = no_fault facts

-- a first fault is that there is no document, or one of what the document says
abbrev AtFault : List ℕ → Forest → ℕ → JsonKind → Type 0
AtFault bytes schema root k =
    ((k ≡ kind.NotJson) × ((d : Data) → ¬ (IsDocument bytes d)))
    ⊎ ((d : Data) × IsDocument bytes d × (first_fault (document_says schema root d) ≡ Some k))

at_fault : (bytes : List ℕ) (schema : Forest) (root : ℕ) (k : JsonKind) → IsFirstDocumentFault bytes schema root k → AtFault bytes schema root k
at_fault bytes schema root kind.NotJson f = inl (refl, f)
at_fault bytes schema root (kind.Shape path) f = inr f
at_fault bytes schema root (kind.Number path) f = inr f
at_fault bytes schema root (kind.Unknown path) f = inr f

pub facts_are_one : FactsAreOne
facts_are_one bytes schema root a b p q =
    let same = one_document bytes p.0 q.0 p.1 q.1 in
    same_facts a b (sym p.2 ∙ ap (document_says schema root) same ∙ q.2)

pub fault_is_one : OneDocumentFault
fault_is_one bytes schema root a b p q =
    elim (at_fault bytes schema root a p) [
      | inl none ↦ elim (at_fault bytes schema root b q) [
        | inl also ↦ none.0 ∙ sym also.0
        | inr some ↦ absurd (none.1 some.0 some.1)
      ]
      | inr one ↦ elim (at_fault bytes schema root b q) [
        | inl none ↦ absurd (none.1 one.0 one.1)
        | inr two ↦
            let e : Some a ≡ Some b = sym one.2 ∙ ap (λ d. first_fault (document_says schema root d)) (one_document bytes one.0 two.0 one.1 two.1) ∙ two.2 in
            cc e
      ]
    ]

pub never_both : NeverFactsAndFault
never_both bytes schema root facts k p q =
    elim (at_fault bytes schema root k q) [
      | inl none ↦ none.1 p.0 p.1
      | inr one ↦
          let e : None ≡ Some k = sym (no_fault facts) ∙ ap first_fault (sym p.2) ∙ ap (λ d. first_fault (document_says schema root d)) (one_document bytes p.0 one.0 p.1 one.1) ∙ one.2 in
          cc e
    ]

-- what is met is facts alone, or has a first fault
facts_or_fault : (met : List DocumentItem) → ((facts : List Fact) × (met ≡ map says facts)) ⊎ ((k : JsonKind) × (first_fault met ≡ Some k))
facts_or_fault [] = inl ([], refl)
facts_or_fault (says f ∷ rest) = elim (facts_or_fault rest) [ inl h ↦ inl (f ∷ h.0, ap (λ xs. says f ∷ xs) h.1) | inr h ↦ inr h ]
facts_or_fault (wrong_shape path ∷ rest) = inr (kind.Shape path, refl)
facts_or_fault (wrong_number path ∷ rest) = inr (kind.Number path, refl)
facts_or_fault (unknown_member path ∷ rest) = inr (kind.Unknown path, refl)

abbrev Either : List ℕ → Forest → ℕ → Type 0
Either bytes schema root = ((facts : List Fact) × SaysFacts bytes schema root facts) ⊎ ((k : JsonKind) × IsFirstDocumentFault bytes schema root k)

of_document : (bytes : List ℕ) (schema : Forest) (root : ℕ) (d : Data) → IsDocument bytes d → Either bytes schema root
of_document bytes schema root d doc =
    elim (facts_or_fault (document_says schema root d)) [
      | inl h ↦ inl (h.0, (d, doc, h.1))
      | inr h ↦ inr (h.0, refused_document bytes schema root d (Bad h.0) doc h.1)
    ]

of_read : (bytes : List ℕ) (schema : Forest) (root : ℕ) (o : Option Data) → read (without_mark bytes) ≡ o → IsUtf8 (without_mark bytes) → Either bytes schema root
of_read bytes schema root None e u = inr (kind.NotJson, λ d doc. (let w : None ≡ Some d = sym e ∙ doc.1 in cc w))
of_read bytes schema root (Some d) e u = of_document bytes schema root d (u, e)

pub either : FactsOrFault
either bytes schema root =
    let rest = without_mark bytes in
    elim (cases_Bool (is_utf8 rest)) [
      | inl e ↦ of_read bytes schema root (read rest) refl (IsUtf8-from_is_utf8 rest e)
      | inr e ↦ inr (kind.NotJson, λ d doc. true≢false (sym (is_utf8-from_IsUtf8 rest doc.0) ∙ e))
    ]
