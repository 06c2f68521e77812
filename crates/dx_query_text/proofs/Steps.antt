-- From the steps of a part to the part.
use Rattle.std.proofs.Common.{◌≡◌, ◌⊎◌, ◌<◌, inl, inr, ℕ, List, [], Some, None, length, map, drop, get_or, refl, ap, ◌∙◌, subst}
use Rattle.dx_base.specs.Firsts.{first_of}
use Rattle.dx_base.proofs.Lists.{cut_at}
use Rattle.dx_model.specs.declared.rules.Atom.{Atom}
use Rattle.dx_model.specs.declared.rules.Cell.{Cell}
use Rattle.dx_schema.specs.Forest.{Forest}
use Rattle.dx_base.specs.Texts.{Text}
use Rattle.dx_tokens.specs.declared.faults.TextFault.{TextFault}
use Rattle.dx_tokens.specs.declared.faults.TextFault.TheVariants.{Memory}
use Rattle.dx_tgd_text.specs.Reading.{atoms_fault, atoms_of_texts, cell_of}
use Rattle.dx_tgd_text.proofs.RuleSteps.{second_first, third_first, none_first}
use Rattle.dx_query_text.specs.declared.texts.PartText.{PartText}
use Rattle.dx_query_text.specs.Naming.{answer_fault, part_fault, part_of_text, query_fault, part_variables, width_fault, width_of}

module _ (f : Forest) (width : ℕ) (p : PartText) where
  -- the part has another width
  pub by_width : (e : TextFault) → atoms_fault f p.atoms ≡ None → width_fault width p ≡ Some e → (e ≡ Memory) ⊎ (part_fault f width p ≡ Some e)
  by_width e none some = inr (second_first (atoms_fault f p.atoms) (width_fault width p) (answer_fault (part_variables p) p.answer) e none some)

  -- its answer has the first fault
  pub by_answer : (known : List Text) (e : TextFault) → known ≡ part_variables p → atoms_fault f p.atoms ≡ None → width_fault width p ≡ None → answer_fault known p.answer ≡ Some e → (e ≡ Memory) ⊎ (part_fault f width p ≡ Some e)
  by_answer known e is none also some =
      inr (third_first (atoms_fault f p.atoms) (width_fault width p) (answer_fault (part_variables p) p.answer) e none also (subst (λ k. answer_fault k p.answer ≡ Some e) is some))

  -- all is read
  pub part_read : (empty known : List Text) (atoms : List Atom) (answer : List Cell) → empty ≡ [] → known ≡ part_variables p → (atoms ≡ atoms_of_texts f known empty p.atoms) × (atoms_fault f p.atoms ≡ None) → width_fault width p ≡ None
      → answer_fault known p.answer ≡ None → answer ≡ map (cell_of known empty) p.answer → (record { answer = answer; atoms = atoms } ≡ part_of_text f p) × (part_fault f width p ≡ None)
  part_read empty known atoms answer none is a w n c =
      let A : atoms ≡ atoms_of_texts f (part_variables p) [] p.atoms = a.0 ∙ ap (λ k. atoms_of_texts f k empty p.atoms) is ∙ ap (λ k. atoms_of_texts f (part_variables p) k p.atoms) none in
      let C : answer ≡ map (cell_of (part_variables p) []) p.answer = c ∙ ap (λ k. map (cell_of k empty) p.answer) is ∙ ap (λ k. map (cell_of (part_variables p) k) p.answer) none in (
        (λ i. record { answer = C i; atoms = A i }),
        none_first (atoms_fault f p.atoms) (width_fault width p) (answer_fault (part_variables p) p.answer) a.1 w (subst (λ k. answer_fault k p.answer ≡ None) is n),
      )

-- the first fault of the parts is that of a part after those that are read
pub part_at_fault : (f : Forest) (width : ℕ) (parts : List PartText) (i : ℕ) (p : PartText) (e : TextFault) → width ≡ width_of parts → i < length parts → p ≡ get_or parts i p
    → first_of (map (part_fault f width) parts) ≡ first_of (map (part_fault f width) (drop i parts)) → (e ≡ Memory) ⊎ (part_fault f width p ≡ Some e) → (e ≡ Memory) ⊎ (query_fault f parts ≡ Some e)
part_at_fault f width parts i p e wide lt is rest (inl m) = inl m
part_at_fault f width parts i p e wide lt is rest (inr some) =
    inr (subst (λ w. first_of (map (part_fault f w) parts) ≡ Some e) wide (rest ∙ ap (λ ps. first_of (map (part_fault f width) ps)) (cut_at parts i p lt is) ∙ rw some refl))
