-- No fault of a query is told for its depth.
use Rattle.std.proofs.Common.{◌≡◌, ℕ, List, [], ◌∷◌, Bool, true, false, Option, Some, None, cond, length, map}
use Rattle.std.specs.Prelude.{eqb}
use Rattle.dx_base.specs.Firsts.{first_of}
use Rattle.dx_schema.specs.Forest.{Forest}
use Rattle.dx_base.specs.Texts.{Text}
use Rattle.dx_schema.specs.Faults.{is_among}
use Rattle.dx_tokens.specs.declared.faults.TextFault.{TextFault}
use Rattle.dx_tokens.specs.declared.faults.TextFault.TheVariants.{At, Memory, TooDeep}
use Rattle.dx_tokens.specs.declared.faults.TextKind.TheVariants.{UnknownName, Unsafe, Width}
use Rattle.dx_line_text.specs.Naming.{columns_in, set_names}
use Rattle.dx_schema_text.specs.declared.texts.CellText.{CellText}
use Rattle.dx_schema_text.specs.declared.texts.CellText.TheVariants.{Name, Literal}
use Rattle.dx_schema_text.specs.declared.texts.AtomText.{AtomText}
use Rattle.dx_tgd_text.specs.Reading.{atom_fault, atoms_fault}
use Rattle.dx_query_text.specs.declared.texts.PartText.{PartText}
use Rattle.dx_query_text.specs.Naming.{answer_cell_fault, answer_fault, part_fault, query_fault, part_variables, width_fault, width_of}
use Rattle.dx_query_text.specs.Queries.{IsPlaced}
use Rattle.dx_query_text.specs.Texts.{IsQueryTextFault}

pub placed_text : (text : List ℕ) (e : TextFault) → IsQueryTextFault text e → IsPlaced e
placed_text text (At place kind) h = tt
placed_text text (TooDeep place) h = h
placed_text text Memory h = h

-- a fault, if there is one, is at a place
abbrev Placed : Option TextFault → Type 0
Placed None = Unit {0}
Placed (Some e) = IsPlaced e

first_placed : (a : Option TextFault) (others : List (Option TextFault)) → Placed a → Placed (first_of others) → Placed (first_of (a ∷ others))
first_placed None others p q = q
first_placed (Some e) others p q = p

all_placed : {X : Type 0} (fault : X → Option TextFault) → ((x : X) → Placed (fault x)) → (xs : List X) → Placed (first_of (map fault xs))
all_placed fault one [] = tt
all_placed fault one (x ∷ xs) = first_placed (fault x) (map fault xs) (one x) (all_placed fault one xs)

cond_placed : (b : Bool) (x y : Option TextFault) → Placed x → Placed y → Placed (cond b x y)
cond_placed true x y p q = p
cond_placed false x y p q = q

atom_placed : (f : Forest) (a : AtomText) → Placed (atom_fault f a)
atom_placed f a =
    let wide = eqb (length a.cells) (length (columns_in f a.set)) in
    cond_placed (is_among a.set (set_names f)) (cond wide None (Some (At a.place Width))) (Some (At a.place UnknownName)) (cond_placed wide None (Some (At a.place Width)) tt tt) tt

width_placed : (width : ℕ) (p : PartText) → Placed (width_fault width p)
width_placed width p = cond_placed (eqb (length p.answer) width) None (Some (At p.place Width)) tt tt

cell_placed : (variables : List Text) (c : CellText) → Placed (answer_cell_fault variables c)
cell_placed variables (Name x place) = cond_placed (is_among x variables) None (Some (At place Unsafe)) tt tt
cell_placed variables (Literal t) = tt

part_placed : (f : Forest) (width : ℕ) (p : PartText) → Placed (part_fault f width p)
part_placed f width p =
    first_placed (atoms_fault f p.atoms) _ (all_placed (atom_fault f) (atom_placed f) p.atoms)
    (first_placed (width_fault width p) _ (width_placed width p)
    (first_placed (answer_fault (part_variables p) p.answer) [] (all_placed (answer_cell_fault (part_variables p)) (cell_placed (part_variables p)) p.answer) tt))

pub placed_parts : (f : Forest) (parts : List PartText) (e : TextFault) → query_fault f parts ≡ Some e → IsPlaced e
placed_parts f parts e h = rw h at (all_placed (part_fault f (width_of parts)) (part_placed f (width_of parts)) parts)
