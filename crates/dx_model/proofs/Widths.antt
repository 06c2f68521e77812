-- Atoms and the widths of tables.
use Rattle.std.proofs.Common.{◌≡◌, ℕ, zero, suc, ◌<◌, false, cond, eqb, Some, List, [], ◌∷◌, inl, inr, length, refl, sym, ◌∙◌, ap, arith}
use Rattle.std.specs.Prelude.{map, slice_get, slice_index_or}
use Rattle.std.proofs.lemmas.Bool.{cases_Bool, eqb-true, eqb-false}
use Rattle.dx_model.specs.declared.rules.Atom.{Atom}
use Rattle.dx_model.specs.declared.rules.Rule.{Rule}
use Rattle.dx_base.specs.Members.{◌∈◌, here, there, Each}
use Rattle.dx_base.proofs.Members.{in_flat_map}
use Rattle.dx_model.specs.Tables.{Table}
use Rattle.dx_model.specs.Fitting.{conclusions_of}
use Rattle.dx_model.specs.Laws.{FitsByWidths, AtomWidthsAgree, RulesHaveWidths}

abbrev no_table : Table
no_table = record { width = 0; determinations = []; links = []; optional = [] }

get_width : (schema : List Table) (i w : ℕ) → slice_get (map (λ (t : Table). t.width) schema) i ≡ Some w → (i < length schema) × (w ≡ (slice_index_or schema i no_table).width)
get_width [] i w e = absurd (cc)
get_width (t ∷ schema) zero w e = let d : t.width ≡ w = cc in (omega arith, sym d)
get_width (t ∷ schema) (suc i) w e = let r = get_width schema i w e in (omega (arith, r.0), r.1)

has_width : (schema : List Table) (i w : ℕ) → i < length schema → w ≡ (slice_index_or schema i no_table).width → slice_get (map (λ (t : Table). t.width) schema) i ≡ Some w
has_width [] i w h e = absurd (omega arith)
has_width (t ∷ schema) zero w h e = ap Some (sym e)
has_width (t ∷ schema) (suc i) w h e = has_width schema i w (omega arith) e

pub fits_by_widths : FitsByWidths
fits_by_widths schema a = (
  (λ f. has_width schema a.table (length a.cells) f.table f.width),
  (λ e. let r = get_width schema a.table (length a.cells) e in record { table = r.0; width = r.1 }),
)

pub in_get : (ws : List ℕ) (i w : ℕ) → slice_get ws i ≡ Some w → w ∈ ws
in_get [] i w e = absurd (cc)
in_get (v ∷ ws) zero w e = let d : v ≡ w = cc in here d
in_get (v ∷ ws) (suc i) w e = there (in_get ws i w e)

pub widths_agree : AtomWidthsAgree
widths_agree widths atoms wide fit = record {
  some = λ a m. wide (length a.cells) (in_get widths a.table (length a.cells) (fit a m));
  one = λ a m b n e. let p = fit a m in let q = fit b n in let r = ap (slice_get widths) e in cc;
}

-- the width of the first atom of a table
abbrev first_width : List Atom → ℕ → ℕ
first_width [] t = 0
first_width (a ∷ atoms) t = cond (eqb a.table t) (length a.cells) (first_width atoms t)

of_first : (atoms : List Atom) (t : ℕ) (a : Atom) → a ∈ atoms → a.table ≡ t → (b : Atom) × (b ∈ atoms) × (b.table ≡ t) × (first_width atoms t ≡ length b.cells)
of_first [] t a m e = elim m [ ]
of_first (c ∷ atoms) t a m e = elim (cases_Bool (eqb c.table t)) [
  | inl h ↦ (c, here refl, eqb-true c.table t h, rw h refl)
  | inr h ↦ let r = of_first atoms t a (later h m) e in (r.0, there r.1, r.2, rw h r.3)
]
  where
    later : eqb c.table t ≡ false → a ∈ (c ∷ atoms) → a ∈ atoms
    later h (here d) = absurd (eqb-false c.table t h (ap (λ (x : Atom). x.table) d ∙ e))
    later h (there k) = k

pub rules_have_widths : RulesHaveWidths
rules_have_widths R agree = (first_width (conclusions_of R), each)
  where
    each : Each R (λ d. Each d.conclusion (λ a. length a.cells ≡ first_width (conclusions_of R) a.table))
    each d m a n =
        let k = in_flat_map (λ (r : Rule). r.conclusion) m n in
        let w = of_first (conclusions_of R) a.table a k refl in
        agree.one a k w.0 w.1 (sym w.2) ∙ sym w.3
