-- The whole script of rules.
use Rattle.std.proofs.Common.{◌≡◌, ℕ, ◌<◌, ◌≤◌, arith, Bool, false, List, [], ◌++◌, sym, ◌∙◌, ap, length, get_or, append_assoc}
use Rattle.std.specs.Prelude.{map, flat_map}
use Rattle.std.proofs.lemmas.List.{get_or-map}
use Rattle.dx_base.proofs.Tests.{flat_map_same}
use Rattle.dx_base.specs.Members.{◌∈◌, Each}
use Rattle.dx_base.proofs.Members.{from_flat_map}
use Rattle.dx_model.specs.declared.rules.Atom.{Atom}
use Rattle.dx_model.specs.declared.rules.Rule.{Rule}
use Rattle.dx_model.specs.Tables.{Table}
use Rattle.dx_model.specs.Solutions.{AtomFits}
use Rattle.dx_model.specs.Covers.{below, rule_at}
use Rattle.dx_model.specs.Fitting.{AgreeInWidths, RuleFits, conclusions_of}
use Rattle.dx_model.proofs.Lists.{from_below}
use Rattle.dx_schema.specs.Forest.{Forest}
use Rattle.dx_schema.specs.Tables.{AreTables, model_tables, schema_table, tables_of}
use Rattle.dx_schema.specs.Names.{TableNames}
use Rattle.dx_funcs.specs.declared.conversion.Conversion.{Conversion}
use Rattle.dx_script.specs.declared.form.Unless.{Unless}
use Rattle.dx_script.specs.declared.form.Step.{Step}
use Rattle.dx_script.specs.Generated.{create_steps, has_parts, inserts_of, insert_steps, keep_step, keep_steps, match_steps, script_with}
use Rattle.dx_script.proofs.Fitted.{at_below}
use Rattle.dx_schema.specs.Tables.{no_table}
use Rattle.dx_base.proofs.Members.{in_at}
use Rattle.dx_schema.proofs.Facts.{atom_table, atom_width}

-- the steps of all kinds, one kind after the other
pub whole_is : (S T : List TableNames) (list : List Conversion) (parts : List (List Unless)) (R : List Rule) (kept : List Bool) (s0 s1 s2 s3 s4 : List Step)
    → s0 ≡ [] → s1 ≡ s0 ++ create_steps T → s2 ≡ s1 ++ match_steps S list R → kept ≡ map has_parts parts → length parts ≡ length R
    → s3 ≡ s2 ++ flat_map (λ r. keep_step r (get_or parts r [])) (below (length parts))
    → s4 ≡ s3 ++ flat_map (λ r. inserts_of T (get_or kept r false) r (rule_at R r)) (below (length R))
    → s4 ≡ script_with S T list (λ r. get_or parts r []) R
whole_is S T list parts R kept s0 s1 s2 s3 s4 a b c k l d e =
    let keeps : ℕ → List Unless = λ r. get_or parts r [] in
    let inserts : flat_map (λ r. inserts_of T (get_or kept r false) r (rule_at R r)) (below (length R)) ≡ insert_steps T keeps R =
    flat_map_same (λ r. inserts_of T (get_or kept r false) r (rule_at R r)) (λ r. inserts_of T (has_parts (get_or parts r [])) r (rule_at R r)) (below (length R)) (λ r m.
    ap (λ z. inserts_of T z r (rule_at R r)) (ap (λ z. get_or z r false) k ∙ get_or-map has_parts parts r [] false (rw l (from_below r (length R) m)))) in
    let first : s1 ≡ create_steps T = b ∙ ap (λ z. z ++ create_steps T) a in
    let second : s2 ≡ create_steps T ++ match_steps S list R = c ∙ ap (λ z. z ++ match_steps S list R) first in
    let third : s3 ≡ (create_steps T ++ match_steps S list R) ++ keep_steps keeps R =
    d ∙ (ap (λ n. s2 ++ flat_map (λ r. keep_step r (get_or parts r [])) (below n)) l ∙ ap (λ z. z ++ keep_steps keeps R) second) in
    e ∙ (ap (λ z. s3 ++ z) inserts ∙ (ap (λ z. z ++ insert_steps T keeps R) third
    ∙ (append_assoc (create_steps T ++ match_steps S list R) (keep_steps keeps R) (insert_steps T keeps R)
    ∙ append_assoc (create_steps T) (match_steps S list R) (keep_steps keeps R ++ insert_steps T keeps R))))

-- only the parts of the rules that are there count
pub same_script : (S T : List TableNames) (list : List Conversion) (keeps others : ℕ → List Unless) (R : List Rule) → ((r : ℕ) → r < length R → keeps r ≡ others r)
    → script_with S T list keeps R ≡ script_with S T list others R
same_script S T list keeps others R h =
    let a : keep_steps keeps R ≡ keep_steps others R =
    flat_map_same (λ r. keep_step r (keeps r)) (λ r. keep_step r (others r)) (below (length R)) (λ r m. ap (keep_step r) (h r (from_below r (length R) m))) in
    let b : insert_steps T keeps R ≡ insert_steps T others R =
    flat_map_same (λ r. inserts_of T (has_parts (keeps r)) r (rule_at R r)) (λ r. inserts_of T (has_parts (others r)) r (rule_at R r)) (below (length R))
    (λ r m. ap (λ z. inserts_of T (has_parts z) r (rule_at R r)) (h r (from_below r (length R) m))) in
    (λ i. create_steps T ++ (match_steps S list R ++ (a i ++ b i)))

-- the script of parts that are listed by rule
pub listed_script : (S T : List TableNames) (list : List Conversion) (keeps : ℕ → List Unless) (parts : List (List Unless)) (R : List Rule) (steps : List Step) → parts ≡ map keeps (below (length R))
    → steps ≡ script_with S T list (λ r. get_or parts r []) R → steps ≡ script_with S T list keeps R
listed_script S T list keeps parts R steps e p =
    p ∙ same_script S T list (λ r. get_or parts r []) keeps R (λ r h. ap (λ z. get_or z r []) e ∙ at_below keeps (length R) r [] h)

-- conclusions over a schema agree in their widths
pub agree_in_widths : (source : List Table) (target : Forest) (R : List Rule) → AreTables (tables_of target) → Each R (RuleFits source (model_tables target)) → AgreeInWidths (conclusions_of R)
agree_in_widths source target R t f = record {
  some = λ a m. let w = fits a m in some a w (atom_width target a w) (atom_table target a w);
  one = λ a m b n e. atom_width target a (fits a m) ∙ (ap (λ z. length (schema_table target z).columns) e ∙ sym (atom_width target b (fits b n)));
}
  where
    fits : (a : Atom) → a ∈ conclusions_of R → AtomFits (model_tables target) a
    fits a m = let w = from_flat_map (λ (d : Rule). d.conclusion) R m in (f w.0 w.1).conclusion a w.2

    some : (a : Atom) → AtomFits (model_tables target) a → length a.cells ≡ length (schema_table target a.table).columns → a.table < length (tables_of target) → 1 ≤ length a.cells
    some a w e h = let s = (t.each_table (schema_table target a.table) (in_at (tables_of target) a.table no_table h)).some_column in omega (arith, s, e)
