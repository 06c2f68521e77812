-- What holds of an accepted mapping.
use Rattle.std.proofs.Common.{◌≡◌, ◌≤◌, ℕ, ◌+◌, ◌<◌, List, length, None, refl, sym, ◌∙◌, subst, ap, arith, inl, inr, ◌-◌, ◌^◌, Result, Ok, Err}
use Rattle.std.specs.Prelude.{map, flat_map, IfOk}
use Rattle.std.proofs.lemmas.List.{length-map}
use Rattle.dx_base.specs.Members.{◌∈◌, here, there, Each}
use Rattle.dx_base.proofs.Members.{from_append, from_map, from_flat_map}
use Rattle.dx_model.specs.declared.rules.Cell.{Cell}
use Rattle.dx_model.specs.declared.rules.Cell.TheVariants as cells
use Rattle.dx_model.specs.declared.rules.Derived.{Derived}
use Rattle.dx_model.specs.declared.rules.Rule.{Rule}
use Rattle.dx_model.specs.Solutions.{IsClosed}
use Rattle.dx_schema.specs.Forest.{Forest}
use Rattle.dx_schema.specs.Tables.{as_numbers, model_tables, tables_of}
use Rattle.dx_schema.specs.Links.{IsFaultless}
use Rattle.dx_schema.proofs.Valid.{are_tables}
use Rattle.dx_schema_text.specs.declared.texts.MappingText.{MappingText}
use Rattle.dx_schema_text.proofs.SpelledWords.{said_is_writable}
use Rattle.dx_funcs.specs.declared.conversion.Conversion.{Conversion}
use Rattle.dx_funcs.specs.declared.row_test.RowTest.{RowTest}
use Rattle.dx_logical.specs.declared.relation.Occurrence.{Occurrence}
use Rattle.dx_logical.specs.declared.relation.Relation.{Relation}
use Rattle.dx_logical.specs.Laws.{IsUnfolding}
use Rattle.dx_logical.specs.Unfolding.{variants_of, variant_of}
use Rattle.dx_schema.proofs.Whole.{links_fit}
use Rattle.dx_logical.proofs.Served.{at_place}
use Rattle.dx_logical.proofs.Unfolded.{variants_are}
use Rattle.dx_line_text.specs.Naming.{lines_fault, lines_of, IsOffered, IsOfferedFrom}
use Rattle.dx_line_text.specs.Conditions.{conditions_fault, conditions_of}
use Rattle.dx_line_text.proofs.Fits.{lines_fit, lines_offered}
use Rattle.dx_line_text.proofs.RowTests.{conditions_fit, conditions_tested}
use Rattle.dx_tgd_text.specs.Reading.{RuleHasFewCells, rules_fault}
use Rattle.dx_tgd_text.specs.Laws.{IsWholeRule}
use Rattle.dx_tgd_text.proofs.Fits.{all_fit, all_offered}
use Rattle.dx_tgd_text.proofs.Written.{texts_have_whole_rules}
use Rattle.dx_lines.specs.declared.line.Line.{Line}
use Rattle.dx_lines.specs.declared.line.Origin.{Origin}
use Rattle.dx_lines.specs.declared.line.Origin.TheVariants as origins
use Rattle.dx_lines.specs.declared.term.Term.{Term}
use Rattle.dx_lines.specs.declared.term.Term.TheVariants.{Var, Call}
use Rattle.dx_lines.specs.declared.candidate.Pick.{Pick}
use Rattle.dx_lines.specs.declared.candidate.Candidate.{Candidate}
use Rattle.dx_lines.specs.Ways.{ways}
use Rattle.dx_lines.specs.Rules.{atom_by, conversions, derived_by}
use Rattle.dx_lines.proofs.Sources.{IsBetween, from_kept}
use Rattle.dx_ways.specs.Laws.{TermBy, seen_at}
use Rattle.dx_ways.proofs.WaysAre.{ways_are}
use Rattle.dx_rules.proofs.ClosedRules.{rules_are_closed}
use Rattle.dx_rules.proofs.FittingRules.{rules_fit}
use Rattle.dx_model.specs.Fitting.{RuleFits}
use Rattle.dx_funcs.specs.Offers.{IsListed}
use Rattle.dx_rule_text.specs.Printed.{AtomsWithin}
use Rattle.dx_stages.specs.Worlds.{World}
use Rattle.dx_stages.specs.Stages.{Stage, next, checking}
use Rattle.dx_stages.specs.Running.{Answers}
use Rattle.dx_lines.proofs.Conversions.{from_conversions}
use Rattle.dx_rule_text.proofs.Printing.{atoms_of}
use Rattle.dx_implies.specs.Pruning.{IsPrunedAlways, PruningPassesLimit}
use Rattle.dx_implies.proofs.Pruned.{left_implies}
use Rattle.clio_accept.specs.Mapping.{SourceRefused, TargetRefused, NameRefused, LinesRefused, NamingRefused, TestingRefused, WritingRefused}
use Rattle.clio_accept.specs.Mapping.{LimitRefused, RulesRefused, FrozenRefused, frozen_cells}
use Rattle.clio_accept.specs.Mapping.{NoneReserved, RulesOfLines, rules_of_lines, limit_of, written_of}
use Rattle.clio_accept.specs.Accepting.{between_of, limits, naming, conditions_stage, writing, closing, leaving, accepting, accepting_said}
use Rattle.clio_accept.specs.Accepting.{frozen_count, pruning, said_rules, taking, target_names, target_sets}
use Rattle.clio_accept.specs.Laws.{AcceptedFits, AcceptedNamesAreFree, MappingFits}
use Rattle.clio_accept.proofs.Few.{few_variables, narrow_sides}
use Rattle.clio_accept.proofs.Closed.{closed_fits, closed_is_closed, closed_of}
use Rattle.clio_accept.specs.declared.fault.AcceptFault.{AcceptFault}
use Rattle.clio_accept.specs.declared.fault.AcceptFault.TheVariants.{Memory}
use Rattle.clio_accept.specs.declared.mapping.Mapping.{Mapping}

-- ---- tables of atoms

-- a variant of a table is an unfolding of it
unfolds : (f : Forest) (t : ℕ) (r : Relation) → IsFaultless f → t < length (model_tables f) → r ∈ variants_of (model_tables f) t → IsUnfolding (model_tables f) t r
unfolds f t r ok lt m = variants_are (model_tables f) t r (links_fit (tables_of f) (are_tables f ok.form)) ok.acyclic lt m

-- the occurrences of an unfolding are of tables of the schema
tables_there : (f : Forest) (t : ℕ) (r : Relation) → IsUnfolding (model_tables f) t r → Each r.occurrences (λ o. o.table < length (tables_of f))
tables_there f t r u o m =
    let n = at_place _ m in
    let place = (u.occurrences n.0 n.1).table in
    let same = length-map (tables_of f) as_numbers in
    let here_it : o.table < length (model_tables f) = subst (λ (x : Occurrence). x.table < length (model_tables f)) n.2 place in
    omega (arith, here_it, same)

-- its atoms too
atoms_there : (f : Forest) (g : ℕ → Cell) (os : List Occurrence) → Each os (λ o. o.table < length (tables_of f)) → AtomsWithin f (map (atom_by g) os)
atoms_there f g os h a m =
    let o = from_map (atom_by g) os m in
    subst (λ x. x.table < length (tables_of f)) o.2 (h o.0 o.1)

-- ---- derived variables

-- a derived variable is that of a conversion
derived_call : (t : Term) (x : Derived) → x ∈ derived_by t → (c : ℕ) × (xs : List ℕ) × (t ≡ Call c xs) × (c ≡ x.code) × (xs ≡ x.args)
derived_call (Var y) x m = elim m [ ]
derived_call (Call c xs) x (here e) = (c, xs, refl, ap (λ (d : Derived). d.code) e, ap (λ (d : Derived). d.args) e)
derived_call (Call c xs) x (there m) = elim m [ ]

-- the conversion of a way is listed, with as many arguments as it takes
call_listed : (list : List Conversion) (f : ℕ → Occurrence) (o : Origin) (c : ℕ) (xs : List ℕ) → IsOfferedFrom list o → TermBy f o (Call c xs) → IsListed list c (length xs)
call_listed list f (origins.Column a) c xs offered by = cc
call_listed list f (origins.Literal t) c xs offered by = absurd by
call_listed list f (origins.Call code args) c xs offered by =
    let same : c ≡ code = cc in
    let made : xs ≡ map (seen_at f) args = cc in
    let many : length args ≡ length xs = sym (ap length made ∙ length-map args (seen_at f)) in
    (offered.0, offered.1, offered.2 ∙ sym same, offered.3 ∙ many)

way_listed : (list : List Conversion) (lines : List Line) (P Q : List Occurrence) (k : Pick) (c : ℕ) (xs : List ℕ) → Each lines (IsOffered list) → k ∈ ways lines P Q → k.term ≡ Call c xs
    → IsListed list c (length xs)
way_listed list lines P Q k c xs offered m is =
    let w = (ways_are lines P Q k).0 m in
    call_listed list w.choice w.line.source c xs (offered w.line w.is_line) (subst (TermBy w.choice w.line.source) is w.term)

derived_listed : (list : List Conversion) (lines : List Line) (P Q : List Occurrence) (picks : List Pick) → Each lines (IsOffered list) → Each picks (λ k. k ∈ ways lines P Q)
    → Each (flat_map derived_by (conversions picks Q)) (λ e. IsListed list e.code (length e.args))
derived_listed list lines P Q picks offered are x m =
    let t = from_flat_map derived_by (conversions picks Q) m in
    let d = derived_call t.0 x t.2 in
    let k = from_conversions picks Q t.0 t.1 in
    let l = way_listed list lines P Q k.0 d.0 d.1 offered (are k.0 k.1) (k.2 ∙ d.2) in
    (l.0, l.1, l.2 ∙ d.3, l.3 ∙ ap length d.4)

-- ---- rules

-- what is known of what a text says that is read
pub record IsRead (list : List Conversion) (m : MappingText) : Type 0 where
  pub source : IsFaultless m.source
  pub target : IsFaultless m.target
  pub named : lines_fault m.source m.target list m.lines ≡ None
  pub limits : limit_of list m.source m.target m.lines ≡ None
  pub written : rules_fault m.source m.target list m.rules ≡ None
  pub whole : Each m.rules IsWholeRule

-- the two variants of a candidate
abbrev source_of : MappingText → Candidate → Relation
source_of m c = variant_of (model_tables m.source) c.source c.source_variant

abbrev target_of : MappingText → Candidate → Relation
target_of m c = variant_of (model_tables m.target) c.target c.target_variant

-- what is known of them
record AreVariants (m : MappingText) (c : Candidate) : Type 0 where
  source_variant : IsUnfolding (model_tables m.source) c.source (source_of m c)
  target_variant : IsUnfolding (model_tables m.target) c.target (target_of m c)
  few_source : length (source_of m c).occurrences ≤ 64
  few_target : length (target_of m c).occurrences ≤ 64

are_variants : (list : List Conversion) (m : MappingText) (c : Candidate) → IsRead list m → IsBetween (lines_of m.source m.target list m.lines) (model_tables m.source) (model_tables m.target) c
    → AreVariants m c
are_variants list m c a b =
    let narrow = narrow_sides (lines_of m.source m.target list m.lines) (model_tables m.source) (model_tables m.target) a.limits in
    record {
      source_variant = unfolds m.source c.source (source_of m c) a.source b.source_table b.source_variant;
      target_variant = unfolds m.target c.target (target_of m c) a.target b.target_table b.target_variant;
      few_source = narrow.0 c.source b.source_table (source_of m c) b.source_variant;
      few_target = narrow.1 c.target b.target_table (target_of m c) b.target_variant;
    }

each_closed : (list : List Conversion) (m : MappingText) → IsRead list m → Each (rules_of_lines list m.source m.target m.lines) (IsClosed (model_tables m.target))
each_closed list m a d i =
    let lines = lines_of m.source m.target list m.lines in
    let k = from_kept lines (model_tables m.source) (model_tables m.target) d i in
    let v = are_variants list m k.0 a k.1 in
    subst (IsClosed (model_tables m.target)) k.2
    (rules_are_closed lines (model_tables m.target) k.0.target (source_of m k.0) (target_of m k.0) k.0.picks
    (links_fit (tables_of m.target) (are_tables m.target a.target.form)) v.target_variant)

pub each_fits : (list : List Conversion) (m : MappingText) → IsRead list m → Each (rules_of_lines list m.source m.target m.lines) (RuleFits (model_tables m.source) (model_tables m.target))
each_fits list m a d i =
    let lines = lines_of m.source m.target list m.lines in
    let k = from_kept lines (model_tables m.source) (model_tables m.target) d i in
    let v = are_variants list m k.0 a k.1 in
    subst (RuleFits (model_tables m.source) (model_tables m.target)) k.2
    (rules_fit lines (model_tables m.source) (model_tables m.target) k.0.source k.0.target (source_of m k.0) (target_of m k.0) k.0.picks v.source_variant v.target_variant
    (few_variables m.source m.target k.0.source k.0.target (source_of m k.0) (target_of m k.0) a.source a.target v.few_source v.few_target v.source_variant v.target_variant)
    (lines_fit m.source m.target list m.lines lines refl a.named) k.1.picks)

each_premise : (list : List Conversion) (m : MappingText) → IsRead list m → Each (rules_of_lines list m.source m.target m.lines) (λ d. AtomsWithin m.source d.premise)
each_premise list m a d i =
    let k = from_kept (lines_of m.source m.target list m.lines) (model_tables m.source) (model_tables m.target) d i in
    let v = are_variants list m k.0 a k.1 in
    subst (λ (e : Rule). AtomsWithin m.source e.premise) k.2
    (atoms_there m.source cells.Var (source_of m k.0).occurrences (tables_there m.source k.0.source (source_of m k.0) v.source_variant))

each_conclusion : (list : List Conversion) (m : MappingText) → IsRead list m → Each (rules_of_lines list m.source m.target m.lines) (λ d. AtomsWithin m.target d.conclusion)
each_conclusion list m a d i =
    let k = from_kept (lines_of m.source m.target list m.lines) (model_tables m.source) (model_tables m.target) d i in
    let v = are_variants list m k.0 a k.1 in
    subst (λ (e : Rule). AtomsWithin m.target e.conclusion) k.2
    (atoms_there m.target _ (target_of m k.0).occurrences (tables_there m.target k.0.target (target_of m k.0) v.target_variant))

each_listed : (list : List Conversion) (m : MappingText) → IsRead list m → Each (rules_of_lines list m.source m.target m.lines) (λ d. Each d.derived (λ e. IsListed list e.code (length e.args)))
each_listed list m a d i =
    let lines = lines_of m.source m.target list m.lines in
    let k = from_kept lines (model_tables m.source) (model_tables m.target) d i in
    subst (λ (r : Rule). Each r.derived (λ e. IsListed list e.code (length e.args))) k.2
    (derived_listed list lines (source_of m k.0).occurrences (target_of m k.0).occurrences k.0.picks (lines_offered m.source m.target list m.lines lines refl a.named) k.1.picks)

-- ---- hand-written rules

-- a hand-written rule fits
written_fits : (list : List Conversion) (m : MappingText) → IsRead list m → Each m.rules RuleHasFewCells → Each (written_of list m.source m.target m.rules) (RuleFits (model_tables m.source) (model_tables m.target))
written_fits list m a narrow = all_fit m.source m.target list m.rules (written_of list m.source m.target m.rules) narrow refl a.written a.whole

record IsGood (list : List Conversion) (m : MappingText) (e : Rule) : Type 0 where
  fits : RuleFits (model_tables m.source) (model_tables m.target) e
  closed : IsClosed (model_tables m.target) e
  premise : AtomsWithin m.source e.premise
  conclusion : AtomsWithin m.target e.conclusion
  listed : Each e.derived (λ d. IsListed list d.code (length d.args))

closed_good : (list : List Conversion) (m : MappingText) (R : List Rule) → IsRead list m → Each m.rules RuleHasFewCells → (r : RulesOfLines list m.source m.target m.lines m.rules R) → Each r.closed (IsGood list m)
closed_good list m R a narrow r e i =
    let d = closed_of (model_tables m.target) (written_of list m.source m.target m.rules) r.closed r.closings e i in
    let fit = written_fits list m a narrow d.0 d.1 in
    let fits = closed_fits m.source m.target d.0 e a.target fit d.2 in
    record {
      fits = fits;
      closed = closed_is_closed m.target d.0 e a.target fit.conclusion d.2;
      premise = atoms_of m.source e.premise fits.premise;
      conclusion = atoms_of m.target e.conclusion fits.conclusion;
      listed = rw d.2.closing.derived (all_offered m.source m.target list m.rules (written_of list m.source m.target m.rules) refl a.written d.0 d.1);
    }

kept_good : (list : List Conversion) (m : MappingText) → IsRead list m → Each (rules_of_lines list m.source m.target m.lines) (IsGood list m)
kept_good list m a e i = record {
  fits = each_fits list m a e i;
  closed = each_closed list m a e i;
  premise = each_premise list m a e i;
  conclusion = each_conclusion list m a e i;
  listed = each_listed list m a e i;
}

all_good : (list : List Conversion) (m : MappingText) (R : List Rule) → IsRead list m → Each m.rules RuleHasFewCells → RulesOfLines list m.source m.target m.lines m.rules R → Each R (IsGood list m)
all_good list m R a narrow r e i = elim (from_append (rules_of_lines list m.source m.target m.lines) (subst (λ rs. e ∈ rs) r.are i)) [
  | inl k ↦ kept_good list m a e k
  | inr k ↦ closed_good list m R a narrow r e k
]

-- the rules of lines and the closed hand-written ones fit
pub all_rules_fit : (list : List Conversion) (m : MappingText) (R : List Rule) → IsRead list m → Each m.rules RuleHasFewCells
    → RulesOfLines list m.source m.target m.lines m.rules R → Each R (RuleFits (model_tables m.source) (model_tables m.target))
all_rules_fit list m R a narrow r e i = (all_good list m R a narrow r e i).fits

-- ---- what the stages have checked

pub checked : {E A B : Type 0} (refused : A → E → Type 0) (fits : A → Type 0) (t : Stage E A B) (c : World) (a : A) (x : B) → (next (checking refused fits) t).passes c a x → fits a × t.passes c a x
checked refused fits t c a x p = (p.1.0, subst (λ v. t.passes c v x) p.1.1 p.2)

-- the rules are what is left of those of the lines and the closed hand-written ones, which are few and pass no limit of pruning
pub record IsTaken (list : List Conversion) (tests : List RowTest) (m : MappingText) (P : List Rule) : Type 0 where
  pub named : lines_fault m.source m.target list m.lines ≡ None
  pub tested : conditions_fault m.source tests m.conditions ≡ None
  pub limits : limit_of list m.source m.target m.lines ≡ None
  pub written : rules_fault m.source m.target list m.rules ≡ None
  pub all : List Rule
  pub are : RulesOfLines list m.source m.target m.lines m.rules all
  pub few : length all ≤ 256
  pub within : ¬ (PruningPassesLimit frozen_cells all)
  pub left : IsPrunedAlways all P

pub is_taken : (list : List Conversion) (tests : List RowTest) (c : World) (m : MappingText) (P : List Rule) → (taking list tests).passes c (between_of m) P → IsTaken list tests m P
is_taken list tests c m P p =
    let b = between_of m in
    let rest = next (writing list) (next (limits list) (next (closing list) leaving)) in
    let one = checked (λ b. LinesRefused b.lines b.conditions) (λ b. length b.lines + length b.conditions ≤ 512) (next (naming list) (next (conditions_stage tests) rest)) c b P p in
    let two = checked (λ b. NamingRefused list b.source b.target b.lines) (λ b. lines_fault b.source b.target list b.lines ≡ None) (next (conditions_stage tests) rest) c b P one.1 in
    let test = checked (λ b. TestingRefused tests b.source b.conditions) (λ b. conditions_fault b.source tests b.conditions ≡ None) rest c b P two.1 in
    let three = checked (λ b. WritingRefused list b.source b.target b.by_hand) (λ b. rules_fault b.source b.target list b.by_hand ≡ None) (next (limits list) (next (closing list) leaving)) c b P test.1 in
    let four = checked (λ b. LimitRefused list b.source b.target b.lines) (λ b. limit_of list b.source b.target b.lines ≡ None) (next (closing list) leaving) c b P three.1 in
    let R = four.1.0 in
    let five = checked RulesRefused (λ R. length R ≤ 256) (next frozen_count pruning) c R P four.1.2 in
    let six = checked FrozenRefused (λ R. ¬ (PruningPassesLimit frozen_cells R)) pruning c R P five.1 in
    record { named = two.0; tested = test.0; written = three.0; limits = four.0; all = R; are = four.1.1; few = five.0; within = six.0; left = six.1 }

-- what a text says passed: its sides, the names of its target sets, and its rules
record HasPassed (list : List Conversion) (tests : List RowTest) (c : World) (m : MappingText) (M : Mapping) : Type 0 where
  pub source : IsFaultless m.source
  pub target : IsFaultless m.target
  pub names : NoneReserved m.target
  pub rules : (said_rules list tests).passes c m M

has_passed : (list : List Conversion) (tests : List RowTest) (c : World) (m : MappingText) (M : Mapping) → (accepting_said list tests).passes c m M → HasPassed list tests c m M
has_passed list tests c m M p =
    let one = checked (λ m. SourceRefused m.source) (λ m. IsFaultless m.source) (next target_sets (next target_names (said_rules list tests))) c m M p in
    let two = checked (λ m. TargetRefused m.target) (λ m. IsFaultless m.target) (next target_names (said_rules list tests)) c m M one.1 in
    let three = checked (λ m. NameRefused m.target) (λ m. NoneReserved m.target) (said_rules list tests) c m M two.1 in
    record { source = one.0; target = two.0; names = three.0; rules = three.1 }

pub accepted_fits : AcceptedFits
accepted_fits list tests c text M small (m, says, p) =
    let s = has_passed list tests c m M p in
    let t = is_taken list tests c m s.rules.0 s.rules.1 in
    let rules = texts_have_whole_rules text m says in
    let a : IsRead list m = record {
      source = s.source;
      target = s.target;
      named = t.named;
      limits = t.limits;
      written = t.written;
      whole = λ r i. (rules r i).0;
    } in
    let narrow : Each m.rules RuleHasFewCells = λ r i. let few = (rules r i).1 in omega (arith, few, small) in
    let part = left_implies t.all s.rules.0 t.left in
    let shorter = part.1 in
    let many = t.few in
    let good : Each s.rules.0 (IsGood list m) = λ d i. all_good list m t.all a narrow t.are d (part.0 d i) in
    let words = said_is_writable text m says in
    subst (MappingFits list tests) (sym s.rules.2) (record {
      source = s.source;
      target = s.target;
      source_names = words.0.named;
      target_names = words.1.named;
      columns = conditions_fit m.source tests m.conditions (conditions_of m.source tests m.conditions) refl t.tested;
      tested = conditions_tested m.source tests m.conditions (conditions_of m.source tests m.conditions) refl t.tested;
      few = omega (arith, shorter, many);
      fit = λ d i. (good d i).fits;
      closed = λ d i. (good d i).closed;
      premises = λ d i. (good d i).premise;
      conclusions = λ d i. (good d i).conclusion;
      listed = λ d i. (good d i).listed;
    })

pub none_reserved : AcceptedNamesAreFree
none_reserved list tests c text M (m, says, p) =
    let s = has_passed list tests c m M p in
    subst (λ (N : Mapping). NoneReserved N.target) (sym s.rules.2) s.names

pub faultless_target : (list : List Conversion) (tests : List RowTest) (c : World) (text : List ℕ) (M : Mapping) → (accepting list tests).passes c text M → IsFaultless M.target
faultless_target list tests c text M (m, says, p) =
    let s = has_passed list tests c m M p in
    subst (λ (N : Mapping). IsFaultless N.target) (sym s.rules.2) s.target

-- nothing is outside
nowhere : World
nowhere = λ name. None

-- a mapping that is accepted fits
pub fits_of : (list : List Conversion) (tests : List RowTest) (text : List ℕ) (r : Result Mapping AcceptFault) → length text < 2 ^ 32 - 1 → Answers Memory (accepting list tests) text r → IfOk r (MappingFits list tests)
fits_of list tests text (Ok m) small a = accepted_fits list tests nowhere text m small (a nowhere)
fits_of list tests text (Err e) small a = tt
