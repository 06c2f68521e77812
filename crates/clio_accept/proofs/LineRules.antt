-- From the answers of the steps of lines and hand-written rules to that of their rules.
use Rattle.std.proofs.Common.{◌≡◌, ◌⊎◌, ◌+◌, ◌<◌, ◌≤◌, List, ◌++◌, length, Some, None, refl, inl, inr, ap, ◌∙◌, subst, Ok, Err}
use Rattle.dx_base.specs.declared.file.Limit.{Limit}
use Rattle.dx_base.specs.declared.file.Count.TheVariants as counts
use Rattle.dx_model.specs.declared.rules.Rule.{Rule}
use Rattle.dx_schema.specs.Tables.{model_tables}
use Rattle.dx_tokens.specs.declared.faults.TextFault.{TextFault}
use Rattle.dx_tokens.specs.declared.faults.TextFault.TheVariants as text_faults
use Rattle.dx_funcs.specs.declared.conversion.Conversion.{Conversion}
use Rattle.dx_funcs.specs.declared.row_test.RowTest.{RowTest}
use Rattle.dx_candidates.specs.declared.fault.CandFault.{CandFault}
use Rattle.dx_candidates.specs.declared.fault.CandFault.TheVariants as cand_faults
use Rattle.dx_lines.specs.declared.line.Condition.{Condition}
use Rattle.dx_line_text.specs.Naming.{lines_fault}
use Rattle.dx_line_text.specs.Conditions.{conditions_fault, conditions_of}
use Rattle.dx_tgd_text.specs.Reading.{rules_fault}
use Rattle.dx_stages.specs.Running.{Answers}
use Rattle.clio_accept.specs.declared.fault.AcceptFault.{AcceptFault}
use Rattle.clio_accept.specs.declared.fault.AcceptFault.TheVariants as faults
use Rattle.dx_tgd.specs.declared.fault.CanonFault.{CanonFault}
use Rattle.dx_tgd.specs.declared.fault.CanonFault.TheVariants as canon_faults
use Rattle.dx_implies.specs.Frozen.{IsFrozenRefusal}
use Rattle.dx_implies.specs.Pruning.{IsPrunedAlways, PruningPassesLimit}
use Rattle.clio_accept.specs.Mapping.{AreClosings, RulesOfLines, LinesRefused, WidthRefused, frozen_cells, frozen_refusal, limit_of, limit_refusal}
use Rattle.clio_accept.specs.Mapping.{rules_of_lines, text_refusal, written_of}
use Rattle.clio_accept.specs.Accepting.{TextsBetween, leaving, mapping_of}

-- there are too many lines and conditions
pub lines_stop : (list : List Conversion) (tests : List RowTest) (b : TextsBetween) (e : AcceptFault) → LinesRefused b.lines b.conditions e → Answers faults.Memory (mapping_of list tests) b (Err e)
lines_stop list tests b e h = inr (λ c. inl h)

-- a word of the lines names nothing
pub naming_stops : (list : List Conversion) (tests : List RowTest) (b : TextsBetween) (f : TextFault) → length b.lines + length b.conditions ≤ 512 → (f ≡ text_faults.Memory) ⊎ (lines_fault b.source b.target list b.lines ≡ Some f)
    → Answers faults.Memory (mapping_of list tests) b (Err (text_refusal f))
naming_stops list tests b f few (inl is) = inl (ap text_refusal is)
naming_stops list tests b f few (inr h) = inr (λ c. inr (b, (few, refl), inl (f, h, refl)))

-- a word of the conditions names nothing
pub testing_stops : (list : List Conversion) (tests : List RowTest) (b : TextsBetween) (f : TextFault) → length b.lines + length b.conditions ≤ 512 → lines_fault b.source b.target list b.lines ≡ None
    → (f ≡ text_faults.Memory) ⊎ (conditions_fault b.source tests b.conditions ≡ Some f) → Answers faults.Memory (mapping_of list tests) b (Err (text_refusal f))
testing_stops list tests b f few named (inl is) = inl (ap text_refusal is)
testing_stops list tests b f few named (inr h) = inr (λ c. inr (b, (few, refl), inr (b, (named, refl), inl (f, h, refl))))

-- a hand-written rule has a fault
pub writing_stops : (list : List Conversion) (tests : List RowTest) (b : TextsBetween) (f : TextFault) → length b.lines + length b.conditions ≤ 512 → lines_fault b.source b.target list b.lines ≡ None
    → conditions_fault b.source tests b.conditions ≡ None → (f ≡ text_faults.Memory) ⊎ (rules_fault b.source b.target list b.by_hand ≡ Some f) → Answers faults.Memory (mapping_of list tests) b (Err (text_refusal f))
writing_stops list tests b f few named tested (inl is) = inl (ap text_refusal is)
writing_stops list tests b f few named tested (inr h) = inr (λ c. inr (b, (few, refl), inr (b, (named, refl), inr (b, (tested, refl), inl (f, h, refl)))))

-- what is known of lines, conditions and hand-written rules without a fault
pub record MarksRead (list : List Conversion) (tests : List RowTest) (b : TextsBetween) : Type 0 where
  pub few : length b.lines + length b.conditions ≤ 512
  pub named : lines_fault b.source b.target list b.lines ≡ None
  pub tested : conditions_fault b.source tests b.conditions ≡ None
  pub written : rules_fault b.source b.target list b.by_hand ≡ None

-- the lines pass a limit
pub limit_stops : (list : List Conversion) (tests : List RowTest) (b : TextsBetween) (f : CandFault) → MarksRead list tests b
    → (f ≡ cand_faults.Memory) ⊎ ((l : Limit) × (limit_of list b.source b.target b.lines ≡ Some l) × (f ≡ cand_faults.TooMany l)) → Answers faults.Memory (mapping_of list tests) b (Err (limit_refusal f))
limit_stops list tests b f r (inl is) = inl (ap limit_refusal is)
limit_stops list tests b f r (inr (l, h, is)) =
    inr (λ c. inr (b, (r.few, refl), inr (b, (r.named, refl), inr (b, (r.tested, refl), inr (b, (r.written, refl), inl (l, h, ap limit_refusal is))))))

-- a hand-written rule is too wide
pub width_stops : (list : List Conversion) (tests : List RowTest) (b : TextsBetween) (written : List Rule) (e : AcceptFault) → MarksRead list tests b → limit_of list b.source b.target b.lines ≡ None → written ≡ written_of list b.source b.target b.by_hand
    → (e ≡ faults.Memory) ⊎ WidthRefused (model_tables b.target) written e → Answers faults.Memory (mapping_of list tests) b (Err e)
width_stops list tests b written e r limits are (inl is) = inl is
width_stops list tests b written e r limits are (inr h) =
    inr (λ c. inr (b, (r.few, refl), inr (b, (r.named, refl), inr (b, (r.tested, refl), inr (b, (r.written, refl), inr (b, (limits, refl), inl (subst (λ ds. WidthRefused (model_tables b.target) ds e) are h)))))))

-- all rules, of which those of lines stand in front
pub all_rules : (list : List Conversion) (b : TextsBetween) (written kept closed R : List Rule) → written ≡ written_of list b.source b.target b.by_hand → kept ≡ rules_of_lines list b.source b.target b.lines
    → AreClosings (model_tables b.target) written closed → R ≡ kept ++ closed → RulesOfLines list b.source b.target b.lines b.by_hand R
all_rules list b written kept closed R are is closings both = record {
  closed = closed;
  closings = subst (λ ds. AreClosings (model_tables b.target) ds closed) are closings;
  are = both ∙ ap (λ ks. ks ++ closed) is;
}

-- the answer on the rules is an error, and so is that on the mapping
pub leaving_stops : (list : List Conversion) (tests : List RowTest) (b : TextsBetween) (R : List Rule) (e : AcceptFault) → MarksRead list tests b → limit_of list b.source b.target b.lines ≡ None
    → RulesOfLines list b.source b.target b.lines b.by_hand R → Answers faults.Memory leaving R (Err e) → Answers faults.Memory (mapping_of list tests) b (Err e)
leaving_stops list tests b R e r limits are (inl is) = inl is
leaving_stops list tests b R e r limits are (inr h) =
    inr (λ c. inr (b, (r.few, refl), inr (b, (r.named, refl), inr (b, (r.tested, refl), inr (b, (r.written, refl), inr (b, (limits, refl), inr (R, are, h c)))))))

-- the pruned rules are taken
pub rules_taken : (list : List Conversion) (tests : List RowTest) (b : TextsBetween) (R P : List Rule) (conditions : List Condition) → MarksRead list tests b → limit_of list b.source b.target b.lines ≡ None → RulesOfLines list b.source b.target b.lines b.by_hand R
    → Answers faults.Memory leaving R (Ok P) → conditions ≡ conditions_of b.source tests b.conditions
    → Answers faults.Memory (mapping_of list tests) b (Ok (record { source = b.source; target = b.target; conditions = conditions; rules = P }))
rules_taken list tests b R P conditions r limits are left read =
    λ c. (P, (b, (r.few, refl), (b, (r.named, refl), (b, (r.tested, refl), (b, (r.written, refl), (b, (limits, refl), (R, are, left c)))))), ap (λ cs. record { source = b.source; target = b.target; conditions = cs; rules = P }) read)

-- ---- what is left of the rules

-- the rules are too many
pub count_stops : (R : List Rule) → 256 < length R → Answers faults.Memory leaving R (Err (faults.Limit (record { what = counts.Rules; number = 256 })))
count_stops R many = inr (λ c. inl (many, refl))

-- a test of pruning passes the limit
pub frozen_stops : (R : List Rule) (f : CanonFault) → length R ≤ 256 → IsFrozenRefusal frozen_cells (PruningPassesLimit frozen_cells R) f → Answers faults.Memory leaving R (Err (frozen_refusal f))
frozen_stops R canon_faults.Memory few h = inl refl
frozen_stops R (canon_faults.Limit l) few h = inr (λ c. inr (R, (few, refl), inl (h.1, ap faults.Limit h.0)))

-- they are pruned
pub rules_left : (R P : List Rule) → length R ≤ 256 → ¬ (PruningPassesLimit frozen_cells R) → IsPrunedAlways R P → Answers faults.Memory leaving R (Ok P)
rules_left R P few none left = λ c. (R, (few, refl), (R, (none, refl), left))
