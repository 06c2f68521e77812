-- Lines of printed rules are read as rules of the mapping after whose text they stand.
use Rattle.std.proofs.Common.{◌≡◌, ℕ, suc, ◌+◌, ◌<◌, Bool, List, [], ◌∷◌, ◌++◌, Option, None, Some, inl, inr, map, length, refl, sym, ap, ◌∙◌, subst, append_assoc}
use Rattle.std.specs.Prelude.{codes}
use Rattle.std.proofs.lemmas.List.{append-nil}
use Rattle.dx_base.specs.Members.{here, there, Each}
use Rattle.dx_base.specs.Firsts.{first_of}
use Rattle.dx_base.proofs.Members.{in_at, from_map, from_append}
use Rattle.dx_model.specs.declared.rules.Rule.{Rule}
use Rattle.dx_model.specs.Fitting.{RuleFits}
use Rattle.dx_schema.specs.Forest.{Forest, none, set}
use Rattle.dx_schema.specs.Tables.{NumberedSet, numbered_sets, sets_of, count, table_in, AreTables, model_tables, tables_of}
use Rattle.dx_schema.proofs.Facts.{atom_table}
use Rattle.dx_tokens.specs.declared.scanner.Lexeme.{Lexeme}
use Rattle.dx_tokens.specs.Tokens.{is_blank}
use Rattle.dx_tokens.specs.Scan.{scan_of}
use Rattle.dx_tokens.specs.Lexing as lexing
use Rattle.dx_tokens.specs.declared.faults.TextFault.{TextFault}
use Rattle.dx_grammar.specs.Readers.{Many, no_more, one_more}
use Rattle.dx_schema_text.specs.declared.texts.LineText.{LineText}
use Rattle.dx_schema_text.specs.declared.texts.RuleText.{RuleText}
use Rattle.dx_schema_text.specs.declared.texts.OnlyText.{OnlyText}
use Rattle.dx_schema_text.specs.declared.texts.MappingText.{MappingText}
use Rattle.dx_schema_text.specs.declared.mapping.ItemText.{ItemText}
use Rattle.dx_schema_text.specs.declared.mapping.ItemText.TheVariants as items
use Rattle.dx_schema_text.specs.Reading.{lines_among, conditions_among, rules_among, rule_item, mapping_of_items}
use Rattle.dx_schema_text.specs.Grammar.{since_two}
use Rattle.dx_schema_text.specs.Spelling.{SpellsRule, SpellsItem, a_rule, SpellsMapping, mapping_of}
use Rattle.dx_schema_text.specs.Texts.{deepest}
use Rattle.dx_schema_text.specs.Print.{HaveWordNames}
use Rattle.dx_schema_text.proofs.PrintScans.{Reads, ReadsAll, no_token, blanks_then, both_then, told_as, each_passes, reads_all}
use Rattle.dx_schema_text.proofs.SpelledWords.{said_is_writable}
use Rattle.dx_funcs.specs.declared.conversion.Conversion.{Conversion}
use Rattle.dx_funcs.specs.Offers.{IsOffer}
use Rattle.dx_rule_text.specs.Printed.{rule_text, rules_text, table_name}
use Rattle.dx_tgd_text.specs.Reading.{rule_fault, rules_fault, rules_of_texts}
use Rattle.dx_tgd_text.specs.Laws.{AllOffered}
use Rattle.clio_rule_laws.specs.ReadBack.{HasNamedTables, with_more_rules}
use Rattle.clio_rule_laws.specs.Laws.{PrintedLinesAreRead}
use Rattle.clio_rule_laws.proofs.Says.{Paired, no_pair, one_pair, SaysRule}
use Rattle.clio_rule_laws.proofs.Spelled.{Spelled, CanBeRule, rule_read}
use Rattle.clio_rule_laws.proofs.ReadBack.{rule_back}
use Rattle.clio_rule_laws.proofs.CanBeWritten.{can_be_written}
use Rattle.clio_rule_laws.proofs.LineScans.{scanned_before}

-- ---- the items of a mapping

lines_more : (some : List ItemText) (rules : List RuleText) → lines_among (some ++ map rule_item rules) ≡ lines_among some
lines_more [] [] = refl
lines_more [] (r ∷ rules) = lines_more [] rules
lines_more (items.Line l ∷ some) rules = ap (λ (ls : List LineText). l ∷ ls) (lines_more some rules)
lines_more (items.Rule r ∷ some) rules = lines_more some rules
lines_more (items.Only o ∷ some) rules = lines_more some rules

conditions_more : (some : List ItemText) (rules : List RuleText) → conditions_among (some ++ map rule_item rules) ≡ conditions_among some
conditions_more [] [] = refl
conditions_more [] (r ∷ rules) = conditions_more [] rules
conditions_more (items.Line l ∷ some) rules = conditions_more some rules
conditions_more (items.Rule r ∷ some) rules = conditions_more some rules
conditions_more (items.Only o ∷ some) rules = ap (λ (os : List OnlyText). o ∷ os) (conditions_more some rules)

rules_more : (some : List ItemText) (rules : List RuleText) → rules_among (some ++ map rule_item rules) ≡ rules_among some ++ rules
rules_more [] [] = refl
rules_more [] (r ∷ rules) = ap (λ (rs : List RuleText). r ∷ rs) (rules_more [] rules)
rules_more (items.Line l ∷ some) rules = rules_more some rules
rules_more (items.Rule r ∷ some) rules = ap (λ (rs : List RuleText). r ∷ rs) (rules_more some rules)
rules_more (items.Only o ∷ some) rules = rules_more some rules

rule_items : (conditions : Bool) (rules : List RuleText) (xs : List Lexeme) → Many SpellsRule rules xs → Many (SpellsItem conditions) (map rule_item rules) xs
rule_items conditions _ _ no_more = no_more
rule_items conditions _ _ (one_more {others = others} {v = v} rule rest) = one_more (a_rule rule) (rule_items conditions others v rest)

items_more : (conditions : Bool) (some others : List ItemText) (xs ys : List Lexeme) → Many (SpellsItem conditions) some xs → Many (SpellsItem conditions) others ys → Many (SpellsItem conditions) (some ++ others) (xs ++ ys)
items_more conditions _ others _ ys no_more behind = behind
items_more conditions _ others _ ys (one_more {a = a} {others = more} {u = u} {v = v} item rest) behind =
    subst (Many (SpellsItem conditions) (a ∷ (more ++ others))) (sym (append_assoc u v ys)) (one_more item (items_more conditions more others v ys rest behind))

-- tokens of rules after those of a mapping
pub mapping_more : (levels : ℕ) (m : MappingText) (xs : List Lexeme) → SpellsMapping levels m xs → (rules : List RuleText) (ys : List Lexeme) → Many SpellsRule rules ys → SpellsMapping levels (with_more_rules m rules) (xs ++ ys)
mapping_more levels _ _ (mapping_of {version = version} {from = from} {to = to} {rest = rest} {u = u} {v = v} {w = w} k n e keyword number ending source target some) rules ys behind =
    let more = rest ++ map rule_item rules in
    let all : mapping_of_items version from to more ≡ with_more_rules (mapping_of_items version from to rest) rules =
    ap (λ (ls : List LineText). record { version = version; source = from; target = to; lines = ls; conditions = conditions_among more; rules = rules_among more }) (lines_more rest rules)
    ∙ ap (λ (os : List OnlyText). record { version = version; source = from; target = to; lines = lines_among rest; conditions = os; rules = rules_among more }) (conditions_more rest rules)
    ∙ ap (λ (rs : List RuleText). record { version = version; source = from; target = to; lines = lines_among rest; conditions = conditions_among rest; rules = rs }) (rules_more rest rules) in
    let tokens : u ++ (v ++ (w ++ ys)) ≡ (u ++ (v ++ w)) ++ ys = sym (append_assoc u (v ++ w) ys ∙ ap (λ (zs : List Lexeme). u ++ zs) (append_assoc v w ys)) in
    subst (λ (zs : List Lexeme). SpellsMapping levels (with_more_rules (mapping_of_items version from to rest) rules) (k ∷ n ∷ e ∷ zs)) tokens
    (subst (λ (m : MappingText). SpellsMapping levels m (k ∷ n ∷ e ∷ (u ++ (v ++ (w ++ ys))))) all
    (mapping_of k n e keyword number ending source target (items_more (since_two version) rest (map rule_item rules) w ys some (rule_items (since_two version) rules ys behind))))

-- ---- the names of sets

sets_named : (parent : Option ℕ) (n : ℕ) (f : Forest) → HaveWordNames f → Each (numbered_sets parent n f) (λ s. lexing.IsWord s.label.name)
sets_named parent n none named s m = elim m [ ]
sets_named parent n (set l inner rest) named s (here e) = subst (λ (p : NumberedSet). lexing.IsWord p.label.name) e named.0.name
sets_named parent n (set l inner rest) named s (there m) =
    elim (from_append (numbered_sets (Some n) (suc n) inner) m) [
      | inl k ↦ sets_named (Some n) (suc n) inner named.1 s k
      | inr k ↦ sets_named parent (suc (n + count inner)) rest named.2 s k
    ]

table_named : (f : Forest) (t : ℕ) → HaveWordNames f → t < length (tables_of f) → lexing.IsWord (table_name f t)
table_named f t named lt =
    let among = from_map (table_in (sets_of f)) (sets_of f) (in_at (tables_of f) t _ lt) in
    subst (λ table. lexing.IsWord table.name) among.2 (sets_named None 0 f named among.0 among.1)

pub tables_named : (source target : Forest) (d : Rule) → HaveWordNames source → HaveWordNames target → RuleFits (model_tables source) (model_tables target) d → HasNamedTables source target d
tables_named source target d from to fits = record {
  premise = λ a m. table_named source a.table from (atom_table source a (fits.premise a m));
  conclusion = λ a m. table_named target a.table to (atom_table target a (fits.conclusion a m));
}

-- ---- lines

line_flat : (rule others more : List ℕ) → ((rule ++ codes "\n") ++ others) ++ more ≡ rule ++ (codes "\n" ++ (others ++ more))
line_flat rule others more = simp append_assoc

module _ (source target : Forest) (list : List Conversion) where
  -- lines of rules are read, one after the other
  lines_read : (ds : List Rule) (place : ℕ) (more : List ℕ) → Each ds (CanBeRule source target list) → Reads (Spelled (Paired (SaysRule source target list)) (Many SpellsRule) ds) place (rules_text source target list ds ++ more) more
  lines_read [] place more can = no_token _ place more (record { text = []; says = no_pair; spells = no_more })
  lines_read (d ∷ ds) place more can =
      let others = rules_text source target list ds ++ more in
      subst (λ (text : List ℕ). Reads (Spelled (Paired (SaysRule source target list)) (Many SpellsRule) (d ∷ ds)) place text more) (sym (line_flat (rule_text source target list d) (rules_text source target list ds) more))
      (both_then (Spelled (SaysRule source target list) SpellsRule d) _ _ (codes "\n" ++ others) more place (rule_read source target list d place (codes "\n" ++ others) (can d (here refl))) (λ u after h.
      blanks_then _ (codes "\n") _ more _ (each_passes is_blank (codes "\n") refl)
      (told_as (Spelled (Paired (SaysRule source target list)) (Many SpellsRule) ds) _ _ more _ (lines_read ds _ more (λ e m. can e (there m))) (λ v k.
      record { text = h.text ∷ k.text; says = one_pair h.says k.says; spells = one_more h.spells k.spells }))))

  -- rules are read as they were
  record AreRulesBack (ds : List Rule) (texts : List RuleText) : Type 0 where
    no_fault : rules_fault source target list texts ≡ None
    same : rules_of_texts source target list texts ≡ ds

  rules_back : (ds : List Rule) (texts : List RuleText) → AreTables (tables_of source) → AreTables (tables_of target) → IsOffer list → Each ds (RuleFits (model_tables source) (model_tables target)) → Each ds (AllOffered list)
      → Paired (SaysRule source target list) ds texts → AreRulesBack ds texts
  rules_back [] [] from to offer fits offered no_pair = record { no_fault = refl; same = refl }
  rules_back [] (t ∷ texts) from to offer fits offered h = elim h [ ]
  rules_back (d ∷ ds) [] from to offer fits offered h = elim h [ ]
  rules_back (d ∷ ds) (t ∷ texts) from to offer fits offered (one_pair s h) =
      let first = rule_back source target list d t from to offer (fits d (here refl)) (offered d (here refl)) s in
      let others = rules_back ds texts from to offer (λ e m. fits e (there m)) (λ e m. offered e (there m)) h in
      record {
        no_fault = ap (λ (o : Option TextFault). first_of (o ∷ map (rule_fault source target list) texts)) first.no_fault ∙ others.no_fault;
        same = ap (λ (e : Rule). e ∷ rules_of_texts source target list texts) first.same ∙ ap (λ (es : List Rule). d ∷ es) others.same;
      }

-- ---- the law

-- the mapping's tokens, and after them those of rules
abbrev SpellsWith : MappingText → List RuleText → List Lexeme → Type 0
SpellsWith m rules xs = SpellsMapping deepest (with_more_rules m rules) xs

pub printed_lines_are_read : PrintedLinesAreRead
printed_lines_are_read text m list ds says from to offer fits offered writable =
    let named = said_is_writable text m says in
    let can : Each ds (CanBeRule m.source m.target list) = λ d i. can_be_written m.source m.target list d from to offer (record {
      fits = fits d i;
      offered = offered d i;
      named = tables_named m.source m.target d named.0.named named.1.named (fits d i);
      writable = writable d i;
    }) in
    let lines = rules_text m.source m.target list ds in
    let R = Spelled (Paired (SaysRule m.source m.target list)) (SpellsWith m) ds in
    let before = scanned_before text lines says.no_stop in
    let first : Reads (SpellsMapping deepest m) 0 (text ++ (codes "\n" ++ lines)) (codes "\n" ++ lines) = record { lexemes = (scan_of text).lexemes; after = before.after; scanned = before.scanned; has = says.spelled } in
    let reads : Reads R 0 (text ++ (codes "\n" ++ lines)) [] =
    both_then (SpellsMapping deepest m) R _ (codes "\n" ++ lines) [] 0 first (λ u after h.
    blanks_then _ (codes "\n") lines [] after (each_passes is_blank (codes "\n") refl)
    (told_as (Spelled (Paired (SaysRule m.source m.target list)) (Many SpellsRule) ds) _ lines [] _
    (subst (λ (bytes : List ℕ). Reads (Spelled (Paired (SaysRule m.source m.target list)) (Many SpellsRule) ds) (after + length (codes "\n")) bytes []) (append-nil lines) (lines_read m.source m.target list ds (after + length (codes "\n")) [] can)) (λ v k.
    record { text = k.text; says = k.says; spells = mapping_more deepest m u h k.text v k.spells }))) in
    let all : ReadsAll R (text ++ (codes "\n" ++ lines)) = reads_all R _ reads in
    let back = rules_back m.source m.target list ds all.has.text from to offer fits offered all.has.says in
    record {
      said = all.has.text;
      is_text = record { no_stop = all.no_stop; spelled = all.has.spells };
      no_fault = back.no_fault;
      same = back.same;
    }
