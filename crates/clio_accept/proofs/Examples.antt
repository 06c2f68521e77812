-- Reserved names, what is answered of each fault, and numbers that are too large.
use Rattle.std.proofs.Common.{◌≡◌, ℕ, zero, suc, ◌<◌, List, [], ◌∷◌, codes, get_or, inl, inr, refl, ap, arith}
use Rattle.dx_base.specs.declared.file.Count.TheVariants.{Candidates, Columns, Depth, FrozenCells, Lines, Rules}
use Rattle.dx_model.specs.declared.rules.Cell.TheVariants.{Var, Ex}
use Rattle.dx_model.specs.declared.rules.Rule.{Rule}
use Rattle.dx_schema.specs.declared.fault.SchemaFault.TheVariants as schema_faults
use Rattle.dx_schema.specs.declared.fault.SchemaKind.TheVariants.{BadLink}
use Rattle.dx_schema.specs.Forest.{Forest, none, set, bare_set}
use Rattle.dx_schema.specs.Tables.{schema_table}
use Rattle.dx_tokens.specs.declared.faults.TextFault.TheVariants.{At, TooDeep}
use Rattle.dx_tokens.specs.declared.faults.TextKind.TheVariants.{Expected}
use Rattle.dx_schema_text.specs.declared.texts.PlaceText.{PlaceText}
use Rattle.dx_schema_text.specs.declared.texts.SourceText.TheVariants.{Column, Literal}
use Rattle.dx_schema_text.specs.declared.texts.CellText.TheVariants.{Name}
use Rattle.dx_schema_text.specs.declared.texts.RuleText.{RuleText}
use Rattle.dx_schema_text.specs.declared.texts.LineText.{LineText}
use Rattle.dx_schema_text.specs.declared.texts.OnlyText.{OnlyText}
use Rattle.dx_candidates.specs.declared.fault.CandFault.TheVariants as cand_faults
use Rattle.dx_tgd.specs.declared.fault.CanonFault.TheVariants as canon_faults
use Rattle.clio_accept.specs.declared.fault.AcceptFault.{AcceptFault}
use Rattle.clio_accept.specs.declared.fault.AcceptFault.TheVariants.{Limit, Mapping, Memory}
use Rattle.clio_accept.specs.declared.fault.MapFault.TheVariants.{Reserved, Source, Target, Text}
use Rattle.clio_accept.specs.Mapping.{RulesOfLines, frozen_refusal, IsFirstReserved, IsReserved, limit_refusal}
use Rattle.clio_accept.specs.Mapping.{LinesRefused, NameRefused}
use Rattle.clio_accept.specs.Mapping.{NoneReserved, RulesRefused, source_sets_refusal, target_refusal, text_refusal}

nulls_is_reserved : IsReserved (codes "nulls")
nulls_is_reserved = inl refl

fold_is_reserved : IsReserved (codes "fold")
fold_is_reserved = inr refl

-- what stands in other files is free: the rules and the script are no tables
not_reserved : (name : List ℕ) → ¬ (get_or name 0 0 ≡ 110) → ¬ (get_or name 0 0 ≡ 102) → ¬ (IsReserved name)
not_reserved name n f (inl e) = n (ap (λ (t : List ℕ). get_or t 0 0) e)
not_reserved name n f (inr e) = f (ap (λ (t : List ℕ). get_or t 0 0) e)

rules_is_free : ¬ (IsReserved (codes "rules"))
rules_is_free = not_reserved (codes "rules") (λ e. absurd (omega (arith, e))) (λ e. absurd (omega (arith, e)))

-- an inner set and the last set count too
abbrev inner : Forest
inner =
    set (bare_set (codes "a") [])
    (set (bare_set (codes "nulls") []) none none) none

an_inner_set : ¬ (NoneReserved inner)
an_inner_set free = free 1 (omega arith) (inl refl)

abbrev last : Forest
last =
    set (bare_set (codes "a") []) none
    (set (bare_set (codes "fold") []) none none)

the_last_set : ¬ (NoneReserved last)
the_last_set free = free 1 (omega arith) (inr refl)

-- however deep it is, the limit is told
too_deep : text_refusal (TooDeep 4000) ≡ Limit (record { what = Depth; number = 16 })
too_deep = refl

-- ---- what is answered of a fault

-- the place and the kind of a text's fault
text_place : text_refusal (At 7 Expected) ≡ Mapping (Text 7 Expected)
text_place = refl

-- a fault of the sets is told with its side, a limit without
of_source : source_sets_refusal (schema_faults.Bad (BadLink (codes "a"))) ≡ Mapping (Source (BadLink (codes "a")))
of_source = refl

of_target : target_refusal (schema_faults.Bad (BadLink (codes "a"))) ≡ Mapping (Target (BadLink (codes "a")))
of_target = refl

too_wide_source :
    source_sets_refusal (schema_faults.TooMany (record { what = Columns; number = 64 }))
    ≡ Limit (record { what = Columns; number = 64 })
too_wide_source = refl

too_wide_target :
    target_refusal (schema_faults.TooMany (record { what = Columns; number = 64 }))
    ≡ Limit (record { what = Columns; number = 64 })
too_wide_target = refl

of_lines :
    limit_refusal (cand_faults.TooMany (record { what = Candidates; number = 9 }))
    ≡ Limit (record { what = Candidates; number = 9 })
of_lines = refl

of_pruning :
    frozen_refusal (canon_faults.Limit (record { what = FrozenCells; number = 9 }))
    ≡ Limit (record { what = FrozenCells; number = 9 })
of_pruning = refl

-- want of memory is no limit
no_memory : limit_refusal cand_faults.Memory ≡ Memory
no_memory = refl

-- the first of two reserved names is told
abbrev both_names : Forest
both_names =
    set (bare_set (codes "a") []) (set (bare_set (codes "fold") []) none none)
    (set (bare_set (codes "nulls") []) none none)

first_name : NameRefused both_names (Mapping (Reserved (codes "fold")))
first_name =
    (codes "fold", record { table = 1; within = omega arith; is = refl; reserved = inr refl; first = free }, refl)
  where
    free : (t : ℕ) → t < 1 → ¬ (IsReserved (schema_table both_names t).name)
    free zero lt = not_reserved (codes "a") (λ e. absurd (omega (arith, e))) (λ e. absurd (omega (arith, e)))
    free (suc t) lt = absurd (omega (arith, lt))

-- and not the second
second_name : ¬ IsFirstReserved both_names (codes "nulls")
second_name r = never r.table r.is r.first
  where
    never :
        (t : ℕ) → codes "nulls" ≡ (schema_table both_names t).name
        → ((u : ℕ) → u < t → ¬ (IsReserved (schema_table both_names u).name)) → ⊥
    never zero e first = let h : 110 ≡ 97 = ap (λ (s : List ℕ). get_or s 0 0) e in omega (arith, h)
    never (suc zero) e first = let h : 110 ≡ 102 = ap (λ (s : List ℕ). get_or s 0 0) e in omega (arith, h)
    never (suc (suc t)) e first = first 1 (omega arith) (inr refl)

-- ---- numbers that are too large

abbrev nowhere : PlaceText
nowhere = record { set = []; set_place = 0; column = []; column_place = 0 }

-- so many lines, conditions and rules
abbrev some_lines : ℕ → List LineText
some_lines zero = []
some_lines (suc n) = record { source = Literal []; target = nowhere } ∷ some_lines n

abbrev some_conditions : ℕ → List OnlyText
some_conditions zero = []
some_conditions (suc n) = record { place = nowhere; test = []; test_place = 0 } ∷ some_conditions n

abbrev some_rules : ℕ → List Rule
some_rules zero = []
some_rules (suc n) = record { premise = []; derived = []; conclusion = [] } ∷ some_rules n

-- 512 lines and conditions together are not too many, 513 are
lines_512 : (e : AcceptFault) → ¬ (LinesRefused (some_lines 300) (some_conditions 212) e)
lines_512 e refused = absurd (omega (arith, refused.0))

lines_513 : LinesRefused (some_lines 300) (some_conditions 213) (Limit (record { what = Lines; number = 512 }))
lines_513 = (omega arith, refl)

-- 256 rules are not too many, 257 are
rules_256 : (e : AcceptFault) → ¬ (RulesRefused (some_rules 256) e)
rules_256 e refused = absurd (omega (arith, refused.0))

rules_257 : RulesRefused (some_rules 257) (Limit (record { what = Rules; number = 256 }))
rules_257 = (omega arith, refl)

-- ---- the rules of lines and of hand

abbrev emps : Forest
emps = set (bare_set (codes "emp") (codes "name" ∷ [])) none none

-- units with their staff
abbrev units : Forest
units =
    set (bare_set (codes "unit") (codes "uname" ∷ []))
    (set (bare_set (codes "staff") (codes "sname" ∷ [])) none none) none

abbrev into_units : LineText
into_units = record {
  source = Column (record { set = codes "emp"; set_place = 5; column = codes "name"; column_place = 9 });
  target = record { set = codes "unit"; set_place = 17; column = codes "uname"; column_place = 22 };
}

-- emp(n) -> staff(v, n), which has no unit, and emp(n) -> unit(n, n)
abbrev by_hand : List RuleText
by_hand =
    record {
      premise = record { set = codes "emp"; place = 5; cells = Name (codes "n") 9 ∷ [] } ∷ [];
      derived = [];
      conclusion =
          record { set = codes "staff"; place = 15; cells = Name (codes "v") 21 ∷ Name (codes "n") 24 ∷ [] } ∷ [];
    }
    ∷ record {
      premise = record { set = codes "emp"; place = 33; cells = Name (codes "n") 37 ∷ [] } ∷ [];
      derived = [];
      conclusion =
          record { set = codes "unit"; place = 43; cells = Name (codes "n") 48 ∷ Name (codes "n") 51 ∷ [] } ∷ [];
    } ∷ []

abbrev closed_by_hand : List Rule
closed_by_hand =
    record {
      premise = record { table = 0; cells = Var 0 ∷ [] } ∷ [];
      derived = [];
      conclusion =
          record { table = 1; cells = Ex 0 ∷ Var 0 ∷ [] } ∷ record { table = 0; cells = Ex 0 ∷ Ex 1 ∷ [] } ∷ [];
    }
    ∷ record {
      premise = record { table = 0; cells = Var 0 ∷ [] } ∷ [];
      derived = [];
      conclusion = record { table = 0; cells = Var 0 ∷ Var 0 ∷ [] } ∷ [];
    } ∷ []

-- the rules of the lines come first, then the closed rules of hand in their order
lines_first : RulesOfLines [] emps units (into_units ∷ []) by_hand
    (record {
      premise = record { table = 0; cells = Var 0 ∷ [] } ∷ [];
      derived = [];
      conclusion = record { table = 0; cells = Ex 0 ∷ Var 0 ∷ [] } ∷ [];
    } ∷ closed_by_hand)
lines_first = record {
  closed = closed_by_hand;
  closings = (
    record {
      closing = record { premise = refl; derived = refl; conclusion = refl };
      premise = omega arith;
      conclusion = omega arith;
    },
    (
      record {
        closing = record { premise = refl; derived = refl; conclusion = refl };
        premise = omega arith;
        conclusion = omega arith;
      },
      tt,
    ),
  );
  are = refl;
}
