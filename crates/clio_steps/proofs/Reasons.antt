-- Want of memory is no reason to refuse a text, so each refusal has its word; and the stages that commands share never refuse with `Usage`.
use Rattle.std.proofs.Common.{◌≡◌, ℕ, List, [], ◌∷◌, ◌++◌, length, map, refl, ◌∙◌, ap, subst, inl, inr, Option, Some, None, Bool, true, false, cond}
use Rattle.std.specs.Prelude.{◌||◌, eqb, nat_lt, not}
use Rattle.dx_base.specs.Firsts.{first_of}
use Rattle.dx_funcs.specs.declared.conversion.Conversion.{Conversion}
use Rattle.dx_funcs.specs.Names.{first_named}
use Rattle.dx_schema.specs.declared.fault.SchemaFault.{SchemaFault}
use Rattle.dx_schema.specs.declared.fault.SchemaFault.TheVariants as schema_faults
use Rattle.dx_schema.specs.declared.fault.SchemaKind.{SchemaKind}
use Rattle.dx_schema.specs.declared.fault.SchemaKind.TheVariants as schema_kinds
use Rattle.dx_base.specs.declared.file.Count.TheVariants.{Columns, Depth, Tables}
use Rattle.dx_base.specs.declared.file.Limit.{Limit}
use Rattle.dx_schema.specs.declared.sets.DepDecl.{DepDecl}
use Rattle.dx_schema.specs.declared.sets.KeyDecl.{KeyDecl}
use Rattle.dx_schema.specs.declared.sets.RefDecl.{RefDecl}
use Rattle.dx_schema.specs.Faults.{columns_fault, declared_at, depth, fault_if, form_fault, is_among, dep_fault, key_fault, names_within, ref_fault, declarations_fault, set_fault, sets_fault, size_fault, twice_in}
use Rattle.dx_schema.specs.Forest.{Forest}
use Rattle.dx_schema.specs.Links.{IsFirstSchemaFault}
use Rattle.dx_schema.specs.Tables.{NumberedSet, columns_of, count, names_of, number_of_name, sets_of}
use Rattle.dx_schema_text.specs.declared.texts.AtomText.{AtomText}
use Rattle.dx_schema_text.specs.declared.texts.CellText.{CellText}
use Rattle.dx_schema_text.specs.declared.texts.CellText.TheVariants.{Literal, Name}
use Rattle.dx_schema_text.specs.declared.texts.DerivedText.{DerivedText}
use Rattle.dx_schema_text.specs.declared.texts.RuleText.{RuleText}
use Rattle.dx_schema_text.specs.Texts.{IsMappingTextFault}
use Rattle.dx_tokens.specs.declared.faults.TextFault.{TextFault}
use Rattle.dx_tokens.specs.declared.faults.TextFault.TheVariants as text_faults
use Rattle.dx_tokens.specs.declared.faults.TextKind.{TextKind}
use Rattle.dx_tokens.specs.declared.faults.TextKind.TheVariants.{UnknownName, Unsafe, Width}
use Rattle.dx_line_text.specs.Laws.{IsOfNames}
use Rattle.dx_line_text.specs.Naming.{columns_in, lines_fault, set_names}
use Rattle.dx_line_text.proofs.NamesAlone.{names_alone, unknown_alone}
use Rattle.dx_tgd_text.specs.Reading.{arg_fault, args_fault, atom_fault, atoms_fault, derived_call_fault, derived_fault, derived_faults, rule_fault, names_of_premise, rules_fault as written_fault}
use Rattle.dx_exchange.specs.declared.fault.ExFault.{ExFault}
use Rattle.dx_exchange.specs.declared.fault.ExFault.TheVariants as exchange_faults
use Rattle.dx_exchange.specs.declared.mode.Mode.{Mode}
use Rattle.dx_exchange.specs.Exchanging.{exchanging}
use Rattle.dx_stages.specs.Laws.{HasWords}
use Rattle.dx_stages.specs.Worlds.{World}
use Rattle.clio_accept.specs.declared.fault.AcceptFault.{AcceptFault}
use Rattle.clio_accept.specs.declared.fault.AcceptFault.TheVariants as accept_faults
use Rattle.dx_funcs.specs.declared.row_test.RowTest.{RowTest}
use Rattle.clio_accept.specs.Accepting.{TextsBetween, accepting, accepting_said, between_of, leaving, taking}
use Rattle.clio_accept.specs.Mapping.{source_sets_refusal as source_fault_refusal, target_refusal, text_refusal}
use Rattle.dx_schema_text.specs.declared.texts.LineText.{LineText}
use Rattle.dx_schema_text.specs.declared.texts.MappingText.{MappingText}
use Rattle.dx_model.specs.declared.rules.Rule.{Rule}
use Rattle.dx_model.specs.Values.{Conversions}
use Rattle.clio_source.specs.declared.fault.SourceRefusal.{SourceRefusal}
use Rattle.clio_source.specs.declared.fault.SourceRefusal.TheVariants as source_refusals
use Rattle.clio_ending.specs.declared.ending.Refusal.TheVariants as refusals
use Rattle.clio_ending.specs.declared.faults.OtherFault.TheVariants as other_faults
use Rattle.clio_ending.specs.Ending.{exchange_refusal, named_clash, source_refusal}
use Rattle.clio_steps.specs.declared.texts.Side.{Side}
use Rattle.clio_steps.specs.declared.texts.Side.TheVariants.{First, Second}
use Rattle.clio_steps.specs.Steps.{Program, absent_text, exchanges, side_refusal as said_refusal, text_stages}

-- ---- first faults

-- it is none of this
abbrev Lacks : {E : Type 0} → E → Option E → Type 0
Lacks m o = ¬ (o ≡ Some m)

first_lacks : {E : Type 0} (m : E) (x : Option E) (xs : List (Option E)) → Lacks m x → Lacks m (first_of xs) → Lacks m (first_of (x ∷ xs))
first_lacks m None xs a b = b
first_lacks m (Some e) xs a b = a

none_lacks : {E : Type 0} (m : E) → Lacks m None
none_lacks m h = cc

-- none of these is it
abbrev AllLack : {E : Type 0} → E → List (Option E) → Type 0
AllLack m [] = Unit {0}
AllLack m (x ∷ xs) = Lacks m x × AllLack m xs

all_lack : {E : Type 0} (m : E) (xs : List (Option E)) → AllLack m xs → Lacks m (first_of xs)
all_lack m [] h = none_lacks m
all_lack m (x ∷ xs) h = first_lacks m x xs h.0 (all_lack m xs h.1)

each_lacks : {E X : Type 0} (m : E) (g : X → Option E) (xs : List X) → ((x : X) → Lacks m (g x)) → Lacks m (first_of (map g xs))
each_lacks m g [] h = none_lacks m
each_lacks m g (x ∷ xs) h = first_lacks m (g x) (map g xs) (h x) (each_lacks m g xs h)

cond_lacks : {E : Type 0} (m : E) (b : Bool) (x y : Option E) → Lacks m x → Lacks m y → Lacks m (cond b x y)
cond_lacks m true x y a c = a
cond_lacks m false x y a c = c

-- ---- sets

abbrev no_room : SchemaFault
no_room = schema_faults.Memory

bad : (kind : SchemaKind) → Lacks no_room (Some (schema_faults.Bad kind))
bad kind h = cc

many : (l : Limit) → Lacks no_room (Some (schema_faults.TooMany l))
many l h = cc

if_bad : (b : Bool) (kind : SchemaKind) → Lacks no_room (fault_if b (schema_faults.Bad kind))
if_bad true kind = bad kind
if_bad false kind = none_lacks no_room

if_many : (b : Bool) (l : Limit) → Lacks no_room (fault_if b (schema_faults.TooMany l))
if_many true l = many l
if_many false l = none_lacks no_room

size_lacks : (f : Forest) → Lacks no_room (size_fault f)
size_lacks f =
    let tables : Limit = record { what = Tables; number = 64 } in
    let levels : Limit = record { what = Depth; number = 16 } in
    all_lack no_room (fault_if (nat_lt 64 (count f)) (schema_faults.TooMany tables) ∷ fault_if (nat_lt 16 (depth f)) (schema_faults.TooMany levels) ∷ [])
    (if_many (nat_lt 64 (count f)) tables, (if_many (nat_lt 16 (depth f)) levels, tt))

twice_lacks : (before xs : List (List ℕ)) → Lacks no_room (twice_in before xs)
twice_lacks before [] = none_lacks no_room
twice_lacks before (x ∷ xs) =
    cond_lacks no_room (is_among x before) (Some (schema_faults.Bad (schema_kinds.DoubleName x))) (twice_in (before ++ x ∷ []) xs)
    (bad (schema_kinds.DoubleName x)) (twice_lacks (before ++ x ∷ []) xs)

set_lacks : (before : List (List ℕ)) (s : NumberedSet) → Lacks no_room (set_fault before s)
set_lacks before s =
    let columns : Limit = record { what = Columns; number = 64 } in
    all_lack no_room
    (fault_if (is_among s.label.name before) (schema_faults.Bad (schema_kinds.DoubleName s.label.name))
    ∷ fault_if (eqb (length s.label.columns) 0) (schema_faults.Bad (schema_kinds.NoColumn s.label.name))
    ∷ fault_if (nat_lt 64 (length (columns_of s))) (schema_faults.TooMany columns)
    ∷ twice_in [] (names_within s)
    ∷ []) (
      if_bad (is_among s.label.name before) (schema_kinds.DoubleName s.label.name),
      (
        if_bad (eqb (length s.label.columns) 0) (schema_kinds.NoColumn s.label.name),
        (if_many (nat_lt 64 (length (columns_of s))) columns, (twice_lacks [] (names_within s), tt)),
      ),
    )

sets_lack : (before : List (List ℕ)) (sets : List NumberedSet) → Lacks no_room (sets_fault before sets)
sets_lack before [] = none_lacks no_room
sets_lack before (s ∷ sets) =
    all_lack no_room (set_fault before s ∷ sets_fault (before ++ s.label.name ∷ []) sets ∷ [])
    (set_lacks before s, (sets_lack (before ++ s.label.name ∷ []) sets, tt))

columns_lack : (known before xs : List (List ℕ)) → Lacks no_room (columns_fault known before xs)
columns_lack known before [] = none_lacks no_room
columns_lack known before (x ∷ xs) =
    all_lack no_room
    (fault_if (not (is_among x known)) (schema_faults.Bad (schema_kinds.UnknownName x))
    ∷ fault_if (is_among x before) (schema_faults.Bad (schema_kinds.DoubleName x))
    ∷ columns_fault known (before ++ x ∷ []) xs
    ∷ []) (
      if_bad (not (is_among x known)) (schema_kinds.UnknownName x),
      (if_bad (is_among x before) (schema_kinds.DoubleName x), (columns_lack known (before ++ x ∷ []) xs, tt)),
    )

key_lacks : (s : NumberedSet) (k : KeyDecl) → Lacks no_room (key_fault s k)
key_lacks s k =
    all_lack no_room
    (fault_if (eqb (length k.columns) 0) (schema_faults.Bad (schema_kinds.BadLink s.label.name)) ∷ columns_fault s.label.columns [] k.columns ∷ [])
    (if_bad (eqb (length k.columns) 0) (schema_kinds.BadLink s.label.name), (columns_lack s.label.columns [] k.columns, tt))

ref_lacks : (sets : List NumberedSet) (s : NumberedSet) (r : RefDecl) → Lacks no_room (ref_fault sets s r)
ref_lacks sets s r =
    let referred = declared_at sets (number_of_name r.set (names_of sets)) in
    all_lack no_room
    (fault_if (eqb (length r.columns) 0 || eqb (length r.referred) 0) (schema_faults.Bad (schema_kinds.BadLink s.label.name))
    ∷ columns_fault s.label.columns [] r.columns
    ∷ fault_if (not (is_among r.set (names_of sets))) (schema_faults.Bad (schema_kinds.UnknownName r.set))
    ∷ columns_fault referred [] r.referred
    ∷ fault_if (not (eqb (length r.columns) (length r.referred))) (schema_faults.Bad (schema_kinds.BadLink s.label.name))
    ∷ []) (
      if_bad (eqb (length r.columns) 0 || eqb (length r.referred) 0) (schema_kinds.BadLink s.label.name),
      (
        columns_lack s.label.columns [] r.columns,
        (
          if_bad (not (is_among r.set (names_of sets))) (schema_kinds.UnknownName r.set),
          (
            columns_lack referred [] r.referred,
            (if_bad (not (eqb (length r.columns) (length r.referred))) (schema_kinds.BadLink s.label.name), tt),
          ),
        ),
      ),
    )

dep_lacks : (s : NumberedSet) (d : DepDecl) → Lacks no_room (dep_fault s d)
dep_lacks s d =
    all_lack no_room
    (fault_if (eqb (length d.columns) 0 || eqb (length d.decides) 0) (schema_faults.Bad (schema_kinds.BadLink s.label.name))
    ∷ columns_fault s.label.columns [] d.columns
    ∷ columns_fault s.label.columns [] d.decides
    ∷ []) (
      if_bad (eqb (length d.columns) 0 || eqb (length d.decides) 0) (schema_kinds.BadLink s.label.name),
      (columns_lack s.label.columns [] d.columns, (columns_lack s.label.columns [] d.decides, tt)),
    )

rules_lack : (sets : List NumberedSet) (s : NumberedSet) → Lacks no_room (declarations_fault sets s)
rules_lack sets s =
    all_lack no_room
    (first_of (map (key_fault s) s.label.keys) ∷ first_of (map (dep_fault s) s.label.deps) ∷ first_of (map (ref_fault sets s) s.label.refs) ∷ []) (
      each_lacks no_room (key_fault s) s.label.keys (key_lacks s),
      (
        each_lacks no_room (dep_fault s) s.label.deps (dep_lacks s),
        (each_lacks no_room (ref_fault sets s) s.label.refs (ref_lacks sets s), tt),
      ),
    )

form_lacks : (f : Forest) → Lacks no_room (form_fault f)
form_lacks f =
    let sets = sets_of f in
    all_lack no_room (size_fault f ∷ sets_fault [] sets ∷ first_of (map (declarations_fault sets) sets) ∷ [])
    (size_lacks f, (sets_lack [] sets, (each_lacks no_room (declarations_fault sets) sets (rules_lack sets), tt)))

sets_told : (f : Forest) → ¬ (IsFirstSchemaFault f no_room)
sets_told f (inl h) = form_lacks f h
sets_told f (inr (h, (t, cycle, is))) = cc

-- ---- texts, lines and hand-written rules

abbrev no_text : TextFault
no_text = text_faults.Memory

text_told : (text : List ℕ) → ¬ (IsMappingTextFault text no_text)
text_told text h = h

at_lacks : (place : ℕ) (kind : TextKind) → Lacks no_text (Some (text_faults.At place kind))
at_lacks place kind h = cc

named_told : (e : TextFault) → IsOfNames e → ¬ (e ≡ no_text)
named_told e (place, inl is) h = cc
named_told e (place, inr is) h = cc

lines_lack : (source target : Forest) (list : List Conversion) (lines : List LineText) → Lacks no_text (lines_fault source target list lines)
lines_lack source target list lines h = named_told no_text (names_alone source target list lines no_text h) refl

atom_lacks : (f : Forest) (a : AtomText) → Lacks no_text (atom_fault f a)
atom_lacks f a =
    let wide = eqb (length a.cells) (length (columns_in f a.set)) in
    cond_lacks no_text (is_among a.set (set_names f)) (cond wide None (Some (text_faults.At a.place Width))) (Some (text_faults.At a.place UnknownName))
    (cond_lacks no_text wide None (Some (text_faults.At a.place Width)) (none_lacks no_text) (at_lacks a.place Width))
    (at_lacks a.place UnknownName)

arg_lacks : (variables : List (List ℕ)) (call : ℕ) (a : CellText) → Lacks no_text (arg_fault variables call a)
arg_lacks variables call (Name x place) =
    cond_lacks no_text (is_among x variables) None (Some (text_faults.At place Unsafe)) (none_lacks no_text) (at_lacks place Unsafe)
arg_lacks variables call (Literal t) = at_lacks call Unsafe

call_lacks : (variables : List (List ℕ)) (found : Option Conversion) (place : ℕ) (args : List CellText) → Lacks no_text (derived_call_fault variables found place args)
call_lacks variables None place args = at_lacks place UnknownName
call_lacks variables (Some c) place args =
    cond_lacks no_text (eqb c.arity (length args)) (args_fault variables place args) (Some (text_faults.At place Width))
    (each_lacks no_text (arg_fault variables place) args (arg_lacks variables place)) (at_lacks place Width)

derived_lacks : (list : List Conversion) (variables known : List (List ℕ)) (d : DerivedText) → Lacks no_text (derived_fault list variables known d)
derived_lacks list variables known d =
    cond_lacks no_text (is_among d.name known) (Some (text_faults.At d.place Unsafe)) (derived_call_fault variables (first_named list d.call) d.call_place d.args)
    (at_lacks d.place Unsafe) (call_lacks variables (first_named list d.call) d.call_place d.args)

all_derived_lack : (list : List Conversion) (variables known : List (List ℕ)) (ds : List DerivedText)
    → Lacks no_text (derived_faults list variables known ds)
all_derived_lack list variables known [] = none_lacks no_text
all_derived_lack list variables known (d ∷ ds) =
    all_lack no_text (derived_fault list variables known d ∷ derived_faults list variables (known ++ d.name ∷ []) ds ∷ [])
    (derived_lacks list variables known d, (all_derived_lack list variables (known ++ d.name ∷ []) ds, tt))

rule_lacks : (source target : Forest) (list : List Conversion) (r : RuleText) → Lacks no_text (rule_fault source target list r)
rule_lacks source target list r =
    let known = names_of_premise r in
    all_lack no_text (atoms_fault source r.premise ∷ derived_faults list known known r.derived ∷ atoms_fault target r.conclusion ∷ []) (
      each_lacks no_text (atom_fault source) r.premise (atom_lacks source),
      (all_derived_lack list known known r.derived, (each_lacks no_text (atom_fault target) r.conclusion (atom_lacks target), tt)),
    )

written_lack : (source target : Forest) (list : List Conversion) (rs : List RuleText) → Lacks no_text (written_fault source target list rs)
written_lack source target list rs = each_lacks no_text (rule_fault source target list) rs (rule_lacks source target list)

-- ---- accepting

text_kept : (k : TextFault) → ¬ (k ≡ no_text) → ¬ (accept_faults.Memory ≡ text_refusal k)
text_kept (text_faults.At place kind) other is = cc
text_kept (text_faults.TooDeep place) other is = cc
text_kept text_faults.Memory other is = other refl

source_kept : (k : SchemaFault) → ¬ (k ≡ no_room) → ¬ (accept_faults.Memory ≡ source_fault_refusal k)
source_kept (schema_faults.Bad kind) other is = cc
source_kept (schema_faults.TooMany l) other is = cc
source_kept schema_faults.Memory other is = other refl

target_kept : (k : SchemaFault) → ¬ (k ≡ no_room) → ¬ (accept_faults.Memory ≡ target_refusal k)
target_kept (schema_faults.Bad kind) other is = cc
target_kept (schema_faults.TooMany l) other is = cc
target_kept schema_faults.Memory other is = other refl

leaving_never : (c : World) (R : List Rule) → ¬ (leaving.refuses c R accept_faults.Memory)
leaving_never c R (inl (many, is)) = cc
leaving_never c R (inr (S, s, inl (many, is))) = cc
leaving_never c R (inr (S, s, inr (T, t, h))) = h

-- a word that names nothing is told
unknown_kept : (k : TextFault) → (place : ℕ) × (k ≡ text_faults.At place UnknownName) → ¬ (accept_faults.Memory ≡ text_refusal k)
unknown_kept (text_faults.At place kind) u is = cc
unknown_kept (text_faults.TooDeep place) u is = cc
unknown_kept text_faults.Memory u is = absurd (let e = u.1 in cc)

taking_never : (list : List Conversion) (tests : List RowTest) (c : World) (b : TextsBetween) → ¬ ((taking list tests).refuses c b accept_faults.Memory)
taking_never list tests c b (inl (many, is)) = cc
taking_never list tests c b (inr (b1, p1, inl (k, h, is))) =
    text_kept k (λ e. lines_lack b1.source b1.target list b1.lines (h ∙ ap Some e)) is
taking_never list tests c b (inr (b1, p1, inr (b2, p2, inl (k, h, is)))) =
    unknown_kept k (unknown_alone b2.source tests b2.conditions k h) is
taking_never list tests c b (inr (b1, p1, inr (b2, p2, inr (b3, p3, inl (k, h, is))))) =
    text_kept k (λ e. written_lack b3.source b3.target list b3.by_hand (h ∙ ap Some e)) is
taking_never list tests c b (inr (b1, p1, inr (b2, p2, inr (b3, p3, inr (b4, p4, inl (l, h, is)))))) = cc
taking_never list tests c b (inr (b1, p1, inr (b2, p2, inr (b3, p3, inr (b4, p4, inr (b5, p5, inl (d, m, wide, is))))))) = cc
taking_never list tests c b (inr (b1, p1, inr (b2, p2, inr (b3, p3, inr (b4, p4, inr (b5, p5, inr (R, p6, h))))))) = leaving_never c R h

said_never : (list : List Conversion) (tests : List RowTest) (c : World) (m : MappingText) → ¬ ((accepting_said list tests).refuses c m accept_faults.Memory)
said_never list tests c m (inl (k, h, is)) = source_kept k (λ e. sets_told m.source (subst (IsFirstSchemaFault m.source) e h)) is
said_never list tests c m (inr (m1, p1, inl (k, h, is))) = target_kept k (λ e. sets_told m1.target (subst (IsFirstSchemaFault m1.target) e h)) is
said_never list tests c m (inr (m1, p1, inr (m2, p2, inl (name, h, is)))) = cc
said_never list tests c m (inr (m1, p1, inr (m2, p2, inr (m3, p3, h)))) = taking_never list tests c (between_of m3) h

pub accepting_never : (list : List Conversion) (tests : List RowTest) (c : World) (text : List ℕ) → ¬ ((accepting list tests).refuses c text accept_faults.Memory)
accepting_never list tests c text (inl (k, h, is)) = text_kept k (λ e. text_told text (subst (IsMappingTextFault text) e h)) is
accepting_never list tests c text (inr (m, p, h)) = said_never list tests c m h

-- ---- words

-- each refusal of a text has its word
pub texts_have_words : (P : Program) (side : Side) → HasWords (said_refusal side) (accepting P.list P.tests)
texts_have_words P First c text (accept_faults.Mapping fault) refused = (refusals.Mapping fault, refl)
texts_have_words P First c text (accept_faults.Limit limit) refused = (refusals.Limit limit, refl)
texts_have_words P First c text accept_faults.Memory refused = absurd (accepting_never P.list P.tests c text refused)
texts_have_words P Second c text (accept_faults.Mapping fault) refused = (refusals.Other (other_faults.Mapping fault), refl)
texts_have_words P Second c text (accept_faults.Limit limit) refused = (refusals.Limit limit, refl)
texts_have_words P Second c text accept_faults.Memory refused = absurd (accepting_never P.list P.tests c text refused)

-- so has each of an exchange
pub exchanges_have_words : (convert : Conversions) (target : Forest) → HasWords (exchange_refusal target) (exchanging convert)
exchanges_have_words convert target c asked (exchange_faults.Clash k) none = (named_clash target k, refl)
exchanges_have_words convert target c asked (exchange_faults.Limit l) none = (refusals.Limit l, refl)
exchanges_have_words convert target c asked exchange_faults.Memory none = absurd none

-- ---- usage

text_kept_as : (side : Side) (k : AcceptFault) → ¬ (said_refusal side k ≡ Some refusals.Usage)
text_kept_as First (accept_faults.Mapping fault) is = cc
text_kept_as First (accept_faults.Limit limit) is = cc
text_kept_as First accept_faults.Memory is = cc
text_kept_as Second (accept_faults.Mapping fault) is = cc
text_kept_as Second (accept_faults.Limit limit) is = cc
text_kept_as Second accept_faults.Memory is = cc

absent_kept : (side : Side) → ¬ (refusals.Usage ≡ absent_text side)
absent_kept First is = cc
absent_kept Second is = cc

pub source_rows_kept : (k : SourceRefusal) → ¬ (refusals.Usage ≡ source_refusal k)
source_rows_kept (source_refusals.Rows file fault) is = cc
source_rows_kept (source_refusals.Limit limit) is = cc

pub none_kept : (target : Forest) (fault : ExFault) → ¬ (exchange_refusal target fault ≡ Some refusals.Usage)
none_kept target (exchange_faults.Clash k) is = cc
none_kept target (exchange_faults.Limit l) is = cc
none_kept target exchange_faults.Memory is = cc

pub text_never : (P : Program) (side : Side) (c : World) → ¬ ((text_stages P side).refuses c (tt {0}) refusals.Usage)
text_never P side c (inl (inl (none, is))) = absent_kept side is
text_never P side c (inl (inr (bytes, held, many, is))) = cc
text_never P side c (inr (text, there, (k, refused, is))) = text_kept_as side k is

pub exchange_never : (P : Program) (mode : Mode) (c : World) → ¬ ((exchanges P mode).refuses c (tt {0}) refusals.Usage)
exchange_never P mode c (inl m) = text_never P First c m
exchange_never P mode c (inr (M, m, inl (k, refused, is))) = source_rows_kept k is
exchange_never P mode c (inr (M, m, inr (p, r, (fault, none, is)))) = none_kept p.0.target fault is
