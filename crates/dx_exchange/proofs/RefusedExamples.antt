-- What is no exchange of two small rules, and what is no clash.
use Rattle.std.proofs.Common.{◌≡◌, ℕ, List, [], ◌∷◌, codes, refl, sym, ◌∙◌, ap, subst, arith}
use Rattle.dx_base.specs.Members.{◌∈◌, ◌⊆◌, here, there}
use Rattle.dx_model.specs.declared.values.NullId.{NullId}
use Rattle.dx_model.specs.declared.values.Value.{Value}
use Rattle.dx_model.specs.declared.values.Value.TheVariants.{Const, Null}
use Rattle.dx_model.specs.declared.facts.Fact.{Fact}
use Rattle.dx_model.specs.declared.facts.NullPair.{NullPair}
use Rattle.dx_model.specs.declared.rules.Cell.TheVariants.{Var, Ex}
use Rattle.dx_model.specs.declared.rules.Rule.{Rule}
use Rattle.dx_model.specs.Values.{Conversions, Rows, RowsAscend}
use Rattle.dx_model.specs.Instances.{IsHomomorphism, IsNullMap, given, image, moved, values}
use Rattle.dx_model.specs.Tables.{FactFits, IsKeyed, Table, key_of, table_of}
use Rattle.dx_model.specs.Rules.{canonical}
use Rattle.dx_model.proofs.ByMembers.{no_keys_hold}
use Rattle.dx_instance.specs.NullMaps.{pairs_of}
use Rattle.dx_instance.specs.Stored.{facts, rows_of}
use Rattle.dx_keys.specs.declared.answers.Clash.{Clash as ClashOf}
use Rattle.dx_exchange.specs.declared.mode.Mode.{Mode}
use Rattle.dx_exchange.specs.declared.mode.Mode.TheVariants.{Plain, Core}
use Rattle.dx_exchange.specs.declared.result.Exchange.{Exchange}
use Rattle.dx_exchange.specs.Exchanging.{ExchangeInput, HasClash, IsExchange, IsOfMode}

-- emp(x0) -> person(x0, y0), and phone(x0, x1) -> person(x0, x1): ann is an employee with a phone
abbrev named : Rule
named = record {
  premise = record { table = 0; cells = Var 0 ∷ [] } ∷ [];
  derived = [];
  conclusion = record { table = 0; cells = Var 0 ∷ Ex 0 ∷ [] } ∷ [];
}

abbrev called : Rule
called = record {
  premise = record { table = 1; cells = Var 0 ∷ Var 1 ∷ [] } ∷ [];
  derived = [];
  conclusion = record { table = 0; cells = Var 0 ∷ Var 1 ∷ [] } ∷ [];
}

abbrev rules : List Rule
rules = named ∷ called ∷ []

abbrev ann : Rows
ann = ((codes "ann" ∷ []) ∷ []) ∷ ((codes "ann" ∷ codes "1" ∷ []) ∷ []) ∷ []

abbrev null : ℕ → NullId
null rule = record { rule = rule; var = 0; row = 0 }

abbrev number : Value
number = Const (codes "1")

abbrev person : Value → Fact
person phone = record { table = 0; row = Const (codes "ann") ∷ phone ∷ [] }

abbrev pair : ℕ → Value → NullPair
pair rule v = record { null = null rule; value = v }

-- persons without a key
abbrev schema : List Table
schema = record { width = 2; determinations = []; links = []; optional = [] } ∷ []

abbrev both : List Fact
both = person (Null (null 0)) ∷ person number ∷ []

-- ---- of a mode

-- in core mode the target is a core: the null may become the number that stands beside it
null_is_number : IsHomomorphism (pair 0 number ∷ []) both both
null_is_number = record { null_map = ((λ e. absurd (cc)), (λ q m. elim m [ ]), tt); inside = λ f m. inside f m }
  where
    inside : (f : Fact) → f ∈ image (pair 0 number ∷ []) both → f ∈ both
    inside f (here e) = there (here e)
    inside f (there (here e)) = there (here e)
    inside f (there (there m)) = elim m [ ]

null_is_left_out : ¬ (person (Null (null 0)) ∈ image (pair 0 number ∷ []) both)
null_is_left_out (here e) = let d : (person number).row ≡ (person (Null (null 0))).row = ap (λ (f : Fact). f.row) e in absurd (cc)
null_is_left_out (there (here e)) = let d : (person number).row ≡ (person (Null (null 0))).row = ap (λ (f : Fact). f.row) e in absurd (cc)
null_is_left_out (there (there m)) = elim m [ ]

both_are_no_core : (fold : List NullPair) → ¬ (IsOfMode Core schema rules ann fold both)
both_are_no_core fold h = null_is_left_out (h.core (pair 0 number ∷ []) null_is_number (person (Null (null 0))) (here refl))

-- its fold does what the cover fold does: the null becomes the number
a_null_that_stays : ¬ (IsOfMode Core schema rules ann [] (person number ∷ []))
a_null_that_stays h = let e : Null (null 0) ≡ number = h.follows (null 0) (there (here refl)) in absurd (cc)

byte_in : List Value → ℕ
byte_in (name ∷ Const (b ∷ bs) ∷ vs) = b
byte_in _ = 0

abbrev phone_byte : Fact → ℕ
phone_byte f = byte_in f.row

-- and it has nothing but what the uncovered part becomes
another_number : (fold : List NullPair) → ¬ (IsOfMode Core schema rules ann fold (person (Const (codes "2")) ∷ []))
unfolding byte_in
another_number fold h = elim (h.inside (person (Const (codes "2"))) (here refl)) [
  | here e ↦ let b : 49 ≡ 50 = ap phone_byte e in omega (arith, b)
  | there m ↦ elim m [ ]
]

both_are_keyed : IsKeyed schema both
both_are_keyed = record { fits = λ f m. fits f m; keys = no_keys_hold schema both (λ f m. without f m) }
  where
    fits : (f : Fact) → f ∈ both → FactFits schema f
    fits f (here e) = subst (FactFits schema) e (record { table = omega arith; width = refl })
    fits f (there (here e)) = subst (FactFits schema) e (record { table = omega arith; width = refl })
    fits f (there (there m)) = elim m [ ]

    without : (f : Fact) → f ∈ both → (table_of schema f.table).determinations ≡ []
    without f (here e) = ap (λ (g : Fact). (table_of schema g.table).determinations) (sym e)
    without f (there (here e)) = ap (λ (g : Fact). (table_of schema g.table).determinations) (sym e)
    without f (there (there m)) = elim m [ ]

-- in plain mode no null becomes what no key makes it
not_without_a_key : (target : List Fact) → ¬ (IsOfMode Plain schema rules ann (pair 0 number ∷ []) target)
not_without_a_key target h =
    let e : Null (null 0) ≡ number = (h.gives (null 0) (there (here refl))).forced both [] both_are_keyed itself in absurd (cc)
  where
    itself : IsHomomorphism [] (canonical 0 rules ann) both
    itself = record { null_map = tt; inside = λ f m. m }

-- ---- of an input

abbrev source : List Fact
source = record { table = 0; row = Const (codes "ann") ∷ [] } ∷ record { table = 1; row = Const (codes "ann") ∷ number ∷ [] } ∷ []

abbrev input : Mode → ExchangeInput
input mode = record { rules = rules; schema = schema; rows = source; mode = mode; limit = 4 }

rule_in : Value → ℕ
rule_in (Const t) = 0
rule_in (Null n) = n.rule

not_of_rule_7 : ¬ (Null (null 7) ∈ values (canonical 0 rules ann))
unfolding rule_in
not_of_rule_7 (here d) = absurd (cc d)
not_of_rule_7 (there (here d)) = let r : 0 ≡ 7 = ap rule_in d in omega (arith, r)
not_of_rule_7 (there (there (here d))) = absurd (cc d)
not_of_rule_7 (there (there (there (here d)))) = absurd (cc d)
not_of_rule_7 (there (there (there (there m)))) = elim m [ ]

module _ (convert : Conversions) (mode : Mode) (e : Exchange) (found : e.matches ≡ ann) where
  not_there : ¬ (Null (null 7) ∈ values (canonical 0 rules e.matches))
  not_there m = not_of_rule_7 (subst (λ (r : Rows). Null (null 7) ∈ values (canonical 0 rules r)) found m)

  -- the fold lists nulls of the canonical instance alone, and the target has no others
  of_its_nulls_alone : pairs_of e.fold ≡ pair 7 number ∷ [] → ¬ (IsExchange convert (input mode) e)
  of_its_nulls_alone is x = not_there (x.listed (pair 7 number) (subst (λ (ps : List NullPair). pair 7 number ∈ ps) (sym is) (here refl)))

  another_null : facts e.target ≡ person (Null (null 7)) ∷ [] → ¬ (IsExchange convert (input mode) e)
  another_null is x = not_there (x.nulls (null 7) (subst (λ (T : List Fact). Null (null 7) ∈ values T) (sym is) (there (here refl))))

  -- it doesn't list a null that stays
  itself : pairs_of e.fold ≡ pair 0 (Null (null 0)) ∷ [] → ¬ (IsExchange convert (input mode) e)
  itself is x = let h = subst IsNullMap is x.null_map in h.0 refl

  -- a null of the target is one that stays
  a_null_that_goes : pairs_of e.fold ≡ pair 0 number ∷ [] → facts e.target ≡ both → ¬ (IsExchange convert (input mode) e)
  a_null_that_goes is target x =
      let at : Null (null 0) ∈ values (facts e.target) = subst (λ (T : List Fact). Null (null 0) ∈ values T) (sym target) (there (here refl)) in
      let d : number ≡ Null (null 0) = ap (λ (ps : List NullPair). given ps (null 0)) (sym is) ∙ x.stays (null 0) at in
      absurd (cc)

  -- what the canonical instance becomes is not left out
  nothing_is_left_out : facts e.target ≡ [] → ¬ (IsExchange convert (input mode) e)
  nothing_is_left_out target x =
      let at = subst (λ (T : List Fact). image (pairs_of e.fold) (canonical 0 rules e.matches) ⊆ T) target x.folded.0 in
      let into : image (pairs_of e.fold) (canonical 0 rules ann) ⊆ [] = subst (λ (r : Rows). image (pairs_of e.fold) (canonical 0 rules r) ⊆ []) found at in
      elim (into (person (moved (given (pairs_of e.fold)) (Null (null 0)))) (here refl)) [ ]

  -- rows ascend
  not_turned : rows_of e.target 0 ≡ (person (Null (null 0))).row ∷ (person number).row ∷ [] → ¬ (IsExchange convert (input mode) e)
  not_turned is x =
      let up = subst (λ (rs : List (List Value)). RowsAscend rs) is (x.ascend 0) in
      let d = up.0 (person number).row (here refl) in absurd (cc)

-- ---- clashes

-- ann has two numbers, and each name has one
abbrev numbers : Mode → ExchangeInput
numbers mode = record {
  rules = called ∷ [];
  schema = record { width = 2; determinations = key_of 2 (0 ∷ []) ∷ []; links = []; optional = [] } ∷ [];
  rows = record { table = 1; row = Const (codes "ann") ∷ number ∷ [] } ∷ record { table = 1; row = Const (codes "ann") ∷ Const (codes "2") ∷ [] } ∷ [];
  mode = mode;
  limit = 4;
}

-- the lesser of the two comes first
abbrev turned : ClashOf
turned = record { steps = []; table = 0; key = 0; left = (person (Const (codes "2"))).row; right = (person number).row; column = 1 }

no_turned_clash : (convert : Conversions) (mode : Mode) → ¬ (HasClash convert (numbers mode) turned)
no_turned_clash convert mode h = let e = h.clash.lesser in absurd (cc)

-- and they are told in the column in which they differ
abbrev of_the_name : ClashOf
of_the_name = record { steps = []; table = 0; key = 0; left = (person number).row; right = (person (Const (codes "2"))).row; column = 0 }

no_clash_of_the_name : (convert : Conversions) (mode : Mode) → ¬ (HasClash convert (numbers mode) of_the_name)
no_clash_of_the_name convert mode h = h.clash.clash.break.differ refl
