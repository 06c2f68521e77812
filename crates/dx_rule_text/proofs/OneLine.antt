-- The text of a rule has no line feed.
use Rattle.std.proofs.Common.{◌≡◌, ◌≢◌, ◌+◌, ℕ, zero, suc, Bool, true, false, List, [], ◌∷◌, ◌++◌, inl, inr, refl, sym, subst, arith, flat_map}
use Rattle.std.specs.Prelude.{codes, decimal, map, if◌then◌else◌, nat_lt, ◌/◌, ◌%◌, ◌==◌, ◌||◌}
use Rattle.std.specs.Fmt.{digits, digit_glyph, digits_onto}
use Rattle.std.proofs.lemmas.Bool.{false≢true}
use Rattle.dx_base.specs.Members.{◌∈◌, here, there, Each}
use Rattle.dx_base.proofs.Members.{from_append, from_flat_map, from_map}
use Rattle.dx_model.specs.declared.rules.Cell.{Cell}
use Rattle.dx_model.specs.declared.rules.Cell.TheVariants.{Var, Ex, Lit}
use Rattle.dx_model.specs.declared.rules.Atom.{Atom}
use Rattle.dx_model.specs.declared.rules.Derived.{Derived}
use Rattle.dx_model.specs.Rules.{after_cells, cells_of}
use Rattle.dx_schema.specs.Forest.{Forest}
use Rattle.dx_tokens.specs.Quoted.{escaped, quoted}
use Rattle.dx_funcs.specs.Names.{conversion_name}
use Rattle.dx_rule_text.specs.Printed.{atom_text, atoms_text, cell_text, derived_text, derived_texts, separated, table_name, variable_text, where_text}
use Rattle.dx_base.specs.Texts.{Text}
use Rattle.dx_rule_text.specs.Laws.{IsOneLine, IsOneLineAtom, RulesAreOneLine}

nothing : IsOneLine []
nothing m = elim m [ ]

after : (b : ℕ) (bs : Text) → b ≢ 10 → IsOneLine bs → IsOneLine (b ∷ bs)
after b bs n h (here e) = n e
after b bs n h (there m) = h m

joined : (xs ys : Text) → IsOneLine xs → IsOneLine ys → IsOneLine (xs ++ ys)
joined xs ys h k m = elim (from_append xs m) [ inl l ↦ h l | inr r ↦ k r ]

-- a text of which each byte is no line feed, by a test
abbrev plain_text : Text → Bool
plain_text [] = true
plain_text (b ∷ bs) = if b == 10 then false else plain_text bs

tested-later : (s : Bool) (bs : Text) → (if s then false else plain_text bs) ≡ true → plain_text bs ≡ true
tested-later true bs e = absurd (false≢true e)
tested-later false bs e = e

tested : (bs : Text) → plain_text bs ≡ true → IsOneLine bs
tested [] t m = elim m [ ]
tested (b ∷ bs) t (here e) = absurd (false≢true (rw e at t))
tested (b ∷ bs) t (there m) = tested bs (tested-later (b == 10) bs t) m

-- ---- numbers

glyph : (d : ℕ) → digit_glyph false d ≢ 10
glyph d = either_way (nat_lt d 10)
  where
    either_way : (t : Bool) → (if t then 48 + d else (if false then 55 + d else 87 + d)) ≢ 10
    either_way true e = omega (arith, e)
    either_way false e = omega (arith, e)

one_of_two : (t : Bool) (xs ys : Text) → IsOneLine xs → IsOneLine ys → IsOneLine (if t then xs else ys)
one_of_two true xs ys h k = h
one_of_two false xs ys h k = k

more_digits : (k n : ℕ) (acc : Text) → IsOneLine acc → IsOneLine (digits_onto k 10 false n acc)
more_digits zero n acc h = h
more_digits (suc k) n acc h =
    let last : IsOneLine (digit_glyph false (n % 10) ∷ acc) = after (digit_glyph false (n % 10)) acc (glyph (n % 10)) h in
    one_of_two (n / 10 == 0) (digit_glyph false (n % 10) ∷ acc) (digits_onto k 10 false (n / 10) (digit_glyph false (n % 10) ∷ acc)) last (more_digits k (n / 10) (digit_glyph false (n % 10) ∷ acc) last)

number : (n : ℕ) → IsOneLine (decimal n)
unfolding digits
number n = more_digits 64 n [] nothing

variable : (n : ℕ) → IsOneLine (variable_text n)
variable n = after 120 (decimal n) (λ e. omega (arith, e)) (number n)

-- ---- literals

escapes : (bs : Text) → IsOneLine bs → IsOneLine (escaped bs)
escapes [] h = h
escapes (b ∷ bs) h =
    let plain : IsOneLine (b ∷ escaped bs) = after b (escaped bs) (λ e. h (here e)) (escapes bs (λ m. h (there m))) in
    one_of_two (b == 34 || b == 92) (92 ∷ b ∷ escaped bs) (b ∷ escaped bs) (after 92 (b ∷ escaped bs) (λ e. omega (arith, e)) plain) plain

string : (bs : Text) → IsOneLine bs → IsOneLine (quoted bs)
string bs h = after 34 (escaped bs ++ 34 ∷ []) (λ e. omega (arith, e)) (joined (escaped bs) (34 ∷ []) (escapes bs h) (after 34 [] (λ e. omega (arith, e)) nothing))

-- ---- lists

comma : (text : Text) → IsOneLine text → IsOneLine (codes ", " ++ text)
comma text h = after 44 (32 ∷ text) (λ e. omega (arith, e)) (after 32 text (λ e. omega (arith, e)) h)

parted : (texts : List Text) → Each texts IsOneLine → IsOneLine (separated texts)
parted [] h = nothing
parted (text ∷ others) h = joined text (flat_map (λ other. codes ", " ++ other) others) (h text (here refl)) (λ m. behind (from_flat_map (λ other. codes ", " ++ other) others m))
  where
    behind : ((other : Text) × (other ∈ others) × (10 ∈ (codes ", " ++ other))) → ⊥
    behind (other, among, m) = comma other (h other (there among)) m

mapped : {X : Type 0} (f : X → Text) (xs : List X) → Each xs (λ x. IsOneLine (f x)) → Each (map f xs) IsOneLine
mapped {X} f xs h text m = let k = from_map f xs m in subst IsOneLine k.2 (h k.0 k.1)

-- ---- atoms

cell : (c : Cell) → ((text : Text) → Lit text ≡ c → IsOneLine text) → IsOneLine (cell_text c)
cell (Var n) h = variable n
cell (Ex n) h = after 121 (decimal n) (λ e. omega (arith, e)) (number n)
cell (Lit text) h = string text (h text refl)

in_parentheses : (text : Text) → IsOneLine text → IsOneLine (codes "(" ++ (text ++ codes ")"))
in_parentheses text h = after 40 (text ++ codes ")") (λ e. omega (arith, e)) (joined text (codes ")") h (after 41 [] (λ e. omega (arith, e)) nothing))

atom : (schema : Forest) (a : Atom) → IsOneLineAtom schema a → IsOneLine (atom_text (table_name schema) a)
atom schema a h =
    joined (table_name schema a.table) _ h.name
    (in_parentheses (separated (map cell_text a.cells)) (parted (map cell_text a.cells) (mapped cell_text a.cells (λ c m. cell c (λ text e. h.literals text (subst (λ (d : Cell). d ∈ a.cells) (sym e) m))))))

atoms : (schema : Forest) (xs : List Atom) → Each xs (IsOneLineAtom schema) → IsOneLine (atoms_text (table_name schema) xs)
atoms schema xs h = parted (map (atom_text (table_name schema)) xs) (mapped (atom_text (table_name schema)) xs (λ a m. atom schema a (h a m)))

-- ---- derived variables

derived : (name : ℕ → Text) (n : ℕ) (d : Derived) → IsOneLine (name d.code) → IsOneLine (derived_text name n d)
derived name n d h =
    joined (variable_text n) _ (variable n)
    (after 32 _ (λ e. omega (arith, e)) (after 61 _ (λ e. omega (arith, e)) (after 32 _ (λ e. omega (arith, e))
    (joined (name d.code) _ h (in_parentheses (separated (map variable_text d.args)) (parted (map variable_text d.args) (mapped variable_text d.args (λ v m. variable v))))))))

all_derived : (name : ℕ → Text) (n : ℕ) (ds : List Derived) → Each ds (λ d. IsOneLine (name d.code)) → Each (derived_texts name n ds) IsOneLine
all_derived name n [] h text m = elim m [ ]
all_derived name n (d ∷ ds) h text (here e) = subst IsOneLine e (derived name n d (h d (here refl)))
all_derived name n (d ∷ ds) h text (there m) = all_derived name (suc n) ds (λ x k. h x (there k)) text m

whole_where : (name : ℕ → Text) (n : ℕ) (ds : List Derived) → Each ds (λ d. IsOneLine (name d.code)) → IsOneLine (where_text name n ds)
whole_where name n [] h = nothing
whole_where name n (d ∷ ds) h = joined (codes " where ") _ (tested (codes " where ") refl) (parted (derived_texts name n (d ∷ ds)) (all_derived name n (d ∷ ds) h))

pub rules_are_one_line : RulesAreOneLine
rules_are_one_line source target list r h =
    joined (codes "rule ") _ (tested (codes "rule ") refl)
    (joined (atoms_text (table_name source) r.premise) _ (atoms source r.premise h.premise)
    (joined (where_text (conversion_name list) (after_cells (cells_of r.premise)) r.derived) _ (whole_where (conversion_name list) (after_cells (cells_of r.premise)) r.derived h.derived)
    (joined (codes " -> ") _ (tested (codes " -> ") refl)
    (joined (atoms_text (table_name target) r.conclusion) _ (atoms target r.conclusion h.conclusion) (tested (codes ";") refl)))))
