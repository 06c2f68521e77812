-- The names in the cells of a printed rule, and the cells that are read.
use Rattle.std.proofs.Common.{◌≡◌, ℕ, Bool, true, false, List, [], ◌∷◌, ◌++◌, map, flat_map, cond, refl, ap, ◌∙◌}
use Rattle.dx_base.specs.Members.{◌∈◌, here, there, Each}
use Rattle.dx_model.specs.declared.rules.Cell.{Cell}
use Rattle.dx_model.specs.declared.rules.Cell.TheVariants.{Var, Ex, Lit}
use Rattle.dx_model.specs.declared.rules.Atom.{Atom}
use Rattle.dx_model.specs.Rules.{cells_of, existential_in}
use Rattle.dx_model.specs.Fitting.{IsVariable, cell_variable}
use Rattle.dx_schema.specs.Tables.{number_of_name}
use Rattle.dx_base.specs.Texts.{Text}
use Rattle.dx_schema.specs.Faults.{is_among}
use Rattle.dx_schema_text.specs.declared.texts.CellText.{CellText}
use Rattle.dx_schema_text.specs.declared.texts.CellText.TheVariants.{Name, Literal}
use Rattle.dx_schema_text.specs.declared.texts.AtomText.{AtomText}
use Rattle.dx_rule_text.specs.Printed.{variable_text}
use Rattle.dx_tgd_text.specs.Numbering.{new_names, text_cells}
use Rattle.dx_tgd_text.specs.Reading.{cell_of}
use Rattle.clio_rule_laws.proofs.Says.{Paired, no_pair, one_pair, existential_text, SaysCell, SaysAtom}

-- ---- the cells of atoms

paired_append : {A B : Type 0} (R : A → B → Type 0) (xs : List A) (ys : List B) (us : List A) (vs : List B) → Paired R xs ys → Paired R us vs → Paired R (xs ++ us) (ys ++ vs)
paired_append R [] [] us vs no_pair k = k
paired_append R [] (y ∷ ys) us vs h k = elim h [ ]
paired_append R (x ∷ xs) [] us vs h k = elim h [ ]
paired_append R (x ∷ xs) (y ∷ ys) us vs (one_pair r h) k = one_pair r (paired_append R xs ys us vs h k)

pub paired_cells : (name : ℕ → Text) (atoms : List Atom) (texts : List AtomText) → Paired (SaysAtom name) atoms texts → Paired SaysCell (cells_of atoms) (text_cells texts)
paired_cells name [] [] no_pair = no_pair
paired_cells name [] (t ∷ texts) h = elim h [ ]
paired_cells name (a ∷ atoms) [] h = elim h [ ]
paired_cells name (a ∷ atoms) (t ∷ texts) (one_pair s h) = paired_append SaysCell a.cells t.cells (cells_of atoms) (text_cells texts) s.cells (paired_cells name atoms texts h)

-- ---- names

-- the names of a premise are those of its variables
pub premise_names : (cells : List Cell) (texts : List CellText) → Paired SaysCell cells texts → Each cells IsVariable → new_names [] texts ≡ map variable_text (flat_map cell_variable cells)
premise_names [] [] no_pair each = refl
premise_names [] (t ∷ texts) h each = elim h [ ]
premise_names (Var n ∷ cells) [] h each = elim h [ ]
premise_names (Ex v ∷ cells) [] h each = elim h [ ]
premise_names (Lit u ∷ cells) [] h each = elim h [ ]
premise_names (Var n ∷ cells) (Name x place ∷ texts) (one_pair s h) each =
    ap (λ (y : Text). y ∷ new_names [] texts) s ∙ ap (λ (names : List Text). variable_text n ∷ names) (premise_names cells texts h (λ c m. each c (there m)))
premise_names (Var n ∷ cells) (Literal t ∷ texts) (one_pair s h) each = absurd s
premise_names (Ex n ∷ cells) (t ∷ texts) (one_pair s h) each = absurd (each (Ex n) (here refl))
premise_names (Lit u ∷ cells) (t ∷ texts) (one_pair s h) each = absurd (each (Lit u) (here refl))

-- where the variables of a conclusion are known, its other names are those of its existential variables
pub conclusion_names : (known : List Text) (cells : List Cell) (texts : List CellText) → Paired SaysCell cells texts → ((n : ℕ) → Var n ∈ cells → is_among (variable_text n) known ≡ true)
    → ((v : ℕ) → is_among (existential_text v) known ≡ false) → new_names known texts ≡ map existential_text (flat_map existential_in cells)
conclusion_names known [] [] no_pair are none_is = refl
conclusion_names known [] (t ∷ texts) h are none_is = elim h [ ]
conclusion_names known (Var n ∷ cells) [] h are none_is = elim h [ ]
conclusion_names known (Ex v ∷ cells) [] h are none_is = elim h [ ]
conclusion_names known (Lit u ∷ cells) [] h are none_is = elim h [ ]
conclusion_names known (Var n ∷ cells) (Name x place ∷ texts) (one_pair s h) are none_is =
    let rest = conclusion_names known cells texts h (λ k m. are k (there m)) none_is in
    let known_here : is_among x known ≡ true = ap (λ (y : Text). is_among y known) s ∙ are n (here refl) in
    ap (λ (b : Bool). cond b [] (x ∷ []) ++ new_names known texts) known_here ∙ rest
conclusion_names known (Ex v ∷ cells) (Name x place ∷ texts) (one_pair s h) are none_is =
    let rest = conclusion_names known cells texts h (λ k m. are k (there m)) none_is in
    let new_here : is_among x known ≡ false = ap (λ (y : Text). is_among y known) s ∙ none_is v in
    ap (λ (b : Bool). cond b [] (x ∷ []) ++ new_names known texts) new_here ∙ ap (λ (y : Text). y ∷ new_names known texts) s ∙ ap (λ (names : List Text). existential_text v ∷ names) rest
conclusion_names known (Lit u ∷ cells) (Literal t ∷ texts) (one_pair s h) are none_is = conclusion_names known cells texts h (λ k m. are k (there m)) none_is
conclusion_names known (Var n ∷ cells) (Literal t ∷ texts) (one_pair s h) are none_is = absurd s
conclusion_names known (Ex v ∷ cells) (Literal t ∷ texts) (one_pair s h) are none_is = absurd s
conclusion_names known (Lit u ∷ cells) (Name x place ∷ texts) (one_pair s h) are none_is = absurd s

-- ---- cells

-- the names of the variables and existential variables in cells have their numbers
pub record HaveNumbers (known fresh : List Text) (cells : List Cell) : Type 0 where
  pub variable_known : (n : ℕ) → Var n ∈ cells → is_among (variable_text n) known ≡ true
  pub variable_number : (n : ℕ) → Var n ∈ cells → number_of_name (variable_text n) known ≡ n
  pub existential_new : (v : ℕ) → Ex v ∈ cells → is_among (existential_text v) known ≡ false
  pub existential_number : (v : ℕ) → Ex v ∈ cells → number_of_name (existential_text v) fresh ≡ v

pub numbers_within : (known fresh : List Text) (some all : List Cell) → ((c : Cell) → c ∈ some → c ∈ all) → HaveNumbers known fresh all → HaveNumbers known fresh some
numbers_within known fresh some all within h = record {
  variable_known = λ n m. h.variable_known n (within (Var n) m);
  variable_number = λ n m. h.variable_number n (within (Var n) m);
  existential_new = λ v m. h.existential_new v (within (Ex v) m);
  existential_number = λ v m. h.existential_number v (within (Ex v) m);
}

cell_back : (known fresh : List Text) (c : Cell) (t : CellText) → SaysCell c t → HaveNumbers known fresh (c ∷ []) → cell_of known fresh t ≡ c
cell_back known fresh (Var n) (Name x place) s h =
    let known_here : is_among x known ≡ true = ap (λ (y : Text). is_among y known) s ∙ h.variable_known n (here refl) in
    ap (λ (b : Bool). cond b (Var (number_of_name x known)) (Ex (number_of_name x fresh))) known_here ∙ ap Var (ap (λ (y : Text). number_of_name y known) s ∙ h.variable_number n (here refl))
cell_back known fresh (Ex v) (Name x place) s h =
    let new_here : is_among x known ≡ false = ap (λ (y : Text). is_among y known) s ∙ h.existential_new v (here refl) in
    ap (λ (b : Bool). cond b (Var (number_of_name x known)) (Ex (number_of_name x fresh))) new_here ∙ ap Ex (ap (λ (y : Text). number_of_name y fresh) s ∙ h.existential_number v (here refl))
cell_back known fresh (Lit u) (Literal t) s h = ap Lit s
cell_back known fresh (Var n) (Literal t) s h = absurd s
cell_back known fresh (Ex v) (Literal t) s h = absurd s
cell_back known fresh (Lit u) (Name x place) s h = absurd s

only_first : (c : Cell) (cells : List Cell) (d : Cell) → d ∈ (c ∷ []) → d ∈ (c ∷ cells)
only_first c cells d (here e) = here e
only_first c cells d (there m) = elim m [ ]

-- cells are read as they were printed
pub cells_back : (known fresh : List Text) (cells : List Cell) (texts : List CellText) → Paired SaysCell cells texts → HaveNumbers known fresh cells → map (cell_of known fresh) texts ≡ cells
cells_back known fresh [] [] no_pair h = refl
cells_back known fresh [] (t ∷ texts) s h = elim s [ ]
cells_back known fresh (c ∷ cells) [] s h = elim s [ ]
cells_back known fresh (c ∷ cells) (t ∷ texts) (one_pair s k) h =
    ap (λ (d : Cell). d ∷ map (cell_of known fresh) texts) (cell_back known fresh c t s (numbers_within known fresh (c ∷ []) (c ∷ cells) (only_first c cells) h))
    ∙ ap (λ (ds : List Cell). c ∷ ds) (cells_back known fresh cells texts k (numbers_within known fresh cells (c ∷ cells) (λ d m. there m) h))
