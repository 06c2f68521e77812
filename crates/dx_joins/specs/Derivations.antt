-- Derived variables of a row.
use Rattle.std.specs.Prelude.{◌≡◌, ◌⊎◌, ℕ, Bool, List, [], ◌++◌, length, map, slice_index_or}
use Rattle.std.specs.List.{range_with_len}
use Rattle.dx_base.specs.Members.{◌∈◌, ◌⊆◌, Each}
use Rattle.dx_base.specs.Texts.{Text}
use Rattle.dx_model.specs.declared.values.Value.{Value}
use Rattle.dx_model.specs.declared.rules.Derived.{Derived}
use Rattle.dx_model.specs.Values.{Conversions, Tuple}
use Rattle.dx_model.specs.Rules.{text_of}
use Rattle.dx_funcs.specs.declared.host.Host.{Host}
use Rattle.dx_funcs.specs.Offers.{IsListed}
use Rattle.dx_funcs.specs.Serving.{Calls, Serves, offered}
use Rattle.dx_instance.specs.Cells.{NumberTable}
use Rattle.dx_instance.specs.Numbers.{ValuesDiffer}
use Rattle.dx_joins.specs.Collecting.{Collection, Collects}
use Rattle.dx_joins.specs.Shown.{AllTexts, texts_of}

-- the text of a derived variable, if these variables have the texts of a tuple
abbrev pub derived_value : Conversions → List ℕ → Derived → Tuple → Text
derived_value convert names e t = convert e.code (map (text_of names t) e.args)

-- the texts of derived variables, if these variables have the texts of a tuple
abbrev pub derived_values : Conversions → List ℕ → List Derived → Tuple → Tuple
derived_values convert names derived t = map (λ (e : Derived). derived_value convert names e t) derived

-- a tuple, and after it the texts of derived variables
abbrev pub with_derived : Conversions → List ℕ → List Derived → Tuple → Tuple
with_derived convert names derived t = t ++ derived_values convert names derived t

-- the host computes the derived variable of these variables: its conversion is listed, and takes some of them
pub record IsComputed {F M : Type 0} (calls : Calls F) (apply : Conversions) (h : Host F M)
    (names : List ℕ) (e : Derived) : Type 0 where
  pub serves : Serves calls apply h
  pub listed : IsListed (offered h) e.code (length e.args)
  pub known : e.args ⊆ names

-- the symbols are distinct, and the row has so many numbers of theirs, each of which stands for a text
pub record IsTextRow (symbols : List Value) (columns : ℕ) (row : List ℕ) : Type 0 where
  pub apart : ValuesDiffer symbols
  pub many : length row ≡ columns
  pub texts : AllTexts symbols row

-- the same for the rows of a table
pub record HasTextRows (symbols : List Value) (columns : ℕ) (table : NumberTable) : Type 0 where
  pub apart : ValuesDiffer symbols
  pub width : table.width ≡ columns
  pub texts : Each table.rows (AllTexts symbols)

-- the variable is an argument of a derived variable, or is shown
abbrev pub IsVariableWanted : List Derived → List ℕ → ℕ → Type 0
IsVariableWanted derived shown x = (x ∈ shown) ⊎ ((e : Derived) × (e ∈ derived) × (x ∈ e.args))

-- what a tuple and its derived variables, which are numbered from `first` on, give to the shown variables
abbrev pub given_to : Conversions → List ℕ → List Derived → ℕ → List ℕ → Tuple → Tuple
given_to convert wanted derived first shown u =
    map (text_of (wanted ++ range_with_len first (length derived)) (with_derived convert wanted derived u)) shown

-- one of the rows gives t
abbrev pub GivenBy : Conversions → List ℕ → List Derived → ℕ → List ℕ → List Value → List (List ℕ) → Tuple → Type 0
GivenBy convert wanted derived first shown symbols rows t =
    (r : List ℕ) × (r ∈ rows) × (t ≡ given_to convert wanted derived first shown (texts_of symbols r))

-- the collection gets the row of texts that a row and its derived variables have at these places
pub record DerivesTo (convert : Conversions) (wanted : List ℕ) (derived : List Derived)
    (places : List ℕ) (old new : List Value) (row : List ℕ) (full : Bool) (before after : Collection) : Type 0 where
  pub got : List ℕ
  pub texts : AllTexts new got
  pub shown : texts_of new got
      ≡ map (λ i. slice_index_or (with_derived convert wanted derived (texts_of old row)) i []) places
  pub collects : Collects full before after (λ t. t ≡ got)
