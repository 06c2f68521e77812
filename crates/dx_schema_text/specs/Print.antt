-- The text of sets, as a mapping text has them.
use Rattle.std.specs.Prelude.{◌≡◌, ℕ, ◌≤◌, ◌+◌, Bool, true, false, List, [], ◌∷◌, ◌++◌, codes}
use Rattle.std.specs.List.{flat_map}
use Rattle.dx_base.specs.declared.limits.TheConstants.{DEPTH}
use Rattle.dx_base.specs.Members.{Each}
use Rattle.dx_schema.specs.declared.sets.KeyDecl.{KeyDecl}
use Rattle.dx_schema.specs.declared.sets.DepDecl.{DepDecl}
use Rattle.dx_schema.specs.declared.sets.RefDecl.{RefDecl}
use Rattle.dx_schema.specs.Forest.{Label, Forest, none, set}
use Rattle.dx_schema.specs.Faults.{depth}
use Rattle.dx_tokens.specs.Lexing.{IsWord}
use Rattle.dx_schema_text.specs.declared.texts.MappingText.{MappingText}
use Rattle.dx_schema_text.specs.Grammar.{since_two, since_three}
use Rattle.dx_schema_text.specs.Texts.{IsMappingText}

-- names, parted by a comma and a space
abbrev pub names_text : List (List ℕ) → List ℕ
names_text [] = []
names_text (name ∷ others) = name ++ flat_map (λ other. codes ", " ++ other) others

-- each line begins with a margin, and what stands in a set has a margin two spaces wider than the set's
abbrev pub wider : List ℕ → List ℕ
wider margin = margin ++ codes "  "

-- names in brackets after a word
abbrev pub group : List ℕ → List (List ℕ) → List ℕ
group word names = word ++ (codes " (" ++ (names_text names ++ codes ")"))

-- what an optional ref has before its semicolon
abbrev pub optional_text : Bool → List ℕ
optional_text true = codes " optional"
optional_text false = []

-- the line of a key, of a dependency, of a ref
abbrev pub key_line : List ℕ → KeyDecl → List ℕ
key_line margin k = margin ++ (group (codes "key") k.columns ++ codes ";\n")

abbrev pub dep_line : List ℕ → DepDecl → List ℕ
dep_line margin d = margin ++ (group (codes "dep") d.columns ++ (group (codes " ->") d.decides ++ codes ";\n"))

abbrev pub ref_line : List ℕ → RefDecl → List ℕ
ref_line margin r =
    margin ++ (group (codes "ref") r.columns
    ++ (codes " -> " ++ (group r.set r.referred ++ (optional_text r.optional ++ codes ";\n"))))

-- the name of a set, and its columns
abbrev pub head_lines : List ℕ → Label → List ℕ
head_lines margin l =
    margin ++ (codes "set " ++ (l.name
    ++ (codes " {\n" ++ (wider margin ++ (names_text l.columns ++ codes ";\n")))))

-- a set up to its inner sets: its columns, its keys, its dependencies and its refs
abbrev pub front_lines : List ℕ → Label → List ℕ
front_lines margin l =
    head_lines margin l
    ++ (flat_map (key_line (wider margin)) l.keys
    ++ (flat_map (dep_line (wider margin)) l.deps ++ flat_map (ref_line (wider margin)) l.refs))

-- the line that ends a set
abbrev pub last_line : List ℕ → List ℕ
last_line margin = margin ++ codes "}\n"

-- the sets of one level in order, each with its inner sets
abbrev pub printed : List ℕ → Forest → List ℕ
printed margin none = []
printed margin (set l inner rest) =
    front_lines margin l ++ (printed (wider margin) inner ++ (last_line margin ++ printed margin rest))

-- ---- sets that are read again

-- one or more names, each a word
abbrev pub AreNames : List (List ℕ) → Type 0
AreNames [] = ⊥
AreNames (name ∷ others) = IsWord name × Each others IsWord

-- each name of a dependency is a word, and neither of its lists is empty
pub record IsNamedDep (d : DepDecl) : Type 0 where
  pub columns : AreNames d.columns
  pub decides : AreNames d.decides

-- each name of a ref is a word, and neither of its lists is empty
pub record IsNamedRef (r : RefDecl) : Type 0 where
  pub columns : AreNames r.columns
  pub refers : IsWord r.set
  pub referred : AreNames r.referred

-- each name of a set is a word, and no list of its names is empty
pub record HasWordNames (l : Label) : Type 0 where
  pub name : IsWord l.name
  pub columns : AreNames l.columns
  pub keys : Each l.keys (λ k. AreNames k.columns)
  pub deps : Each l.deps IsNamedDep
  pub refs : Each l.refs IsNamedRef

-- the same of all sets
abbrev pub HaveWordNames : Forest → Type 0
HaveWordNames none = Unit {0}
HaveWordNames (set l inner rest) = HasWordNames l × HaveWordNames inner × HaveWordNames rest

-- a mapping text of this version can say the set: it has a dependency alone from version 3 on,
-- and an optional ref alone from version 2 on
pub record IsOfVersion (version : ℕ) (l : Label) : Type 0 where
  pub deps : Each l.deps (λ d. since_three version ≡ true)
  pub refs : Each l.refs (λ r. r.optional ≡ true → since_two version ≡ true)

-- the same of all sets
abbrev pub FitsVersion : ℕ → Forest → Type 0
FitsVersion version none = Unit {0}
FitsVersion version (set l inner rest) = IsOfVersion version l × FitsVersion version inner × FitsVersion version rest

-- every name is a word, no list of names is empty, a text of this version can say the sets,
-- and there are not too many levels of them
pub record AreWritable (version : ℕ) (f : Forest) : Type 0 where
  pub named : HaveWordNames f
  pub sayable : FitsVersion version f
  pub levels : depth f ≤ DEPTH

-- a version that a text may have
pub data IsKnownVersion : ℕ → Type 0 where
  the_first : IsKnownVersion 1
  the_second : IsKnownVersion 2
  the_third : IsKnownVersion 3

-- the digit of a version
abbrev pub digit_of : ℕ → List ℕ
digit_of version = (48 + version) ∷ []

-- a mapping of this version with sides of these texts, and without lines, conditions and rules
abbrev pub sides_text : ℕ → List ℕ → List ℕ → List ℕ
sides_text version from to =
    codes "mapping " ++ (digit_of version
    ++ (codes ";\nsource {\n" ++ (from ++ (codes "}\ntarget {\n" ++ (to ++ codes "}\n")))))

-- what that text says
abbrev pub sides : ℕ → Forest → Forest → MappingText
sides version from to =
    record { version = version; source = from; target = to; lines = []; conditions = []; rules = [] }

-- the text is that of the sets: if it stands as a side of a mapping of this version, and other sets are printed as the
-- other side, the mapping is read with these sets
pub record IsReadAgain (version : ℕ) (trees : Forest) (text : List ℕ) : Type 0 where
  pub source : (others : Forest) → AreWritable version others
      → IsMappingText (sides_text version text (printed [] others)) (sides version trees others)
  pub target : (others : Forest) → AreWritable version others
      → IsMappingText (sides_text version (printed [] others) text) (sides version others trees)
