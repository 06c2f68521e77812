-- Worked values of printed sets.
use Rattle.std.proofs.Common.{◌≡◌, true, false, [], ◌∷◌, ◌++◌, refl, ap, arith}
use Rattle.std.specs.Prelude.{codes}
use Rattle.std.proofs.lemmas.Bool.{false≢true}
use Rattle.dx_base.specs.Members.{here}
use Rattle.dx_base.proofs.Members.{each_cons}
use Rattle.dx_schema.specs.Forest.{Label, bare_set, none, set, has_sets}
use Rattle.dx_schema_text.specs.declared.texts.MappingText.{MappingText}
use Rattle.dx_schema_text.specs.Print.{AreNames, AreWritable, HasWordNames, IsOfVersion, IsReadAgain, printed}
use Rattle.dx_schema_text.specs.Print.{sides, sides_text}
use Rattle.dx_schema_text.specs.Texts.{IsMappingText}
use Rattle.dx_schema_text.proofs.Answered.{one_mapping}
use Rattle.dx_schema_text.proofs.PrintScans.{a_word}
use Rattle.dx_schema_text.proofs.ReadExamples.{printed_sides, says}
use Rattle.dx_schema_text.proofs.SpelledWords.{each_none}

abbrev staff : Label
staff = bare_set (codes "staff") (codes "sname" ∷ [])

abbrev unit : Label
unit = record {
  name = codes "unit";
  columns = codes "uname" ∷ codes "place" ∷ [];
  keys = record { columns = codes "uname" ∷ [] } ∷ [];
  deps = [];
  refs = record { columns = codes "place" ∷ []; set = codes "town"; referred = codes "tname" ∷ codes "land" ∷ []; optional = false } ∷ [];
}

no_sets : printed [] none ≡ []
no_sets = refl

two_levels : printed [] (set unit (set staff none none) (set staff none none)) ≡ codes "set unit {\n  uname, place;\n  key (uname);\n  ref (place) -> town (tname, land);\n  set staff {\n    sname;\n  }\n}\nset staff {\n  sname;\n}\n"
two_levels = refl

staff_named : HasWordNames staff
staff_named = record { name = a_word (codes "staff") refl; columns = (a_word (codes "sname") refl, each_none _); keys = each_none _; deps = each_none _; refs = each_none _ }

unit_named : HasWordNames unit
unit_named = record {
  name = a_word (codes "unit") refl;
  columns = (a_word (codes "uname") refl, each_cons _ _ (a_word (codes "place") refl) (each_none _));
  keys = each_cons _ _ (a_word (codes "uname") refl, each_none _) (each_none _);
  deps = each_none _;
  refs = each_cons _ _ (record { columns = (a_word (codes "place") refl, each_none _); refers = a_word (codes "town") refl; referred = (a_word (codes "tname") refl, each_cons _ _ (a_word (codes "land") refl) (each_none _)) }) (each_none _);
}

-- an address whose zip determines its town, and whose town may be told elsewhere
abbrev address : Label
address = record {
  name = codes "addr";
  columns = codes "town" ∷ codes "zip" ∷ [];
  keys = [];
  deps = record { columns = codes "zip" ∷ []; decides = codes "town" ∷ [] } ∷ [];
  refs = record { columns = codes "town" ∷ []; set = codes "town"; referred = codes "tname" ∷ []; optional = true } ∷ [];
}

later_versions : printed [] (set address none none) ≡ codes "set addr {\n  town, zip;\n  dep (zip) -> (town);\n  ref (town) -> town (tname) optional;\n}\n"
later_versions = refl

staff_of_version_one : IsOfVersion 1 staff
staff_of_version_one = record { deps = each_none _; refs = each_none _ }

unit_of_version_one : IsOfVersion 1 unit
unit_of_version_one = record { deps = each_none _; refs = each_cons _ _ (λ e. absurd cc) (each_none _) }

two_levels_are_writable : AreWritable 1 (set unit (set staff none none) (set staff none none))
two_levels_are_writable = record { named = (unit_named, (staff_named, tt, tt), (staff_named, tt, tt)); sayable = (unit_of_version_one, (staff_of_version_one, tt, tt), (staff_of_version_one, tt, tt)); levels = omega arith }

-- a set whose ref may lead nowhere: version 2 says it, and version 1 doesn't
abbrev order : Label
order = record {
  name = codes "order";
  columns = codes "number" ∷ codes "customer" ∷ [];
  keys = [];
  deps = [];
  refs = record { columns = codes "customer" ∷ []; set = codes "customer"; referred = codes "name" ∷ []; optional = true } ∷ [];
}

order_of_version_two : IsOfVersion 2 order
order_of_version_two = record { deps = each_none _; refs = each_cons _ _ (λ e. refl) (each_none _) }

no_order_of_version_one : ¬ (IsOfVersion 1 order)
no_order_of_version_one o = let no : false ≡ true = o.refs _ (here refl) refl in absurd (never no)
  where
    never : false ≡ true → ⊥
    never e = absurd cc

address_named : HasWordNames address
address_named = record {
  name = a_word (codes "addr") refl;
  columns = (a_word (codes "town") refl, each_cons _ _ (a_word (codes "zip") refl) (each_none _));
  keys = each_none _;
  deps = each_cons _ _ (record { columns = (a_word (codes "zip") refl, each_none _); decides = (a_word (codes "town") refl, each_none _) }) (each_none _);
  refs = each_cons _ _ (record { columns = (a_word (codes "town") refl, each_none _); refers = a_word (codes "town") refl; referred = (a_word (codes "tname") refl, each_none _) }) (each_none _);
}

-- version 3 can say the address, and no earlier one can
address_is_writable : AreWritable 3 (set address none none)
address_is_writable = record { named = (address_named, tt, tt); sayable = (record { deps = each_cons _ _ refl (each_none _); refs = each_cons _ _ (λ e. refl) (each_none _) }, tt, tt); levels = omega arith }

address_comes_later : ¬ (IsOfVersion 2 address)
address_comes_later said = absurd (false≢true (said.deps _ (here refl)))

-- keys come first, then dependencies, then refs, then inner sets, each kind in its order
abbrev all_parts : Label
all_parts = record {
  name = codes "a";
  columns = codes "x" ∷ codes "y" ∷ [];
  keys = record { columns = codes "x" ∷ codes "y" ∷ [] } ∷ record { columns = codes "y" ∷ [] } ∷ [];
  deps =
      record { columns = codes "x" ∷ []; decides = codes "y" ∷ codes "x" ∷ [] }
      ∷ record { columns = codes "y" ∷ codes "x" ∷ []; decides = codes "x" ∷ [] } ∷ [];
  refs =
      record { columns = codes "x" ∷ []; set = codes "b"; referred = codes "z" ∷ []; optional = true }
      ∷ record { columns = codes "y" ∷ []; set = codes "c"; referred = codes "z" ∷ []; optional = false } ∷ [];
}

parts_in_order : printed (codes " ") (set all_parts (set staff none none) none)
    ≡ codes " set a {\n   x, y;\n   key (x, y);\n   key (y);\n"
    ++ (codes "   dep (x) -> (y, x);\n   dep (y, x) -> (x);\n"
    ++ (codes "   ref (x) -> b (z) optional;\n   ref (y) -> c (z);\n"
    ++ codes "   set staff {\n     sname;\n   }\n }\n"))
parts_in_order = refl

-- a mapping of a version with two sides and nothing else
whole_text : sides_text 2 (codes "FROM") (codes "TO") ≡ codes "mapping 2;\nsource {\nFROM}\ntarget {\nTO}\n"
whole_text = refl

-- an empty list of names can't be written, in a key too
no_names : ¬ (AreNames [])
no_names names = absurd names

no_key_of_nothing : ¬ (HasWordNames (record {
  name = codes "a";
  columns = codes "x" ∷ [];
  keys = record { columns = [] } ∷ [];
  deps = [];
  refs = [];
}))
no_key_of_nothing named = absurd (named.keys _ (here refl))

-- a text of other sets is not that of these
not_of_others : ¬ (IsReadAgain 1 (set staff none none) [])
not_of_others r = absurd (false≢true (ap (λ (m : MappingText). has_sets m.source) (one_mapping _ _ _ nothing said)))
  where
    said : IsMappingText (sides_text 1 [] []) (sides 1 (set staff none none) none)
    said = r.source none (record { named = tt; sayable = tt; levels = omega arith })

    nothing : IsMappingText (sides_text 1 [] []) (sides 1 none none)
    nothing = says (sides_text 1 [] []) (sides 1 none none) printed_sides
