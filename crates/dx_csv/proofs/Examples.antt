-- The records of small texts, what tables of two columns say, their first faults, and the texts of small tables.
use Rattle.std.proofs.Common.{◌≡◌, ℕ, List, [], ◌∷◌, Option, Some, None, codes, get_or, map, refl, ap, sym, ◌∙◌, subst, arith}
use Rattle.std.specs.Prelude.{All, IsUtf8}
use Rattle.std.specs.Char.{encode_utf8}
use Rattle.std.specs.Str.{chars, is_utf8}
use Rattle.std.specs.declared.cmp.Ordering.TheVariants.{Less}
use Rattle.std.specs.Fmt.{digits}
use Rattle.std.proofs.lemmas.Bool.{false≢true}
use Rattle.std.proofs.lemmas.List.Elements.{All-cons, All-nil}
use Rattle.std.proofs.lemmas.Str.{IsUtf8-from_is_utf8, IsUtf8-nil, is_utf8-from_IsUtf8}
use Rattle.csv.specs.Machine.{next_record}
use Rattle.csv.specs.Reading.{records_from, strip_bom}
use Rattle.csv.specs.Records.{AllText}
use Rattle.csv.specs.Writing.{escaped, fields_text, is_blank}
use Rattle.dx_base.specs.Members.{◌∈◌, ◌⊆◌, here, there}
use Rattle.dx_model.specs.declared.values.NullId.{NullId}
use Rattle.dx_model.specs.declared.values.Value.{Value}
use Rattle.dx_model.specs.declared.values.Value.TheVariants.{Const, Null}
use Rattle.dx_model.specs.Values.{row_cmp}
use Rattle.dx_instance.specs.ValueText.{ValueFits, null_text, value_text_of}
use Rattle.dx_csv.specs.declared.fault.RowKind.TheVariants as kind
use Rattle.dx_csv.specs.Print.{HasNoMark, IsTableText, records_of_table, records_text}
use Rattle.dx_csv.specs.Table.{AreTableRecords, IsAtFault, IsWholeRecord, table_records}

-- ---- records

read : List ℕ → List (List (List ℕ))
unfolding records_from next_record strip_bom
read bytes = table_records bytes

abbrev two : List ℕ → List ℕ → List (List ℕ)
two first second = first ∷ second ∷ []

-- a line feed, a carriage return or both end a record; a line without a byte is none, and the last one needs no end
ends : read (codes "\n\na,b\r\n1,2\r\r\n3,4\n5,6")
    ≡ two (codes "a") (codes "b") ∷ two (codes "1") (codes "2") ∷ two (codes "3") (codes "4")
    ∷ two (codes "5") (codes "6") ∷ []
unfolding read
ends = refl

-- fields may be empty, and blanks belong to them
blanks : read (codes ",\n a , \t\n") ≡ two [] [] ∷ two (codes " a ") (codes " \t") ∷ []
unfolding read
blanks = refl

-- a field in quotes can hold commas, ends of lines and, doubled, quotes; one that is empty makes a record of its line
quotes : read (codes "\"a,b\",\"c\r\nd\"\n\"say \"\"x\"\"\",\"\"\n\"\"\n")
    ≡ two (codes "a,b") (codes "c\r\nd") ∷ two (codes "say \"x\"") [] ∷ ([] ∷ []) ∷ []
unfolding read
quotes = refl

-- elsewhere a quote is a byte as any other, and so is what comes after the quote that closes a field
late_quotes : read (codes "a\"b,\"c\"d\"e\n") ≡ two (codes "a\"b") (codes "cd\"e") ∷ []
unfolding read
late_quotes = refl

-- a quote that is never closed takes the rest
open_quote : read (codes "1,\"2\n3,4\n") ≡ two (codes "1") (codes "2\n3,4\n") ∷ []
unfolding read
open_quote = refl

-- there is no escape and no comment
no_escape : read (codes "#a,\"\\\"\n;,b") ≡ two (codes "#a") (codes "\\") ∷ two (codes ";") (codes "b") ∷ []
unfolding read
no_escape = refl

-- one byte order mark at the start is dropped, and no other
one_mark : read (239 ∷ 187 ∷ 191 ∷ 239 ∷ 187 ∷ 191 ∷ codes "a\n") ≡ ((239 ∷ 187 ∷ 191 ∷ codes "a") ∷ []) ∷ []
unfolding read
one_mark = refl

-- ---- tables

-- columns for all of these
abbrev columns : List (List ℕ)
columns = two (codes "name") (codes "phone")

ann_text : IsUtf8 (codes "ann")
unfolding is_utf8 chars encode_utf8
ann_text = IsUtf8-from_is_utf8 (codes "ann") refl

abbrev ann : List (List ℕ)
ann = two (codes "ann") []

abbrev nobody : List (List ℕ)
nobody = two [] []

ann_whole : IsWholeRecord columns ann
unfolding AllText
ann_whole = record { width = refl; text = (ann_text, (IsUtf8-nil, tt)) }

nobody_whole : IsWholeRecord columns nobody
unfolding AllText
nobody_whole = record { width = refl; text = (IsUtf8-nil, (IsUtf8-nil, tt)) }

none_whole : All (IsWholeRecord columns) []
none_whole = All-nil (IsWholeRecord columns)

ann_alone : All (IsWholeRecord columns) (ann ∷ [])
ann_alone = All-cons (IsWholeRecord columns) ann [] ann_whole none_whole

-- a row for each record under the header, in order, also for one that stood before
each_record : AreTableRecords (columns ∷ ann ∷ nobody ∷ ann ∷ []) columns
    ((Const (codes "ann") ∷ Const [] ∷ []) ∷ (Const [] ∷ Const [] ∷ []) ∷ (Const (codes "ann") ∷ Const [] ∷ []) ∷ [])
each_record = record {
  under = ann ∷ nobody ∷ ann ∷ [];
  header = refl;
  whole =
      All-cons (IsWholeRecord columns) ann (nobody ∷ ann ∷ []) ann_whole
      (All-cons (IsWholeRecord columns) nobody (ann ∷ []) nobody_whole ann_alone);
  values = refl;
}

-- a header alone is a table without rows
no_row : AreTableRecords (columns ∷ []) columns []
no_row = record { under = []; header = refl; whole = none_whole; values = refl }

-- ---- first faults

no_header : IsAtFault [] columns kind.NoHeader
no_header = refl

abbrev byte : Option (List ℕ) → ℕ
byte None = 0
byte (Some bs) = get_or bs 0 0

-- places of the header count from 0, and of two the first is told
first_column : IsAtFault (two (codes "phone") (codes "name") ∷ []) columns (kind.Header 0)
first_column = (
  two (codes "phone") (codes "name"),
  [],
  refl,
  record { before = refl; here = λ e. let b : 112 ≡ 110 = ap byte e in absurd (omega (arith, b)) },
)

-- it has a column too few, or one too many
too_few : IsAtFault ((codes "name" ∷ []) ∷ []) columns (kind.Header 1)
too_few = (codes "name" ∷ [], [], refl, record { before = refl; here = λ e. absurd (cc e) })

too_many : IsAtFault ((codes "name" ∷ codes "phone" ∷ [] ∷ []) ∷ []) columns (kind.Header 2)
too_many = (codes "name" ∷ codes "phone" ∷ [] ∷ [], [], refl, record { before = refl; here = λ e. absurd (cc e) })

no_utf8 : ¬ (IsUtf8 (255 ∷ []))
unfolding is_utf8 chars encode_utf8
no_utf8 u = false≢true (is_utf8-from_IsUtf8 (255 ∷ []) u)

-- ann, no text
abbrev garbled : List (List ℕ)
garbled = two (codes "ann") (255 ∷ [])

garbled_is_no_text : ¬ (AllText garbled)
unfolding AllText
garbled_is_no_text a = no_utf8 a.1.0

-- records count from the header, which is record 0, and the first that is at fault is told
second_record : IsAtFault (columns ∷ ann ∷ (codes "bob" ∷ []) ∷ garbled ∷ []) columns (kind.Width 2)
second_record = (
  codes "bob" ∷ [],
  record { good = ann ∷ []; rest = garbled ∷ []; header = refl; whole = ann_alone; place = refl },
  λ e. let h : 1 ≡ 2 = e in absurd (omega (arith, h)),
)

first_record : IsAtFault (columns ∷ garbled ∷ (codes "bob" ∷ []) ∷ []) columns (kind.NotText 1)
first_record = (
  garbled,
  record { good = []; rest = (codes "bob" ∷ []) ∷ []; header = refl; whole = none_whole; place = refl },
  refl,
  garbled_is_no_text,
)

-- of one record the number of its fields comes before their texts
width_first : IsAtFault (columns ∷ ((255 ∷ []) ∷ []) ∷ []) columns (kind.Width 1)
width_first = (
  (255 ∷ []) ∷ [],
  record { good = []; rest = []; header = refl; whole = none_whole; place = refl },
  λ e. let h : 1 ≡ 2 = e in absurd (omega (arith, h)),
)

-- ---- texts

printed : List (List (List ℕ)) → List ℕ
unfolding escaped fields_text is_blank digits
printed records = records_text records

-- a field is put in quotes if it holds a comma, a quote or the end of a line, and no other is
with_quotes : printed
    (two (codes "a,b") (codes "say \"x\"") ∷ two (codes "c\rd") (codes "e\nf") ∷ two (codes " g ") (codes "#;'\\") ∷ [])
    ≡ codes "\"a,b\",\"say \"\"x\"\"\"\n\"c\rd\",\"e\nf\"\n g ,#;'\\\n"
unfolding printed
with_quotes = refl

-- or if it is empty and the only one
empty_ones : printed (([] ∷ []) ∷ two [] [] ∷ []) ≡ codes "\"\"\n,\n"
unfolding printed
empty_ones = refl

-- of values: a text that begins with `?` gets one more in front, and no other text changes
constant_texts : map value_text_of
    (Const [] ∷ Const (codes "a?b") ∷ Const (codes "?") ∷ Const (codes "??x") ∷ Const (codes "?0.0.0") ∷ [])
    ≡ [] ∷ codes "a?b" ∷ codes "??" ∷ codes "???x" ∷ codes "??0.0.0" ∷ []
constant_texts = refl

-- a null is rule, variable and place, in this order
rule_first : null_text (record { rule = 10; var = 2; row = 345 }) ≡ codes "?10.2.345"
unfolding digits
rule_first = refl

-- its numbers are below 2^32
greatest : ValueFits (Null (record { rule = 4294967295; var = 4294967295; row = 4294967295 }))
greatest = record { rule = omega arith; var = omega arith; row = omega arith }

one_too_great : ¬ (ValueFits (Null (record { rule = 0; var = 0; row = 4294967296 })))
one_too_great f = absurd (omega (arith, f.row))

null : NullId
null = record { rule = 1; var = 2; row = 30 }

-- the columns come first, and then the texts of the values
value_texts : printed (records_of_table columns ((Const (codes "?x") ∷ Null null ∷ []) ∷ []))
    ≡ codes "name,phone\n??x,?1.2.30\n"
unfolding printed null
value_texts = refl

abbrev a_row : List Value
a_row = Const (codes "a") ∷ []

abbrev b_row : List Value
b_row = Const (codes "b") ∷ []

turned : (x y : List Value) → (x ∷ y ∷ []) ⊆ (y ∷ x ∷ [])
turned x y z (here e) = there (here e)
turned x y z (there (here e)) = here e
turned x y z (there (there m)) = elim m [ ]

-- rows ascend, in whichever order they are given
ascending : IsTableText (codes "x" ∷ []) (b_row ∷ a_row ∷ []) (codes "x\na\nb\n")
unfolding printed read
ascending = record {
  sorted = a_row ∷ b_row ∷ [];
  ascend = ((λ x m. less x m), ((λ x m. elim m [ ]), tt));
  kept = turned b_row a_row;
  only = turned a_row b_row;
  is = refl;
  reads = refl;
}
  where
    less : (x : List Value) → x ∈ (b_row ∷ []) → row_cmp a_row x ≡ Less
    less x (here e) = subst (λ r. row_cmp a_row r ≡ Less) e refl
    less x (there m) = elim m [ ]

-- a table whose first column begins with a byte order mark has no text, since it would not be read again
abbrev marked : List ℕ
marked = 239 ∷ 187 ∷ 191 ∷ codes "a"

no_table_text : (text : List ℕ) → ¬ (IsTableText (marked ∷ []) [] text)
unfolding printed read
no_table_text text x = of x.sorted x.only x.is x.reads
  where
    of : (sorted : List (List Value)) → sorted ⊆ [] → text ≡ records_text (records_of_table (marked ∷ []) sorted)
        → table_records text ≡ records_of_table (marked ∷ []) sorted → ⊥
    of [] only is reads =
        let again : table_records (printed ((marked ∷ []) ∷ []))
        ≡ (marked ∷ []) ∷ [] = ap table_records (sym is) ∙ reads in
        let b : 97 ≡ 239 = ap (λ (rs : List (List (List ℕ))). get_or (get_or (get_or rs 0 []) 0 []) 0 0) again in
        absurd (omega (arith, b))
    of (r ∷ rs) only is reads = elim (only r (here refl)) [ ]

-- the other columns may begin with one
first_alone : HasNoMark (codes "a" ∷ marked ∷ [])
unfolding strip_bom
first_alone = refl
