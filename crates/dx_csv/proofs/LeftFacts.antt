-- One record more of a table: what is left after it.
use Rattle.std.proofs.Common.{◌≡◌, ◌<◌, ◌≤◌, ◌+◌, ◌∷◌, ◌∙◌, ℕ, zero, suc, List, [], Bool, true, false, Some, None, refl, ap, subst, inl, inr, arith, length, ◌==◌, add-one}
use Rattle.std.proofs.lemmas.Bool.{cases_Bool, eqb-true}
use Rattle.std.proofs.lemmas.Option.{same_Some}
use Rattle.std.specs.Prelude.{Option, if◌then◌else◌, ◌||◌}
use Rattle.csv.specs.Machine.{Read, next_record, ends_at_end, in_field, start_field, start_record, is_end, step}
use Rattle.csv.specs.Reading.{Reached, ReadRecord, default_config, records_from, records_next, reader_state, took_first, is_flexible}
use Rattle.csv.specs.declared.parser.State.{State}
use Rattle.csv.specs.declared.parser.State.TheVariants as st
use Rattle.csv.specs.declared.parser.Action.{Action}
use Rattle.csv.specs.declared.parser.Action.TheVariants as act
use Rattle.csv.specs.declared.reader.Reader.{Reader}
use Rattle.csv.proofs.ReadFacts.{rows-more, rows-end}
use Rattle.dx_csv.specs.Left.{left_from, records_left, IsBetween}
use Rattle.dx_csv.specs.Plain.{ends_line}

-- a byte that ends a record leaves the machine between two records
abbrev Between : State × Action → Type 0
Between x = is_end x.1 ≡ true → ends_at_end x.0 ≡ false

pick : (b : Bool) (x y : State × Action) → Between x → Between y → Between (if b then x else y)
pick true x y p q = p
pick false x y p q = q

after_end-between : (b : Bool) → ends_at_end (if b then st.AfterCr else st.StartRecord) ≡ false
after_end-between true = refl
after_end-between false = refl

plain : (s : State) (a : Action) → is_end a ≡ false → Between (s, a)
plain s a n e = cc (n, e)

in_field-between : (c : ℕ) → Between (in_field default_config c)
in_field-between c =
    pick (c == 44) (st.StartField, act.EndField) _ (plain st.StartField act.EndField refl)
    (pick ((c == 13) || (c == 10)) _ (st.InField, act.Copy) (λ e. after_end-between (c == 13)) (plain st.InField act.Copy refl))

start_field-between : (c : ℕ) → Between (start_field default_config c)
start_field-between c = pick (c == 34) (st.InQuoted, act.Skip) _ (plain st.InQuoted act.Skip refl) (in_field-between c)

start_record-between : (c : ℕ) → Between (start_record default_config c)
start_record-between c = pick ((c == 13) || (c == 10)) (st.StartRecord, act.Skip) _ (plain st.StartRecord act.Skip refl) (start_field-between c)

step-between : (s : State) (c : ℕ) → Between (step default_config s c)
step-between st.StartRecord c = start_record-between c
step-between st.StartField c = start_field-between c
step-between st.InField c = in_field-between c
step-between st.InQuoted c = pick (c == 34) (st.AfterQuote, act.Skip) (st.InQuoted, act.Copy) (plain st.AfterQuote act.Skip refl) (plain st.InQuoted act.Copy refl)
step-between st.InEscape c = plain st.InQuoted act.Copy refl
step-between st.AfterQuote c = pick (c == 34) (st.InQuoted, act.Copy) _ (plain st.InQuoted act.Copy refl) (in_field-between c)
step-between st.InComment c = pick (c == 10) (st.StartRecord, act.Skip) (st.InComment, act.Skip) (plain st.StartRecord act.Skip refl) (plain st.InComment act.Skip refl)
step-between st.AfterCr c = pick (c == 10) (st.StartRecord, act.Skip) _ (plain st.StartRecord act.Skip refl) (start_record-between c)

-- a record takes at least one byte, and ends between two records
record Shrinks (xs : List ℕ) (p : Read) : Type 0 where
  less : length p.2 ≤ length xs
  between : ends_at_end p.1 ≡ false

-- what is read at the end of a text
at-end : (b : Bool) (x p : Read) → (if b then Some x else None) ≡ Some p → x ≡ p
at-end true x p e = same_Some x p e
at-end false x p e = cc e

-- what one byte more gives
on-byte : (b : Bool) (x p : Read) (more : Option Read) (xs : List ℕ) → (b ≡ true → Shrinks xs x) → (more ≡ Some p → Shrinks xs p)
    → (if b then Some x else more) ≡ Some p → Shrinks xs p
on-byte true x p more xs here later e = subst (Shrinks xs) (same_Some x p e) (here refl)
on-byte false x p more xs here later e = later e

longer : (c : ℕ) (xs : List ℕ) (p : Read) → Shrinks xs p → Shrinks (c ∷ xs) p
longer c xs p s = record { less = omega (arith, s.less); between = s.between }

shrinks : (rest : List ℕ) (s : State) (fields : List (List ℕ)) (field : List ℕ) (c : ℕ) (p : Read)
    → next_record default_config s fields field (c ∷ rest) ≡ Some p → Shrinks rest p
unfolding next_record
shrinks [] s fields field c p e =
    on-byte (is_end (step default_config s c).1) _ p _ []
    (λ ends. record { less = omega arith; between = step-between s c ends })
    (λ more. subst (Shrinks []) (at-end _ _ p more) (record { less = omega arith; between = refl })) e
shrinks (d ∷ rest) s fields field c p e =
    on-byte (is_end (step default_config s c).1) _ p _ (d ∷ rest)
    (λ ends. record { less = omega arith; between = step-between s c ends })
    (λ more. longer d rest p (shrinks rest _ _ _ d p more)) e

-- the next record of a text, from between two records
record Goes (s : State) (xs : List ℕ) (p : Read) : Type 0 where
  shorter : length p.2 + 1 ≤ length xs
  between : ends_at_end p.1 ≡ false

goes : (s : State) (xs : List ℕ) (p : Read) → ends_at_end s ≡ false → next_record default_config s [] [] xs ≡ Some p → Goes s xs p
unfolding next_record
goes s [] p b e = cc (rw b at e)
goes s (c ∷ rest) p b e = let w = shrinks rest s [] [] c p e in record { shorter = omega (arith, w.less); between = w.between }

-- any number of turns past the length reads the same records
after : (s : State) (xs : List ℕ) (more less : State → List ℕ → List (List (List ℕ))) → ends_at_end s ≡ false
    → ((p : Read) → Goes s xs p → more p.1 p.2 ≡ less p.1 p.2)
    → (o : Option Read) → next_record default_config s [] [] xs ≡ o → records_next more o ≡ records_next less o
after s xs more less b same None e = refl
after s xs more less b same (Some p) e = ap (λ (t : List (List (List ℕ))). p.0 ∷ t) (same p (goes s xs p b e))

same-records : (n m : ℕ) (s : State) (xs : List ℕ) → ends_at_end s ≡ false → length xs < n → length xs < m
    → records_from default_config n s xs ≡ records_from default_config m s xs
unfolding records_from
same-records zero m s xs b h g = absurd (omega arith)
same-records (suc n) zero s xs b h g = absurd (omega arith)
same-records (suc n) (suc m) s xs b h g =
    after s xs (records_from default_config n) (records_from default_config m) b
    (λ p w. same-records n m p.1 p.2 w.between (omega (arith, w.shorter)) (omega (arith, w.shorter))) _ refl

-- after a carriage return a byte does what it does between two records
after-return : (c : ℕ) → step default_config st.AfterCr c ≡ step default_config st.StartRecord c
after-return c = elim (cases_Bool (c == 10)) [
  | inl e ↦ rw (eqb-true c 10 e) refl
  | inr e ↦ rw e refl
]

-- one record more
pub left-next : (s : State) (xs : List ℕ) (p : Read) → ends_at_end s ≡ false → next_record default_config s [] [] xs ≡ Some p
    → left_from s xs ≡ p.0 ∷ left_from p.1 p.2
unfolding records_from
left-next s xs p b e =
    let w = goes s xs p b e in
    rw (add-one, e) (ap (λ (t : List (List (List ℕ))). p.0 ∷ t) (same-records (length xs) (length p.2 + 1) p.1 p.2 w.between (omega (arith, w.shorter)) (omega arith)))

-- the end of a line between two records is passed over
pub left-line : (b : ℕ) (xs : List ℕ) → ends_line b ≡ true → left_from st.StartRecord (b ∷ xs) ≡ left_from st.StartRecord xs
unfolding records_from next_record
left-line b xs e =
    rw (add-one, add-one, e) (same-records (suc (suc (length xs))) (suc (length xs)) st.StartRecord xs refl (omega arith) (omega arith))

-- after a carriage return, which ended a record, comes what comes after a line feed
pub left-return : (xs : List ℕ) → left_from st.AfterCr xs ≡ left_from st.StartRecord xs
unfolding records_from next_record
left-return [] = refl
left-return (c ∷ xs) = rw (add-one, after-return c) refl

pub left-none : (s : State) (xs : List ℕ) → next_record default_config s [] [] xs ≡ None → left_from s xs ≡ []
unfolding records_from
left-none s xs e = rw (add-one, e) refl

took-left : (s s2 : State) (xs z : List ℕ) (p : Read) (f : List (List ℕ)) → left_from s xs ≡ p.0 ∷ left_from p.1 p.2
    → f ≡ p.0 → p.1 ≡ s2 → p.2 ≡ z → left_from s xs ≡ f ∷ left_from s2 z
took-left s s2 xs z p f more row state rest = rw (row, ← state, ← rest) more

-- what a read that found a record leaves
pub record Took {R : Type 0} (rem : R → Option (List ℕ)) (old new : Reader R) (fields : List (List ℕ)) : Type 0 where
  pub left : records_left rem old ≡ fields ∷ records_left rem new
  pub good : IsBetween rem new

pub read-some : {R : Type 0} (rem : R → Option (List ℕ)) (old new : Reader R) (fields : List (List ℕ))
    → IsBetween rem old → took_first new ≡ true → is_flexible new ≡ is_flexible old → ReadRecord rem old new true fields → Took rem old new fields
unfolding Reached
read-some rem old new fields g first flexible r =
    let (z, at_z, reached) = rows-more rem old new fields default_config (reader_state old) g.unread g.unread [] g.config g.source (refl, refl) r in
    let p = reached.0 in
    let next = reached.1 in
    let row = reached.2 in
    let state = reached.3.0 in
    let rest = reached.3.1 in
    let more = left-next (reader_state old) g.unread p g.between next in
    record {
      left = rw (g.source, at_z) (took-left (reader_state old) (reader_state new) g.unread z p fields more row state rest);
      good = record { plain = r.3 ∙ g.plain; ready = inl first; config = r.2 ∙ g.config; flexible = flexible ∙ g.flexible; between = rw (← state) (goes (reader_state old) g.unread p g.between next).between; unread = z; source = at_z };
    }

pub read-none : {R : Type 0} (rem : R → Option (List ℕ)) (old new : Reader R) (fields : List (List ℕ))
    → IsBetween rem old → ReadRecord rem old new false fields → records_left rem old ≡ []
read-none rem old new fields g r =
    rw g.source (left-none (reader_state old) g.unread (rows-end rem old new fields default_config g.unread g.config g.source r))
