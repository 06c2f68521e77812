-- Fields in a buffer.
use Rattle.std.proofs.Common.{◌≡◌, ◌++◌, ◌∷◌, ◌+◌, ◌-◌, ◌<◌, ◌≤◌, ◌∙◌, ℕ, List, [], refl, sym, ap, arith, length, take, drop, get_or, IsUtf8, string_bytes}
use Rattle.std.proofs.Math.Seq.{drop-length}
use Rattle.std.proofs.lemmas.List.{drop-append-le, get_or_default, length-append}
use Rattle.std.proofs.lemmas.Str.{IsUtf8-append, IsUtf8-nil}
use Rattle.csv.specs.Records.{AllText, Rising, cut_from, last_end, prev}
use Rattle.csv.proofs.RecordFacts.{cut-end, cut-length, cut-more, field-bounds, field-cut, field-get, last-append, prev-next, rising-end, rising-last, rising-more, text-more, text-of}
use Rattle.dx_csv.specs.declared.fields.Fields.{Fields}
use Rattle.dx_csv.specs.Fields.{HaveFields, HaveOpen}

pub none-have : (f : Fields) → string_bytes f.text ≡ [] → f.ends.items ≡ [] → HaveFields f []
unfolding Rising last_end cut_from AllText
none-have f b e = record {
  rising = rw e (omega arith);
  last = rw (e, b) refl;
  is = rw e refl;
  text = tt;
}

-- ---- one field more

-- no field is open
pub none-open : (f : Fields) (fields : List (List ℕ)) → HaveFields f fields → HaveOpen f fields []
none-open f fields h = record {
  rising = h.rising;
  after = rw h.last (drop-length (string_bytes f.text));
  is = h.is;
  text = h.text;
  utf8 = IsUtf8-nil;
}

-- a part more of the open field
pub more-open : (old new : Fields) (more : List ℕ) → string_bytes new.text ≡ string_bytes old.text ++ more → new.ends.items ≡ old.ends.items → IsUtf8 more
    → (fields : List (List ℕ)) (part : List ℕ) → HaveOpen old fields part → HaveOpen new fields (part ++ more)
more-open old new more t e u fields part h =
    let bytes = string_bytes old.text in
    let ends = old.ends.items in
    let size = length-append bytes more in
    let long : length bytes ≤ length (bytes ++ more) = omega (arith, size) in
    record {
      rising = rw (e, t) (rising-more 0 ends (length bytes) (length (bytes ++ more)) h.rising long);
      after = rw (e, t) (drop-append-le (last_end 0 ends) bytes more (rising-last 0 ends (length bytes) h.rising) ∙ ap (λ (l : List ℕ). l ++ more) h.after);
      is = rw (e, t) (cut-more 0 ends bytes more h.rising ∙ h.is);
      text = h.text;
      utf8 = IsUtf8-append part more h.utf8 u;
    }

-- the open field is ended
pub end-open : (old new : Fields) (end : ℕ) → new.text ≡ old.text → new.ends.items ≡ old.ends.items ++ end ∷ [] → end ≡ length (string_bytes old.text)
    → (fields : List (List ℕ)) (part : List ℕ) → HaveOpen old fields part → HaveFields new (fields ++ part ∷ [])
end-open old new end t e n fields part h =
    let bytes = string_bytes old.text in
    let ends = old.ends.items in
    let places : new.ends.items ≡ ends ++ length bytes ∷ [] = e ∙ ap (λ x. ends ++ x ∷ []) n in
    record {
      rising = rw (places, t) (rising-end 0 ends (length bytes) h.rising);
      last = rw (places, t) (last-append 0 ends (length bytes));
      is = rw (places, t) (cut-end 0 ends bytes h.rising ∙ rw (h.is, h.after) refl);
      text = text-more fields part h.text h.utf8;
    }

-- ---- the text at a place

pub record TextIn (place start end : ℕ) (bytes : List ℕ) (texts : List (List ℕ)) : Type 0 where
  pub order : start ≤ end
  pub within : end ≤ length bytes
  pub utf8 : IsUtf8 (take (end - start) (drop start bytes))
  pub is : take (end - start) (drop start bytes) ≡ get_or texts place []

-- a text starts where the one before it ends
pub start-is : (ends : List ℕ) (place : ℕ) → place < length ends → ¬ (place ≡ 0) → get_or ends (place - 1) 0 ≡ prev 0 ends place
start-is ends place h n =
    let s : place - 1 + 1 ≡ place = omega (arith, n) in
    sym (prev-next 0 ends (place - 1) 0 (omega (arith, s, h))) ∙ ap (λ (p : ℕ). prev 0 ends p) s

-- a text is there only where a place is
pub place-within : (ends : List ℕ) (place : ℕ) (bytes : List ℕ) (texts : List (List ℕ)) → cut_from 0 ends bytes ≡ texts → place < length texts → place < length ends
place-within ends place bytes texts v h =
    let many = cut-length 0 ends bytes in
    omega (arith, many, ap length v, h)

pub text-in : (ends : List ℕ) (place start end : ℕ) (bytes : List ℕ) (texts : List (List ℕ)) → cut_from 0 ends bytes ≡ texts → place < length texts → start ≡ prev 0 ends place → end ≡ get_or ends place end
    → Rising 0 ends (length bytes) × AllText (cut_from 0 ends bytes) → TextIn place start end bytes texts
text-in ends place start end bytes texts v h s read i =
    let p = place-within ends place bytes texts v h in
    let e : end ≡ get_or ends place 0 = read ∙ get_or_default ends place end 0 p in
    let bounds = field-bounds 0 ends (length bytes) place i.0 p in
    let low = bounds.0 in
    let high = bounds.1 in
    let cut = field-cut 0 ends bytes place p in
    record {
      order = omega (arith, low, s, e);
      within = omega (arith, high, e);
      utf8 = rw (s, e) (text-of (cut_from 0 ends bytes) place _ i.1 cut);
      is = rw (s, e, ← v) (sym (field-get (cut_from 0 ends bytes) place _ cut));
    }
