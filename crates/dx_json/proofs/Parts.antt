-- Parts of lists that grow.
use Rattle.std.proofs.Common.{◌≡◌, ℕ, ◌-◌, ◌≤◌, ◌<◌, List, [], ◌∷◌, ◌++◌, length, get_or, map, take, drop, IsUtf8, refl, sym, ap, ◌∙◌, subst, arith, inl, inr, length-append, length-drop, take_all, drop_at, Result, Ok, Err, OnErr}
use Rattle.std.proofs.lemmas.List.{drop-append-le, take-append-le, length-map}
use Rattle.dx_base.specs.Members.{◌∈◌, Each, here, there}
use Rattle.dx_base.proofs.Members.{from_append, in_at}
use Rattle.dx_json.specs.Spans.{IsSpan, span_text}

-- a part of a list is one of a longer list
pub part_stays : {X : Type 0} (xs ys : List X) (start end : ℕ) → start ≤ end → end ≤ length xs → take (end - start) (drop start (xs ++ ys)) ≡ take (end - start) (drop start xs)
part_stays xs ys start end order within =
    ap (take (end - start)) (drop-append-le start xs ys (omega (arith, order, within)))
    ∙ take-append-le (end - start) (drop start xs) ys (omega (arith, length-drop start xs, order, within))

-- what was appended is the last part
pub last_part : {X : Type 0} (xs ys : List X) (end : ℕ) → end ≡ length (xs ++ ys) → take (end - length xs) (drop (length xs) (xs ++ ys)) ≡ ys
last_part xs ys end e = ap (take (end - length xs)) (drop_at xs ys (length xs) refl) ∙ take_all (end - length xs) ys (omega (arith, e, length-append xs ys))

-- ---- texts of a buffer

pub span_there : (buffer : List ℕ) (spans : List (ℕ × ℕ)) (k : ℕ) (span : ℕ × ℕ) → Each spans (IsSpan buffer) → k < length spans → span ≡ get_or spans k span → IsSpan buffer span
span_there buffer spans k span all lt is = all span (subst (λ x. x ∈ spans) (sym is) (in_at spans k span lt))

span_stays : (buffer more : List ℕ) (span : ℕ × ℕ) → IsSpan buffer span → span_text (buffer ++ more) span ≡ span_text buffer span
span_stays buffer more span h = part_stays buffer more span.0 span.1 h.order h.within

pub texts_stay : (buffer more : List ℕ) (spans : List (ℕ × ℕ)) → Each spans (IsSpan buffer) → map (span_text (buffer ++ more)) spans ≡ map (span_text buffer) spans
texts_stay buffer more [] all = refl
texts_stay buffer more (span ∷ spans) all = rw (span_stays buffer more span (all span (here refl)), texts_stay buffer more spans (λ x m. all x (there m)))

longer_span : (buffer more : List ℕ) (span : ℕ × ℕ) → IsSpan buffer span → IsSpan (buffer ++ more) span
longer_span buffer more span h = record {
  order = h.order;
  within = omega (arith, h.within, length-append buffer more);
  utf8 = subst IsUtf8 (sym (span_stays buffer more span h)) h.utf8;
}

pub spans_stay : (buffer more : List ℕ) (spans : List (ℕ × ℕ)) → Each spans (IsSpan buffer) → Each spans (IsSpan (buffer ++ more))
spans_stay buffer more spans all span m = longer_span buffer more span (all span m)

last_span : (buffer more : List ℕ) (end : ℕ) → end ≡ length (buffer ++ more) → IsUtf8 more → IsSpan (buffer ++ more) (length buffer, end)
last_span buffer more end e utf8 = record {
  order = omega (arith, e, length-append buffer more);
  within = omega (arith, e);
  utf8 = subst IsUtf8 (sym (last_part buffer more end e)) utf8;
}

pub one_span_more : (buffer more : List ℕ) (spans : List (ℕ × ℕ)) (end : ℕ) → Each spans (IsSpan buffer) → end ≡ length (buffer ++ more) → IsUtf8 more → Each (spans ++ (length buffer, end) ∷ []) (IsSpan (buffer ++ more))
one_span_more buffer more spans end all e utf8 span m =
    elim (from_append spans m) [
      | inl l ↦ longer_span buffer more span (all span l)
      | inr (here s) ↦ subst (IsSpan (buffer ++ more)) s (last_span buffer more end e utf8)
      | inr (there n) ↦ elim n [ ]
    ]

pub one_text_more : (buffer more : List ℕ) (spans : List (ℕ × ℕ)) (end : ℕ) → Each spans (IsSpan buffer) → end ≡ length (buffer ++ more)
    → map (span_text (buffer ++ more)) (spans ++ (length buffer, end) ∷ []) ≡ map (span_text buffer) spans ++ more ∷ []
one_text_more buffer more [] end all e = rw (last_part buffer more end e)
one_text_more buffer more (span ∷ spans) end all e = rw (span_stays buffer more span (all span (here refl)), one_text_more buffer more spans end (λ x m. all x (there m)) e)

-- ---- the same, of what a function has

pub span_within : (buffer : List ℕ) (spans : List (ℕ × ℕ)) (texts : List (List ℕ)) (k : ℕ) (span : ℕ × ℕ) → map (span_text buffer) spans ≡ texts → k < length texts → Each spans (IsSpan buffer) → span ≡ get_or spans k span → IsSpan buffer span
span_within buffer spans texts k span are lt all is = span_there buffer spans k span all (omega (arith, lt, ap length (sym are), length-map spans (span_text buffer))) is

pub texts_kept : (buffer longer more : List ℕ) (spans : List (ℕ × ℕ)) (texts : List (List ℕ)) → Each spans (IsSpan buffer) → longer ≡ buffer ++ more → map (span_text buffer) spans ≡ texts → map (span_text longer) spans ≡ texts
texts_kept buffer longer more spans texts all l are = rw l (texts_stay buffer more spans all ∙ are)

pub spans_pushed : (buffer longer more : List ℕ) (spans new : List (ℕ × ℕ)) (start end : ℕ) → Each spans (IsSpan buffer) → longer ≡ buffer ++ more → new ≡ spans ++ (start, end) ∷ [] → start ≡ length buffer → end ≡ length longer → IsUtf8 more
    → Each new (IsSpan longer)
spans_pushed buffer longer more spans new start end all l n s e utf8 = rw (l, n, s) (one_span_more buffer more spans end all (e ∙ ap length l) utf8)

pub texts_pushed : (buffer longer more : List ℕ) (spans new : List (ℕ × ℕ)) (start end : ℕ) (texts : List (List ℕ)) → Each spans (IsSpan buffer) → longer ≡ buffer ++ more → new ≡ spans ++ (start, end) ∷ [] → start ≡ length buffer → end ≡ length longer
    → map (span_text buffer) spans ≡ texts → map (span_text longer) new ≡ texts ++ more ∷ []
texts_pushed buffer longer more spans new start end texts all l n s e are = rw (l, n, s, ← are) (one_text_more buffer more spans end all (e ∙ ap length l))

pub any_err : {A E : Type 0} {P : Type 0} (r : Result A E) → P → OnErr r P
any_err (Ok x) p = tt
any_err (Err e) p = p
