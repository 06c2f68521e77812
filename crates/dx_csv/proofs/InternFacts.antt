-- Texts that become numbers.
use Rattle.std.proofs.Common.{◌≡◌, ◌++◌, ◌∷◌, ◌*◌, ◌∙◌, ℕ, List, [], refl, sym, ap, subst, arith, length, take, drop, map}
use Rattle.std.specs.Prelude.{All, Bool}
use Rattle.std.proofs.Math.Seq.{drop-append_seam, take-append_seam}
use Rattle.std.proofs.lemmas.List.{length-append}
use Rattle.std.proofs.lemmas.Simd.{map-map}
use Rattle.std.proofs.lemmas.List.Elements.{All-head, All-tail}
use Rattle.dx_model.specs.declared.values.Value.{Value}
use Rattle.dx_csv.specs.Fields.{AreFields, flat, records_in}
use Rattle.dx_used.specs.Used.{blanked}
use Rattle.dx_csv.specs.Blanks.{IsTableUsed, constants_used}
use Rattle.dx_csv.specs.Table.{IsWholeRecord}
use Rattle.dx_model.specs.Values.{constants}

-- ---- the records of a table

flat-size : (columns : List (List ℕ)) (under : List (List (List ℕ))) → All (IsWholeRecord columns) under → length (flat under) ≡ length under * length columns
flat-size columns [] a = omega arith
flat-size columns (u ∷ under) a =
    let w = (All-head (IsWholeRecord columns) u under a).width in
    let r = flat-size columns under (All-tail (IsWholeRecord columns) u under a) in
    let s = length-append u (flat under) in
    omega (arith, w, r, s)

flat-records : (columns : List (List ℕ)) (under : List (List (List ℕ))) → All (IsWholeRecord columns) under → records_in (length under) (length columns) (flat under) ≡ under
flat-records columns [] a = refl
flat-records columns (u ∷ under) a =
    let w = (All-head (IsWholeRecord columns) u under a).width in
    let front : take (length columns) (u ++ flat under) ≡ u = subst (λ n. take n (u ++ flat under) ≡ u) w (take-append_seam u (flat under)) in
    let back : drop (length columns) (u ++ flat under) ≡ flat under = subst (λ n. drop n (u ++ flat under) ≡ flat under) w (drop-append_seam u (flat under)) in
    rw (front, back, flat-records columns under (All-tail (IsWholeRecord columns) u under a)) refl

pub fields-many : (records : List (List (List ℕ))) (columns texts : List (List ℕ)) (count width : ℕ) → width ≡ length columns → AreFields records columns texts count → length texts ≡ count * width
fields-many records columns texts count width w f =
    ap length f.is ∙ flat-size columns f.under f.whole ∙ ap (λ n. n * length columns) (sym f.many) ∙ ap (λ n. count * n) (sym w)

pub fields-table : (used : List Bool) (records : List (List (List ℕ))) (columns texts : List (List ℕ)) (count width : ℕ) (rows : List (List Value)) → width ≡ length columns → AreFields records columns texts count
    → rows ≡ map (constants_used used) (records_in count width texts) → IsTableUsed used records columns rows
fields-table used records columns texts count width rows w f e = (
  map constants f.under,
  record { under = f.under; header = f.header; whole = f.whole; values = refl },
  e
      ∙ ap (λ n. map (constants_used used) (records_in n width texts)) f.many
      ∙ ap (λ n. map (constants_used used) (records_in (length f.under) n texts)) w
      ∙ ap (λ (t : List (List ℕ)). map (constants_used used) (records_in (length f.under) (length columns) t)) f.is
      ∙ ap (map (constants_used used)) (flat-records columns f.under f.whole)
      ∙ sym (map-map (blanked used) constants f.under),
)
