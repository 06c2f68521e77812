-- Facts whose constants are parts of a list of texts that grows.
use Rattle.std.proofs.Common.{◌≡◌, ℕ, suc, ◌+◌, ◌-◌, ◌≤◌, ◌<◌, List, [], ◌∷◌, ◌++◌, length, get_or, map, take, drop, slice_get, Some, option_map, refl, sym, ap, ◌∙◌, subst, arith, inl, inr, length-append, length-drop, take-suc, get_or-drop, take_all}
use Rattle.std.proofs.lemmas.List.{length-map}
use Rattle.std.proofs.lemmas.Option.{slice_get-map, slice_get_read}
use Rattle.dx_base.specs.Members.{◌∈◌, Each, here, there}
use Rattle.dx_base.proofs.Members.{from_append, in_at}
use Rattle.dx_model.specs.declared.values.Value.{Value}
use Rattle.dx_model.specs.declared.values.Value.TheVariants.{Const}
use Rattle.dx_model.specs.declared.facts.Fact.{Fact}
use Rattle.dx_json.specs.declared.facts.Line.{Line}
use Rattle.dx_json.specs.Lines.{IsLine, constants_in, line_fact}
use Rattle.dx_json.proofs.Parts.{last_part, part_stays}

fact_stays : (texts more : List (List ℕ)) (line : Line) → IsLine texts line → line_fact (texts ++ more) line ≡ line_fact texts line
fact_stays texts more line h = ap (λ cells. record { table = line.table; row = map Const cells }) (part_stays texts more line.start line.end h.order h.within)

longer_line : (texts more : List (List ℕ)) (line : Line) → IsLine texts line → IsLine (texts ++ more) line
longer_line texts more line h = record { order = h.order; within = omega (arith, h.within, length-append texts more) }

one_line_more : (texts more : List (List ℕ)) (lines : List Line) (line : Line) → Each lines (IsLine texts) → line.start ≡ length texts → line.end ≡ length (texts ++ more) → Each (lines ++ line ∷ []) (IsLine (texts ++ more))
one_line_more texts more lines line all s e x m =
    elim (from_append lines m) [
      | inl l ↦ longer_line texts more x (all x l)
      | inr (here is) ↦ subst (IsLine (texts ++ more)) is (record { order = omega (arith, s, e, length-append texts more); within = omega (arith, e) })
      | inr (there n) ↦ elim n [ ]
    ]

last_fact : (texts more : List (List ℕ)) (line : Line) → line.start ≡ length texts → line.end ≡ length (texts ++ more) → line_fact (texts ++ more) line ≡ record { table = line.table; row = map Const more }
last_fact texts more line s e =
    ap (λ n. record { table = line.table; row = map Const (take (line.end - n) (drop n (texts ++ more))) }) s ∙ ap (λ cells. record { table = line.table; row = map Const cells }) (last_part texts more line.end e)

one_fact_more : (texts more : List (List ℕ)) (lines : List Line) (line : Line) → Each lines (IsLine texts) → line.start ≡ length texts → line.end ≡ length (texts ++ more)
    → map (line_fact (texts ++ more)) (lines ++ line ∷ []) ≡ map (line_fact texts) lines ++ record { table = line.table; row = map Const more } ∷ []
one_fact_more texts more [] line all s e = ap (λ fact. fact ∷ []) (last_fact texts more line s e)
one_fact_more texts more (first ∷ lines) line all s e = rw (fact_stays texts more first (all first (here refl)), one_fact_more texts more lines line (λ x m. all x (there m)) s e)

pub lines_pushed : (texts longer more : List (List ℕ)) (lines new : List Line) (line : Line) → Each lines (IsLine texts) → longer ≡ texts ++ more → new ≡ lines ++ line ∷ [] → line.start ≡ length texts → line.end ≡ length longer → Each new (IsLine longer)
lines_pushed texts longer more lines new line all l n s e = rw (l, n) (one_line_more texts more lines line all s (e ∙ ap length l))

pub facts_pushed : (texts longer more : List (List ℕ)) (lines new : List Line) (line : Line) (facts : List Fact) → Each lines (IsLine texts) → longer ≡ texts ++ more → new ≡ lines ++ line ∷ [] → line.start ≡ length texts → line.end ≡ length longer
    → map (line_fact texts) lines ≡ facts → map (line_fact longer) new ≡ facts ++ record { table = line.table; row = map Const more } ∷ []
facts_pushed texts longer more lines new line facts all l n s e are = rw (l, n, ← are) (one_fact_more texts more lines line all s (e ∙ ap length l))

-- all of a list was taken
pub all_taken : (texts longer more : List (List ℕ)) (n : ℕ) → longer ≡ texts ++ take n more → length more ≤ n → longer ≡ texts ++ more
all_taken texts longer more n is h = is ∙ ap (λ xs. texts ++ xs) (take_all n more h)

-- ---- the fact at a place

map_over : (xs : List (List ℕ)) (y : List ℕ) → map Const (xs ++ y ∷ []) ≡ map Const xs ++ Const y ∷ []
map_over [] y = refl
map_over (x ∷ xs) y = rw (map_over xs y)

one_constant_more : (texts : List (List ℕ)) (start place : ℕ) → start ≤ place → place < length texts → constants_in texts start (place + 1) ≡ constants_in texts start place ++ Const (get_or texts place []) ∷ []
one_constant_more texts start place order lt =
    let next : place + 1 - start ≡ suc (place - start) = omega (arith, order) in
    let here : start + (place - start) ≡ place = omega (arith, order) in
    ap (λ n. map Const (take n (drop start texts))) next
    ∙ ap (map Const) (take-suc (drop start texts) (place - start) [] (omega (arith, order, lt, length-drop start texts)))
    ∙ map_over (take (place - start) (drop start texts)) (get_or (drop start texts) (place - start) [])
    ∙ ap (λ t. map Const (take (place - start) (drop start texts)) ++ Const t ∷ []) (get_or-drop start texts (place - start) [] ∙ ap (λ k. get_or texts k []) here)

pub constant_pushed : (texts : List (List ℕ)) (start place : ℕ) (row new : List Value) (text : List ℕ) → start ≤ place → place < length texts → row ≡ constants_in texts start place → text ≡ get_or texts place [] → new ≡ row ++ Const text ∷ []
    → new ≡ constants_in texts start (place + 1)
constant_pushed texts start place row new text order lt r t n = n ∙ rw (r, t) (sym (one_constant_more texts start place order lt))

pub line_there : (texts : List (List ℕ)) (lines : List Line) (facts : List Fact) (k : ℕ) (line : Line) → map (line_fact texts) lines ≡ facts → k < length facts → Each lines (IsLine texts) → line ≡ get_or lines k line → IsLine texts line
line_there texts lines facts k line are lt all is =
    all line (subst (λ x. x ∈ lines) (sym is) (in_at lines k line (omega (arith, lt, ap length (sym are), length-map lines (line_fact texts)))))

fact_of_line : (texts : List (List ℕ)) (lines : List Line) (k : ℕ) (line : Line) → slice_get lines k ≡ Some line → slice_get (map (line_fact texts) lines) k ≡ Some (line_fact texts line)
fact_of_line texts lines k line e = slice_get-map (line_fact texts) lines k ∙ ap (option_map (line_fact texts)) e

pub fact_there : (texts : List (List ℕ)) (lines : List Line) (facts : List Fact) (k : ℕ) (line : Line) (row : List Value) → map (line_fact texts) lines ≡ facts → k < length facts → line ≡ get_or lines k line → row ≡ constants_in texts line.start line.end
    → slice_get facts k ≡ Some (record { table = line.table; row = row })
fact_there texts lines facts k line row are lt is r =
    let within : k < length lines = omega (arith, lt, ap length (sym are), length-map lines (line_fact texts)) in
    ap (λ fs. slice_get fs k) (sym are) ∙ fact_of_line texts lines k line (slice_get_read lines (length lines) k line refl within is) ∙ ap (λ cells. Some (record { table = line.table; row = cells })) (sym r)
