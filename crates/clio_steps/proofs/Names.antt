-- What the stages ask for.
use Rattle.std.proofs.Common.{◌≡◌, ℕ, List, get_or, refl, sym, ◌∙◌, ap, subst, inl, inr, arith, reverse, ◌⊎◌}
use Rattle.std.specs.Prelude.{codes}
use Rattle.std.proofs.lemmas.List.{reverse-append}
use Rattle.dx_schema.specs.Tables.{schema_table}
use Rattle.dx_exchange.specs.declared.mode.Mode.{Mode}
use Rattle.dx_stages.specs.Worlds.{World}
use Rattle.dx_stages.specs.Stages.{next}
use Rattle.dx_stages.specs.Laws.{AsksOtherFiles, AsksOnly}
use Rattle.dx_stages.proofs.Decided.{apart_by, each_only}
use Rattle.clio_accept.proofs.Silent.{accepting_silent}
use Rattle.dx_used.specs.Passing.{Passes}
use Rattle.clio_source.specs.Source.{RootShape, at_start, csv_name, file_at, flat, shape_at, json_name, named_by, nested, reading, roots, source_stages, SourceRequest}
use Rattle.clio_source.proofs.Roots.{asks_own}
use Rattle.clio_steps.specs.declared.texts.Side.{Side}
use Rattle.clio_steps.specs.declared.texts.Side.TheVariants.{First, Second}
use Rattle.clio_steps.specs.Steps.{Program, mapping_stages, rows_stages, target_stages, text_name, text_stages, wanted}

-- ---- the mapping texts, and the files of the source

pub text_asks : (P : Program) (side : Side) → AsksOnly (λ n. n ≡ text_name side) (text_stages P side)
text_asks P side c a n (inl h) = h
text_asks P side c a n (inr h) = absurd (accepting_silent P.list P.tests c h.0 n h.2)

-- the two have names of their own
pub texts_apart : ¬ (text_name First ≡ text_name Second)
texts_apart e = let h : 109 ≡ 111 = ap (λ (v : List ℕ). get_or v 0 0) e in absurd (omega (arith, h))

unfoldable pub IsData : List ℕ → Type 0
IsData n = (y : List ℕ) × ((n ≡ csv_name y) ⊎ (n ≡ json_name y))

pub named : (form : RootShape) (y : List ℕ) → IsData (named_by form y)
unfolding IsData
named flat y = (y, inl refl)
named nested y = (y, inr refl)

pub source_asks : (passes : Passes) (c : World) (w : SourceRequest) (n : List ℕ) → (source_stages passes).asks c w n → IsData n
source_asks passes c w n (inl h) =
    let f = w.schema in
    let k = each_only (reading f) (file_at f) (roots f) (asks_own f) c at_start n h in
    subst IsData (sym k.2) (named (shape_at f k.0) (schema_table f k.0).name)
source_asks passes c w n (inr h) = absurd h.2

rest_asks : (P : Program) (mode : Mode) → AsksOnly IsData (next (rows_stages P) (target_stages P mode))
rest_asks P mode c M n (inl h) = source_asks P.passes c (wanted M) n h
rest_asks P mode c M n (inr h) = absurd h.2

-- a name with another end than theirs is none of a data file
pub no_data : (n : List ℕ) (b : ℕ) → get_or (reverse n) 0 0 ≡ b → ¬ (b ≡ 118) → ¬ (b ≡ 110) → ¬ (IsData n)
unfolding IsData
no_data n b e v j (y, inl is) = v (sym e ∙ (ap (λ (w : List ℕ). get_or (reverse w) 0 0) is ∙ ap (λ (w : List ℕ). get_or w 0 0) (reverse-append y (codes ".csv"))))
no_data n b e v j (y, inr is) = j (sym e ∙ (ap (λ (w : List ℕ). get_or (reverse w) 0 0) is ∙ ap (λ (w : List ℕ). get_or w 0 0) (reverse-append y (codes ".json"))))

-- neither mapping text has such a name
pub no_text : (side : Side) → ¬ (IsData (text_name side))
no_text First = no_data (codes "mapping.clio") 111 refl (λ e. absurd (omega (arith, e))) (λ e. absurd (omega (arith, e)))
no_text Second = no_data (codes "other.clio") 111 refl (λ e. absurd (omega (arith, e))) (λ e. absurd (omega (arith, e)))

pub apart : (P : Program) (mode : Mode) → AsksOtherFiles (mapping_stages P) (next (rows_stages P) (target_stages P mode))
apart P mode =
    apart_by (λ n. n ≡ text_name First) IsData (mapping_stages P) (next (rows_stages P) (target_stages P mode)) (text_asks P First)
    (rest_asks P mode) (λ n e f. no_text First (subst IsData e f))
