-- In core mode the script leaves out what is covered; with documents there is one of each root.
use Rattle.std.proofs.Common.{◌≡◌, Bool, true, false, List, [], ◌∷◌, ◌++◌, refl, sym, ◌∙◌, ap, subst}
use Rattle.std.specs.Prelude.{codes, if◌then◌else◌}
use Rattle.std.specs.Fmt.{digits}
use Rattle.dx_base.specs.Entries.{Entry}
use Rattle.dx_base.specs.Texts.{Text}
use Rattle.dx_model.specs.declared.rules.Rule.{Rule}
use Rattle.dx_stages.specs.Ending.{PlanContent}
use Rattle.dx_schema.specs.Forest.{Forest}
use Rattle.dx_schema.specs.Tables.{tables_of}
use Rattle.dx_funcs.specs.declared.conversion.Conversion.{Conversion}
use Rattle.dx_instance.specs.Stored.{TableRows}
use Rattle.dx_exchange.specs.declared.mode.Mode.{Mode}
use Rattle.dx_exchange.specs.declared.mode.Mode.TheVariants.{Core}
use Rattle.dx_exchange.specs.declared.result.Exchange.{Exchange}
use Rattle.clio_accept.specs.declared.mapping.Mapping.{Mapping}
use Rattle.clio_source.specs.Source.{roots}
use Rattle.clio_files.specs.Files.{AreFiles, AreTableFiles, files_of, summary_of}
use Rattle.clio_files.specs.Nested.{AreRootFiles}
use Rattle.clio_files.specs.Sheets.{PrintedFile}
use Rattle.clio_files.specs.Texts.{texts_told}
use Rattle.clio_ending.specs.declared.ending.Done.{Done}
use Rattle.clio_steps.specs.Outcomes.{wrote_all}
use Rattle.dx_worked.specs.Exchanged.{CoreScriptIsPlanned, CoreScriptIsWritten, DocumentIsPlanned, DocumentIsWritten, core_texts, documents, files_named, names_in, units}
use Rattle.dx_worked.specs.Judged.{of_persons}

-- ---- core mode

texts_are : (list : List Conversion) (rest : List PrintedFile)
    → files_of (texts_told of_persons.source of_persons.target list Core of_persons.rules ++ rest) ≡ core_texts ++ files_of rest
unfolding digits
texts_are list rest = refl

core_files : (list : List Conversion) (nested : Bool) (e : Exchange) (files : List PrintedFile)
    → AreFiles of_persons.source of_persons.target list Core nested of_persons.rules e files
    → (rest : List Entry) × (files_of files ≡ core_texts ++ rest)
core_files list nested e files a = (_, ap files_of a.is ∙ texts_are list _)

pub core_is_planned : CoreScriptIsPlanned
core_is_planned list nested e plan (files, a, is) =
    let (rest, same) = core_files list nested e files a in (rest, ap (λ (p : PlanContent Done). p.files) is ∙ same)

pub core_is_written : CoreScriptIsWritten
core_is_written P nested c e before after w is =
    let a = subst (λ (M : Mapping). AreFiles M.source M.target P.list Core nested M.rules e w.files) is w.are in
    let (rest, same) = core_files P.list nested e w.files a in
    (rest, summary_of w.files, subst (λ (fs : List Entry). wrote_all before after fs (summary_of w.files)) same w.written)

-- ---- documents

-- the names of all but the two texts
after_texts : (nested : Bool) (T : List TableRows) (tables : List PrintedFile) (nulls fold : PrintedFile) (roots_put : List PrintedFile)
    → AreTableFiles [] 0 (tables_of units) T tables → AreRootFiles units T (if nested then roots units else []) roots_put
    → names_in (files_of (tables ++ nulls ∷ fold ∷ roots_put)) ≡ codes "unit.csv" ∷ codes "staff.csv" ∷ nulls.name ∷ fold.name ∷ documents nested
after_texts nested T [] nulls fold ds a d = absurd a
after_texts nested T (f ∷ []) nulls fold ds a d = absurd a.1
after_texts nested T (f ∷ g ∷ h ∷ fs) nulls fold ds a d = absurd a.1.1
after_texts false T (f ∷ g ∷ []) nulls fold [] a d =
    ap (λ (n : Text). n ∷ g.name ∷ nulls.name ∷ fold.name ∷ []) a.0.name ∙ ap (λ (n : Text). codes "unit.csv" ∷ n ∷ nulls.name ∷ fold.name ∷ []) a.1.0.name
after_texts false T (f ∷ g ∷ []) nulls fold (r ∷ rs) a d = absurd d
after_texts true T (f ∷ g ∷ []) nulls fold [] a d = absurd d
after_texts true T (f ∷ g ∷ []) nulls fold (r ∷ []) a d =
    ap (λ (n : Text). n ∷ g.name ∷ nulls.name ∷ fold.name ∷ r.name ∷ []) a.0.name
    ∙ ap (λ (n : Text). codes "unit.csv" ∷ n ∷ nulls.name ∷ fold.name ∷ r.name ∷ []) a.1.0.name
    ∙ ap (λ (n : Text). codes "unit.csv" ∷ codes "staff.csv" ∷ nulls.name ∷ fold.name ∷ n ∷ []) d.0.name
after_texts true T (f ∷ g ∷ []) nulls fold (r ∷ s ∷ rs) a d = absurd d.1

names_are : (source : Forest) (list : List Conversion) (mode : Mode) (nested : Bool) (R : List Rule) (e : Exchange) (files : List PrintedFile)
    → AreFiles source units list mode nested R e files → names_in (files_of files) ≡ files_named nested
names_are source list mode nested R e files a =
    ap (λ (fs : List PrintedFile). names_in (files_of fs)) a.is
    ∙ ap (λ (ns : List Text). codes "rules.txt" ∷ codes "script.sql" ∷ ns) (after_texts nested e.target a.tables _ _ a.documents a.tables_are a.documents_are)

pub document_is_planned : DocumentIsPlanned
document_is_planned list mode nested M e plan of_units (files, a, is) =
    let at_units = subst (λ (f : Forest). AreFiles M.source f list mode nested M.rules e files) of_units a in
    ap (λ (p : PlanContent Done). names_in p.files) is ∙ names_are M.source list mode nested M.rules e files at_units

pub document_is_written : DocumentIsWritten
document_is_written P mode nested c e before after w of_units =
    let M = w.mapping in
    let at_units = subst (λ (f : Forest). AreFiles M.source f P.list mode nested M.rules e w.files) of_units w.are in
    (files_of w.files, summary_of w.files, w.written, names_are M.source P.list mode nested M.rules e w.files at_units)
