-- From the answers of the steps to the answer of the text.
use Rattle.std.proofs.Common.{◌≡◌, ◌⊎◌, ℕ, List, refl, inl, inr, subst, ap, ◌∙◌, Result, Ok, Err}
use Rattle.dx_schema.specs.Forest.{Forest}
use Rattle.dx_schema.specs.Links.{IsFaultless}
use Rattle.dx_schema_text.specs.declared.texts.MappingText.{MappingText}
use Rattle.dx_schema_text.specs.Texts.{IsMappingFaultOrMemory}
use Rattle.dx_tokens.specs.declared.faults.TextFault.{TextFault}
use Rattle.dx_funcs.specs.declared.conversion.Conversion.{Conversion}
use Rattle.dx_funcs.specs.declared.row_test.RowTest.{RowTest}
use Rattle.dx_stages.specs.Stages.{Stage, next, over}
use Rattle.dx_stages.specs.Running.{Answers}
use Rattle.dx_stages.proofs.Running.{answers_next}
use Rattle.clio_accept.specs.declared.fault.AcceptFault.{AcceptFault}
use Rattle.clio_accept.specs.declared.fault.AcceptFault.TheVariants.{Memory}
use Rattle.clio_accept.specs.declared.fault.AcceptFault.TheVariants as faults
use Rattle.clio_accept.specs.declared.mapping.Mapping.{Mapping}
use Rattle.clio_accept.specs.declared.fault.MapFault.TheVariants as map_faults
use Rattle.clio_accept.specs.Mapping.{IsFirstReserved, NoneReserved, SourceRefused, TargetRefused, text_refusal}
use Rattle.clio_accept.specs.Accepting.{TextsBetween, accepting, accepting_said, between_of, mapping_of, said_rules, source_sets, target_names, target_sets}

pub by_text : (list : List Conversion) (tests : List RowTest) (text : List ℕ) (f : TextFault) → IsMappingFaultOrMemory text f → Answers Memory (accepting list tests) text (Err (text_refusal f))
by_text list tests text f (inl is) = inl (ap text_refusal is)
by_text list tests text f (inr h) = inr (λ c. inl (f, h, refl))

pub by_source : (list : List Conversion) (tests : List RowTest) (m : MappingText) (e : AcceptFault) → (e ≡ Memory) ⊎ SourceRefused m.source e → Answers Memory (accepting_said list tests) m (Err e)
by_source list tests m e (inl is) = inl is
by_source list tests m e (inr r) = inr (λ c. inl r)

pub by_target : (list : List Conversion) (tests : List RowTest) (m : MappingText) (e : AcceptFault) → IsFaultless m.source → (e ≡ Memory) ⊎ TargetRefused m.target e → Answers Memory (accepting_said list tests) m (Err e)
by_target list tests m e source (inl is) = inl is
by_target list tests m e source (inr r) = inr (λ c. inr (m, (source, refl), inl r))

pub by_name : (list : List Conversion) (tests : List RowTest) (m : MappingText) (schema : Forest) (name : List ℕ) → IsFaultless m.source → IsFaultless m.target → schema ≡ m.target → IsFirstReserved schema name
    → Answers Memory (accepting_said list tests) m (Err (faults.Mapping (map_faults.Reserved name)))
by_name list tests m schema name source target same r =
    inr (λ c. inr (m, (source, refl), inr (m, (target, refl), inl (name, subst (λ f. IsFirstReserved f name) same r, refl))))

-- the lines, conditions and rules between the two schemas are those of what the text says
abbrev lines_between : MappingText → Forest → Forest → TextsBetween
lines_between m source target = record { source = source; target = target; lines = m.lines; conditions = m.conditions; by_hand = m.rules }

same_between : (m : MappingText) (source target : Forest) → source ≡ m.source → target ≡ m.target → lines_between m source target ≡ between_of m
same_between m source target same alike = ap (λ f. lines_between m f target) same ∙ ap (λ f. lines_between m m.source f) alike

-- a stage of what is made of something is a stage of it
answers_over : {E A B C : Type 0} (memory : E) (f : A → B) (s : Stage E B C) (a : A) (r : Result C E) → Answers memory s (f a) r → Answers memory (over f s) a r
answers_over memory f s a (Ok x) h = h
answers_over memory f s a (Err e) h = h

pub by_mapping : (list : List Conversion) (tests : List RowTest) (m : MappingText) (source target : Forest) (r : Result Mapping AcceptFault) → IsFaultless m.source → IsFaultless m.target → source ≡ m.source → target ≡ m.target
    → NoneReserved target → Answers Memory (mapping_of list tests) (lines_between m source target) r → Answers Memory (accepting_said list tests) m r
by_mapping list tests m source target r ok fine same alike names h =
    let k : Answers Memory (mapping_of list tests) (between_of m) r = subst (λ b. Answers Memory (mapping_of list tests) b r) (same_between m source target same alike) h in
    answers_next Memory source_sets (next target_sets (next target_names (said_rules list tests))) m m r (λ c. (ok, refl))
    (answers_next Memory target_sets (next target_names (said_rules list tests)) m m r (λ c. (fine, refl))
    (answers_next Memory target_names (said_rules list tests) m m r (λ c. (subst NoneReserved alike names, refl)) (answers_over Memory between_of (mapping_of list tests) m r k)))
