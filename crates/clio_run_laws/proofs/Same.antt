-- Exchanges over the same files are of one mapping and one source.
use Rattle.std.proofs.Common.{◌≡◌, refl, sym, ap, subst}
use Rattle.dx_base.proofs.Members.{same_equal}
use Rattle.dx_stages.specs.Worlds.{World}
use Rattle.dx_instance.specs.Stored.{facts}
use Rattle.dx_schema.specs.Tables.{model_tables}
use Rattle.dx_exchange.specs.declared.mode.Mode.{Mode}
use Rattle.dx_exchange.specs.declared.mode.Mode.TheVariants.{Plain, Core}
use Rattle.dx_exchange.specs.declared.result.Exchange.{Exchange}
use Rattle.dx_core_laws.specs.Isomorphic.{OfOneSource}
use Rattle.dx_core_laws.proofs.Exchanged.{core_mode_is_one, plain_is_one}
use Rattle.clio_files.specs.Files.{AreFiles}
use Rattle.clio_files.proofs.OneList.{one_list_of_files}
use Rattle.clio_steps.specs.Outcomes.{ReadIn}
use Rattle.clio_steps.specs.Steps.{MappingAndRows, Program, exchange_input}
use Rattle.clio_steps.proofs.Spine.{one_read}
use Rattle.clio_run_laws.specs.Laws.{CoreRunsAreAlike, PlainRunsAreOne}

one_source : (P : Program) (mode : Mode) (c : World) (p q : MappingAndRows) → ReadIn P c p.0 p.1 → ReadIn P c q.0 q.1
    → OfOneSource (exchange_input mode p) (exchange_input mode q)
one_source P mode c p q r s =
    let is = one_read P c p q r s in record {
      rules = ap (λ (k : MappingAndRows). k.0.rules) is;
      schema = ap (λ (k : MappingAndRows). model_tables k.0.target) is;
      rows = same_equal (ap (λ (k : MappingAndRows). facts k.1) is);
    }

pub plain_runs : PlainRunsAreOne
plain_runs P nested c e d before after first last x y =
    let p : MappingAndRows = (x.mapping, x.rows) in
    let q : MappingAndRows = (y.mapping, y.rows) in
    let r = x.exchanged.matched.read in
    let s = y.exchanged.matched.read in
    let same : e ≡ d =
    plain_is_one P.apply (exchange_input Plain p) (exchange_input Plain q) e d (one_source P Plain c p q r s) refl refl
    x.exchanged.exchange y.exchanged.exchange in
    let are = subst
    (λ (k : MappingAndRows). AreFiles k.0.source k.0.target P.list Plain nested k.0.rules d y.files)
    (sym (one_read P c p q r s)) y.are in
    let M = x.mapping in (
      same,
      one_list_of_files M.source M.target P.list Plain nested M.rules e x.files y.files x.are
          (subst (λ (k : Exchange). AreFiles M.source M.target P.list Plain nested M.rules k y.files) (sym same) are),
    )

pub core_runs : CoreRunsAreAlike
core_runs P nested c e d before after first last x y =
    let p : MappingAndRows = (x.mapping, x.rows) in
    let q : MappingAndRows = (y.mapping, y.rows) in
    let one = one_source P Core c p q x.exchanged.matched.read y.exchanged.matched.read in
    core_mode_is_one P.apply (exchange_input Core p) (exchange_input Core q) e d one refl refl
    x.exchanged.exchange y.exchanged.exchange
