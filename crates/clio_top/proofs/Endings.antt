-- From an ending back to how the run ended.
use Rattle.std.proofs.Common.{◌≡◌, ℕ, List, refl, sym, ◌∙◌, ap, Option, Some, None}
use Rattle.std.proofs.lemmas.Option.{none-some, same_Some}
use Rattle.dx_keys.specs.declared.answers.Clash.{Clash}
use Rattle.dx_stages.specs.declared.plan.Ended.{Ended}
use Rattle.dx_stages.specs.declared.plan.Ended.TheVariants as endeds
use Rattle.clio_ending.specs.declared.ending.Done.{Done}
use Rattle.clio_ending.specs.declared.ending.Ending.{Ending}
use Rattle.clio_ending.specs.declared.ending.Ending.TheVariants as endings
use Rattle.clio_ending.specs.declared.ending.Refusal.{Refusal}
use Rattle.clio_ending.specs.declared.ending.Refusal.TheVariants as refusals
use Rattle.clio_ending.specs.Ending.{ending_of, refusal_ending}

done_in : Ending → Option Done
done_in (endings.Done d) = Some d
done_in _ = None

refused_in : Ending → Option Refusal
refused_in (endings.Clash k table key column) = Some (refusals.Clash k table key column)
refused_in _ = None

no_done : (r : Refusal) → done_in (refusal_ending r) ≡ None
unfolding done_in
no_done refusals.Usage = refl
no_done (refusals.Clash k table key column) = refl
no_done (refusals.Mapping fault) = refl
no_done (refusals.Rows file fault) = refl
no_done (refusals.Limit limit) = refl
no_done (refusals.Query fault) = refl
no_done (refusals.Other fault) = refl

-- a run that answers that it is done is done
pub done_of : (e : Ended Done Refusal) (d : Done) → endings.Done d ≡ ending_of e → e ≡ endeds.Done d
unfolding done_in
done_of (endeds.Done f) d is = ap (λ x. endeds.Done x) (same_Some f d (sym (ap done_in is)))
done_of (endeds.Refused r) d is = absurd (none-some d (sym (no_done r) ∙ sym (ap done_in is)))
done_of (endeds.ReadFault n) d is = absurd (none-some d (sym (ap done_in is)))
done_of (endeds.WriteFault count) d is = absurd (none-some d (sym (ap done_in is)))
done_of endeds.Memory d is = absurd (none-some d (sym (ap done_in is)))

refused_by : (r k : Refusal) → refused_in (refusal_ending r) ≡ Some k → r ≡ k
unfolding refused_in
refused_by refusals.Usage k is = absurd (none-some k is)
refused_by (refusals.Clash c table key column) k is = same_Some (refusals.Clash c table key column) k is
refused_by (refusals.Mapping fault) k is = absurd (none-some k is)
refused_by (refusals.Rows file fault) k is = absurd (none-some k is)
refused_by (refusals.Limit limit) k is = absurd (none-some k is)
refused_by (refusals.Query fault) k is = absurd (none-some k is)
refused_by (refusals.Other fault) k is = absurd (none-some k is)

-- a run that answers a clash was refused with it
pub clash_of : (e : Ended Done Refusal) (k : Clash) (table : List ℕ) (key : List (List ℕ)) (column : List ℕ) → endings.Clash k table key column ≡ ending_of e
    → e ≡ endeds.Refused (refusals.Clash k table key column)
unfolding refused_in
clash_of (endeds.Done f) k table key column is = absurd (none-some (refusals.Clash k table key column) (sym (ap refused_in is)))
clash_of (endeds.Refused r) k table key column is =
    ap (λ x. endeds.Refused x) (refused_by r (refusals.Clash k table key column) (sym (ap refused_in is)))
clash_of (endeds.ReadFault n) k table key column is = absurd (none-some (refusals.Clash k table key column) (sym (ap refused_in is)))
clash_of (endeds.WriteFault count) k table key column is = absurd (none-some (refusals.Clash k table key column) (sym (ap refused_in is)))
clash_of endeds.Memory k table key column is = absurd (none-some (refusals.Clash k table key column) (sym (ap refused_in is)))
