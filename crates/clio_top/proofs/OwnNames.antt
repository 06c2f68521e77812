-- No two files that an exchange writes have one name.
use Rattle.std.proofs.Common.{inl, inr}
use Rattle.dx_schema.proofs.Valid.{are_tables}
use Rattle.clio_accept.specs.declared.mapping.Mapping.{Mapping}
use Rattle.clio_accept.proofs.Accepted.{faultless_target, none_reserved}
use Rattle.clio_files.proofs.OwnNames.{names_are_apart}
use Rattle.clio_top.specs.Promises.{FilesHaveOwnNames}

pub own_names : FilesHaveOwnNames
own_names P mode nested c e before after d =
    let M : Mapping = d.mapping in
    let a = d.exchanged.matched.read.accepted in
    let target = faultless_target P.list P.tests c a.text M a.accepted in
    let free = none_reserved P.list P.tests c a.text M a.accepted in
    names_are_apart M.source M.target P.list mode nested M.rules e d.files (are_tables M.target target.form)
    (λ t lt. ((λ is. free t lt (inl is)), (λ is. free t lt (inr is)))) d.are
