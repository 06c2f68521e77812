use Rattle.dx_funcs.specs.Serving.{offered}
use Rattle.clio_files.specs.Texts.{rules_told, script_told}
use Rattle.clio_files.proofs.TextFiles.{both_files}
use Rattle.clio_files.proofs.texts.print_texts.Goals as goal

pub returns : goal.returns
returns g c =
    let source = c.args.mapping.now.source in
    let target = c.args.mapping.now.target in
    let list = offered c.args.host.now in
    let R = c.args.mapping.now.rules in
    both_files c.new-printed.result.items c.push.new.self.items c.push-2.new.self.items c.in_ok-rules_file.field-0
    c.in_ok-script_file.field-0 (rules_told source target list R) (script_told source target list c.args.mode R)
    c.new-printed.ensures.items c.in_ok-rules_file.ensures c.in_ok-script_file.ensures c.in_ok-push.ensures.items
    c.in_ok-push-2.ensures.items
