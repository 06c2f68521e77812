use Rattle.clio_top.proofs.Writing.{fits_files}
use Rattle.clio_top.proofs.file_list.files.Goals as goal

pub print_files-requires-clause-texts : goal.print_files-requires-clause-texts
print_files-requires-clause-texts g c = c.requires.rules

pub print_files-requires-clause-fits : goal.print_files-requires-clause-fits
print_files-requires-clause-fits g c =
    fits_files c.args.mapping.now c.args.exchange.now c.requires.names c.requires.widths_are c.requires.nulls
