use Rattle.std.proofs.Common.{sym, ◌∙◌}
use Rattle.ovl_names.proofs.NameLemmas.{is_name-from_fault}
use Rattle.ovl_names.proofs.names.Name.of.Goals as goal

pub copy_of-requires : goal.copy_of-requires
copy_of-requires c = is_name-from_fault c.args.text.now (sym c.first_name_fault.ensures ∙ c.in_default.is) c.utf8.text
