use Rattle.std.proofs.Common.{◌∙◌, reverse, sym, ap}
use Rattle.std.specs.Ordering.{is_eq}
use Rattle.std.specs.Cmp.Lexicographic.{lists_ties, texts_ties}
use Rattle.ovl_names.specs.Names.{name_cmp}
use Rattle.ovl_lookup.proofs.ropes.PathRopePartialEq.eq.Goals as goal

pub returns : goal.returns
returns c =
    c.is_eq.ensures
    ∙ (ap is_eq c.compared.ensures ∙ sym (lists_ties name_cmp texts_ties (reverse c.args.self.now) (reverse c.args.other.now)))
