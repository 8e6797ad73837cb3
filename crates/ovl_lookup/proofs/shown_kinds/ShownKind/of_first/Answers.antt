use Rattle.std.proofs.Common.{◌∙◌, Option, sym, ap}
use Rattle.ovl_lookup.specs.declared.hits.Hit.{Hit}
use Rattle.ovl_lookup.specs.Merged.{shown_of}
use Rattle.ovl_lookup.specs.Hits.{found_by, found_of}
use Rattle.ovl_lookup.specs.ShownKinds.{shown_kind_of}
use Rattle.ovl_lookup.proofs.ShownKindLemmas.{shown_kind-first}
use Rattle.ovl_lookup.proofs.shown_kinds.ShownKind.of_first.Goals as goal

pub returns-in-Some : goal.returns-in-Some
returns-in-Some c =
    λ stack. c.of.ensures
    ∙ (sym (shown_kind-first stack.data_only c.in-Some.hit.found.inode.now (found_by stack c.in-Some.hit.below))
    ∙ ap (λ (first : Option Hit). shown_kind_of (shown_of stack.data_only (found_of stack first))) (sym c.in-Some.is))
