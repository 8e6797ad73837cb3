use Rattle.std.proofs.Common.{◌≡◌, sym, subst}
use Rattle.std.specs.Cmp.Lexicographic.{bytes_decides}
use Rattle.ovl_names.specs.Names.{PathName}
use Rattle.ovl_names.specs.Paths.{child_path}
use Rattle.ovl_merge.specs.Stands.{IsRowAt}
use Rattle.ovl_merge.proofs.names_in_both.name_walk_by.Goals as goal

pub returns-then-eq : goal.returns-then-eq
returns-then-eq c path is row =
    let name = c.args.name.now in
    let candidate = c.args.candidate.now in
    let same : name ≡ candidate.name.now = (bytes_decides name candidate.name.now).0 (sym c.if-eq.ensures) in
    c.name_walk_at.ensures path (subst (λ (n : PathName). IsRowAt c.args.sheet.now (child_path path n) candidate.lower) (sym same) row)
    c.args.lower.now.row c.args.lower.now.next is

pub returns-else-eq : goal.returns-else-eq
returns-else-eq c path is row = c.name_walk_in.ensures path c.args.lower.now.next is
