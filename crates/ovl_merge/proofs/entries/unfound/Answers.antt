use Rattle.std.proofs.Common.{◌∙◌, Some, true, false, sym, ap}
use Rattle.ovl_inode.specs.declared.inodes.Inode.{Inode}
use Rattle.ovl_names.specs.Paths.{child_path}
use Rattle.ovl_lookup.proofs.LawsOfPaths.{parent_path-child}
use Rattle.ovl_merge.specs.Places.{merge_of, shows_own_directory, shows_at}
use Rattle.ovl_merge.specs.Reckoned.{next_lookup_at}
use Rattle.ovl_merge.proofs.Core.{natural-child}
use Rattle.ovl_merge.proofs.NameInBothLemmas.{unfound-open, unfound-shut}
use Rattle.ovl_merge.proofs.entries.unfound.Goals as goal

pub returns-then-is_some : goal.returns-then-is_some
returns-then-is_some c =
    let m = merge_of c.args.stack.now in
    let above = c.args.above.now in
    unfound-open m (child_path above.path c.args.name_in_both.now.name.now) (next_lookup_at above.lower) c.args.name_in_both.now c.requires.name_in_both c.requires.none (sym c.if-is_some.ensures)

pub returns-then-not-shows : goal.returns-then-not-shows
returns-then-not-shows c =
    let m = merge_of c.args.stack.now in
    let above = c.args.above.now in
    let name = c.args.name_in_both.now.name.now in
    unfound-shut m (child_path above.path name) (next_lookup_at above.lower) c.args.name_in_both.now c.requires.name_in_both c.requires.none (sym c.if-is_some.ensures)
    (ap (shows_own_directory m) (parent_path-child above.path name) ∙ c.requires.above.shown) false (c.if-not-shows.ensures ∙ ap (shows_at m.rest) (sym (natural-child m above.path name)))

pub returns : goal.returns
returns c =
    let m = merge_of c.args.stack.now in
    let above = c.args.above.now in
    let name = c.args.name_in_both.now.name.now in
    ap (λ (i : Inode). Some i) c.new_whiteout.ensures
    ∙ unfound-shut m (child_path above.path name) (next_lookup_at above.lower) c.args.name_in_both.now c.requires.name_in_both c.requires.none (sym c.if-is_some.ensures)
    (ap (shows_own_directory m) (parent_path-child above.path name) ∙ c.requires.above.shown) true (c.if-not-shows.ensures ∙ ap (shows_at m.rest) (sym (natural-child m above.path name)))
