use Rattle.std.proofs.Common.{◌∙◌, true, false, refl, sym, ap}
use Rattle.ovl_inode.specs.Marks.{is_metacopy_mark}
use Rattle.ovl_lookup.specs.Merged.{look, shows_directory}
use Rattle.ovl_merge.specs.Places.{merge_of, is_shown_regular, is_nothing_or}
use Rattle.ovl_inode.specs.Marks.{is_metacopy}
use Rattle.ovl_merge.specs.NamesInBoth.{told_in}
use Rattle.ovl_merge.proofs.NameInBothLemmas.{goes-directory, goes-file}
use Rattle.ovl_merge.proofs.names_in_both.goes_on.Goals as goal

pub returns-then-not-is_nothing_or_directory : goal.returns-then-not-is_nothing_or_directory
returns-then-not-is_nothing_or_directory c path there =
    let m = merge_of c.args.stack.now in
    goes-directory m c.args.found.now.inode.now (told_in c.args.lower_walk.now) path (sym c.if-is_directory.ensures) false c.if-not-is_nothing_or_directory.ensures (shows_directory m.rest path) refl

pub returns-then-is_directory : goal.returns-then-is_directory
returns-then-is_directory c path there =
    let m = merge_of c.args.stack.now in
    goes-directory m c.args.found.now.inode.now (told_in c.args.lower_walk.now) path (sym c.if-is_directory.ensures) true c.if-not-is_nothing_or_directory.ensures c.is_directory-then-is_directory.result
    (c.is_directory-then-is_directory.ensures (look m.rest path) (c.in_ok-shown_kind.ensures path there))

pub returns-then-not-is_well_formed_metacopy : goal.returns-then-not-is_well_formed_metacopy
returns-then-not-is_well_formed_metacopy c path there =
    let m = merge_of c.args.stack.now in
    goes-file m c.args.found.now.inode.now (told_in c.args.lower_walk.now) path (sym c.if-is_directory.ensures) false (c.if-not-is_well_formed_metacopy.ensures ∙ ap is_metacopy_mark c.requires.marked)
    (is_nothing_or is_metacopy (told_in c.args.lower_walk.now)) refl (is_shown_regular (look m.rest path)) refl

pub returns-then-not-is_nothing_or_metacopy : goal.returns-then-not-is_nothing_or_metacopy
returns-then-not-is_nothing_or_metacopy c path there =
    let m = merge_of c.args.stack.now in
    goes-file m c.args.found.now.inode.now (told_in c.args.lower_walk.now) path (sym c.if-is_directory.ensures) true (c.if-not-is_well_formed_metacopy.ensures ∙ ap is_metacopy_mark c.requires.marked)
    false c.if-not-is_nothing_or_metacopy.ensures (is_shown_regular (look m.rest path)) refl

pub returns : goal.returns
returns c path there =
    let m = merge_of c.args.stack.now in
    goes-file m c.args.found.now.inode.now (told_in c.args.lower_walk.now) path (sym c.if-is_directory.ensures) true (c.if-not-is_well_formed_metacopy.ensures ∙ ap is_metacopy_mark c.requires.marked)
    true c.if-not-is_nothing_or_metacopy.ensures c.is_shown_regular.result (c.is_shown_regular.ensures (look m.rest path) (c.in_ok-shown_kind-2.ensures path there))
