use Rattle.std.proofs.Common.{◌≡◌, ◌∙◌, false, Option, sym, subst}
use Rattle.std.specs.Prelude.{MatchOption, IfOk}
use Rattle.ovl_names.specs.Paths.{PathNames}
use Rattle.ovl_merge.specs.declared.directories.Directory.{Directory}
use Rattle.ovl_merge.specs.Places.{merge_of, shows_own_directory}
use Rattle.ovl_merge.specs.Directories.{entries_in}
use Rattle.ovl_merge.specs.Reckoned.{IsVisited}
use Rattle.ovl_merge.proofs.FinishLemmas.{merge-each}
use Rattle.ovl_merge.proofs.LayerLemmas.{upper, lower}
use Rattle.ovl_merge.proofs.VisitLemmas.{no-entries}
use Rattle.ovl_merge.proofs.works.inodes_at.Goals as goal

pub returns-in-Some : goal.returns-in-Some
returns-in-Some c =
    let stack = c.args.stack.now in
    let m = merge_of stack in
    let dir = c.args.dir.now in
    let is : IsVisited stack dir c.in-Some.directory = subst (λ (found : Option Directory). MatchOption found (shows_own_directory m dir ≡ false) (λ directory. IsVisited stack dir directory)) c.in-Some.is c.in_ok-directory.ensures in
    subst (λ (p : PathNames). IfOk c.inodes_in.result (λ inodes. inodes.items ≡ entries_in m p)) is.path c.inodes_in.ensures

pub returns-in-None : goal.returns-in-None
returns-in-None c =
    let stack = c.args.stack.now in
    let m = merge_of stack in
    let dir = c.args.dir.now in
    let each = merge-each stack c.requires c.ordinary-layers.ensures.each in
    let none : shows_own_directory m dir ≡ false = subst (λ (found : Option Directory). MatchOption found (shows_own_directory m dir ≡ false) (λ directory. IsVisited stack dir directory)) c.in-None.is c.in_ok-directory.ensures in
    c.new.ensures.items ∙ sym (no-entries m (upper m each) (lower m each) dir none)
