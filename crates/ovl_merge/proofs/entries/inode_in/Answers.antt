use Rattle.std.proofs.Common.{◌≡◌, ◌∙◌, Some, true, false, sym, ap}
use Rattle.ovl_names.specs.Names.{PathName}
use Rattle.ovl_names.specs.Paths.{PathNames, child_path}
use Rattle.ovl_inode.specs.declared.inodes.Inode.{Inode}
use Rattle.ovl_inode.specs.Marks.{is_directory, is_metacopy_mark, mark_of}
use Rattle.ovl_inode.specs.Inodes.{visible}
use Rattle.ovl_lookup.specs.declared.steps.Found.{Found}
use Rattle.ovl_lookup.specs.Stacks.{StackView}
use Rattle.ovl_merge.specs.declared.directories.Directory.{Directory}
use Rattle.ovl_merge.specs.declared.names_in_both.NameInBoth.{NameInBoth}
use Rattle.ovl_merge.specs.Places.{Merge, merge_of, reach}
use Rattle.ovl_merge.specs.MergeDown.{merged_entry, merged_entry_of, merged_inode, merged_directory, merged_metacopy}
use Rattle.ovl_merge.specs.NamesInBoth.{IsNameInBoth, IsFoundMarked, IsFirstFound, first_in}
use Rattle.ovl_merge.specs.Reckoned.{IsVisited, next_lookup_at}
use Rattle.ovl_merge.proofs.Inodes.{merged-directory, merged-metacopy, merged-other}
use Rattle.ovl_merge.proofs.NameInBothLemmas.{name_in_both-first}
use Rattle.ovl_merge.proofs.entries.inode_in.Goals as goal

-- what is found first at a name in a directory
module _ (stack : StackView) (directory : Directory) (walks : NameInBoth) (thing : Found) (above : IsVisited stack directory.path directory) (name_in_both : IsNameInBoth (merge_of stack) (child_path directory.path walks.name.now) (next_lookup_at directory.lower) walks) (first : Some thing.inode.now ≡ first_in walks) (told : IsFoundMarked walks.upper → IsFoundMarked walks.lower.found → thing.mark.now ≡ mark_of thing.inode.now) where
  abbrev m : Merge
  m = merge_of stack

  abbrev path : PathNames
  path = child_path directory.path walks.name.now

  abbrev inode : Inode
  inode = thing.inode.now

  marked : thing.mark.now ≡ mark_of inode
  marked = told name_in_both.marked name_in_both.lower.marked

  is-first : IsFirstFound stack directory walks thing
  is-first = record { above = above; name_in_both = name_in_both; first = first; marked = marked }

  -- its new inode is what the new lower layer has there
  module _ (name : PathName) (same : walks.name.now ≡ name) (new : Inode) where
    entered : new ≡ merged_inode m path inode → Some new ≡ merged_entry m (child_path directory.path name)
    entered is =
        ap (λ (i : Inode). Some i) is
        ∙ (ap (merged_entry_of m path) (first ∙ name_in_both-first m path (next_lookup_at directory.lower) walks name_in_both)
        ∙ ap (λ (n : PathName). merged_entry m (child_path directory.path n)) same)

    entered-directory : true ≡ is_directory inode → new ≡ merged_directory m path inode (reach m path) → Some new ≡ merged_entry m (child_path directory.path name)
    entered-directory is made = entered (made ∙ sym (merged-directory m path inode (sym is)))

    entered-metacopy : false ≡ is_directory inode → true ≡ is_metacopy_mark thing.mark.now → new ≡ merged_metacopy m path inode (reach m path) → Some new ≡ merged_entry m (child_path directory.path name)
    entered-metacopy is meta made = entered (made ∙ sym (merged-metacopy m path inode (sym is) (sym (meta ∙ ap is_metacopy_mark marked))))

    entered-other : false ≡ is_directory inode → false ≡ is_metacopy_mark thing.mark.now → new ≡ visible inode → Some new ≡ merged_entry m (child_path directory.path name)
    entered-other is meta made = entered (made ∙ sym (merged-other m path inode (sym is) (sym (meta ∙ ap is_metacopy_mark marked))))

pub merged_directory-requires-clause-first : goal.merged_directory-requires-clause-first
merged_directory-requires-clause-first c =
    is-first c.args.stack.now c.args.above.now c.in_ok-name_in_both.name_in_both c.in-Some.found.now c.requires.above c.in_ok-name_in_both.ensures.walks c.in-Some.ensures.first c.in-Some.ensures.marked

pub returns-then-is_directory-clause-inode : goal.returns-then-is_directory-clause-inode
returns-then-is_directory-clause-inode c =
    entered-directory c.args.stack.now c.args.above.now c.in_ok-name_in_both.name_in_both c.in-Some.found.now c.requires.above c.in_ok-name_in_both.ensures.walks c.in-Some.ensures.first c.in-Some.ensures.marked _ c.in_ok-name_in_both.ensures.name _ c.if-is_directory.ensures c.in_ok-directory.ensures

pub merged_metacopy-requires-clause-first : goal.merged_metacopy-requires-clause-first
merged_metacopy-requires-clause-first c =
    is-first c.args.stack.now c.args.above.now c.in_ok-name_in_both.name_in_both c.in-Some.found.now c.requires.above c.in_ok-name_in_both.ensures.walks c.in-Some.ensures.first c.in-Some.ensures.marked

pub returns-then-is_well_formed_metacopy-clause-inode : goal.returns-then-is_well_formed_metacopy-clause-inode
returns-then-is_well_formed_metacopy-clause-inode c =
    entered-metacopy c.args.stack.now c.args.above.now c.in_ok-name_in_both.name_in_both c.in-Some.found.now c.requires.above c.in_ok-name_in_both.ensures.walks c.in-Some.ensures.first c.in-Some.ensures.marked _ c.in_ok-name_in_both.ensures.name _ c.if-is_directory.ensures c.if-is_well_formed_metacopy.ensures c.in_ok-metacopy.ensures.inode

pub returns-clause-inode : goal.returns-clause-inode
returns-clause-inode c =
    entered-other c.args.stack.now c.args.above.now c.in_ok-name_in_both.name_in_both c.in-Some.found.now c.requires.above c.in_ok-name_in_both.ensures.walks c.in-Some.ensures.first c.in-Some.ensures.marked _ c.in_ok-name_in_both.ensures.name _ c.if-is_directory.ensures c.if-is_well_formed_metacopy.ensures c.in_ok-shown.ensures

pub unfound-requires-clause-none : goal.unfound-requires-clause-none
unfound-requires-clause-none c = sym c.in_default.ensures.first

pub returns-in_default-clause-inode : goal.returns-in_default-clause-inode
returns-in_default-clause-inode c =
    c.unfound.ensures ∙ ap (λ (name : PathName). merged_entry (merge_of c.args.stack.now) (child_path c.args.above.now.path name)) c.in_ok-name_in_both.ensures.name
