use Rattle.std.proofs.Common.{◌≡◌, ◌∙◌, ◌<◌, ℕ, Bool, Option, Some, None, IfOk, length, true, false, refl, sym, ap, subst}
use Rattle.std.specs.Prelude.{unwrap_or}
use Rattle.std.specs.List.{All}
use Rattle.std.specs.Option.{option_map}
use Rattle.ovl_names.specs.Names.{PathName}
use Rattle.ovl_names.specs.Paths.{PathNames, child_path}
use Rattle.ovl_inode.specs.declared.inodes.Inode.{Inode}
use Rattle.ovl_inode.specs.declared.marks.Mark.{Mark}
use Rattle.ovl_inode.specs.Inodes.{visible}
use Rattle.ovl_inode.specs.Marks.{mark_of}
use Rattle.ovl_layer.specs.Layers.{Entries, IsLayer, entry_at}
use Rattle.ovl_layer.specs.Sheets.{path_at}
use Rattle.ovl_lookup.specs.declared.looks.Look.{Look}
use Rattle.ovl_lookup.specs.declared.looks.Look.TheVariants.{Shown}
use Rattle.ovl_lookup.specs.declared.views.DirView.{DirView}
use Rattle.ovl_lookup.specs.Equal.{look_eq}
use Rattle.ovl_lookup.specs.Walk.{walk}
use Rattle.ovl_lookup.specs.Merged.{look}
use Rattle.ovl_lookup.specs.Stacks.{StackView, from_layer}
use Rattle.ovl_lookup.specs.Words.{top_layer}
use Rattle.ovl_lookup.proofs.LawsOfLooks.{top-layer}
use Rattle.ovl_lookup.proofs.LawsOfWalks.{entry-of_row}
use Rattle.ovl_vacuum.specs.Vacuum.{may_be_idle}
use Rattle.ovl_vacuum.specs.Directories.{is_idle_at}
use Rattle.ovl_vacuum.specs.Visits.{IsBelowTop, is_metacopy}
use Rattle.ovl_vacuum.proofs.VisitLemmas.{row-inode, row-mark, hidden-busy, compared, shown-plain}
use Rattle.ovl_vacuum.proofs.directories.TopDirectory.is_idle.Goals as goal

-- what lies below a directory of the topmost layer
abbrev IsBelow : StackView → PathNames → Option DirView → Type 0
IsBelow stack path = IsBelowTop stack (walk (top_layer stack) path).next (walk (top_layer stack) path).closed

-- the entry of a row in it
module _ (stack : StackView) (each : All IsLayer stack.layers) (some : 0 < length stack.layers) (path : PathNames) (name : PathName) (number : ℕ) (inside : number < length (top_layer stack)) (stands : path_at (top_layer stack) number ≡ child_path path name) where
  abbrev top : Entries
  top = top_layer stack

  is : IsLayer top
  is = top-layer stack some each

  -- where nothing is shown there
  hidden : IsBelow stack path None → false ≡ is_idle_at stack (child_path path name)
  hidden below =
      let found = entry-of_row top number is inside in
      sym (hidden-busy stack each some path name found.0 (row-inode top is number inside (child_path path name) stands top refl found.0 found.1) below)

  -- where a directory is
  module _ (sheet : Entries) (same : sheet ≡ top) (mark : Mark) (marked : option_map mark_of (entry_at sheet (path_at sheet number)) ≡ Some mark) (plain : may_be_idle mark ≡ true) (view : DirView) (below : IsBelow stack path (Some view)) (lower : Look) (looked : lower ≡ look (from_layer view.from stack) (child_path view.path name)) where
    row : (inode : Inode) × (entry_at top (child_path path name) ≡ Some inode) × (mark ≡ mark_of inode)
    row = row-mark top is number inside (child_path path name) stands sheet same mark marked

    idle : may_be_idle (mark_of row.0) ≡ true
    idle = ap may_be_idle (sym row.2) ∙ plain

    beside : (shown : Look) → shown ≡ look stack (child_path path name) → look_eq lower shown ≡ is_idle_at stack (child_path path name)
    beside shown is_shown =
        compared stack each some path name row.0 row.1 lower shown (looked ∙ (λ j. look (from_layer (below.1.starts j) stack) (child_path (below.1.stands j) name))) is_shown below.0 idle

    -- what has its own contents shows its own inode
    full : is_metacopy mark ≡ false → (inode : Inode) → entry_at sheet (path_at sheet number) ≡ Some inode → look_eq lower (Shown (visible inode)) ≡ is_idle_at stack (child_path path name)
    full own inode at =
        let one = sym (row-inode top is number inside (child_path path name) stands sheet same inode at) ∙ row.1 in
        let shown = shown-plain stack each some path name row.0 row.1 idle (ap is_metacopy (sym row.2) ∙ own) in
        ap (λ (o : Option Inode). look_eq lower (Shown (visible (unwrap_or o inode)))) one ∙ beside (Shown (visible row.0)) (sym shown)

pub returns-in_default-clause-idle : goal.returns-in_default-clause-idle
returns-in_default-clause-idle c =
    hidden c.args.self.now.stack.now c.top-sheet.ensures.each c.top-sheet.ensures.some c.args.self.now.piece.now.dir c.args.name.now c.args.row c.requires.inside c.requires.stands
    (subst (IsBelow c.args.self.now.stack.now c.args.self.now.piece.now.dir) c.in_default.is c.requires.visited.below)

pub returns-then-is_metacopy-clause-idle : goal.returns-then-is_metacopy-clause-idle
returns-then-is_metacopy-clause-idle c =
    let told = beside c.args.self.now.stack.now c.top-sheet.ensures.each c.top-sheet.ensures.some c.args.self.now.piece.now.dir c.args.name.now c.args.row c.requires.inside c.requires.stands c.top-sheet.result.now c.top-sheet.ensures.value c.mark-mark.result.now c.mark-mark.ensures
    (sym c.may_be_idle.ensures ∙ c.if-not-may_be_idle.false) c.in-Some.below (subst (IsBelow c.args.self.now.stack.now c.args.self.now.piece.now.dir) c.in-Some.is c.requires.visited.below) c.in_ok-lower.lower c.in_ok-lower.ensures
    (look c.args.self.now.stack.now (child_path c.args.self.now.piece.now.dir c.args.name.now)) refl in
    subst (λ (b : Bool). IfOk c.is_shown.result (λ idle. idle ≡ b)) told c.is_shown.ensures.same

pub returns-clause-idle : goal.returns-clause-idle
returns-clause-idle c =
    let told = full c.args.self.now.stack.now c.top-sheet.ensures.each c.top-sheet.ensures.some c.args.self.now.piece.now.dir c.args.name.now c.args.row c.requires.inside c.requires.stands c.top-sheet.result.now c.top-sheet.ensures.value c.mark-mark.result.now c.mark-mark.ensures
    (sym c.may_be_idle.ensures ∙ c.if-not-may_be_idle.false) c.in-Some.below (subst (IsBelow c.args.self.now.stack.now c.args.self.now.piece.now.dir) c.in-Some.is c.requires.visited.below) c.in_ok-lower.lower c.in_ok-lower.ensures
    (sym c.is_metacopy.ensures ∙ c.if-is_metacopy.false) c.inode.result.now c.inode.ensures in
    subst (λ (b : Bool). IfOk c.is_visible.result (λ idle. idle ≡ b)) told c.is_visible.ensures
