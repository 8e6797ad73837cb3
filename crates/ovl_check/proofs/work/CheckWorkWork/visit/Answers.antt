use Rattle.std.proofs.Common.{◌≡◌, ◌∙◌, sym, ap, map, List, ℕ, false, arith}
use Rattle.std.specs.Prelude.{filter}
use Rattle.ovl_layer.specs.Layers.{is_directory_at}
use Rattle.ovl_names.specs.Names.{PathName}
use Rattle.ovl_inode.specs.Marks.{is_directory}
use Rattle.ovl_board.specs.declared.pieces.Piece.{Piece}
use Rattle.ovl_board.specs.Pieces.{piece_in}
use Rattle.ovl_check.specs.declared.directories.Child.{Child}
use Rattle.ovl_lookup.specs.Stacks.{all_layers}
use Rattle.ovl_check.specs.Checks.{layer_at}
use Rattle.ovl_check.specs.CheckViews.{check_view}
use Rattle.ovl_check.specs.Facts.{child_seen, held_in}
use Rattle.ovl_check.proofs.HeldLemmas.{kids-children}
use Rattle.ovl_check.proofs.LayerFacts.{layer_at-is}
use Rattle.ovl_check.proofs.OutLemmas.{no-kids}
use Rattle.ovl_check.proofs.work.CheckWorkWork.visit.Goals as goal

pub returns-in_default-clause-kids : goal.returns-in_default-clause-kids
returns-in_default-clause-kids c =
    let stack = c.args.self.now.stack.now in
    let dir = c.args.piece.now.dir in
    let none : is_directory_at (layer_at stack c.from-i.result) dir ≡ false = rw c.in_default.is at c.in_ok-directory.ensures in
    c.new-in_default.ensures.items
    ∙ no-kids (check_view c.args.self.now) c.args.piece.now
    (layer_at-is (all_layers stack) c.layers.ensures.all c.args.piece.now.space (omega arith))
    (sym (ap (λ (n : ℕ). is_directory_at (layer_at stack n) dir) c.from-i.ensures) ∙ none)

pub returns-clause-kids : goal.returns-clause-kids
returns-clause-kids c =
    let stack = c.args.self.now.stack.now in
    let space = c.args.piece.now.space in
    let dir = c.args.piece.now.dir in
    let directory = c.in-Some.directory in
    let found = rw c.in-Some.is at c.in_ok-directory.ensures in
    let same : map child_seen directory.children.items ≡ held_in (layer_at stack space) dir =
    found.1.children ∙ (λ j. held_in (layer_at stack (c.from-i.ensures j)) (found.0 j)) in
    let kid : PathName → Piece = piece_in c.args.piece.now in
    c.in_ok-kids.ensures
    ∙ (ap (λ (children : List Child). map (λ child. kid child.name.now) (filter (λ child. is_directory child.inode.now) children)) c.deref.ensures.value
    ∙ kids-children (layer_at stack space) dir directory.children.items same kid)
