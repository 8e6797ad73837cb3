-- The output of a directory, by its parts.
use Rattle.std.proofs.Common.{◌≡◌, ℕ, Bool, true, false, cond, Option, Some, None, List, [], ◌++◌, map, refl, sym, ap, ◌∙◌}
use Rattle.std.specs.Prelude.{not, ◌||◌, ◌&&◌, filter}
use Rattle.std.specs.List.{flat_map}
use Rattle.ovl_names.specs.Names.{PathName}
use Rattle.ovl_names.specs.Paths.{PathNames, child_path}
use Rattle.ovl_layer.specs.Layers.{IsLayer, is_directory_at}
use Rattle.ovl_lookup.specs.Walk.{walk, mark_at}
use Rattle.ovl_lookup.specs.Sound.{is_moved}
use Rattle.ovl_board.specs.declared.pieces.Piece.{Piece}
use Rattle.ovl_board.specs.Pieces.{piece_in}
use Rattle.ovl_check.specs.declared.findings.Finding.{Finding}
use Rattle.ovl_check.specs.declared.directories.CheckedDirectory.{CheckedDirectory}
use Rattle.ovl_check.specs.Checks.{CheckView, is_ordinary, layer_at, check_kids, findings_at_path, directory_findings, check_out, no_seen}
use Rattle.ovl_check.specs.Facts.{IsGathered, child_seen, found_at_child}
use Rattle.ovl_check.proofs.HeldLemmas.{files-children, names_below-none}

module _ (work : CheckView) (piece : Piece) where
  pub seen-same : (found : List Finding) (next : PathNames) (closed : Bool) (place : Option PathNames) (moved : Bool)
      → is_directory_at (layer_at work.stack piece.space) piece.dir ≡ true
      → found ≡ directory_findings work piece.space piece.dir
      → next ≡ (walk (layer_at work.stack piece.space) piece.dir).next
      → closed ≡ (walk (layer_at work.stack piece.space) piece.dir).closed
      → place ≡ cond (not (is_ordinary work.stack piece.space) || closed) None (Some next)
      → moved ≡ (is_ordinary work.stack piece.space && is_moved (mark_at (layer_at work.stack piece.space) piece.dir))
      → record { findings = found; place = place; moved = moved } ≡ check_out work piece
  seen-same found next closed place moved is f n c p m =
      (λ j. record { findings = f j; place = (p ∙ (λ i. cond (not (is_ordinary work.stack piece.space) || c i) None (Some (n i)))) j; moved = m j })
      ∙ sym (ap (λ b. cond b (record {
        findings = directory_findings work piece.space piece.dir;
        place = cond (not (is_ordinary work.stack piece.space) || (walk (layer_at work.stack piece.space) piece.dir).closed) None (Some (walk (layer_at work.stack piece.space) piece.dir).next);
        moved = is_ordinary work.stack piece.space && is_moved (mark_at (layer_at work.stack piece.space) piece.dir);
      }) no_seen) is)

-- all that is found at a directory, and at what it holds
pub found-all : (work : CheckView) (i : ℕ) (directory : CheckedDirectory) (is : IsGathered (layer_at work.stack i) directory) (start own all : List Finding)
    → start ≡ [] → own ≡ start ++ findings_at_path work i directory.path.now
    → all ≡ own ++ flat_map (λ child. found_at_child work i directory.path.now (child_seen child)) directory.children.items
    → all ≡ directory_findings work i directory.path.now
found-all work i directory is start own all empty at_self at_children =
    at_children
    ∙ (ap (λ (found : List Finding). found ++ flat_map (λ child. found_at_child work i directory.path.now (child_seen child)) directory.children.items) (at_self ∙ ap (λ (found : List Finding). found ++ findings_at_path work i directory.path.now) empty)
    ∙ ap (λ (found : List Finding). findings_at_path work i directory.path.now ++ found)
    (files-children (layer_at work.stack i) directory.path.now directory.children.items is.children work i refl))

-- what is no directory has no kids
pub no-kids : (work : CheckView) (piece : Piece) → IsLayer (layer_at work.stack piece.space) → is_directory_at (layer_at work.stack piece.space) piece.dir ≡ false → [] ≡ check_kids work piece
no-kids work piece is none =
    sym (ap (λ (names : List PathName). map (piece_in piece) (filter (λ name. is_directory_at (layer_at work.stack piece.space) (child_path piece.dir name)) names))
    (names_below-none (layer_at work.stack piece.space) piece.dir is none))
